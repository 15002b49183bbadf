-- That a command does what it means, by what kind of answer it gives.
use Rattle.std.proofs.Common.{◌≡◌, ◌∙◌, sym, ap, subst, refl, ℕ, List, [], ◌∷◌, length}
use Rattle.std.specs.Prelude.{Some}
use Rattle.command_core.specs.declared.command.Done.{Done}
use Rattle.command_core.specs.declared.status.Status.{Status}
use Rattle.command_core.specs.declared.status.Status.TheVariants as ends
use Rattle.command_core.specs.Gates.{Files, Gate}
use Rattle.command_core.specs.Meanings.{Meaning, Does, Texts, has_text}
use Rattle.command_core.specs.Stops.{Answers, HoldsNoWant, MakesNone, Makes, kind_of, makes_file, only_tells}
use Rattle.command_core.specs.Written.{written_meaning, written_says}

module _ (tells : Type 0) (m : Meaning) (files : Files) (done : Done) (own : m.may done.status) (held : HoldsNoWant done.status)
    (answers : tells → m.answers files done.status done.note done.texts) (due : tells → (s : Status) → m.due files s → done.status ≡ s) where
  -- its one OUT is made
  pub makes_one : (out text : List ℕ) → kind_of done.status ≡ makes_file → m.outs ≡ out ∷ [] → done.texts ≡ Some text ∷ [] → Does tells m files done
  makes_one out text kind outs one = record {
    is_answer = subst Answers (sym kind) tt;
    may = own;
    held = held;
    made = λ h. ap has_text one;
    unmade = λ h. absurd (let x : MakesNone makes_file = subst MakesNone kind h in x);
    answers = answers;
    due = due;
    fits = ap length outs ∙ sym (ap length one);
  }

  -- there is no OUT
  pub makes_none : kind_of done.status ≡ only_tells → m.outs ≡ [] → done.texts ≡ [] → Does tells m files done
  makes_none kind outs none = record {
    is_answer = subst Answers (sym kind) tt;
    may = own;
    held = held;
    made = λ h. absurd (let x : Makes only_tells = subst Makes kind h in x);
    unmade = λ h. ap has_text none;
    answers = answers;
    due = due;
    fits = ap length outs ∙ sym (ap length none);
  }

-- a command whose one answer is that its OUT was written
module _ (Holds : List ℕ → Texts → Type 0) (one : (note : List ℕ) (texts : Texts) → Holds note texts → (text : List ℕ) × (texts ≡ Some text ∷ []))
    (tells : Type 0) (gates : List Gate) (out : List ℕ) (answers : Files → Status → List ℕ → Texts → Type 0) (files : Files) (done : Done) where
  abbrev meaning : Meaning
  meaning = written_meaning gates out answers

  pub writes_does : written_says Holds done.status done.note done.texts → (tells → answers files done.status done.note done.texts) → Does tells meaning files done
  writes_does says answered = by done.status refl says
    where
      by : (s : Status) → done.status ≡ s → written_says Holds s done.note done.texts → Does tells meaning files done
      by ends.Written e h =
          let text = one done.note done.texts h in
          makes_one tells meaning files done (subst meaning.may (sym e) tt) (subst HoldsNoWant (sym e) tt) answered (λ t s due. e ∙ sym due) out text.0 (ap kind_of e) refl text.1
      by s e h = absurd h
