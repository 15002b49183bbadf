-- Where words leave a table of commands.
use Rattle.std.proofs.Common.{◌≡◌, ◌∙◌, sym, ap, subst, refl, ℕ, Bool, true, false, cond, List, [], ◌∷◌, ◌++◌, ◌⊎◌, inl, inr, arith, append_assoc}
use Rattle.std.specs.Prelude.{Result, Ok, Err}
use Rattle.std.specs.Str.{bytes_eq}
use Rattle.std.proofs.lemmas.Slice.Eq.{bytes_eq-Decides}
use Rattle.command_words.specs.Forms.{read_form}
use Rattle.command_words.specs.Tables.{IsPlace, Row, asked_in, plain_in}
use Rattle.command_words.specs.Words.{Words, ◌>>=◌}
use Rattle.command_words.proofs.WrongWords.{IsStop, Stops, err, first_stop, later_stop, wrong_first}
use Rattle.command_words.proofs.WrongForms.{form_stops}

-- by a name, or by none
choice : {X : Type 0} (b : Bool) (f g : Words → Result X ℕ) → Stops 1 f → Stops 1 g ⊎ ((ws : Words) → g ws ≡ Err 0) → Stops 1 (λ ws. cond b (f ws) (g ws)) ⊎ ((ws : Words) → cond b (f ws) (g ws) ≡ Err 0)
choice true f g s others = inl s
choice false f g s others = others

named_stops : {Command : Type 0} (rows : List (Row Command)) (name : List ℕ) → Stops 1 (asked_in rows name) ⊎ ((ws : Words) → asked_in rows name ws ≡ Err 0)
named_stops [] name = inr (λ ws. refl)
named_stops (row ∷ rows) name =
    choice (bytes_eq name row.name) (λ ws. read_form row.form ws >>= λ filled. Ok (row.asks filled)) (asked_in rows name) (form_stops row.form row.asks) (named_stops rows name)

-- the first row's command
module _ {Command : Type 0} (row : Row Command) (rows : List (Row Command)) where
  abbrev all : List (Row Command)
  all = row ∷ rows

  abbrev asked : Words → Result Command ℕ
  asked ws = read_form row.form ws >>= λ filled. Ok (row.asks filled)

  some_words : Stops 1 asked
  some_words = form_stops row.form row.asks

  some_plain : plain_in all (row.name ∷ some_words.words) ≡ Ok some_words.read
  some_plain = ap (λ b. cond b (asked some_words.words) (asked_in rows row.name some_words.words)) ((bytes_eq-Decides row.name row.name).1 refl) ∙ some_words.reads

  plain_stop : (words : Words) (at : ℕ) → plain_in all words ≡ Err at → IsStop 0 (plain_in all) words at
  plain_stop [] at e = first_stop 0 (plain_in all) [] at (row.name ∷ some_words.words) some_words.read (wrong_first 0 at e) some_plain (λ word later tail x is h. cc)
  plain_stop (name ∷ ws) at e = by (named_stops all name)
    where
      by : Stops 1 (asked_in all name) ⊎ ((ws : Words) → asked_in all name ws ≡ Err 0) → IsStop 0 (plain_in all) (name ∷ ws) at
      by (inl s) = later_stop 0 (plain_in all) (asked_in all name) name ws at (λ tail. refl) (s.stop ws at e)
      by (inr none) = first_stop 0 (plain_in all) (name ∷ ws) at (row.name ∷ some_words.words) some_words.read (wrong_first 0 at (sym (none ws) ∙ e)) some_plain
          (λ w later tail x is h. let same : name ≡ w = cc in let bad : Err 0 ≡ Ok x = sym (none tail) ∙ subst (λ y. plain_in all (y ∷ tail) ≡ Ok x) (sym same) h in cc)

  -- other words are named by their place
  pub place_of : (words : Words) (at : ℕ) → plain_in all words ≡ Err at → IsPlace (plain_in all) at words
  place_of words at e =
      let s = plain_stop words at e in
      record {
        front = s.front;
        rest = s.rest;
        parts = s.parts;
        before = (let p = s.place in omega (arith, p));
        begins = record { more = s.more; command = s.read; is_plain = s.begins };
        no_later = λ word later is b. s.no_later word later b.more b.command is (subst (λ x. plain_in all x ≡ Ok b.command) (append_assoc s.front (word ∷ []) b.more) b.is_plain);
        not_plain = λ c h. cc;
      }
