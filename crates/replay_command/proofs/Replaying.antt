-- What `replay` finds means what it is to mean.
use Rattle.std.proofs.Common.{◌≡◌, ◌∙◌, ◌&&◌, Bool, sym, ap, subst, refl, ℕ, List, [], ◌∷◌, ◌++◌, pos}
use Rattle.std.specs.Prelude.{true, false, Option, None, Some, Result, Ok, Err, IfOk}
use Rattle.std.specs.List.{list_all}
use Rattle.gas_model.specs.declared.rows.Setting.{Setting}
use Rattle.base_types.specs.declared.collections.NoMemory.{NoMemory}
use Rattle.gas_model.specs.Near.{IsNear}
use Rattle.gas_model.specs.Rows.{Network}
use Rattle.gas_desk.specs.Outside.{Outside, SameFiles}
use Rattle.element_laws.specs.declared.broken.Broken.{Broken}
use Rattle.element_laws.specs.FirstBroken.{IsFirstBroken, IsFirstRefused}
use Rattle.command_core.specs.declared.command.Done.{Done}
use Rattle.command_core.specs.declared.status.Status.{Status}
use Rattle.command_core.specs.declared.status.Status.TheVariants as ends
use Rattle.command_core.specs.declared.status.InputFile.TheVariants.{SettingFile}
use Rattle.command_core.specs.declared.status.Stop.{Stop}
use Rattle.command_core.specs.Gates.{Files, Reads, file_is, gate_of, standing, stands, text_limit}
use Rattle.command_core.specs.Meanings.{Does, Texts}
use Rattle.command_core.specs.Stops.{HoldsNoWant, kind_of}
use Rattle.command_core.proofs.Doing.{makes_none}
use Rattle.command_core.proofs.Parsing.{gate_alike}
use Rattle.command_core.proofs.Walks.{reads_then, same_files}
use Rattle.problem_files.specs.Sources.{Origin, problem_gates, problem_is}
use Rattle.replay_command.specs.BrokenIds.{id_of}
use Rattle.replay_command.specs.Meaning.{ReplayIsDue, replay_may, replay_meaning, replay_says, setting_among, setting_for, setting_gate, setting_is}
use Rattle.replay_command.specs.Words.{ReplayWords}

passed_first : (test : Broken → Bool) (x : Broken) (xs : List Broken) → list_all test (x ∷ xs) ≡ true → (test x ≡ true) × (list_all test xs ≡ true)
passed_first test x xs e = by (test x) refl e
  where
    by : (b : Bool) → test x ≡ b → (b && list_all test xs) ≡ true → (test x ≡ true) × (list_all test xs ≡ true)
    by true t h = (t, h)
    by false t h = absurd cc

-- one law alone is refused first
first_alone : (test : Broken → Bool) (xs ys : List Broken) (a b : Broken) (later last : List Broken) → xs ++ a ∷ later ≡ ys ++ b ∷ last
    → list_all test xs ≡ true → list_all test ys ≡ true → test a ≡ false → test b ≡ false → a ≡ b
first_alone test [] [] a b later last e p q s t = cc
first_alone test [] (y ∷ ys) a b later last e p q s t = absurd (let same : a ≡ y = cc in let h = (passed_first test y ys q).0 in let g : test y ≡ false = subst (λ z. test z ≡ false) same s in cc)
first_alone test (x ∷ xs) [] a b later last e p q s t = absurd (let same : b ≡ x = cc in let h = (passed_first test x xs p).0 in let g : test x ≡ false = subst (λ z. test z ≡ false) same t in cc)
first_alone test (x ∷ xs) (y ∷ ys) a b later last e p q s t =
    first_alone test xs ys a b later last (cc) (passed_first test x xs p).1 (passed_first test y ys q).1 s t

one_refused : (test : Broken → Bool) (laws : List Broken) (a b : Broken) → IsFirstRefused test laws a → IsFirstRefused test laws b → a ≡ b
one_refused test laws a b h i = first_alone test h.earlier i.earlier a b h.later i.later (sym h.order ∙ i.order) h.kept i.kept h.broken i.broken

-- a law is broken first
pub broken_says : (tol : ℕ) (p : Network) (setting : Setting) (law : Broken) (found : Result Done NoMemory) → IsFirstBroken p (pos tol) setting law → (IsNear p (pos tol) setting → ⊥)
    → IfOk found (λ done. done.status ≡ ends.Broken law) → IfOk found (λ done. done.note ≡ id_of p law) → IfOk found (λ done. done.texts ≡ [])
    → IfOk found (λ done. replay_says tol p setting done.status done.note done.texts)
broken_says tol p setting law (Err e) first not_near status note texts = tt
broken_says tol p setting law (Ok done) first not_near status note texts =
    subst (λ s. replay_says tol p setting s done.note done.texts) (sym status)
    (record { holds = record { first = first; not_near = not_near }; noted = note; no_out = texts })

module _ (tol : ℕ) (p : Network) (setting : Setting) where
  -- one status alone is true of a setting
  alone : (s z : Status) (note beside : List ℕ) (texts others : Texts) → replay_says tol p setting s note texts → replay_says tol p setting z beside others → s ≡ z
  alone ends.Kept ends.Kept note beside texts others a b = refl
  alone ends.Kept (ends.Broken law) note beside texts others a b = absurd (b.holds.not_near a.holds)
  alone ends.Kept z note beside texts others a b = absurd b
  alone (ends.Broken law) ends.Kept note beside texts others a b = absurd (a.holds.not_near b.holds)
  alone (ends.Broken law) (ends.Broken other) note beside texts others a b = ap ends.Broken (one_refused _ _ law other a.holds.first b.holds.first)
  alone (ends.Broken law) z note beside texts others a b = absurd b
  alone s z note beside texts others a b = absurd a

due : (words : ReplayWords) (files : Files) (p : Network) (setting : Setting) (done : Done) (s : Status)
    → problem_is words.origin files ≡ stands p → setting_is words.origin words.setting files ≡ stands setting
    → replay_says words.tol p setting done.status done.note done.texts → ReplayIsDue words files s → done.status ≡ s
due words files p setting done s is setting_stands says d =
    let other : problem_is words.origin files ≡ stands d.replays.problem = d.replays.stands_for in
    let another : setting_is words.origin words.setting files ≡ stands d.replays.setting = d.replays.setting_stands in
    let same : d.replays.problem ≡ p = cc in
    let equal : d.replays.setting ≡ setting = cc in
    alone words.tol p setting done.status s done.note d.note done.texts d.texts says
    (subst (λ x. replay_says words.tol p x s d.note d.texts) equal (subst (λ q. replay_says words.tol q d.replays.setting s d.note d.texts) same d.replays.says))

module _ (tells : Type 0) (words : ReplayWords) (files : Files) (p : Network) (setting : Setting) (done : Done)
    (is : tells → problem_is words.origin files ≡ stands p) (setting_stands : tells → setting_is words.origin words.setting files ≡ stands setting)
    (says : replay_says words.tol p setting done.status done.note done.texts) where
  by : (s : Status) → done.status ≡ s → replay_says words.tol p setting s done.note done.texts → Does tells (replay_meaning words) files done
  by ends.Kept e h =
      makes_none tells (replay_meaning words) files done (subst replay_may (sym e) tt) (subst HoldsNoWant (sym e) tt)
      (λ t. record { problem = p; setting = setting; stands_for = is t; setting_stands = setting_stands t; says = says }) (λ t s d. due words files p setting done s (is t) (setting_stands t) says d)
      (ap kind_of e) refl h.no_out
  by (ends.Broken law) e h =
      makes_none tells (replay_meaning words) files done (subst replay_may (sym e) tt) (subst HoldsNoWant (sym e) tt)
      (λ t. record { problem = p; setting = setting; stands_for = is t; setting_stands = setting_stands t; says = says }) (λ t s d. due words files p setting done s (is t) (setting_stands t) says d)
      (ap kind_of e) refl h.no_out
  by s e h = absurd h

  pub replays_does : Does tells (replay_meaning words) files done
  replays_does = by done.status refl says

-- the setting's file, where the problem's files stand for this problem
setting_here : (origin : Origin) (name : List ℕ) (p : Network) (files : Files) → problem_is origin files ≡ stands p → file_is text_limit (setting_for p) (files name) ≡ setting_is origin name files
setting_here origin name p files e = sym (ap (λ x. setting_among x (files name)) e)

pub setting_before : (origin : Origin) (name : List ℕ) (p : Network) (s : Setting) (before mid : Outside) → SameFiles before mid → problem_is origin before.files ≡ stands p
    → file_is text_limit (setting_for p) (mid.files name) ≡ stands s → setting_is origin name before.files ≡ stands s
setting_before origin name p s before mid same e h = sym (setting_here origin name p before.files e) ∙ ap (file_is text_limit (setting_for p)) (sym (same name)) ∙ h

-- the problem was read, and then the setting's file
pub setting_reads : (tells exact : Type 0) (origin : Origin) (name : List ℕ) (p : Network) (before mid now : Outside) (stopped : Option Stop)
    → Reads tells exact (problem_gates origin) before mid None → (tells → problem_is origin before.files ≡ stands p)
    → Reads tells exact (gate_of SettingFile text_limit (setting_for p) name ∷ []) mid now stopped
    → Reads tells exact (problem_gates origin ++ setting_gate origin name ∷ []) before now stopped
setting_reads tells exact origin name p before mid now stopped r is s =
    reads_then tells exact (problem_gates origin) (setting_gate origin name ∷ []) before mid now stopped r
    (gate_alike tells exact SettingFile (Some name) (λ files. standing (file_is text_limit (setting_for p) (files name))) (λ files. standing (setting_is origin name files)) mid now stopped
    (λ t. ap standing (setting_here origin name p mid.files (ap (problem_is origin) (sym (same_files before mid (r.files t))) ∙ is t))) s)
