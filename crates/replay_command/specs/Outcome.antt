-- What each answer of `replay` says of the outside.
use Rattle.std.specs.Prelude.{◌≡◌, ◌++◌, ℕ, pos, List, codes}
use Rattle.gas_model.specs.declared.rows.Setting.{Setting}
use Rattle.gas_model.specs.Rows.{Network}
use Rattle.gas_model.specs.Near.{IsNear}
use Rattle.gas_desk.specs.Outside.{Outside}
use Rattle.element_laws.specs.declared.broken.Broken.{Broken}
use Rattle.command_core.specs.declared.status.Status.{Status}
use Rattle.command_core.specs.declared.status.Status.TheVariants as ends
use Rattle.command_core.specs.Gates.{stands}
use Rattle.command_core.specs.Lines.{law_word}
use Rattle.command_core.specs.Meanings.{SaysLine}
use Rattle.problem_files.specs.Sources.{problem_is}
use Rattle.replay_command.specs.BrokenIds.{id_of}
use Rattle.replay_command.specs.Meaning.{BreaksFirst, setting_is}
use Rattle.replay_command.specs.Words.{ReplayWords}

-- the files stood for a setting of a problem, of which this holds, and this line was said
pub record Replayed (Holds : Network → Setting → Type 0) (line : Network → List ℕ) (words : ReplayWords) (before now : Outside) : Type 0 where
  pub problem : Network
  pub setting : Setting
  pub stands_for : problem_is words.origin before.files ≡ stands problem
  pub setting_stands : setting_is words.origin words.setting before.files ≡ stands setting
  pub holds : Holds problem setting
  pub said : SaysLine (line problem) before now

-- the setting carries the problem within the tolerance
abbrev pub FindsKept : ReplayWords → Outside → Outside → Type 0
FindsKept words = Replayed (λ p s. IsNear p (pos words.tol) s) (λ p. codes "kept") words

-- it doesn't: it breaks this law first, and the line has the id of that law's arc or node
abbrev pub FindsBroken : Broken → ReplayWords → Outside → Outside → Type 0
FindsBroken law words = Replayed (BreaksFirst law words.tol) (λ p. codes "broken " ++ law_word law ++ id_of p law) words

abbrev pub ReplaySays : ReplayWords → Outside → Outside → Status → Type 0
ReplaySays words before now ends.Kept = FindsKept words before now
ReplaySays words before now (ends.Broken law) = FindsBroken law words before now
ReplaySays words before now status = ⊥
