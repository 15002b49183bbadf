-- What the answer of `flat` says of the outside.
use Rattle.std.specs.Prelude.{◌≡◌, Some, true, codes}
use Rattle.gas_model.specs.Rows.{Network}
use Rattle.gas_desk.specs.Outside.{Outside}
use Rattle.flat_text.specs.Spelling.{flat_text}
use Rattle.command_core.specs.declared.status.Status.{Status}
use Rattle.command_core.specs.declared.status.Status.TheVariants as ends
use Rattle.command_core.specs.Gates.{stands}
use Rattle.command_core.specs.Meanings.{SaysLine}
use Rattle.problem_files.specs.Sources.{problem_is}
use Rattle.flatten_command.specs.Words.{FlattenWords}

-- the files stood for a problem, and OUT holds its flat text, finished
pub record WritesText (words : FlattenWords) (before now : Outside) : Type 0 where
  pub problem : Network
  pub stands_for : problem_is words.origin before.files ≡ stands problem
  pub holds : now.files words.out ≡ Some (flat_text problem)
  pub finished : now.finished words.out ≡ true
  pub said : SaysLine (codes "written") before now

abbrev pub FlattenSays : FlattenWords → Outside → Outside → Status → Type 0
FlattenSays words before now ends.Written = WritesText words before now
FlattenSays words before now status = ⊥
