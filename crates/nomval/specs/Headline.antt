-- What the answers of the program say of the outside, spelled out.
use Rattle.std.specs.Prelude.{◌≡◌, ℕ, pos, List, Some, Ok, true, codes}
use Rattle.gas_model.specs.declared.rows.Setting.{Setting}
use Rattle.gas_model.specs.Rows.{Network}
use Rattle.gas_model.specs.Near.{IsNear, SettingFits}
use Rattle.gas_model.specs.Points.{IsInfeasible}
use Rattle.gas_desk.specs.Outside.{Outside}
use Rattle.setting_text.specs.Writing.{setting_text}
use Rattle.tree_cert.specs.Texts.{PassesWholeText}
use Rattle.tree_rules.specs.Branches.{rules_of}
use Rattle.element_laws.specs.declared.broken.Broken.{Broken}
use Rattle.command_core.specs.declared.status.NotFault.{NotFault}
use Rattle.command_core.specs.declared.status.UndecidedBy.{UndecidedBy}
use Rattle.command_core.specs.Gates.{stands, file_is, any_bytes, text_limit}
use Rattle.command_core.specs.Meanings.{SaysLine}
use Rattle.command_words.specs.Words.{Words}
use Rattle.problem_files.specs.Sources.{problem_is}
use Rattle.solve_command.specs.Outcome.{WritesOpenTree}
use Rattle.solve_command.specs.Words.{SolveWords}
use Rattle.replay_command.specs.Meaning.{setting_is}
use Rattle.replay_command.specs.Outcome.{FindsBroken}
use Rattle.replay_command.specs.Words.{ReplayWords}
use Rattle.check_command.specs.Outcome.{FindsFault}
use Rattle.check_command.specs.Words.{CheckWords}
use Rattle.flatten_command.specs.Outcome.{WritesText}
use Rattle.flatten_command.specs.Words.{FlattenWords}
use Rattle.make_command.specs.Outcome as made
use Rattle.make_command.specs.Words.{MakeWords}
use Rattle.nomval.specs.Commands.{solve, replay, check, flatten, make, plain}

-- the words ask to solve a problem, and OUT holds, finished, the text of one setting, which carries it within the tolerance
pub record HasCarried (words : Words) (before now : Outside) : Type 0 where
  pub asked : SolveWords
  pub problem : Network
  pub setting : Setting
  pub is_plain : plain words ≡ Ok (solve asked)
  pub stands_for : problem_is asked.origin before.files ≡ stands problem
  pub near : IsNear problem (pos asked.tol) setting
  pub fits : SettingFits problem setting
  pub holds : now.files asked.out ≡ Some (setting_text problem setting)
  pub finished : now.finished asked.out ≡ true
  pub said : SaysLine (codes "accepted") before now

-- the words ask to solve a problem, OUT holds, finished, the text of a tree that passes the checker, and nothing meets it
pub record HasRefuted (words : Words) (before now : Outside) : Type 0 where
  pub asked : SolveWords
  pub problem : Network
  pub tree : List ℕ
  pub is_plain : plain words ≡ Ok (solve asked)
  pub stands_for : problem_is asked.origin before.files ≡ stands problem
  pub passes : PassesWholeText (rules_of problem) tree
  pub infeasible : IsInfeasible problem
  pub holds : now.files asked.out ≡ Some tree
  pub finished : now.finished asked.out ≡ true
  pub said : SaysLine (codes "rejected") before now

-- the words ask to solve a problem, and OUT holds the text with which its search halted for this reason
pub record LeavesOpen (why : UndecidedBy) (words : Words) (before now : Outside) : Type 0 where
  pub asked : SolveWords
  pub is_plain : plain words ≡ Ok (solve asked)
  pub writes : WritesOpenTree why asked before now

-- the words ask for the flat text of a problem, and OUT holds it, finished
pub record HasWritten (words : Words) (before now : Outside) : Type 0 where
  pub asked : FlattenWords
  pub is_plain : plain words ≡ Ok (flatten asked)
  pub writes : WritesText asked before now

-- the words ask to make the problem of a number, OUT holds its flat text, finished, and the line says what is found for it
pub record HasMade (words : Words) (before now : Outside) : Type 0 where
  pub asked : MakeWords
  pub is_plain : plain words ≡ Ok (make asked)
  pub writes : made.WritesText asked before now

-- the words ask to replay a setting of a problem, which carries it within the tolerance
pub record IsKept (words : Words) (before now : Outside) : Type 0 where
  pub asked : ReplayWords
  pub problem : Network
  pub setting : Setting
  pub is_plain : plain words ≡ Ok (replay asked)
  pub stands_for : problem_is asked.origin before.files ≡ stands problem
  pub setting_stands : setting_is asked.origin asked.setting before.files ≡ stands setting
  pub near : IsNear problem (pos asked.tol) setting
  pub said : SaysLine (codes "kept") before now

-- the words ask to replay a setting, which breaks this law first
pub record IsBroken (law : Broken) (words : Words) (before now : Outside) : Type 0 where
  pub asked : ReplayWords
  pub is_plain : plain words ≡ Ok (replay asked)
  pub finds : FindsBroken law asked before now

-- the words ask to check a tree for a problem, which passes and leaves no box open, and nothing meets the problem
pub record HasPassed (words : Words) (before now : Outside) : Type 0 where
  pub asked : CheckWords
  pub problem : Network
  pub tree : List ℕ
  pub is_plain : plain words ≡ Ok (check asked)
  pub stands_for : problem_is asked.origin before.files ≡ stands problem
  pub tree_is : file_is text_limit any_bytes (before.files asked.tree) ≡ stands tree
  pub passes : PassesWholeText (rules_of problem) tree
  pub infeasible : IsInfeasible problem
  pub said : SaysLine (codes "passes") before now

-- the words ask to check a text, which is no refutation, for this reason
pub record HasNotPassed (fault : NotFault) (words : Words) (before now : Outside) : Type 0 where
  pub asked : CheckWords
  pub is_plain : plain words ≡ Ok (check asked)
  pub finds : FindsFault fault asked before now
