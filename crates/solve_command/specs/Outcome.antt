-- What each answer of `solve` says of the outside.
use Rattle.std.specs.Prelude.{◌≡◌, ◌++◌, ℕ, List, Some, true, codes, decimal}
use Rattle.gas_model.specs.Rows.{Network}
use Rattle.gas_desk.specs.Outside.{Outside}
use Rattle.tree_verdicts.specs.Passing.{PassesIt}
use Rattle.command_core.specs.declared.status.Status.{Status}
use Rattle.command_core.specs.declared.status.Status.TheVariants as ends
use Rattle.command_core.specs.declared.status.UndecidedBy.{UndecidedBy}
use Rattle.command_core.specs.Gates.{stands}
use Rattle.command_core.specs.Lines.{open_word}
use Rattle.command_core.specs.Meanings.{SaysLine}
use Rattle.problem_answer.specs.Found.{Carries, HaltsWith}
use Rattle.problem_files.specs.Sources.{problem_is}
use Rattle.solve_command.specs.Words.{SolveWords}

-- the files stood for a problem, OUT holds, finished, a text of this kind for it, and this line was said
pub record Writes (IsText : Network → List ℕ → Type 0) (line : List ℕ) (words : SolveWords) (before now : Outside) : Type 0 where
  pub problem : Network
  pub text : List ℕ
  pub stands_for : problem_is words.origin before.files ≡ stands problem
  pub is_text : IsText problem text
  pub holds : now.files words.out ≡ Some text
  pub finished : now.finished words.out ≡ true
  pub said : SaysLine line before now

-- OUT holds the text of one setting, which carries the problem within the tolerance
abbrev pub WritesSetting : SolveWords → Outside → Outside → Type 0
WritesSetting words = Writes (Carries words.tol) (codes "accepted") words

-- OUT holds the text of a tree that passes the checker, and nothing meets the problem
abbrev pub WritesRefutation : SolveWords → Outside → Outside → Type 0
WritesRefutation words = Writes PassesIt (codes "rejected") words

-- OUT holds the text with which the search halted for this reason, and the line names the open box by its line there
pub record WritesOpenTree (why : UndecidedBy) (words : SolveWords) (before now : Outside) : Type 0 where
  pub line : ℕ
  pub writes : Writes (λ p text. HaltsWith why words.tol words.boxes p text line) (codes "undecided " ++ open_word why ++ decimal line) words before now

abbrev pub SolveSays : SolveWords → Outside → Outside → Status → Type 0
SolveSays words before now ends.Accepted = WritesSetting words before now
SolveSays words before now ends.Rejected = WritesRefutation words before now
SolveSays words before now (ends.Undecided why) = WritesOpenTree why words before now
SolveSays words before now status = ⊥
