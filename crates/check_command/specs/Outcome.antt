-- What each answer of `check` says of the outside.
use Rattle.std.specs.Prelude.{◌≡◌, ◌++◌, ℕ, List, codes}
use Rattle.gas_model.specs.Rows.{Network}
use Rattle.gas_desk.specs.Outside.{Outside}
use Rattle.tree_verdicts.specs.Passing.{PassesIt}
use Rattle.command_core.specs.declared.status.NotFault.{NotFault}
use Rattle.command_core.specs.declared.status.Status.{Status}
use Rattle.command_core.specs.declared.status.Status.TheVariants as ends
use Rattle.command_core.specs.Gates.{stands, file_is, any_bytes, text_limit}
use Rattle.command_core.specs.Lines.{not_text}
use Rattle.command_core.specs.Meanings.{SaysLine}
use Rattle.problem_files.specs.Sources.{problem_is}
use Rattle.check_command.specs.Meaning.{IsNoRefutation}
use Rattle.check_command.specs.Words.{CheckWords}

-- the files stood for a problem and the text of a tree, of which this holds, and this line was said
pub record Checked (Holds : Network → List ℕ → Type 0) (line : List ℕ) (words : CheckWords) (before now : Outside) : Type 0 where
  pub problem : Network
  pub tree : List ℕ
  pub stands_for : problem_is words.origin before.files ≡ stands problem
  pub tree_is : file_is text_limit any_bytes (before.files words.tree) ≡ stands tree
  pub holds : Holds problem tree
  pub said : SaysLine line before now

-- the tree refutes the problem
abbrev pub FindsPassing : CheckWords → Outside → Outside → Type 0
FindsPassing words = Checked PassesIt (codes "passes") words

-- the text is no refutation of the problem, for this reason
abbrev pub FindsFault : NotFault → CheckWords → Outside → Outside → Type 0
FindsFault fault words = Checked (λ p text. IsNoRefutation p text fault) (codes "not refutation " ++ not_text fault) words

abbrev pub CheckSays : CheckWords → Outside → Outside → Status → Type 0
CheckSays words before now ends.Passes = FindsPassing words before now
CheckSays words before now (ends.NotRefutation fault) = FindsFault fault words before now
CheckSays words before now status = ⊥
