-- What `check` means: whether a tree refutes a problem.
use Rattle.std.specs.Prelude.{◌≡◌, ℕ, List, [], ◌∷◌, ◌++◌, Err}
use Rattle.gas_model.specs.Rows.{Network}
use Rattle.tree_cert.specs.Texts.{PassesPartText}
use Rattle.tree_rules.specs.Branches.{rules_of}
use Rattle.tree_cert.specs.declared.fault.TreeFault.TheVariants as tree_fault
use Rattle.tree_check.specs.Verdicts.{Answers}
use Rattle.tree_verdicts.specs.Passing.{PassesIt}
use Rattle.command_core.specs.declared.status.InputFile.TheVariants.{TreeFile}
use Rattle.command_core.specs.declared.status.NotFault.{NotFault}
use Rattle.command_core.specs.declared.status.NotFault.TheVariants.{Tree, Left}
use Rattle.command_core.specs.declared.status.Status.{Status}
use Rattle.command_core.specs.declared.status.Status.TheVariants as ends
use Rattle.command_core.specs.Gates.{Files, stands, file_is, gate_of, any_bytes, text_limit}
use Rattle.command_core.specs.Saying.{SaysOnly}
use Rattle.command_core.specs.Meanings.{Meaning, Texts}
use Rattle.problem_files.specs.Sources.{problem_is, problem_gates}
use Rattle.check_command.specs.Words.{CheckWords}

-- why a text is no refutation of a problem: it passes, but its first open box ends at this line, or this line is its first at fault
abbrev pub IsNoRefutation : Network → List ℕ → NotFault → Type 0
IsNoRefutation p text (Left line) = PassesPartText (rules_of p) text line
IsNoRefutation p text (Tree tree_fault.NoMemory) = ⊥
IsNoRefutation p text (Tree e) = Answers p text (Err e)

-- what a status says of the problem and the tree
abbrev pub IsVerdict : Network → List ℕ → Status → Type 0
IsVerdict p text ends.Passes = PassesIt p text
IsVerdict p text (ends.NotRefutation fault) = IsNoRefutation p text fault
IsVerdict p text status = ⊥

-- likewise, with no more than that in the line, and without an OUT
abbrev pub check_says : Network → List ℕ → Status → List ℕ → Texts → Type 0
check_says p text status note texts = SaysOnly (IsVerdict p text status) [] note texts

pub record Checks (words : CheckWords) (files : Files) (status : Status) (note : List ℕ) (texts : Texts) : Type 0 where
  pub problem : Network
  pub tree : List ℕ
  pub stands_for : problem_is words.origin files ≡ stands problem
  pub tree_is : file_is text_limit any_bytes (files words.tree) ≡ stands tree
  pub says : check_says problem tree status note texts

-- the status that is true of the problem and the tree
pub record CheckIsDue (words : CheckWords) (files : Files) (status : Status) : Type 0 where
  pub note : List ℕ
  pub texts : Texts
  pub checks : Checks words files status note texts

abbrev pub check_may : Status → Type 0
check_may ends.Passes = Unit {0}
check_may (ends.NotRefutation fault) = Unit {0}
check_may status = ⊥

-- a tree's file may hold any bytes
abbrev pub check_meaning : CheckWords → Meaning
check_meaning words = record {
  gates = problem_gates words.origin ++ gate_of TreeFile text_limit any_bytes words.tree ∷ [];
  outs = [];
  may = check_may;
  answers = Checks words;
  due = CheckIsDue words;
}
