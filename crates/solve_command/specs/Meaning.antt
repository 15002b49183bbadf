-- What `solve` means: OUT holds a setting that carries the problem, or a refutation tree, or one with open boxes.
use Rattle.std.specs.Prelude.{◌≡◌, ℕ, List, ◌∷◌, []}
use Rattle.gas_model.specs.Rows.{Network}
use Rattle.tree_verdicts.specs.Passing.{PassesIt}
use Rattle.command_core.specs.declared.status.Status.{Status}
use Rattle.command_core.specs.declared.status.Status.TheVariants as ends
use Rattle.command_core.specs.Gates.{Files, stands}
use Rattle.command_core.specs.Saying.{WritesOne, WritesCounted}
use Rattle.command_core.specs.Meanings.{Meaning, Texts}
use Rattle.problem_answer.specs.Found.{Carries, HaltsWith}
use Rattle.problem_files.specs.Sources.{problem_is, problem_gates}
use Rattle.solve_command.specs.Words.{SolveWords}

-- what a status says of the problem, of the text of OUT and of the number in the line
abbrev pub solve_says : (tol boxes : ℕ) → Network → Status → List ℕ → Texts → Type 0
solve_says tol boxes p ends.Accepted note texts = WritesOne (Carries tol p) note texts
solve_says tol boxes p ends.Rejected note texts = WritesOne (PassesIt p) note texts
solve_says tol boxes p (ends.Undecided why) note texts = WritesCounted (HaltsWith why tol boxes p) note texts
solve_says tol boxes p status note texts = ⊥

pub record Solves (words : SolveWords) (files : Files) (status : Status) (note : List ℕ) (texts : Texts) : Type 0 where
  pub problem : Network
  pub stands_for : problem_is words.origin files ≡ stands problem
  pub says : solve_says words.tol words.boxes problem status note texts

-- A problem may have a near setting and a refutation both, and be left undecided by less: which of the three comes is not
-- said.
abbrev pub SolveIsDue : Files → Status → Type 0
SolveIsDue files status = ⊥

abbrev pub solve_may : Status → Type 0
solve_may ends.Accepted = Unit {0}
solve_may ends.Rejected = Unit {0}
solve_may (ends.Undecided why) = Unit {0}
solve_may status = ⊥

abbrev pub solve_meaning : SolveWords → Meaning
solve_meaning words = record {
  gates = problem_gates words.origin;
  outs = words.out ∷ [];
  may = solve_may;
  answers = Solves words;
  due = SolveIsDue;
}
