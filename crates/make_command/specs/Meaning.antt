-- What `make` means: OUT holds the flat text of the problem of a number, and the line says what is found for it.
use Rattle.std.specs.Prelude.{◌≡◌, ℕ, List, [], ◌∷◌, ◌++◌, length, Some, Ok, codes}
use Rattle.line_text.specs.Numerals.{numeral}
use Rattle.gas_model.specs.Rows.{Network, problem_of}
use Rattle.flat_text.specs.Spelling.{flat_text}
use Rattle.make_net.specs.Made.{made_rows}
use Rattle.command_core.specs.declared.status.Status.{Status}
use Rattle.command_core.specs.Gates.{Files}
use Rattle.command_core.specs.Meanings.{Meaning, Texts}
use Rattle.command_core.specs.Written.{written_meaning, written_says}
use Rattle.command_words.specs.Budgets.{default_budget}
use Rattle.command_words.specs.Tolerances.{default_tolerance}
use Rattle.problem_answer.specs.declared.finding.Answer.{Answer}
use Rattle.problem_answer.specs.declared.finding.Answer.TheVariants.{Carried, Refuted, Left}
use Rattle.problem_answer.specs.Found.{IsFound}
use Rattle.make_command.specs.Words.{MakeWords}

-- the problem is the made one of so many nodes
abbrev pub IsMadeOf : ℕ → Network → Type 0
IsMadeOf count p = problem_of (made_rows count) ≡ Ok p

abbrev pub found_word : Answer → List ℕ
found_word (Carried text) = codes "accepted"
found_word (Refuted text) = codes "rejected"
found_word (Left why text line) = codes "undecided"

-- the line: how many nodes and arcs the problem has, and what was found for it
abbrev pub made_line : ℕ → Network → Answer → List ℕ
made_line count p answer = codes "made nodes " ++ numeral count ++ codes " arcs " ++ numeral (length p.arcs) ++ codes " " ++ found_word answer

-- the one OUT is to hold the one text of the problem, and the line names something that is found for it with the tolerance
-- and the number of boxes that stand where nothing is said
pub record WritesMade (count : ℕ) (p : Network) (note : List ℕ) (texts : Texts) : Type 0 where
  pub answer : Answer
  pub found : IsFound default_tolerance default_budget p answer
  pub noted : note ≡ made_line count p answer
  pub one : texts ≡ Some (flat_text p) ∷ []

abbrev pub make_says : ℕ → Network → Status → List ℕ → Texts → Type 0
make_says count p = written_says (WritesMade count p)

-- no file is read
pub record Makes (words : MakeWords) (files : Files) (status : Status) (note : List ℕ) (texts : Texts) : Type 0 where
  pub problem : Network
  pub is_made : IsMadeOf words.count problem
  pub says : make_says words.count problem status note texts

abbrev pub make_meaning : MakeWords → Meaning
make_meaning words = written_meaning [] words.out (Makes words)
