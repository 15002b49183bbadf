-- What the answer of `make` says of the outside.
use Rattle.std.specs.Prelude.{◌≡◌, Some, true}
use Rattle.gas_model.specs.Rows.{Network}
use Rattle.gas_desk.specs.Outside.{Outside}
use Rattle.flat_text.specs.Spelling.{flat_text}
use Rattle.command_core.specs.declared.status.Status.{Status}
use Rattle.command_core.specs.declared.status.Status.TheVariants as ends
use Rattle.command_core.specs.Meanings.{SaysLine}
use Rattle.command_words.specs.Budgets.{default_budget}
use Rattle.command_words.specs.Tolerances.{default_tolerance}
use Rattle.problem_answer.specs.declared.finding.Answer.{Answer}
use Rattle.problem_answer.specs.Found.{IsFound}
use Rattle.make_command.specs.Meaning.{IsMadeOf, made_line}
use Rattle.make_command.specs.Words.{MakeWords}

-- OUT holds, finished, the flat text of the problem of the number, and the line has how many nodes and arcs it has and the
-- word of something that is found for it: a setting that carries it, a refutation of it, or the text with which its search
-- halted
pub record WritesText (words : MakeWords) (before now : Outside) : Type 0 where
  pub problem : Network
  pub answer : Answer
  pub is_made : IsMadeOf words.count problem
  pub found : IsFound default_tolerance default_budget problem answer
  pub holds : now.files words.out ≡ Some (flat_text problem)
  pub finished : now.finished words.out ≡ true
  pub said : SaysLine (made_line words.count problem answer) before now

abbrev pub MakeSays : MakeWords → Outside → Outside → Status → Type 0
MakeSays words before now ends.Written = WritesText words before now
MakeSays words before now status = ⊥
