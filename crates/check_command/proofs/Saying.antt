-- From an answer of `check` to what it says of the outside.
use Rattle.std.specs.Prelude.{◌++◌, codes}
use Rattle.gas_desk.specs.Outside.{Outside}
use Rattle.command_core.specs.declared.status.Status.{Status}
use Rattle.command_core.specs.declared.status.Status.TheVariants as ends
use Rattle.command_core.specs.Lines.{not_text}
use Rattle.command_core.specs.Meanings.{Answered}
use Rattle.command_core.proofs.Lines.{line_alone}
use Rattle.check_command.specs.Meaning.{check_may, check_meaning}
use Rattle.check_command.specs.Outcome.{CheckSays}
use Rattle.check_command.specs.Words.{CheckWords}

pub check_says_so : (words : CheckWords) (before now : Outside) (s : Status) → check_may s → Answered (check_meaning words) before now s → CheckSays words before now s
check_says_so words before now ends.Passes own a = record {
  problem = a.answers.problem;
  tree = a.answers.tree;
  stands_for = a.answers.stands_for;
  tree_is = a.answers.tree_is;
  holds = a.answers.says.holds;
  said = line_alone (codes "passes") a.note before now a.answers.says.noted a.said;
}
check_says_so words before now (ends.NotRefutation fault) own a = record {
  problem = a.answers.problem;
  tree = a.answers.tree;
  stands_for = a.answers.stands_for;
  tree_is = a.answers.tree_is;
  holds = a.answers.says.holds;
  said = line_alone (codes "not refutation " ++ not_text fault) a.note before now a.answers.says.noted a.said;
}
check_says_so words before now s own a = absurd own
