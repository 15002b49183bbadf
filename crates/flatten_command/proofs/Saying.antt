-- From the answer of `flat` to what it says of the outside.
use Rattle.std.specs.Prelude.{[], codes}
use Rattle.gas_desk.specs.Outside.{Outside}
use Rattle.flat_text.specs.Spelling.{flat_text}
use Rattle.command_core.specs.declared.status.Status.{Status}
use Rattle.command_core.specs.declared.status.Status.TheVariants as ends
use Rattle.command_core.specs.Meanings.{Answered}
use Rattle.command_core.specs.Written.{written_may}
use Rattle.command_core.proofs.Lines.{line_with, out_holds}
use Rattle.flatten_command.specs.Meaning.{flatten_meaning}
use Rattle.flatten_command.specs.Outcome.{FlattenSays}
use Rattle.flatten_command.specs.Words.{FlattenWords}

pub flatten_says_so : (words : FlattenWords) (before now : Outside) (s : Status) → written_may s → Answered (flatten_meaning words) before now s → FlattenSays words before now s
flatten_says_so words before now ends.Written own a =
    let w = a.answers.says in
    let all = out_holds words.out (flat_text a.answers.problem) a.texts before now w.one a.held in
    record {
      problem = a.answers.problem;
      stands_for = a.answers.stands_for;
      holds = all.0;
      finished = all.1;
      said = line_with [] (codes "written") a.note before now w.noted a.said;
    }
flatten_says_so words before now s own a = absurd own
