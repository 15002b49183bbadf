-- From the answer of `make` to what it says of the outside.
use Rattle.std.specs.Prelude.{[]}
use Rattle.gas_desk.specs.Outside.{Outside}
use Rattle.flat_text.specs.Spelling.{flat_text}
use Rattle.command_core.specs.declared.status.Status.{Status}
use Rattle.command_core.specs.declared.status.Status.TheVariants as ends
use Rattle.command_core.specs.Meanings.{Answered}
use Rattle.command_core.specs.Written.{written_may}
use Rattle.command_core.proofs.Lines.{line_with, out_holds}
use Rattle.make_command.specs.Meaning.{made_line, make_meaning}
use Rattle.make_command.specs.Outcome.{MakeSays}
use Rattle.make_command.specs.Words.{MakeWords}

pub make_says_so : (words : MakeWords) (before now : Outside) (s : Status) → written_may s → Answered (make_meaning words) before now s → MakeSays words before now s
make_says_so words before now ends.Written own a =
    let w = a.answers.says in
    let all = out_holds words.out (flat_text a.answers.problem) a.texts before now w.one a.held in
    record {
      problem = a.answers.problem;
      answer = w.answer;
      is_made = a.answers.is_made;
      found = w.found;
      holds = all.0;
      finished = all.1;
      said = line_with [] (made_line words.count a.answers.problem w.answer) a.note before now w.noted a.said;
    }
make_says_so words before now s own a = absurd own
