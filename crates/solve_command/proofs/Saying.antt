-- From an answer of `solve` to what it says of the outside.
use Rattle.std.proofs.Common.{◌≡◌, subst, append_assoc, ℕ, List, ◌++◌}
use Rattle.std.specs.Prelude.{codes, decimal}
use Rattle.gas_model.specs.Rows.{Network}
use Rattle.gas_desk.specs.Outside.{Outside}
use Rattle.tree_verdicts.specs.Passing.{PassesIt}
use Rattle.command_core.specs.declared.status.Status.{Status}
use Rattle.command_core.specs.declared.status.Status.TheVariants as ends
use Rattle.command_core.specs.Lines.{open_word}
use Rattle.command_core.specs.Meanings.{Answered, SaysLine}
use Rattle.command_core.specs.Saying.{WritesOne}
use Rattle.command_core.proofs.Lines.{line_alone, line_with, out_holds}
use Rattle.problem_answer.specs.Found.{Carries, HaltsWith}
use Rattle.solve_command.specs.Meaning.{solve_may, solve_meaning}
use Rattle.solve_command.specs.Outcome.{SolveSays, Writes}
use Rattle.solve_command.specs.Words.{SolveWords}

pub solve_says_so : (words : SolveWords) (before now : Outside) (s : Status) → solve_may s → Answered (solve_meaning words) before now s → SolveSays words before now s
solve_says_so words before now ends.Accepted own a =
    let w = a.answers.says in
    let all = out_holds words.out w.text a.texts before now w.one a.held in
    record {
      problem = a.answers.problem;
      text = w.text;
      stands_for = a.answers.stands_for;
      is_text = w.is_text;
      holds = all.0;
      finished = all.1;
      said = line_alone (codes "accepted") a.note before now w.no_note a.said;
    }
solve_says_so words before now ends.Rejected own a =
    let w = a.answers.says in
    let all = out_holds words.out w.text a.texts before now w.one a.held in
    record {
      problem = a.answers.problem;
      text = w.text;
      stands_for = a.answers.stands_for;
      is_text = w.is_text;
      holds = all.0;
      finished = all.1;
      said = line_alone (codes "rejected") a.note before now w.no_note a.said;
    }
solve_says_so words before now (ends.Undecided why) own a =
    let w = a.answers.says in
    let all = out_holds words.out w.text a.texts before now w.one a.held in
    record {
      line = w.number;
      writes = record {
        problem = a.answers.problem;
        text = w.text;
        stands_for = a.answers.stands_for;
        is_text = w.is_text;
        holds = all.0;
        finished = all.1;
        said = subst (λ (x : List ℕ). SaysLine x before now) (append_assoc (codes "undecided ") (open_word why) (decimal w.number)) (line_with (codes "undecided " ++ open_word why) (decimal w.number) a.note before now w.noted a.said);
      };
    }
solve_says_so words before now s own a = absurd own
