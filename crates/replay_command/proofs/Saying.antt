-- From an answer of `replay` to what it says of the outside.
use Rattle.std.proofs.Common.{◌≡◌, subst, append_assoc, ℕ, List, ◌++◌}
use Rattle.std.specs.Prelude.{codes}
use Rattle.gas_desk.specs.Outside.{Outside}
use Rattle.command_core.specs.declared.status.Status.{Status}
use Rattle.command_core.specs.declared.status.Status.TheVariants as ends
use Rattle.command_core.specs.Lines.{law_word}
use Rattle.command_core.specs.Meanings.{Answered, SaysLine}
use Rattle.command_core.proofs.Lines.{line_alone, line_with}
use Rattle.replay_command.specs.BrokenIds.{id_of}
use Rattle.replay_command.specs.Meaning.{replay_may, replay_meaning}
use Rattle.replay_command.specs.Outcome.{ReplaySays}
use Rattle.replay_command.specs.Words.{ReplayWords}

pub replay_says_so : (words : ReplayWords) (before now : Outside) (s : Status) → replay_may s → Answered (replay_meaning words) before now s → ReplaySays words before now s
replay_says_so words before now ends.Kept own a = record {
  problem = a.answers.problem;
  setting = a.answers.setting;
  stands_for = a.answers.stands_for;
  setting_stands = a.answers.setting_stands;
  holds = a.answers.says.holds;
  said = line_alone (codes "kept") a.note before now a.answers.says.noted a.said;
}
replay_says_so words before now (ends.Broken law) own a = record {
  problem = a.answers.problem;
  setting = a.answers.setting;
  stands_for = a.answers.stands_for;
  setting_stands = a.answers.setting_stands;
  holds = a.answers.says.holds;
  said = subst (λ (x : List ℕ). SaysLine x before now) (append_assoc (codes "broken ") (law_word law) (id_of a.answers.problem law)) (line_with (codes "broken " ++ law_word law) (id_of a.answers.problem law) a.note before now a.answers.says.noted a.said);
}
replay_says_so words before now s own a = absurd own
