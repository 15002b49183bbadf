use Rattle.std.proofs.Common.{◌≡◌, take, map}
use Rattle.network.specs.Decisions.{group_text}
use Rattle.network.proofs.decisions.group_texts.Given as goal

abbrev pub invariant-loop-group : goal.invariant-loop-group
invariant-loop-group l = l.texts ≡ map group_text (take l.group-index l.groups)
