use Rattle.std.proofs.Common.{◌≡◌, take, map}
use Rattle.network.specs.Decisions.{set_text}
use Rattle.network.proofs.decisions.set_texts.Given as goal

abbrev pub invariant-loop-set : goal.invariant-loop-set
invariant-loop-set l = l.texts ≡ map set_text (take l.set-index l.sets)
