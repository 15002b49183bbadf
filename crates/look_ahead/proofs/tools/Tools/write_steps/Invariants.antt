use Rattle.std.proofs.Common.{◌≡◌}
use Rattle.look_ahead.proofs.tools.Tools.write_steps.Given as goal

abbrev pub invariant-loop-step : goal.invariant-loop-step
invariant-loop-step l = l.self.queue ≡ l.initial.self.queue
