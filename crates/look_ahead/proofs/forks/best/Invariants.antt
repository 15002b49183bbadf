use Rattle.std.proofs.Common.{◌≡◌}
use Rattle.std.specs.Prelude.{IfSome}
use Rattle.look_ahead.specs.Views.{CanFork}
use Rattle.look_ahead.proofs.forks.best.Given as goal

abbrev pub invariant-loop-fork : goal.invariant-loop-fork
invariant-loop-fork l = record {
  size : l.tools.queue.size ≡ l.initial.tools.queue.size;
  best : IfSome l.best (CanFork l.p l.view);
}
