use Rattle.std.proofs.Common.{◌≡◌}
use Rattle.gas_model.specs.Boxes.{BoxFits}
use Rattle.box_ends.specs.Empty.{LeavesAll}
use Rattle.tight_steps.specs.Moves.{part_box}
use Rattle.stable_sweep.specs.Runs.{Extends}
use Rattle.stable_sweep.specs.Settling.{AreSettledBut, Falls}
use Rattle.stable_sweep.specs.Waiting.{IsFew}
use Rattle.stable_sweep.specs.Widths.{total}
use Rattle.stable_sweep.proofs.sweep.settle_law.Given as goal

abbrev pub invariant-steps : goal.invariant-steps
invariant-steps g l = record {
  bounds : BoxFits l.p l.b;
  size : l.queue.size ≡ l.fn.queue.size;
  few : IsFew l.queue;
  filled : LeavesAll l.b;
  extends : Extends l.p (part_box g.G.Grid.SCALE l.state l.fn.b) (part_box g.G.Grid.SCALE l.state l.b) l.fn.out l.out;
  falls : Falls (total l.fn.b) (total l.b) l.fn.queue.held l.queue.held;
  settled : AreSettledBut l.p (part_box g.G.Grid.SCALE l.state l.b) l.queue.held l.current;
}

abbrev pub decreases-steps : goal.decreases-steps
decreases-steps g l = total l.b
