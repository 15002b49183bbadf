use Rattle.std.proofs.Common.{◌≡◌, ◌+◌, ◌*◌, length}
use Rattle.gas_model.specs.Boxes.{BoxFits}
use Rattle.box_ends.specs.Empty.{LeavesAll}
use Rattle.tight_steps.specs.Moves.{part_box}
use Rattle.stable_sweep.specs.Runs.{Extends}
use Rattle.stable_sweep.specs.Settling.{AreSettled}
use Rattle.stable_sweep.specs.Waiting.{IsFew}
use Rattle.stable_sweep.specs.Widths.{total}
use Rattle.stable_sweep.proofs.sweep.settle_child.Given as goal

abbrev pub invariant-laws : goal.invariant-laws
invariant-laws g l = record {
  bounds : BoxFits l.p l.b;
  size : l.queue.size ≡ l.fn.queue.size;
  few : IsFew l.queue;
  filled : LeavesAll l.b;
  extends : Extends l.p (part_box g.G.Grid.SCALE l.state l.fn.b) (part_box g.G.Grid.SCALE l.state l.b) l.fn.out l.out;
  settled : AreSettled l.p (part_box g.G.Grid.SCALE l.state l.b) l.queue.held;
}

abbrev pub decreases-laws : goal.decreases-laws
decreases-laws g l = total l.b * (2 * l.queue.size + 1) + length l.queue.held
