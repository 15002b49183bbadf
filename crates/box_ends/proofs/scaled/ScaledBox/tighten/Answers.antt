use Rattle.std.proofs.Common.{to_z-of_z}
use Rattle.box_ends.proofs.HeldEnds.{end_moved}
use Rattle.box_ends.proofs.scaled.ScaledBox.tighten.Goals as goal

pub put_ends-requires-clause-ends : goal.put_ends-requires-clause-ends
put_ends-requires-clause-ends c =
    let moved = simp (to_z-of_z, c.ranges.value) at c.with_end.ensures in
    rw (moved, c.ends-ends.ensures.value) (end_moved c.args.self.now.scale c.args.var c.args.low c.args.value _ (rw c.ends-ends.ensures.value at c.ends-ends.ensures.limits) c.requires.value)
