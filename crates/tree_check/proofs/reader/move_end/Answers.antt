use Rattle.std.proofs.Common.{◌≡◌, to_z-of_z}
use Rattle.tree_check.specs.declared.frames.Change.TheVariants as change
use Rattle.tree_check.specs.Undo.{undone}
use Rattle.tree_check.proofs.Undoing.{noted_waits, noted_frames, moved_back, ends_at}
use Rattle.box_ends.proofs.HeldEnds.{end_moved}
use Rattle.tree_check.proofs.reader.move_end.Goals as goal

pub returns-clause-waits : goal.returns-clause-waits
returns-clause-waits c =
    let here = c.args.r.now.here in
    let back : undone c.put_ends.new.self (change.Moved c.args.var c.ends-ends.result) ≡ here = rw (c.put_ends.ensures, c.ends-ends.ensures.value) (moved_back here c.args.var _) in
    rw c.in_ok-note_change.ensures (noted_waits here c.put_ends.new.self (change.Moved c.args.var c.ends-ends.result) c.args.r.now.frames back)

pub put_ends-requires-clause-ends : goal.put_ends-requires-clause-ends
put_ends-requires-clause-ends c =
    let moved = simp (to_z-of_z, c.ranges.value) at c.with_end.ensures in
    let may = rw (← c.ends-ends.ensures.value) at c.requires.ends in
    rw moved (end_moved c.args.r.now.here.scale c.args.var c.args.low c.args.value c.ends-ends.result c.ends-ends.ensures.limits may)

pub returns-clause-kept : goal.returns-clause-kept
returns-clause-kept c =
    let r = c.args.r.now in
    record {
      here = rw c.put_ends.ensures (ends_at c.args.p.now r.here c.args.var c.with_end.result c.requires.reader.here);
      frames = rw (c.put_ends.ensures, c.in_ok-note_change.ensures)
          (noted_frames c.args.p.now r.here.scale (change.Moved c.args.var c.ends-ends.result) r.frames (c.requires.var, c.ends-ends.ensures.limits) c.requires.reader.frames);
    }
