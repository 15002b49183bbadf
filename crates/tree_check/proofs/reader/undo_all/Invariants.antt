use Rattle.std.proofs.Common.{◌≡◌, length}
use Rattle.tree_check.specs.Held.{IsBoxAt}
use Rattle.tree_check.specs.Undo.{before, AreChangesOf}
use Rattle.tree_check.proofs.reader.undo_all.Given as goal

abbrev pub invariant-loop-change : goal.invariant-loop-change
invariant-loop-change l = (before l.b l.changes ≡ before l.fn.b l.fn.changes) × IsBoxAt l.p l.b × AreChangesOf l.p l.b.scale l.changes × (l.b.scale ≡ l.fn.b.scale)

abbrev pub decreases-loop-change : goal.decreases-loop-change
decreases-loop-change l = length l.changes
