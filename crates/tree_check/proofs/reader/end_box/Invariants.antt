use Rattle.std.proofs.Common.{◌≡◌, length}
use Rattle.tree_cert.specs.Place.{after}
use Rattle.tree_rules.specs.Branches.{rules_of}
use Rattle.tree_check.specs.Reading.{IsReaderOf}
use Rattle.tree_check.specs.Undo.{waits_at}
use Rattle.tree_check.proofs.reader.end_box.Given as goal

abbrev pub invariant-loop-frame : goal.invariant-loop-frame
invariant-loop-frame l =
    (after (rules_of l.p) (waits_at l.r.here l.r.frames) ≡ after (rules_of l.p) (waits_at l.fn.r.here l.fn.r.frames)) × IsReaderOf l.p l.r

abbrev pub decreases-loop-frame : goal.decreases-loop-frame
decreases-loop-frame l = length l.r.frames
