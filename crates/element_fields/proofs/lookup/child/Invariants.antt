use Rattle.std.proofs.Common.{◌≡◌, drop}
use Rattle.element_fields.specs.Lookup.{child}
use Rattle.element_fields.proofs.lookup.child.Given as goal

abbrev pub invariant-loop-i : goal.invariant-loop-i
invariant-loop-i l = child l.depth l.name (drop l.i l.below) ≡ child l.depth l.name l.below
