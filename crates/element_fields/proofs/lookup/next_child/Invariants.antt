use Rattle.std.proofs.Common.{◌≡◌, drop}
use Rattle.element_fields.specs.Lookup.{next_child}
use Rattle.element_fields.proofs.lookup.next_child.Given as goal

abbrev pub invariant-loop-i : goal.invariant-loop-i
invariant-loop-i l = next_child l.depth (drop l.i l.below) ≡ next_child l.depth l.below
