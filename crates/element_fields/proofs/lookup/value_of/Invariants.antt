use Rattle.std.proofs.Common.{◌≡◌, drop}
use Rattle.element_fields.specs.Lookup.{value_of}
use Rattle.element_fields.proofs.lookup.value_of.Given as goal

abbrev pub invariant-loop-a : goal.invariant-loop-a
invariant-loop-a l = value_of l.name (drop l.a-index l.attributes) ≡ value_of l.name l.attributes
