use Rattle.std.proofs.Common.{map, take}
use Rattle.gas_model.specs.Incidence.{KeepsArcsAt}
use Rattle.gas_model.proofs.incidence.lists_at_nodes.Given as goal

abbrev pub invariant-loop-a : goal.invariant-loop-a
invariant-loop-a l = KeepsArcsAt (map (λ v. v.items) l.lists.items) l.nodes (take l.a l.arcs)
