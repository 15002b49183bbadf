use Rattle.std.specs.Str.{bytes_eq}
use Rattle.name_places.specs.ByName.{look}
use Rattle.network.specs.Nodes.{nominated}
use Rattle.network.proofs.Kept.{Kept}
use Rattle.network.proofs.nominations.nominations_of.Given as goal

abbrev pub invariant-loop-node : goal.invariant-loop-node
invariant-loop-node l = Kept (λ id s. bytes_eq id s.id) nominated (look l.nominations) l.nodes l.node-index
