-- The id of the arc or node whose law is broken.
use Rattle.std.specs.Prelude.{ℕ, List, [], slice_get}
use Rattle.std.specs.Option.{option_map_or}
use Rattle.gas_model.specs.Rows.{Network}
use Rattle.element_laws.specs.declared.broken.Broken.{Broken}
use Rattle.element_laws.specs.declared.broken.Broken.TheVariants.{Choice, FlowBound, PressureBound, Balance, Law}

abbrev pub arc_id_at : Network → ℕ → List ℕ
arc_id_at p a = option_map_or (λ row. row.id) (slice_get p.arcs a) []

abbrev pub node_id_at : Network → ℕ → List ℕ
node_id_at p n = option_map_or (λ node. node.id) (slice_get p.nodes n) []

abbrev pub id_of : Network → Broken → List ℕ
id_of p (Choice a) = arc_id_at p a
id_of p (FlowBound a) = arc_id_at p a
id_of p (PressureBound n) = node_id_at p n
id_of p (Balance n) = node_id_at p n
id_of p (Law a) = arc_id_at p a
