-- The root of a problem.
use Rattle.std.proofs.Common.{refl}
use Rattle.gas_model.specs.Rows.{Network}
use Rattle.gas_model.specs.Boxes.{opening}
use Rattle.gas_model.specs.Choices.{fresh_part}
use Rattle.tree_rules.specs.Branches.{root_box}
use Rattle.box_pool.specs.Grid.{pool_scale}
use Rattle.box_pool.specs.Pools.{Boxed, IsNew}
use Rattle.gas_model.proofs.BoxFacts.{opening_fits}
use Rattle.gas_model.proofs.FreshPart.{fresh_fits}
use Rattle.nom_search.specs.Halted.{Begins}

pub new_begins : (p : Network) (pool : Boxed) → IsNew p (fresh_part p) (opening pool_scale p) pool → Begins p (root_box pool_scale p) pool
new_begins p pool new = record {
  new = new;
  scale = refl;
  part = fresh_fits p;
  bounds = opening_fits pool_scale p;
}
