-- What follows from the choices of a probe alone.
use Rattle.std.specs.Prelude.{◌≡◌}
use Rattle.gas_model.specs.declared.rows.PartState.{PartState}
use Rattle.gas_model.specs.Rows.{Network}
use Rattle.gas_model.specs.Choices.{ArePicks}
use Rattle.topo.specs.Shapes.{IsShapeOf}
use Rattle.probe_point.specs.Chosen.{picks_of, with_picks, all_chosen, AreChosen}
use Rattle.probe_point.specs.declared.choosing.Chosen.{Chosen}

-- they are the choices of a probe in this part state, and the shape of the network with all of them made
pub record AreChoicesOf (p : Network) (part : PartState) (c : Chosen) : Type 0 where
  pub picks : c.picks ≡ picks_of part
  pub fits : ArePicks p.groups c.picks
  pub states : AreChosen p (with_picks c.picks part) c.states
  pub shape : IsShapeOf p (all_chosen c.picks c.states) c.shape
