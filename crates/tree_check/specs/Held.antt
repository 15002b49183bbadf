-- That the one box is of the problem.
use Rattle.gas_model.specs.Rows.{Network}
use Rattle.gas_model.specs.Boxes.{BoxFits}
use Rattle.gas_model.specs.Choices.{PartFits}
use Rattle.gas_model.specs.Within.{IsWithin as Within}
use Rattle.tree_rules.specs.Rules.{PartBox}

-- the box is one of the problem's variables, groups and arcs
pub record IsBoxAt (p : Network) (b : PartBox) : Type 0 where
  pub within : Within p
  pub bounds : BoxFits p b.bounds
  pub part : PartFits p b.part
