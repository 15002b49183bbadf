-- Boxes within others.
use Rattle.std.specs.Prelude.{◌≡◌, pos, ◌≤ℤ◌}
use Rattle.gas_model.specs.declared.rows.Ends.{Ends}
use Rattle.base_types.specs.declared.variables.Var.{Var}
use Rattle.gas_model.specs.Rows.{Network}
use Rattle.gas_model.specs.Boxes.{BoxFits, ends_of}
use Rattle.tree_rules.specs.Rules.{PartBox}

-- these ends lie within those
pub record AreWithin (e inner : Ends) : Type 0 where
  pub lo : e.lo ≤ℤ inner.lo
  pub hi : inner.hi ≤ℤ e.hi

-- a box of the same problem, part state and units, of which at least one makes a whole; each variable has no more values
pub record IsTighter (p : Network) (b inner : PartBox) : Type 0 where
  pub units : pos 1 ≤ℤ b.scale
  pub scale : b.scale ≡ inner.scale
  pub part : b.part ≡ inner.part
  pub fits : BoxFits p b.bounds
  pub inner_fits : BoxFits p inner.bounds
  pub within : (v : Var) → AreWithin (ends_of b.bounds v) (ends_of inner.bounds v)
