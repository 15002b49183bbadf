-- What a proposal that is taken is.
use Rattle.std.specs.Prelude.{◌≡◌, ℕ, pos, length}
use Rattle.gas_model.specs.declared.rows.Setting.{Setting}
use Rattle.gas_model.specs.Near.{IsNear, SettingFits}
use Rattle.gas_model.specs.Rows.{Network}

-- the setting fits the problem and carries it within the tolerance, in Pa^2
pub record IsProposed (p : Network) (tol : ℕ) (s : Setting) : Type 0 where
  pub fits : SettingFits p s
  pub near : IsNear p (pos tol) s

-- the lists of the setting have the lengths of the problem
pub record HasLengths (p : Network) (s : Setting) : Type 0 where
  pub states : length s.states ≡ length p.arcs
  pub flows : length s.flows ≡ length p.arcs
  pub squares : length s.squares ≡ length p.nodes
