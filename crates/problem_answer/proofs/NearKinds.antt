-- A near setting can be written.
use Rattle.std.proofs.Common.{refl, ℕ, ◌&&◌, true, false, Bool, pos}
use Rattle.std.specs.Prelude.{Some, IsTrue, map}
use Rattle.gas_model.specs.declared.rows.Setting.{Setting}
use Rattle.gas_model.specs.Rows.{Network}
use Rattle.gas_model.specs.Choices.{has_state, picks_allow}
use Rattle.gas_model.specs.Near.{IsNear}
use Rattle.setting_text.specs.Reading.{AreOfKinds}

-- the states of a near setting are of their arcs' kinds
pub near_kinds : (p : Network) (s : Setting) (tol : ℕ) → IsNear p (pos tol) s → AreOfKinds p.arcs s.states
near_kinds p s tol near a row state here there = both (has_state row.kind state) (picks_allow p.groups (map Some s.picks) a state) (near.listed.allowed a row state here there)
  where
    both : (b d : Bool) → IsTrue (b && d) → IsTrue b
    both true d h = refl
    both false d h = h
