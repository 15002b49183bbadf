-- A value past the limits of the grid lies within no limits, but that a low one counts as 0.
use Rattle.std.proofs.Common.{◌≡◌, Bool, true, false, Some, None, refl, ℤ, pos, negsuc, ◌<ℤ◌, arith}
use Rattle.std.specs.Prelude.{int_le}
use Rattle.std.proofs.lemmas.Bool.{and_left, and_right}
use Rattle.integer_laws.proofs.Ring.{linear, le_test, not_le_test}
use Rattle.base_types.specs.Numbers.{between}
use Rattle.gas_units.specs.declared.grid.Side.{Side}
use Rattle.gas_units.specs.declared.grid.Side.TheVariants.{Down, Up}
use Rattle.gas_units.specs.Grid.{IsFar}
use Rattle.element_fields.specs.declared.quantity.Sort.{Sort}
use Rattle.element_fields.specs.declared.quantity.Sort.TheVariants.{Flow, Pressure, Difference}
use Rattle.element_fields.specs.Quantities.{within, far_within, flow_within, lower_within, upper_within}

below : (lo hi q : ℤ) → q <ℤ lo → between lo q hi ≡ false
below lo hi q h = and_left (int_le lo q) (int_le q hi) (not_le_test lo q h)

above : (lo hi q : ℤ) → hi <ℤ q → between lo q hi ≡ false
above lo hi q h = and_right (int_le lo q) (int_le q hi) (not_le_test q hi h)

no_flow : (negative : Bool) (q : ℤ) → IsFar negative q → None ≡ flow_within q
no_flow true q h = rw (below (negsuc 999999999999) (pos 1000000000000) q (omega (arith, linear, h))) refl
no_flow false q h = rw (above (negsuc 999999999999) (pos 1000000000000) q (omega (arith, linear, h))) refl

no_upper : (negative : Bool) (q : ℤ) → IsFar negative q → None ≡ upper_within q
no_upper true q h = rw (below (pos 0) (pos 100000000) q (omega (arith, linear, h))) refl
no_upper false q h = rw (above (pos 0) (pos 100000000) q (omega (arith, linear, h))) refl

low_is_zero : (q : ℤ) → IsFar true q → Some (pos 0) ≡ lower_within q
low_is_zero q h = rw (not_le_test (pos 0) q (omega (arith, linear, h))) refl

no_lower : (q : ℤ) → IsFar false q → None ≡ lower_within q
no_lower q h = rw (le_test (pos 0) q (omega (arith, linear, h)), not_le_test q (pos 100000000) (omega (arith, linear, h))) refl

pub far_is : (sort : Sort) (side : Side) (negative : Bool) (q : ℤ) → IsFar negative q → far_within sort side negative ≡ within sort side q
far_is Flow side negative q h = no_flow negative q h
far_is Pressure Down true q h = low_is_zero q h
far_is Pressure Down false q h = no_lower q h
far_is Pressure Up negative q h = no_upper negative q h
far_is Difference Down true q h = low_is_zero q h
far_is Difference Down false q h = no_lower q h
far_is Difference Up negative q h = no_upper negative q h
