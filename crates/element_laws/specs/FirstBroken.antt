-- The laws of a problem in their order, and the first that a setting breaks.
use Rattle.std.specs.Prelude.{◌≡◌, ◌++◌, ◌∷◌, ℕ, ℤ, List, length, map, Bool, true, false}
use Rattle.std.specs.List.{list_all, range_with_len}
use Rattle.gas_model.specs.declared.rows.Setting.{Setting}
use Rattle.gas_model.specs.Rows.{Network}
use Rattle.element_laws.specs.declared.broken.Broken.{Broken}
use Rattle.element_laws.specs.declared.broken.Broken.TheVariants.{Choice, FlowBound, PressureBound, Balance, Law}
use Rattle.element_laws.specs.KeptLaws.{keeps_choice, keeps_flow_bound, keeps_pressure_bound, keeps_balance, keeps_law}

-- whether the setting keeps the law, within the tolerance where it is an arc's
abbrev pub is_kept : Network → ℤ → Setting → Broken → Bool
is_kept p tol s (Choice a) = keeps_choice p s a
is_kept p tol s (FlowBound a) = keeps_flow_bound p s a
is_kept p tol s (PressureBound n) = keeps_pressure_bound p s n
is_kept p tol s (Balance n) = keeps_balance p s n
is_kept p tol s (Law a) = keeps_law p tol s a

-- a law for each of n rows, in their order
abbrev pub laws_for : (ℕ → Broken) → ℕ → List Broken
laws_for law n = map law (range_with_len 0 n)

-- all laws, in their order: choices, bounds of flows, bounds of pressures, balances, laws of arcs
abbrev pub laws_of : Network → List Broken
laws_of p =
    laws_for Choice (length p.arcs) ++ (laws_for FlowBound (length p.arcs) ++ (laws_for PressureBound (length p.nodes) ++ (laws_for Balance (length p.nodes) ++ laws_for Law (length p.arcs))))

-- of these laws the test refuses this one, and passes those before it
pub record IsFirstRefused (test : Broken → Bool) (laws : List Broken) (law : Broken) : Type 0 where
  pub earlier : List Broken
  pub later : List Broken
  pub order : laws ≡ earlier ++ law ∷ later
  pub kept : list_all test earlier ≡ true
  pub broken : test law ≡ false

-- of all laws the setting breaks this one, and keeps those before it
abbrev pub IsFirstBroken : Network → ℤ → Setting → Broken → Type 0
IsFirstBroken p tol s law = IsFirstRefused (is_kept p tol s) (laws_of p) law
