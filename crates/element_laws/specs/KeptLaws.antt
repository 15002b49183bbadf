-- The laws of each arc and node, by their positions, and whether a setting keeps them.
use Rattle.std.specs.Prelude.{ℕ, ℤ, pos, Bool}
use Rattle.gas_model.specs.declared.rows.Setting.{Setting}
use Rattle.gas_model.specs.Rows.{Network}
use Rattle.gas_model.specs.Choices.{may_be}
use Rattle.gas_model.specs.Points.{balances, keeps_flow, keeps_square, state_at}
use Rattle.gas_model.specs.Near.{number_at, nears_arc}
use Rattle.element_laws.specs.Failing.{passes_at}

-- the arc a is in a state of its kind that the picked decisions allow
abbrev pub keeps_choice : Network → Setting → ℕ → Bool
keeps_choice p s a = passes_at (λ row. may_be p s.picks a row (state_at s.states a)) p.arcs a

-- its flow lies within its bounds
abbrev pub keeps_flow_bound : Network → Setting → ℕ → Bool
keeps_flow_bound p s a = passes_at (λ row. keeps_flow row (pos 1) (number_at s.flows a)) p.arcs a

-- the square of the node n lies within the squares of its pressure bounds
abbrev pub keeps_pressure_bound : Network → Setting → ℕ → Bool
keeps_pressure_bound p s n = passes_at (λ node. keeps_square node (pos 1) (number_at s.squares n)) p.nodes n

-- what leaves the node n less what enters it lies within its supply bounds
abbrev pub keeps_balance : Network → Setting → ℕ → Bool
keeps_balance p s n = passes_at (λ node. balances node (pos 1) (number_at s.flows) n p.arcs) p.nodes n

-- the law of the arc a holds within the tolerance
abbrev pub keeps_law : Network → ℤ → Setting → ℕ → Bool
keeps_law p tol s a = passes_at (λ row. nears_arc row (state_at s.states a) tol (number_at s.flows a) (number_at s.squares)) p.arcs a
