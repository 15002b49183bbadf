-- What a problem keeps.
use Rattle.std.specs.Prelude.{ℕ, length, map}
use Rattle.gas_model.specs.declared.problem.Problem.TheInside.{Inside}
use Rattle.gas_model.specs.Rows.{Network, IsProblem}
use Rattle.gas_model.specs.Incidence.{KeepsArcsAt}
use Rattle.gas_model.specs.Rulings.{rulings_at, AreInOrder, KeepsRulings}
use Rattle.gas_model.specs.Within.{IsWithin}

abbrev pub network : Inside → Network
network a = record { nodes = a.nodes; arcs = a.arcs; groups = a.groups }

-- a problem is made of its own rows, and keeps the arcs at each node and what decisions say of each arc
pub record IsWhole (a : Inside) : Type 0 where
  pub problem : IsProblem (network a)
  pub within : IsWithin (network a)
  pub arcs_at : KeepsArcsAt (map (λ v. v.items) a.arcs_at.value.items) (length a.nodes) a.arcs
  pub rulings : KeepsRulings (map (λ v. v.items) a.rulings.items) (length a.arcs) a.groups
  pub order : (i : ℕ) → AreInOrder (rulings_at a.groups i)
