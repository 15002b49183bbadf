-- What a node draws from the network.
use Rattle.std.specs.Prelude.{ℕ, ℤ, neg_ℤ, ◌-ℤ◌}
use Rattle.gas_model.specs.declared.rows.Setting.{Setting}
use Rattle.gas_model.specs.Rows.{Network}
use Rattle.gas_model.specs.Near.{number_at}
use Rattle.gas_model.specs.Points.{sum_in, sum_out}
use Rattle.gas_model.specs.Supplies.{with_supply}

-- the problem in which the node n draws at least x and at most y, in l/h: a draw is a negative supply
abbrev pub drawn : Network → (n : ℕ) → (x y : ℤ) → Network
drawn p n x y = with_supply p n (neg_ℤ y) (neg_ℤ x)

-- what a setting draws at the node n: the flows that enter it less those that leave it
abbrev pub draw : Network → (n : ℕ) → Setting → ℤ
draw p n s = sum_in (number_at s.flows) n p.arcs -ℤ sum_out (number_at s.flows) n p.arcs
