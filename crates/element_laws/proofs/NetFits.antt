-- What leaves a node less what enters it fits.
use Rattle.std.proofs.Common.{ℕ, ◌*◌, ◌^◌, ◌≤◌, arith, lit≤, ℤ, List, FitsSigned}
use Rattle.std.specs.Int.{w128}
use Rattle.integer_laws.proofs.SizeLemmas.{within_fits}
use Rattle.gas_model.specs.declared.rows.ArcRow.{ArcRow}
use Rattle.gas_model.proofs.NodeSums.{NetSums}

pub net_fits : (x : ℕ → ℤ) (all : List ArcRow) (n : ℕ) (at : List ℕ) (k : ℕ) (total : ℤ) → NetSums (10 ^ 12) x x all n at k total → k ≤ 2000 → FitsSigned w128 total
net_fits x all n at k total s few = within_fits (2000 * 10 ^ 12) total (omega (arith, s.size)) (lit≤ tt)
