-- Numbers of 64 bits as numbers of 128.
use Rattle.std.proofs.Common.{arith, ℤ, FitsSigned, w64}
use Rattle.std.specs.Int.{w128}
use borrow.Author.Differences.{fits_in}
use Rattle.integer_laws.proofs.Ring.{linear}

-- what fits 64 bits fits 128
pub widened : (z : ℤ) → FitsSigned w64 z → FitsSigned w128 z
widened z f = fits_in w128 z (omega (arith, linear))
