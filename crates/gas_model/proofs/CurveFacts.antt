-- Curves by the sign of the flow.
use Rattle.std.proofs.Common.{◌≡◌, ap, arith, ℤ, pos, ◌*ℤ◌, neg_ℤ, ◌≤ℤ◌, ◌<ℤ◌, Bool, cond, true, false, int_le}
use Rattle.integer_laws.proofs.Ring.{linear}
use Rattle.gas_model.specs.Curves.{square, curve}

pub curve_forward : (f g q : ℤ) → pos 0 ≤ℤ q → curve f g q ≡ f *ℤ square q
curve_forward f g q h = let t : int_le (pos 0) q ≡ true = omega (arith, linear) in ap (λ (b : Bool). cond b (f *ℤ square q) (neg_ℤ (g *ℤ square q))) t

pub curve_back : (f g q : ℤ) → q <ℤ pos 0 → curve f g q ≡ neg_ℤ (g *ℤ square q)
curve_back f g q h = let t : int_le (pos 0) q ≡ false = omega (arith, linear) in ap (λ (b : Bool). cond b (f *ℤ square q) (neg_ℤ (g *ℤ square q))) t
