-- Each move makes the sum of the widths smaller.
use Rattle.std.proofs.Common.{ℕ, zero, suc, ◌<◌, arith, ℤ, pos, negsuc, ◌+ℤ◌, ◌-ℤ◌, ◌≤ℤ◌, Bool, true, false, int_le, int_lt, IsTrue, List, [], ◌∷◌, length, get_or}
use Rattle.std.proofs.Math.ListN.{set}
use Rattle.std.proofs.lemmas.Bool.{and_parts}
use borrow.Author.Tests.{ltb-true}
use Rattle.integer_laws.proofs.Ring.{linear}
use Rattle.base_types.specs.declared.variables.Var.{Var}
use Rattle.base_types.specs.declared.variables.Var.TheVariants.{Flow, Square}
use Rattle.gas_model.specs.declared.rows.Ends.{Ends}
use Rattle.gas_model.specs.Boxes.{Bounds, ends_of, no_ends, is_in_box, tightened, with_end, may_become}
use Rattle.stable_sweep.specs.Widths.{from_zero, breadth, breadths, total}

from_zero_less : (a b : ℤ) → pos 0 ≤ℤ a → a ≤ℤ (b -ℤ pos 1) → from_zero a < from_zero b
from_zero_less (pos a) (pos b) h k = omega (arith, linear)
from_zero_less (pos a) (negsuc b) h k = absurd (omega (arith, linear))
from_zero_less (negsuc a) b h k = absurd (omega (arith, linear))

breadth_less : (low : Bool) (C : ℤ) (e : Ends) → IsTrue (may_become low C e) → breadth (with_end low C e) < breadth e
breadth_less true C e h = let p = and_parts (int_lt e.lo C) (int_le C (e.hi +ℤ pos 1)) h in from_zero_less (e.hi -ℤ C +ℤ pos 1) (e.hi -ℤ e.lo +ℤ pos 1) (omega (arith, linear, p)) (omega (arith, linear, p))
breadth_less false C e h = let p = and_parts (int_le (e.lo -ℤ pos 1) C) (int_lt C e.hi) h in from_zero_less (C -ℤ e.lo +ℤ pos 1) (e.hi -ℤ e.lo +ℤ pos 1) (omega (arith, linear, p)) (omega (arith, linear, p))

breadths_less : (es : List Ends) (i : ℕ) (e : Ends) → i < length es → breadth e < breadth (get_or es i no_ends) → breadths (set es i e) < breadths es
breadths_less [] i e h k = absurd (omega arith)
breadths_less (x ∷ es) zero e h k = omega (arith, k)
breadths_less (x ∷ es) (suc i) e h k = omega (arith, breadths_less es i e (omega (arith, h)) k)

-- the sum of the widths falls
pub total_less : (b : Bounds) (v : Var) (low : Bool) (C : ℤ) → IsTrue (is_in_box b v) → IsTrue (may_become low C (ends_of b v)) → total (tightened b v low C) < total b
total_less b (Flow a) low C h r = omega (arith, breadths_less b.flows a (with_end low C (ends_of b (Flow a))) (ltb-true a (length b.flows) h) (breadth_less low C (ends_of b (Flow a)) r))
total_less b (Square n) low C h r = omega (arith, breadths_less b.squares n (with_end low C (ends_of b (Square n))) (ltb-true n (length b.squares) h) (breadth_less low C (ends_of b (Square n)) r))
