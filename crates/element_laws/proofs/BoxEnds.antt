-- The ends of a box are numbers that the formulas of the laws take.
use Rattle.std.proofs.Common.{inl, inr, ◌^◌, ◌*◌, ◌+◌, arith, ℤ, pos, negsuc, ◌*ℤ◌, ◌≤ℤ◌, IsTrue}
use Rattle.integer_laws.proofs.Ring.{linear}
use Rattle.integer_laws.proofs.SizeLemmas.{within_parts, one_part}
use Rattle.gas_model.specs.declared.rows.Ends.{Ends}
use Rattle.base_types.specs.declared.variables.Var.TheVariants.{Flow, Square}
use Rattle.gas_model.specs.BoxLimits.{IsScale, AreFlowEnds, AreSquareEnds}
use Rattle.element_laws.specs.Sizes.{is_wide_square, AreSafeFlows, AreSafeSquares, BoxEndsAreSafe}

-- K times a limit is at most sixteen times it
top_flow : (K : ℤ) → IsScale K → (K *ℤ pos (10 ^ 12)) ≤ℤ pos (16 * 10 ^ 12)
top_flow K (inl e) = rw e (omega (arith, linear))
top_flow K (inr e) = rw e (omega (arith, linear))

top_square : (K : ℤ) → IsScale K → (K *ℤ pos (10 ^ 16)) ≤ℤ pos (16 * 10 ^ 16)
top_square K (inl e) = rw e (omega (arith, linear))
top_square K (inr e) = rw e (omega (arith, linear))

pub safe_flows : (K : ℤ) (e : Ends) → IsScale K → AreFlowEnds K e → AreSafeFlows e
safe_flows K e k h =
    let top = top_flow K k in
    record {
      lo = omega (arith, linear, top, h.low_from, h.low_to, within_parts, one_part e.lo);
      hi = omega (arith, linear, top, h.high_from, h.high_to, within_parts, one_part e.hi);
    }

in_between : (s : ℤ) → negsuc 0 ≤ℤ s → s ≤ℤ pos (16 * 10 ^ 16 + 1) → IsTrue (is_wide_square s)
in_between s a b = grind (arith, linear)

pub safe_squares : (K : ℤ) (e : Ends) → IsScale K → AreSquareEnds K e → AreSafeSquares e
safe_squares K e k h =
    let top = top_square K k in
    record {
      lo = in_between e.lo (omega (arith, linear, h.low_from)) (omega (arith, linear, top, h.low_to));
      hi = in_between e.hi (omega (arith, linear, h.high_from)) (omega (arith, linear, top, h.high_to));
    }

pub box_ends_are_safe : BoxEndsAreSafe
box_ends_are_safe K (Flow a) e k h = safe_flows K e k h
box_ends_are_safe K (Square n) e k h = safe_squares K e k h
