-- The loosest value that shrinks a width, and the tightest one up to a bound.
use Rattle.std.proofs.Common.{◌≡◌, ◌⊎◌, inl, inr, ◌∙◌, arith, lit≤, ◌*◌, ◌^◌, ◌≤◌, ℤ, pos, ◌+ℤ◌, ◌-ℤ◌, ◌*ℤ◌, ◌≤ℤ◌, ◌<ℤ◌, Bool, true, false, ◌&&◌, int_le, int_lt, IsTrue, FitsSigned}
use Rattle.std.specs.Int.{w128, int_min, int_max}
use Rattle.std.proofs.lemmas.Int.{ints}
use Rattle.std.proofs.lemmas.Bool.{and_parts, and_from}
use Rattle.integer_laws.proofs.Ring.{linear}
use Rattle.integer_laws.proofs.SizeLemmas.{within_fits, within_parts, one_part}
use Rattle.gas_model.specs.declared.rows.Ends.{Ends}
use Rattle.gas_model.specs.Boxes.{width_of, may_become}
use Rattle.tree_rules.specs.Looser.{IsNoTighter}
use Rattle.tight_steps.specs.Best.{gain, shrinks, cut, IsLoosest, IsBest, HasNoBest, IsBound, CanShrink, AreSmallEnds}
use Rattle.tree_rules.specs.Looser.{reaches}

eight_is : (z : ℤ) → pos 8 *ℤ z ≡ (z +ℤ z +ℤ z +ℤ z) +ℤ (z +ℤ z +ℤ z +ℤ z)
eight_is z = omega (arith, ints)

min_parts : (x y : ℤ) → (int_min x y ≤ℤ x) × (int_min x y ≤ℤ y) × ((z : ℤ) → z ≤ℤ x → z ≤ℤ y → z ≤ℤ int_min x y)
min_parts x y = (grind (arith, linear), grind (arith, linear), λ z p q. grind (arith, linear))

max_parts : (x y : ℤ) → (x ≤ℤ int_max x y) × (y ≤ℤ int_max x y) × ((z : ℤ) → x ≤ℤ z → y ≤ℤ z → int_max x y ≤ℤ z)
max_parts x y = (grind (arith, linear), grind (arith, linear), λ z p q. grind (arith, linear))

-- ---- what the two tests say
pub within_low : (e : Ends) (C : ℤ) → IsTrue (may_become true C e) → (e.lo <ℤ C) × (C ≤ℤ (e.hi +ℤ pos 1))
within_low e C t = let h = and_parts (int_lt e.lo C) (int_le C (e.hi +ℤ pos 1)) t in (omega (arith, linear, h.0), omega (arith, linear, h.1))

pub within_high : (e : Ends) (C : ℤ) → IsTrue (may_become false C e) → ((e.lo -ℤ pos 1) ≤ℤ C) × (C <ℤ e.hi)
within_high e C t = let h = and_parts (int_le (e.lo -ℤ pos 1) C) (int_lt C e.hi) t in (omega (arith, linear, h.0), omega (arith, linear, h.1))

low_within : (e : Ends) (C : ℤ) → e.lo <ℤ C → C ≤ℤ (e.hi +ℤ pos 1) → IsTrue (may_become true C e)
low_within e C p q = and_from (int_lt e.lo C) (int_le C (e.hi +ℤ pos 1)) (omega (arith, linear)) (omega (arith, linear))

high_within : (e : Ends) (C : ℤ) → (e.lo -ℤ pos 1) ≤ℤ C → C <ℤ e.hi → IsTrue (may_become false C e)
high_within e C p q = and_from (int_le (e.lo -ℤ pos 1) C) (int_lt C e.hi) (omega (arith, linear)) (omega (arith, linear))

gains : (low : Bool) (C : ℤ) (e : Ends) → IsTrue (shrinks low C e) → (pos 1 ≤ℤ gain low C e) × (width_of e ≤ℤ (pos 8 *ℤ gain low C e))
gains low C e t = let h = and_parts (int_le (pos 1) (gain low C e)) (int_le (width_of e) (pos 8 *ℤ gain low C e)) t in (omega (arith, linear, h.0), omega (arith, linear, h.1))

from_gain : (low : Bool) (C : ℤ) (e : Ends) → pos 1 ≤ℤ gain low C e → width_of e ≤ℤ (pos 8 *ℤ gain low C e) → IsTrue (shrinks low C e)
from_gain low C e p q = and_from (int_le (pos 1) (gain low C e)) (int_le (width_of e) (pos 8 *ℤ gain low C e)) (omega (arith, linear)) (omega (arith, linear))

-- a tighter value shrinks the width too
more_gain : (low : Bool) (B C : ℤ) (e : Ends) → gain low B e ≤ℤ gain low C e → IsTrue (shrinks low B e) → IsTrue (shrinks low C e)
more_gain low B C e h t =
    let g = gains low B e t in
    let x : pos 1 ≤ℤ gain low C e = omega (arith, linear, g.0) in
    let y : width_of e ≤ℤ (pos 8 *ℤ gain low C e) = omega (arith, linear, g.1, eight_is (gain low B e), eight_is (gain low C e)) in
    from_gain low C e x y

pub shrinks_more : (low : Bool) (B C : ℤ) (e : Ends) → IsNoTighter low B C → IsTrue (shrinks low B e) → IsTrue (shrinks low C e)
shrinks_more true B C e h t = more_gain true B C e (omega (arith, linear)) t
shrinks_more false B C e h t = more_gain false B C e (omega (arith, linear)) t

-- ---- the loosest value
-- the least gain that is enough
least : (g h w : ℤ) → ((pos 8 *ℤ g) <ℤ (w +ℤ pos 8)) ⊎ (g ≡ pos 1) → pos 1 ≤ℤ h → w ≤ℤ (pos 8 *ℤ h) → g ≤ℤ h
least g h w (inl p) one eighth = omega (arith, linear, eight_is g, eight_is h)
least g h w (inr p) one eighth = omega (arith, linear)

in_reach : (g w : ℤ) → pos 0 ≤ℤ w → ((pos 8 *ℤ g) <ℤ (w +ℤ pos 8)) ⊎ (g ≡ pos 1) → g ≤ℤ (w +ℤ pos 1)
in_reach g w h (inl p) = omega (arith, linear, eight_is g)
in_reach g w h (inr p) = omega (arith, linear)

pub loosest_low : (e : Ends) (g : ℤ) → e.lo ≤ℤ e.hi → pos 1 ≤ℤ g → width_of e ≤ℤ (pos 8 *ℤ g) → ((pos 8 *ℤ g) <ℤ (width_of e +ℤ pos 8)) ⊎ (g ≡ pos 1) → IsLoosest true e (e.lo +ℤ g)
loosest_low e g w one eighth l =
    let same : e.lo +ℤ g -ℤ e.lo ≡ g = omega (arith, linear) in
    let r : g ≤ℤ (width_of e +ℤ pos 1) = in_reach g (width_of e) (omega (arith, linear)) l in
    record {
      within = low_within e (e.lo +ℤ g) (omega (arith, linear)) (omega (arith, linear, r));
      gains = from_gain true (e.lo +ℤ g) e (omega (arith, linear)) (rw same eighth);
      loosest = λ B b s. let h = gains true B e s in let k = least g (B -ℤ e.lo) (width_of e) l h.0 h.1 in omega (arith, linear, k);
    }

pub loosest_high : (e : Ends) (g : ℤ) → e.lo ≤ℤ e.hi → pos 1 ≤ℤ g → width_of e ≤ℤ (pos 8 *ℤ g) → ((pos 8 *ℤ g) <ℤ (width_of e +ℤ pos 8)) ⊎ (g ≡ pos 1) → IsLoosest false e (e.hi -ℤ g)
loosest_high e g w one eighth l =
    let same : e.hi -ℤ (e.hi -ℤ g) ≡ g = omega (arith, linear) in
    let r : g ≤ℤ (width_of e +ℤ pos 1) = in_reach g (width_of e) (omega (arith, linear)) l in
    record {
      within = high_within e (e.hi -ℤ g) (omega (arith, linear, r)) (omega (arith, linear));
      gains = from_gain false (e.hi -ℤ g) e (omega (arith, linear)) (rw same eighth);
      loosest = λ B b s. let h = gains false B e s in let k = least g (e.hi -ℤ B) (width_of e) l h.0 h.1 in omega (arith, linear, k);
    }

-- ---- the tightest value
pub best_from : (low : Bool) (e : Ends) (test : ℤ → Bool) (C bound : ℤ) → IsLoosest low e C → IsTrue (test C) → IsBound low e test bound → IsBest low e test (cut low e bound)
best_from true e test C bound l t b =
    let m = min_parts bound (e.hi +ℤ pos 1) in
    let w = within_low e C l.within in
    let c : C ≤ℤ bound = omega (arith, linear, (b.is C l.within).0 t) in
    let k : C ≤ℤ int_min bound (e.hi +ℤ pos 1) = m.2 C c w.1 in
    let inside = low_within e (int_min bound (e.hi +ℤ pos 1)) (omega (arith, linear, w.0, k)) m.1 in
    record {
      within = inside;
      allowed = (b.is (int_min bound (e.hi +ℤ pos 1)) inside).1 (omega (arith, linear, m.0));
      shrinks = shrinks_more true C (int_min bound (e.hi +ℤ pos 1)) e k l.gains;
      tightest = λ B i a. m.2 B (omega (arith, linear, (b.is B i).0 a)) (within_low e B i).1;
    }
best_from false e test C bound l t b =
    let m = max_parts bound (e.lo -ℤ pos 1) in
    let w = within_high e C l.within in
    let c : bound ≤ℤ C = omega (arith, linear, (b.is C l.within).0 t) in
    let k : int_max bound (e.lo -ℤ pos 1) ≤ℤ C = m.2 C c w.0 in
    let inside = high_within e (int_max bound (e.lo -ℤ pos 1)) m.1 (omega (arith, linear, w.1, k)) in
    record {
      within = inside;
      allowed = (b.is (int_max bound (e.lo -ℤ pos 1)) inside).1 (omega (arith, linear, m.0));
      shrinks = shrinks_more false C (int_max bound (e.lo -ℤ pos 1)) e k l.gains;
      tightest = λ B i a. m.2 B (omega (arith, linear, (b.is B i).0 a)) (within_high e B i).0;
    }

pub best_where : (low : Bool) (e : Ends) (test : ℤ → Bool) (bound : ℤ) → CanShrink low e test → IsBound low e test bound → IsBest low e test (cut low e bound)
best_where low e test bound h b = best_from low e test h.value bound h.loosest h.allowed b

-- none where the loosest value isn't allowed
pub none_from : (low : Bool) (e : Ends) (test : ℤ → Bool) (C : ℤ) → IsLoosest low e C → (IsTrue (test C) → ⊥)
    → ((B D : ℤ) → IsTrue (may_become low B e) → IsNoTighter low B D → IsTrue (test D) → IsTrue (test B)) → HasNoBest low e test
none_from low e test C l n looser = record { none = λ D w t s. n (looser C D l.within (l.loosest D w s) t) }

-- and none where the width is negative
pub none_empty : (low : Bool) (e : Ends) (test : ℤ → Bool) → e.hi <ℤ e.lo → HasNoBest low e test
none_empty true e test h = record { none = λ C w t s. let r = within_low e C w in omega (arith, linear, r.0, r.1) }
none_empty false e test h = record { none = λ C w t s. let r = within_high e C w in omega (arith, linear, r.0, r.1) }

pub reach_is_bound : (low : Bool) (e : Ends) (bound : ℤ) → IsBound low e (reaches low bound) bound
reach_is_bound low e bound = record { is = λ C w. (λ t. t, λ t. t) }

pub reaches_loosen : (low : Bool) (bound B D : ℤ) → IsNoTighter low B D → IsTrue (reaches low bound D) → IsTrue (reaches low bound B)
reaches_loosen true bound B D h t = omega (arith, linear)
reaches_loosen false bound B D h t = omega (arith, linear)

-- ---- what the code computes fits
pub record EndsFit (e : Ends) : Type 0 where
  pub lo : FitsSigned w128 e.lo
  pub hi : FitsSigned w128 e.hi
  pub above : FitsSigned w128 (e.hi +ℤ pos 1)
  pub below : FitsSigned w128 (e.lo -ℤ pos 1)
  pub width : FitsSigned w128 (e.hi -ℤ e.lo)

pub ends_fit : (e : Ends) → AreSmallEnds e → EndsFit e
ends_fit e h = record {
  lo = within_fits (2 ^ 60) e.lo h.lo (lit≤ tt);
  hi = within_fits (2 ^ 60) e.hi h.hi (lit≤ tt);
  above = within_fits (2 ^ 61) (e.hi +ℤ pos 1) (omega (arith, linear, h.hi, within_parts, one_part (e.hi +ℤ pos 1))) (lit≤ tt);
  below = within_fits (2 ^ 61) (e.lo -ℤ pos 1) (omega (arith, linear, h.lo, within_parts, one_part (e.lo -ℤ pos 1))) (lit≤ tt);
  width = within_fits (2 ^ 62) (e.hi -ℤ e.lo) (omega (arith, linear, h.lo, h.hi, within_parts, one_part (e.hi -ℤ e.lo))) (lit≤ tt);
}

-- an end that moves by a gain
pub record GainFits (e : Ends) (g : ℤ) : Type 0 where
  pub up_by : FitsSigned w128 (e.lo +ℤ g)
  pub down_by : FitsSigned w128 (e.hi -ℤ g)

pub gain_fits : (e : Ends) (g : ℤ) → AreSmallEnds e → pos 1 ≤ℤ g → g ≤ℤ pos (2 ^ 64) → GainFits e g
gain_fits e g h one most = record {
  up_by = within_fits (2 ^ 65) (e.lo +ℤ g) (omega (arith, linear, h.lo, one, most, within_parts, one_part (e.lo +ℤ g))) (lit≤ tt);
  down_by = within_fits (2 ^ 65) (e.hi -ℤ g) (omega (arith, linear, h.hi, one, most, within_parts, one_part (e.hi -ℤ g))) (lit≤ tt);
}

pub ordered_from : (e : Ends) → int_lt (e.hi -ℤ e.lo) (pos 0) ≡ false → e.lo ≤ℤ e.hi
ordered_from e h = grind (arith, linear)
