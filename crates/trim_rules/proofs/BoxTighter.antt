-- Boxes stay within others along the same lines, and where the inner one has a step more.
use Rattle.std.proofs.Common.{refl, sym, ap, subst, arith, ℤ, pos, ◌+ℤ◌, ◌-ℤ◌, ◌≤ℤ◌, Bool, true, false, cond, IsTrue, int_le, int_lt}
use Rattle.std.proofs.lemmas.Bool.{and_parts, and_from}
use Rattle.integer_laws.proofs.Ring.{linear}
use Rattle.gas_model.specs.declared.rows.Ends.{Ends}
use Rattle.base_types.specs.declared.variables.Var.{Var}
use Rattle.gas_model.specs.Rows.{Network}
use Rattle.gas_model.specs.Boxes.{Bounds, BoxFits, ends_of, is_var, with_end, may_become, tightened}
use Rattle.gas_model.proofs.BoxFacts.{tightened_fits, in_box}
use Rattle.tree_cert.specs.declared.line.Head.{Head}
use Rattle.tree_cert.specs.declared.line.Head.TheVariants.{Take, State, Half}
use Rattle.tree_cert.specs.declared.line.Step.{Step}
use Rattle.tree_rules.specs.Rules.{PartBox, stepped}
use Rattle.tree_rules.specs.Branches.{headed, same_var, with_pick, with_state, lies_inside}
use Rattle.tree_rules.proofs.SameVars.{var_is}
use Rattle.core_rules.proofs.Walk.{ends_after}
use Rattle.trim_rules.specs.Tighter.{AreWithin, IsTighter}

-- ---- the ends of one variable
abbrev pub Within : Bounds → Bounds → Type 0
Within b c = (v : Var) → AreWithin (ends_of b v) (ends_of c v)

pub same_within : (e : Ends) → AreWithin e e
same_within e = record { lo = omega (arith, linear); hi = omega (arith, linear) }

end_within : (low : Bool) (C : ℤ) (e f : Ends) → AreWithin e f → AreWithin (with_end low C e) (with_end low C f)
end_within true C e f w = record { lo = omega (arith, linear); hi = w.hi }
end_within false C e f w = record { lo = w.lo; hi = omega (arith, linear) }

end_inward : (low : Bool) (C : ℤ) (e f : Ends) → IsTrue (may_become low C f) → AreWithin e f → AreWithin e (with_end low C f)
end_inward true C e f t w = let s = and_parts (int_lt f.lo C) (int_le C (f.hi +ℤ pos 1)) t in record { lo = omega (arith, linear, w.lo, s.0); hi = w.hi }
end_inward false C e f t w = let s = and_parts (int_le (f.lo -ℤ pos 1) C) (int_lt C f.hi) t in record { lo = w.lo; hi = omega (arith, linear, w.hi, s.1) }

-- a value that may be given in a tighter box may be given in the looser one
pub loosely : (low : Bool) (C : ℤ) (e f : Ends) → AreWithin e f → IsTrue (may_become low C f) → IsTrue (may_become low C e)
loosely true C e f w t =
    let s = and_parts (int_lt f.lo C) (int_le C (f.hi +ℤ pos 1)) t in
    and_from (int_lt e.lo C) (int_le C (e.hi +ℤ pos 1)) (omega (arith, linear, w.lo, s.0)) (omega (arith, linear, w.hi, s.1))
loosely false C e f w t =
    let s = and_parts (int_le (f.lo -ℤ pos 1) C) (int_lt C f.hi) t in
    and_from (int_le (e.lo -ℤ pos 1) C) (int_lt C e.hi) (omega (arith, linear, w.lo, s.0)) (omega (arith, linear, w.hi, s.1))

pub between_loosely : (C : ℤ) (e f : Ends) → AreWithin e f → IsTrue (lies_inside f C) → IsTrue (lies_inside e C)
between_loosely C e f w t =
    let s = and_parts (int_lt f.lo C) (int_lt C f.hi) t in
    and_from (int_lt e.lo C) (int_lt C e.hi) (omega (arith, linear, w.lo, s.0)) (omega (arith, linear, w.hi, s.1))

-- ---- the ends of all variables
both_cond : (t : Bool) (e f e2 f2 : Ends) → (IsTrue t → AreWithin e f) → AreWithin e2 f2 → AreWithin (cond t e e2) (cond t f f2)
both_cond true e f e2 f2 h k = h refl
both_cond false e f e2 f2 h k = k

one_cond : (t : Bool) (e f f2 : Ends) → (IsTrue t → AreWithin e f) → AreWithin e f2 → AreWithin e (cond t f f2)
one_cond true e f f2 h k = h refl
one_cond false e f f2 h k = k

module _ (p : Network) where
  moved_within : (b c : Bounds) (v : Var) (low : Bool) (C : ℤ) → BoxFits p b → BoxFits p c → IsTrue (is_var p v) → Within b c → Within (tightened b v low C) (tightened c v low C)
  moved_within b c v low C f g is w x =
      let e = with_end low C (ends_of b v) in
      let d = with_end low C (ends_of c v) in
      rw (ends_after b v x e (in_box p b v f is), ends_after c v x d (in_box p c v g is))
      (both_cond (same_var x v) e d (ends_of b x) (ends_of c x) (λ t. end_within low C (ends_of b v) (ends_of c v) (w v)) (w x))

  inward_within : (b c : Bounds) (v : Var) (low : Bool) (C : ℤ) → BoxFits p c → IsTrue (is_var p v) → IsTrue (may_become low C (ends_of c v)) → Within b c → Within b (tightened c v low C)
  inward_within b c v low C g is t w x =
      let d = with_end low C (ends_of c v) in
      rw (ends_after c v x d (in_box p c v g is))
      (one_cond (same_var x v) (ends_of b x) d (ends_of c x)
      (λ s. subst (λ (y : Var). AreWithin (ends_of b y) d) (sym (var_is x v s)) (end_inward low C (ends_of b v) (ends_of c v) t (w v))) (w x))

  -- ---- boxes
  pub same_box : (b : PartBox) → pos 1 ≤ℤ b.scale → BoxFits p b.bounds → IsTighter p b b
  same_box b one f = record { units = one; scale = refl; part = refl; fits = f; inner_fits = f; within = λ v. same_within (ends_of b.bounds v) }

  pub both_stepped : (b c : PartBox) (s : Step) → IsTrue (is_var p s.var) → IsTighter p b c → IsTighter p (stepped b s) (stepped c s)
  both_stepped b c s is t = record {
    units = t.units;
    scale = t.scale;
    part = t.part;
    fits = tightened_fits p b.bounds s.var s.low s.value t.fits;
    inner_fits = tightened_fits p c.bounds s.var s.low s.value t.inner_fits;
    within = moved_within b.bounds c.bounds s.var s.low s.value t.fits t.inner_fits is t.within;
  }

  pub inner_stepped : (b c : PartBox) (s : Step) → IsTrue (is_var p s.var) → IsTrue (may_become s.low s.value (ends_of c.bounds s.var)) → IsTighter p b c → IsTighter p b (stepped c s)
  inner_stepped b c s is m t = record {
    units = t.units;
    scale = t.scale;
    part = t.part;
    fits = t.fits;
    inner_fits = tightened_fits p c.bounds s.var s.low s.value t.inner_fits;
    within = inward_within b.bounds c.bounds s.var s.low s.value t.inner_fits is m t.within;
  }

  -- the variable of a half is one of the problem
  abbrev pub HasVar : Head → Type 0
  HasVar (Half v low C) = IsTrue (is_var p v)
  HasVar h = Unit {0}

  pub both_headed : (b c : PartBox) (h : Head) → HasVar h → IsTighter p b c → IsTighter p (headed b h) (headed c h)
  both_headed b c (Take k j) is t = record { units = t.units; scale = t.scale; part = ap (λ z. with_pick z k j) t.part; fits = t.fits; inner_fits = t.inner_fits; within = t.within }
  both_headed b c (State a s) is t = record { units = t.units; scale = t.scale; part = ap (λ z. with_state z a s) t.part; fits = t.fits; inner_fits = t.inner_fits; within = t.within }
  both_headed b c (Half v low C) is t = record {
    units = t.units;
    scale = t.scale;
    part = t.part;
    fits = tightened_fits p b.bounds v low C t.fits;
    inner_fits = tightened_fits p c.bounds v low C t.inner_fits;
    within = moved_within b.bounds c.bounds v low C t.fits t.inner_fits is t.within;
  }
