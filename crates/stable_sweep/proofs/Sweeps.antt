-- What a step does to the box, to the list of steps and to the laws that wait.
use Rattle.std.proofs.Common.{◌≡◌, ◌⊎◌, ℕ, ◌+◌, ◌*◌, ◌<◌, ◌≤◌, refl, sym, ap, ◌∙◌, subst, inl, inr, arith, ℤ, ◌≤ℤ◌, ◌<ℤ◌, Bool, true, false, ◌&&◌, IsTrue, List, [], ◌∷◌, ◌++◌, length, append_assoc, mul-le-mul_left}
use Rattle.std.specs.Prelude.{nat_lt}
use Rattle.std.proofs.lemmas.Bool.{cases_Bool, cases_eq}
use Rattle.std.proofs.lemmas.List.{append-nil, length-set}
use Rattle.integer_laws.proofs.Ring.{linear}
use Rattle.base_types.specs.declared.variables.Var.{Var}
use Rattle.base_types.specs.declared.variables.Var.TheVariants.{Flow, Square}
use Rattle.gas_model.specs.declared.rows.Ends.{Ends}
use Rattle.gas_model.specs.declared.rows.PartState.{PartState}
use Rattle.gas_model.specs.Rows.{Network}
use Rattle.gas_model.specs.Boxes.{Bounds, BoxFits, ends_of, is_var, is_in_box, is_empty, tightened, with_end, may_become}
use Rattle.box_ends.specs.Empty.{LeavesAll, LeavesNone}
use Rattle.tree_cert.specs.declared.line.Step.{Step}
use Rattle.tree_cert.specs.declared.line.Closing.TheVariants.{Empty}
use Rattle.tree_rules.specs.Rules.{PartBox, stepped}
use Rattle.link_queue.specs.Queue.{holds}
use Rattle.tight_steps.specs.declared.law.Law.{Law}
use Rattle.tight_steps.specs.Moves.{is_law, part_box, IsMove, IsQuiet}
use Rattle.tight_steps.specs.Mentions.{mentions}
use Rattle.tight_steps.proofs.ArcMoves.{step_parts}
use Rattle.tight_steps.proofs.OtherArcs.{same_ends}
use Rattle.tight_steps.proofs.Boxes.{boxes_still_fit}
use Rattle.tight_steps.proofs.Quiet.{other_laws_stay_quiet}
use Rattle.stable_sweep.specs.Components.{Holds}
use Rattle.stable_sweep.specs.Runs.{after, IsTurn, AreTurns, Extends}
use Rattle.stable_sweep.specs.Waiting.{slot, KeepsHeld, IsTaken, PutsBack}
use Rattle.stable_sweep.specs.Widths.{total}
use Rattle.stable_sweep.specs.Settling.{AreSettled, AreSettledBut, Falls}
use Rattle.stable_sweep.proofs.Measures.{total_less}
use Rattle.stable_sweep.specs.Quiet.{IsTightMove}

-- ---- runs of steps
after_append : (b : PartBox) (xs ys : List Step) → after b (xs ++ ys) ≡ after (after b xs) ys
after_append b [] ys = refl
after_append b (x ∷ xs) ys = after_append (stepped b x) xs ys

turns_append : (p : Network) (b : PartBox) (xs ys : List Step) → AreTurns p b xs → AreTurns p (after b xs) ys → AreTurns p b (xs ++ ys)
turns_append p b [] ys h k = k
turns_append p b (x ∷ xs) ys h k = (h.0, turns_append p (stepped b x) xs ys h.1 k)

pub extends_none : (p : Network) (b : PartBox) (out : List Step) → Extends p b b out out
extends_none p b out = record { added = []; list = sym (append-nil out); turns = tt; box = refl }

pub extends_trans : (p : Network) (b c d : PartBox) (out more most : List Step) → Extends p b c out more → Extends p c d more most → Extends p b d out most
extends_trans p b c d out more most e f = record {
  added = e.added ++ f.added;
  list = f.list ∙ ap (λ (xs : List Step). xs ++ f.added) e.list ∙ append_assoc out e.added f.added;
  turns = turns_append p b e.added f.added e.turns (subst (λ (x : PartBox). AreTurns p x f.added) e.box f.turns);
  box = f.box ∙ ap (λ (x : PartBox). after x f.added) e.box ∙ sym (after_append b e.added f.added);
}

extends_one : (p : Network) (b c : PartBox) (out more : List Step) (s : Step) → Extends p b c out more → IsTurn p c s → Extends p b (stepped c s) out (more ++ s ∷ [])
extends_one p b c out more s e m = extends_trans p b c (stepped c s) out more (more ++ s ∷ []) e (record { added = s ∷ []; list = refl; turns = (m, tt); box = refl })

-- ---- laws that wait
pub settled_more : (p : Network) (b : PartBox) (old new : List ℕ) (current : ℕ) (s : Step) → AreSettledBut p b old current → KeepsHeld old new → PutsBack p b.part s.var current new → AreSettledBut p (stepped b s) new current
settled_more p b old new current s h k back = record { each = λ l i. one l i (h.each l i) }
  where
    one : (l : Law) → is_law (length p.nodes) (length p.arcs) l → (holds (slot (length p.nodes) l) old ≡ true) ⊎ ((slot (length p.nodes) l ≡ current) ⊎ IsQuiet p b l) → (holds (slot (length p.nodes) l) new ≡ true) ⊎ ((slot (length p.nodes) l ≡ current) ⊎ IsQuiet p (stepped b s) l)
    one l i (inl w) = inl (k (slot (length p.nodes) l) w)
    one l i (inr (inl e)) = inr (inl e)
    one l i (inr (inr q)) =
        elim (cases_Bool (mentions p b.part l s.var)) [
          | inl y ↦ elim (cases_eq (slot (length p.nodes) l) current) [ inl e ↦ inr (inl e) | inr n ↦ inl ((back.each l i y).is n) ]
          | inr n ↦ inr (inr (other_laws_stay_quiet p b l s.var s.low s.value n q))
        ]

-- a law is taken out
pub settled_taken : (p : Network) (b : PartBox) (front : ℕ) (old held : List ℕ) → AreSettled p b old → IsTaken front old held → AreSettledBut p b held front
settled_taken p b front old held s t = record { each = λ l h. one l (s.each l h) }
  where
    one : (l : Law) → (holds (slot (length p.nodes) l) old ≡ true) ⊎ IsQuiet p b l → (holds (slot (length p.nodes) l) held ≡ true) ⊎ ((slot (length p.nodes) l ≡ front) ⊎ IsQuiet p b l)
    one l (inl w) = elim (t.rest (slot (length p.nodes) l) w) [ inl e ↦ inr (inl e) | inr h ↦ inl h ]
    one l (inr q) = inr (inr q)

-- ---- variables
pub in_box : (p : Network) (b : Bounds) (v : Var) → BoxFits p b → IsTrue (is_var p v) → IsTrue (is_in_box b v)
in_box p b (Flow a) f t = ap (λ (n : ℕ). nat_lt a n) f.flows ∙ t
in_box p b (Square n) f t = ap (λ (m : ℕ). nat_lt n m) f.squares ∙ t

pub var_of : (p : Network) (b : Bounds) (v : Var) → BoxFits p b → IsTrue (is_in_box b v) → IsTrue (is_var p v)
var_of p b (Flow a) f t = ap (λ (n : ℕ). nat_lt a n) (sym f.flows) ∙ t
var_of p b (Square n) f t = ap (λ (m : ℕ). nat_lt n m) (sym f.squares) ∙ t

-- the same variables are in the box after a step
pub still_in : (b : Bounds) (v w : Var) (low : Bool) (C : ℤ) → is_in_box (tightened b v low C) w ≡ is_in_box b w
still_in b (Flow a) (Flow i) low C = ap (λ (n : ℕ). nat_lt i n) (length-set b.flows a (with_end low C (ends_of b (Flow a))))
still_in b (Flow a) (Square m) low C = refl
still_in b (Square n) (Flow i) low C = refl
still_in b (Square n) (Square m) low C = ap (λ (k : ℕ). nat_lt m k) (length-set b.squares n (with_end low C (ends_of b (Square n))))

one_var : (v w : Var) → (w ≡ v) ⊎ (w ≡ v → ⊥)
one_var (Flow i) (Flow j) = elim (cases_eq j i) [ inl e ↦ inl (ap Flow e) | inr n ↦ inr (λ e. n (cc)) ]
one_var (Flow i) (Square j) = inr (λ e. cc)
one_var (Square i) (Flow j) = inr (λ e. cc)
one_var (Square i) (Square j) = elim (cases_eq j i) [ inl e ↦ inl (ap Square e) | inr n ↦ inr (λ e. n (cc)) ]

pub filled_more : (b : Bounds) (v : Var) (low : Bool) (C : ℤ) → LeavesAll b → (ends_of (tightened b v low C) v).lo ≤ℤ (ends_of (tightened b v low C) v).hi → LeavesAll (tightened b v low C)
filled_more b v low C all here w i =
    elim (one_var v w) [
      | inl e ↦ subst (λ (x : Var). (ends_of (tightened b v low C) x).lo ≤ℤ (ends_of (tightened b v low C) x).hi) (sym e) here
      | inr n ↦ subst (λ (x : Ends). x.lo ≤ℤ x.hi) (sym (same_ends b w v low C n)) (all w (sym (still_in b v w low C) ∙ i))
    ]

pub empty_holds : (p : Network) (K : ℤ) (part : PartState) (b : Bounds) (v : Var) → BoxFits p b → IsTrue (is_in_box b v) → is_empty (ends_of b v) ≡ true → Holds p (part_box K part b) (Empty v)
empty_holds p K part b v f i e = record { tried = tt; holds = ap (λ (t : Bool). t && is_empty (ends_of b v)) (var_of p b v f i) ∙ e }

pub crossed_holds : (p : Network) (K : ℤ) (part : PartState) (b : Bounds) (v : Var) → BoxFits p b → LeavesNone b v → Holds p (part_box K part b) (Empty v)
crossed_holds p K part b v f h = empty_holds p K part b v f h.inside (crossed (ends_of b v) h.crossed)
  where
    crossed : (e : Ends) → e.hi <ℤ e.lo → is_empty e ≡ true
    crossed e h = omega (arith, linear, h)

-- ---- one turn of the loop
pub record Turn (p : Network) (K : ℤ) (part : PartState) (b c : Bounds) (out more : List Step) (s : Step) : Type 0 where
  pub inside : IsTrue (is_in_box c s.var)
  pub fits : BoxFits p c
  pub extends : (b0 : PartBox) (out0 : List Step) → Extends p b0 (part_box K part b) out0 out → Extends p b0 (part_box K part c) out0 more
  pub less : total c < total b
  pub filled : is_empty (ends_of c s.var) ≡ false → LeavesAll c

pub step_inside : (p : Network) (K : ℤ) (part : PartState) (b : Bounds) (s : Step) → BoxFits p b → IsMove p (part_box K part b) s → IsTrue (is_in_box b s.var)
step_inside p K part b s f m = in_box p b s.var f (step_parts p (part_box K part b) s m.holds).var

pub step_within : (p : Network) (K : ℤ) (part : PartState) (b : Bounds) (s : Step) → IsMove p (part_box K part b) s → IsTrue (may_become s.low s.value (ends_of b s.var))
step_within p K part b s m = (step_parts p (part_box K part b) s m.holds).within

pub turn : (p : Network) (K : ℤ) (part : PartState) (b c : Bounds) (out more : List Step) (s : Step) → BoxFits p b → LeavesAll b → IsTightMove p (part_box K part b) s → c ≡ tightened b s.var s.low s.value → more ≡ out ++ s ∷ [] → Turn p K part b c out more s
turn p K part b c out more s f all m e l =
    let i = step_inside p K part b s f m.move in
    let there : IsTrue (is_in_box (tightened b s.var s.low s.value) s.var) = still_in b s.var s.var s.low s.value ∙ i in
    record {
      inside = subst (λ (x : Bounds). IsTrue (is_in_box x s.var)) (sym e) there;
      fits = subst (BoxFits p) (sym e) (boxes_still_fit p b s.var s.low s.value f);
      extends = λ b0 out0 x.
          subst (λ (y : Bounds). Extends p b0 (part_box K part y) out0 more) (sym e)
          (subst (Extends p b0 (part_box K part (tightened b s.var s.low s.value)) out0) (sym l)
          (extends_one p b0 (part_box K part b) out0 out s x (record { filled = all s.var i; move = m.move; tightest = m.tightest })));
      less = subst (λ (x : Bounds). total x < total b) (sym e) (total_less b s.var s.low s.value i (step_within p K part b s m.move));
      filled = λ n. subst LeavesAll (sym e) (filled_more b s.var s.low s.value all (not_empty (ends_of (tightened b s.var s.low s.value) s.var) (subst (λ (x : Bounds). is_empty (ends_of x s.var) ≡ false) e n)));
    }
  where
    not_empty : (x : Ends) → is_empty x ≡ false → x.lo ≤ℤ x.hi
    not_empty x n = omega (arith, linear, n)

-- ---- the measure: widths first, then the queue
pub falls_more : (before then now : ℕ) (old held new : List ℕ) → Falls before then old held → now < then → Falls before now old new
falls_more before then now old held new (inl h) k = inl (omega (arith, h, k))
falls_more before then now old held new (inr h) k = inl (omega (arith, h.0, k))

measure_less : (size before now : ℕ) (all old held : List ℕ) → Falls before now old held → length old < length all → length held ≤ 2 * size → now * (2 * size + 1) + length held < before * (2 * size + 1) + length all
measure_less size before now all old held (inl h) less few = let p = mul-le-mul_left (2 * size + 1) (let q : now + 1 ≤ before = omega (arith, h) in q) in omega (arith, p, few)
measure_less size before now all old held (inr h) less few = let p : length held ≡ length old = ap length h.1 in omega (arith, p, less, ap (λ (n : ℕ). n * (2 * size + 1)) h.0)

pub laws_smaller : (size rest before now : ℕ) (all old held : List ℕ) → rest ≡ size → length old < length all → Falls before now old held → length held ≤ 2 * rest → now * (2 * rest + 1) + length held < before * (2 * size + 1) + length all
laws_smaller size rest before now all old held e less f few = rw (← e) (measure_less rest before now all old held f less few)
