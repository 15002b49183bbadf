-- Without a tolerance the laws within the tolerance are the laws over the denominator 1.
use Rattle.std.proofs.Common.{◌≡◌, ℕ, zero, suc, refl, sym, ap, ◌∙◌, arith, ℤ, pos, ◌+ℤ◌, ◌-ℤ◌, ◌*ℤ◌, ◌≤ℤ◌, Bool, true, false, cond, ◌&&◌, int_le, int_lt, IsTrue, List, [], ◌∷◌, length, Some, None, Option}
use Rattle.std.specs.Prelude.{slice_get}
use Rattle.std.specs.Ordering.{int_eq}
use Rattle.std.proofs.lemmas.Bool.{and_parts, and_from}
use Rattle.std.proofs.lemmas.Bool.Decides.{Decides-int_eq}
use Rattle.integer_laws.proofs.Ring.{linear, one_mul, mul_one, square_nonneg}
use Rattle.gas_model.specs.declared.rows.ArcRow.{ArcRow}
use Rattle.gas_model.specs.declared.law_forms.PipeLaw.{PipeLaw}
use Rattle.gas_model.specs.declared.rows.NodeRow.{NodeRow}
use Rattle.gas_model.specs.declared.rows.Setting.{Setting}
use Rattle.gas_model.specs.Curves.{square, drop_low, drop_high, at_most, at_least, at_least_zero, falls_between, nears_fall, is_close, meets_loss, nears_loss, meets_resistance, nears_resistance}
use Rattle.gas_model.specs.declared.law_forms.LawForm.{LawForm}
use Rattle.gas_model.specs.declared.law_forms.LawForm.TheVariants.{Drags, Equals, Shuts, Loses, Reduces, Raises, Never}
use Rattle.gas_model.specs.Laws.{form_of, meets_form, nears_form}
use Rattle.gas_model.specs.Points.{keeps_square, meets_arc, state_at}
use Rattle.gas_model.specs.Rows.{Network}
use Rattle.gas_model.specs.Near.{IsNear, HasNumbers, MeetsExactly, NearWithoutTolerance, number_at, nears_arc}

add_nothing : (z : ℤ) → z +ℤ pos 0 ≡ z
add_nothing z = omega (arith, linear)

take_nothing : (z : ℤ) → z -ℤ pos 0 ≡ z
take_nothing z = omega (arith, linear)

exact_drag : (law : PipeLaw) (q u v : ℤ) → nears_resistance law (pos 0) q u v ≡ meets_resistance law (pos 1) q u v
exact_drag law q u v =
    let den : law.drag.den *ℤ pos 1 ≡ law.drag.den = mul_one law.drag.den in
    ap (λ (z : ℤ). int_le (drop_low law.drag q) (law.drag.den *ℤ z) && int_le (law.drag.den *ℤ (u -ℤ v -ℤ pos 0)) (drop_high law.drag q)) (add_nothing (u -ℤ v))
    ∙ ap (λ (z : ℤ). int_le (drop_low law.drag q) (law.drag.den *ℤ (u -ℤ v)) && int_le (law.drag.den *ℤ z) (drop_high law.drag q)) (take_nothing (u -ℤ v))
    ∙ ap (λ (z : ℤ). int_le (drop_low law.drag q) (z *ℤ (u -ℤ v)) && int_le (z *ℤ (u -ℤ v)) (drop_high law.drag q)) (sym den)

zero_or_more : (z : ℤ) → pos 0 ≤ℤ z → at_least_zero z ≡ z
zero_or_more z h = let t : int_le (pos 0) z ≡ true = omega (arith, linear) in ap (λ (b : Bool). cond b z (pos 0)) t

exact_fall : (low high x y : ℤ) → pos 0 ≤ℤ x → nears_fall low high (pos 0) x y ≡ falls_between low high (pos 1) x y
exact_fall low high x y h =
    ap (λ (z : ℤ). at_least (pos 1) z y low && at_most (pos 1) (at_least_zero (x -ℤ pos 0)) y high) (add_nothing x)
    ∙ ap (λ (z : ℤ). at_least (pos 1) x y low && at_most (pos 1) (at_least_zero z) y high) (take_nothing x)
    ∙ ap (λ (z : ℤ). at_least (pos 1) x y low && at_most (pos 1) z y high) (zero_or_more x h)

same_tests : (a b : Bool) → (a ≡ true → b ≡ true) → (b ≡ true → a ≡ true) → a ≡ b
same_tests true b f g = sym (f refl)
same_tests false true f g = g refl
same_tests false false f g = refl

exact_close : (u v : ℤ) → is_close (pos 0) u v ≡ int_eq u v
exact_close u v =
    same_tests (is_close (pos 0) u v) (int_eq u v)
    (λ t. let both = and_parts (int_le (u -ℤ v) (pos 0)) (int_le (v -ℤ u) (pos 0)) t in (Decides-int_eq u v).1 (let e : u ≡ v = omega (arith, linear, both.0, both.1) in e))
    (λ t.
    let e : u ≡ v = (Decides-int_eq u v).0 t in
    and_from (int_le (u -ℤ v) (pos 0)) (int_le (v -ℤ u) (pos 0)) (omega (arith, linear, e)) (omega (arith, linear, e)))

exact_loss : (low high q u v : ℤ) → pos 0 ≤ℤ u → pos 0 ≤ℤ v → nears_loss low high (pos 0) q u v ≡ meets_loss low high (pos 1) q u v
exact_loss low high q u v h k =
    ap (λ (b : Bool). cond (int_lt (pos 0) q) b (cond (int_lt q (pos 0)) (nears_fall low high (pos 0) v u) (is_close (pos 0) u v))) (exact_fall low high u v h)
    ∙ ap (λ (b : Bool). cond (int_lt (pos 0) q) (falls_between low high (pos 1) u v) (cond (int_lt q (pos 0)) b (is_close (pos 0) u v))) (exact_fall low high v u k)
    ∙ ap (λ (b : Bool). cond (int_lt (pos 0) q) (falls_between low high (pos 1) u v) (cond (int_lt q (pos 0)) (falls_between low high (pos 1) v u) b)) (exact_close u v)

exact_form : (form : LawForm) (q u v : ℤ) → pos 0 ≤ℤ u → pos 0 ≤ℤ v → nears_form form (pos 0) q u v ≡ meets_form form (pos 1) q u v
exact_form (Drags law) q u v h k = exact_drag law q u v
exact_form (Loses low high) q u v h k = exact_loss low high q u v h k
exact_form Equals q u v h k = refl
exact_form Shuts q u v h k = refl
exact_form (Reduces in_min out_max red_min red_max) q u v h k = refl
exact_form (Raises in_min out_max num den rise) q u v h k = refl
exact_form Never q u v h k = refl

-- ---- squares that keep their bounds are at least 0
kept_square : (node : NodeRow) (s : ℤ) → IsTrue (keeps_square node (pos 1) s) → pos 0 ≤ℤ s
kept_square node s t =
    let low = (and_parts (int_le (pos 1 *ℤ square node.p_min) s) (int_le s (pos 1 *ℤ square node.p_max)) t).0 in
    omega (arith, linear, low, one_mul (square node.p_min), square_nonneg node.p_min)

-- the number at a place that is none is 0
number_or_none : (numbers : List ℤ) (nodes : List NodeRow) (n : ℕ) → length numbers ≡ length nodes → ((node : NodeRow) → slice_get nodes n ≡ Some node → IsTrue (keeps_square node (pos 1) (number_at numbers n))) → pos 0 ≤ℤ number_at numbers n
number_or_none numbers nodes n e h = by (slice_get nodes n) refl
  where
    past : (xs : List ℤ) (ys : List NodeRow) (i : ℕ) → length xs ≡ length ys → slice_get ys i ≡ None → number_at xs i ≡ pos 0
    past [] ys i e none = refl
    past (x ∷ xs) [] i e none = absurd (omega (arith, e))
    past (x ∷ xs) (y ∷ ys) zero e none = absurd cc
    past (x ∷ xs) (y ∷ ys) (suc i) e none = past xs ys i (omega (arith, e)) none

    by : (o : Option NodeRow) → slice_get nodes n ≡ o → pos 0 ≤ℤ number_at numbers n
    by None at = let zero_there = past numbers nodes n e at in omega (arith, linear, zero_there)
    by (Some node) at = kept_square node (number_at numbers n) (h node at)

record Squares (p : Network) (s : Setting) : Type 0 where
  at : (n : ℕ) → pos 0 ≤ℤ number_at s.squares n

squares_of : (p : Network) (s : Setting) → HasNumbers p s → ((n : ℕ) (node : NodeRow) → slice_get p.nodes n ≡ Some node → IsTrue (keeps_square node (pos 1) (number_at s.squares n))) → Squares p s
squares_of p s numbers kept = record { at = λ n. number_or_none s.squares p.nodes n numbers.squares (λ node e. kept n node e) }

exact_arc : (p : Network) (s : Setting) (a : ℕ) (row : ArcRow) → Squares p s
    → nears_arc row (state_at s.states a) (pos 0) (number_at s.flows a) (number_at s.squares) ≡ meets_arc row (state_at s.states a) (pos 1) (number_at s.flows a) (number_at s.squares)
exact_arc p s a row h =
    exact_form (form_of row.kind (state_at s.states a)) (number_at s.flows a) (number_at s.squares row.from) (number_at s.squares row.to) (h.at row.from) (h.at row.to)

pub near_without_tolerance : NearWithoutTolerance
near_without_tolerance p s = (forth, back)
  where
    forth : IsNear p (pos 0) s → MeetsExactly p s
    forth n = record {
      listed = n.listed;
      numbers = n.numbers;
      meets = record {
        flows = n.flows;
        squares = n.squares;
        balances = n.balances;
        laws = λ a row e. sym (exact_arc p s a row (squares_of p s n.numbers n.squares)) ∙ n.laws a row e;
      };
    }

    back : MeetsExactly p s → IsNear p (pos 0) s
    back m = record {
      listed = m.listed;
      numbers = m.numbers;
      flows = m.meets.flows;
      squares = m.meets.squares;
      balances = m.meets.balances;
      laws = λ a row e. exact_arc p s a row (squares_of p s m.numbers m.meets.squares) ∙ m.meets.laws a row e;
    }
