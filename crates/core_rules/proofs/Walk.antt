-- A tree that passes in one problem leaves no point of another that is the same in what the tree cites.
use Rattle.std.proofs.Common.{◌≡◌, ◌⊎◌, ℕ, inl, inr, ◌<◌, refl, sym, ap, ◌∙◌, arith, ℤ, Bool, true, false, cond, not, ◌&&◌, ◌||◌, ◌==◌, IsTrue, List, [], ◌∷◌, ◌++◌, length, slice_index_or, slice_set, get_or-set_same, get_or-set_other}
use Rattle.std.proofs.lemmas.Bool.{cases_eq}
use Rattle.std.proofs.lemmas.Bool.Decides.{nat_tests}
use Rattle.gas_model.specs.declared.rows.Ends.{Ends}
use Rattle.base_types.specs.declared.variables.Var.{Var}
use Rattle.base_types.specs.declared.variables.Var.TheVariants.{Flow, Square}
use Rattle.gas_model.specs.Boxes.{Bounds, no_ends, ends_of, is_in_box, with_end, with_ends, tightened}
use Rattle.tree_rules.specs.Branches.{same_var, same_end}
use Rattle.tree_rules.proofs.SameVars.{var_is, var_self}
use Rattle.core_rules.specs.Reads.{Item, Supply, Law, End}
use Rattle.core_rules.specs.Cores.{same_item, is_among, unset, end_at, Each}

-- ---- items among others
pub or_first : (t s : Bool) → IsTrue t → IsTrue (t || s)
or_first true s h = refl
or_first false s h = absurd cc

pub or_second : (t s : Bool) → IsTrue s → IsTrue (t || s)
or_second true s h = refl
or_second false s h = h

pub either_of : (t s : Bool) → IsTrue (t || s) → IsTrue t ⊎ IsTrue s
either_of true s h = inl refl
either_of false s h = inr h

pub among_left : (i : Item) (xs ys : List Item) → IsTrue (is_among i xs) → IsTrue (is_among i (xs ++ ys))
among_left i [] ys h = absurd cc
among_left i (x ∷ xs) ys h =
    elim (either_of (same_item i x) (is_among i xs) h) [
      | inl here ↦ or_first (same_item i x) (is_among i (xs ++ ys)) here
      | inr later ↦ or_second (same_item i x) (is_among i (xs ++ ys)) (among_left i xs ys later)
    ]

pub among_right : (i : Item) (xs ys : List Item) → IsTrue (is_among i ys) → IsTrue (is_among i (xs ++ ys))
among_right i [] ys h = h
among_right i (x ∷ xs) ys h = or_second (same_item i x) (is_among i (xs ++ ys)) (among_right i xs ys h)

same_number : (n : ℕ) → IsTrue (n == n)
same_number n = grind (arith, nat_tests)

end_itself : (low : Bool) → IsTrue (same_end low low)
end_itself true = refl
end_itself false = refl

both_hold : (t s : Bool) → IsTrue t → IsTrue s → IsTrue (t && s)
both_hold true s h k = k
both_hold false s h k = absurd cc

item_itself : (i : Item) → IsTrue (same_item i i)
item_itself (Supply n low) = both_hold (n == n) (same_end low low) (same_number n) (end_itself low)
item_itself (Law a) = same_number a
item_itself (End v low) = both_hold (same_var v v) (same_end low low) (var_self v) (end_itself low)

-- what a line reads was set above or is cited
reads_either : (P : Item → Type 0) (set : List Item) (i : Item) (rest : List Item) (t : Bool) → is_among i set ≡ t → (IsTrue (is_among i set) → P i) → ((j : Item) → IsTrue (is_among j (cond (not t) (i ∷ rest) rest)) → P j) → P i × ((j : Item) → IsTrue (is_among j rest) → P j)
reads_either P set i rest true is s h = (s is, h)
reads_either P set i rest false is s h = (h i (or_first (same_item i i) (is_among i rest) (item_itself i)), λ j k. h j (or_second (same_item j i) (is_among j rest) k))

pub each_read : (P : Item → Type 0) (set reads : List Item) → ((i : Item) → IsTrue (is_among i set) → P i) → ((i : Item) → IsTrue (is_among i (unset set reads)) → P i) → Each P reads
each_read P set [] s h = tt
each_read P set (i ∷ reads) s h =
    let r = reads_either P set i (unset set reads) (is_among i set) refl (s i) h in
    (r.0, each_read P set reads s r.1)

-- ---- an end after a step or a head
listed_after : (es : List Ends) (a i : ℕ) (e : Ends) → a < length es → slice_index_or (slice_set es a e) i no_ends ≡ cond (i == a) e (slice_index_or es i no_ends)
listed_after es a i e l =
    elim (cases_eq i a) [
      | inl same ↦
          let t : (i == a) ≡ true = grind (arith, nat_tests) in
          ap (λ (j : ℕ). slice_index_or (slice_set es a e) j no_ends) same ∙ get_or-set_same es a e no_ends l ∙ sym (ap (λ t. cond t e (slice_index_or es i no_ends)) t)
      | inr apart ↦
          let t : (i == a) ≡ false = grind (arith, nat_tests) in
          get_or-set_other es a i e no_ends apart ∙ sym (ap (λ t. cond t e (slice_index_or es i no_ends)) t)
    ]

-- the ends of each variable after one of them got other ends
pub ends_after : (b : Bounds) (v w : Var) (e : Ends) → IsTrue (is_in_box b v) → ends_of (with_ends b v e) w ≡ cond (same_var w v) e (ends_of b w)
ends_after b (Flow a) (Flow i) e h = listed_after b.flows a i e (let l : a < length b.flows = grind (arith, nat_tests) in l)
ends_after b (Square n) (Square m) e h = listed_after b.squares n m e (let l : n < length b.squares = grind (arith, nat_tests) in l)
ends_after b (Flow a) (Square m) e h = refl
ends_after b (Square n) (Flow i) e h = refl

-- one of two ends
abbrev side : Ends → Bool → ℤ
side e true = e.lo
side e false = e.hi

side_is : (b : Bounds) (v : Var) (low : Bool) → end_at b v low ≡ side (ends_of b v) low
side_is b v true = refl
side_is b v false = refl

side_after : (e : Ends) (low end : Bool) (C : ℤ) → side (with_end low C e) end ≡ cond (same_end end low) C (side e end)
side_after e true true C = refl
side_after e true false C = refl
side_after e false true C = refl
side_after e false false C = refl

chosen : (t s : Bool) (e f : Ends) (end low : Bool) (C : ℤ) → (IsTrue t → e ≡ f) → side (with_end low C e) end ≡ cond s C (side e end) → side (cond t (with_end low C e) f) end ≡ cond (t && s) C (side f end)
chosen true s e f end low C h k = k ∙ ap (λ z. cond s C (side z end)) (h refl)
chosen false s e f end low C h k = refl

end_after : (b : Bounds) (v w : Var) (low end : Bool) (C : ℤ) → IsTrue (is_in_box b v) → end_at (tightened b v low C) w end ≡ cond (same_var w v && same_end end low) C (end_at b w end)
end_after b v w low end C h =
    side_is (tightened b v low C) w end
    ∙ ap (λ e. side e end) (ends_after b v w (with_end low C (ends_of b v)) h)
    ∙ chosen (same_var w v) (same_end end low) (ends_of b v) (ends_of b w) end low C (λ t. ap (ends_of b) (sym (var_is w v t))) (side_after (ends_of b v) low end C)
    ∙ ap (λ z. cond (same_var w v && same_end end low) C z) (sym (side_is b w end))

by_choice : (t : Bool) (C x y : ℤ) → IsTrue t ⊎ (x ≡ y) → cond t C x ≡ cond t C y
by_choice true C x y h = refl
by_choice false C x y (inl h) = absurd cc
by_choice false C x y (inr h) = h

-- an end that was set to the same, or was the same before
pub still_same : (b b2 : Bounds) (v w : Var) (low end : Bool) (C : ℤ) → IsTrue (is_in_box b v) → IsTrue (is_in_box b2 v) → IsTrue (same_item (End w end) (End v low)) ⊎ (end_at b w end ≡ end_at b2 w end)
    → end_at (tightened b v low C) w end ≡ end_at (tightened b2 v low C) w end
still_same b b2 v w low end C i j h =
    end_after b v w low end C i ∙ by_choice (same_var w v && same_end end low) C (end_at b w end) (end_at b2 w end) h ∙ sym (end_after b2 v w low end C j)
