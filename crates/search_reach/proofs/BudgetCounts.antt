-- All halvings together are those of each variable; how often a width can be halved.
use Rattle.std.proofs.Common.{◌≡◌, ℕ, zero, suc, ◌+◌, ◌^◌, ◌<◌, ◌≤◌, refl, ap, subst, inl, inr, arith, ℤ, pos, negsuc, ◌≤ℤ◌, Bool, true, false, List, [], ◌∷◌, map, length}
use Rattle.std.specs.Prelude.{sum_by, nat_le, if◌then◌else◌}
use Rattle.std.specs.List.{range_with_len}
use Rattle.std.proofs.Math.Nat.{pow-suc}
use Rattle.std.proofs.lemmas.Bool.Decides.{nat_tests}
use Rattle.std.proofs.lemmas.Int.{ints}
use Rattle.std.proofs.lemmas.List.Sums.{sum_by-cons}
use borrow.Author.Tests.{ltb-true}
use Rattle.integer_laws.proofs.Ring.{linear}
use Rattle.base_types.specs.declared.variables.Var.{Var}
use Rattle.base_types.specs.declared.variables.Var.TheVariants.{Flow, Square}
use Rattle.gas_model.specs.Rows.{Network}
use Rattle.gas_model.specs.Boxes.{Bounds, BoxFits, is_in_box}
use Rattle.std.specs.Prelude.{IsTrue}
use Rattle.tree_cert.specs.declared.line.Head.{Head}
use Rattle.tree_cert.specs.declared.line.Head.TheVariants.{Take, State, Half}
use Rattle.search_reach.specs.Budgets.{least_from, doublings, variables}
use Rattle.search_reach.specs.Widths.{is_half, halves}
use Rattle.search_reach.proofs.WidthEnds.{var_self}
use Rattle.search_reach.proofs.WidthHalves.{count, count_this}
use Rattle.search_reach.proofs.WidthTurns.{more_halves}
use Rattle.search_order.proofs.Members.{Member, member_left, member_right}

-- ---- sums
pub sum_less : {A : Type 0} (f g : A → ℕ) (xs : List A) → ((x : A) → f x ≤ g x) → sum_by f xs ≤ sum_by g xs
sum_less f g [] h = omega arith
sum_less f g (x ∷ xs) h =
    let a = h x in
    let r = sum_less f g xs h in
    omega (arith, a, r, sum_by-cons f x xs, sum_by-cons g x xs)

sum_one : {A : Type 0} (f g : A → ℕ) (y : A) (xs : List A) → Member y xs → ((x : A) → f x ≤ g x) → suc (f y) ≤ g y → suc (sum_by f xs) ≤ sum_by g xs
sum_one f g y [] m h one = absurd m
sum_one f g y (x ∷ xs) m h one =
    let c = sum_by-cons f x xs in
    let d = sum_by-cons g x xs in
    elim m [
      | inl e ↦
          let here : suc (f x) ≤ g x = subst (λ z. suc (f z) ≤ g z) e one in
          let r = sum_less f g xs h in
          omega (arith, here, r, c, d)
      | inr k ↦
          let a = h x in
          let r = sum_one f g y xs k h one in
          omega (arith, a, r, c, d)
    ]

-- ---- halvings
-- the variable of a half is one of these
abbrev pub IsOneOf : List Var → Head → Type 0
IsOneOf vs (Take k j) = Unit {0}
IsOneOf vs (State a s) = Unit {0}
IsOneOf vs (Half w low C) = Member w vs

abbrev pub AreOf : List Var → List Head → Type 0
AreOf vs [] = Unit {0}
AreOf vs (h ∷ hs) = IsOneOf vs h × AreOf vs hs

no_fewer : (h : Head) (hs : List Head) (vs : List Var) → sum_by (λ v. count (halves v) hs) vs ≤ sum_by (λ v. count (halves v) (h ∷ hs)) vs
no_fewer h hs vs = sum_less (λ v. count (halves v) hs) (λ v. count (halves v) (h ∷ hs)) vs (λ v. more_halves v h hs)

one_added : (h : Head) (hs : List Head) (vs : List Var) → IsOneOf vs h → count is_half hs ≤ sum_by (λ v. count (halves v) hs) vs → count is_half (h ∷ hs) ≤ sum_by (λ v. count (halves v) (h ∷ hs)) vs
one_added (Take k j) hs vs one rest = let n = no_fewer (Take k j) hs vs in omega arith
one_added (State a s) hs vs one rest = let n = no_fewer (State a s) hs vs in omega arith
one_added (Half w low C) hs vs one rest =
    let e = count_this (halves w) (Half w low C) hs (var_self w) in
    let n = sum_one (λ v. count (halves v) hs) (λ v. count (halves v) (Half w low C ∷ hs)) w vs one (λ v. more_halves v (Half w low C) hs) (omega (arith, e)) in
    omega arith

-- where each halved variable is one of the list, all halvings are those of its variables
pub halvings_add : (hs : List Head) (vs : List Var) → AreOf vs hs → count is_half hs ≤ sum_by (λ v. count (halves v) hs) vs
halvings_add [] vs are = omega arith
halvings_add (h ∷ hs) vs are = one_added h hs vs are.0 (halvings_add hs vs are.1)

-- ---- the variables of a problem
in_range : (a n i : ℕ) → i < n → Member (a + i) (range_with_len a n)
in_range a zero i lt = absurd (omega arith)
in_range a (suc n) zero lt = inl (omega arith)
in_range a (suc n) (suc i) lt =
    let e : a + 1 + i ≡ a + suc i = omega arith in
    inr (subst (λ (k : ℕ). Member k (range_with_len (a + 1) n)) e (in_range (a + 1) n i (omega arith)))

in_map : {A B : Type 0} (f : A → B) (x : A) (xs : List A) → Member x xs → Member (f x) (map f xs)
in_map f x [] h = absurd h
in_map f x (y ∷ xs) h = elim h [ inl e ↦ inl (ap f e) | inr m ↦ inr (in_map f x xs m) ]

numbered : {A : Type 0} (f : ℕ → A) (n i : ℕ) → i < n → Member (f i) (map f (range_with_len 0 n))
numbered f n i lt =
    let e : 0 + i ≡ i = omega arith in
    in_map f i (range_with_len 0 n) (subst (λ (k : ℕ). Member k (range_with_len 0 n)) e (in_range 0 n i lt))

pub is_variable : (p : Network) (b : Bounds) (v : Var) → BoxFits p b → IsTrue (is_in_box b v) → Member v (variables p)
is_variable p b (Flow a) fits is =
    let lt = ltb-true a _ is in
    let e = fits.flows in
    member_left (Flow a) (map Flow (range_with_len 0 (length p.arcs))) (map Square (range_with_len 0 (length p.nodes))) (numbered Flow (length p.arcs) a (omega arith))
is_variable p b (Square n) fits is =
    let lt = ltb-true n _ is in
    let e = fits.squares in
    member_right (Square n) (map Flow (range_with_len 0 (length p.arcs))) (map Square (range_with_len 0 (length p.nodes))) (numbered Square (length p.nodes) n (omega arith))

-- ---- doublings
below_power : (m : ℕ) → m < 2 ^ m
below_power zero = omega arith
below_power (suc m) = omega (arith, below_power m, pow-suc 2 m)

least_enough : (count m w : ℕ) → w ≤ m + count → w ≤ 2 ^ least_from count m w
least_enough zero m w le = omega (arith, below_power m)
least_enough (suc count) m w le = by (nat_le w (2 ^ m)) refl (least_enough count (m + 1) w (omega arith))
  where
    by : (t : Bool) → nat_le w (2 ^ m) ≡ t → w ≤ 2 ^ least_from count (m + 1) w → w ≤ 2 ^ (if t then m else least_from count (m + 1) w)
    by true e rest = grind (arith, nat_tests)
    by false e rest = rest

pub wide_enough : (w : ℤ) → w ≤ℤ pos (2 ^ doublings w)
wide_enough (pos w) = let le = least_enough w 0 w (omega arith) in omega (arith, linear)
wide_enough (negsuc w) = omega (arith, ints)
