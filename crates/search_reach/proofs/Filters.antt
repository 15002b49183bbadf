-- Filters keep no more than a list has, and stricter ones no more than others.
use Rattle.std.proofs.Common.{◌≡◌, suc, ◌≤◌, Bool, true, false, cond, List, [], ◌∷◌, filter, length, refl, arith}

-- a stricter test keeps no more
one_fewer : {A : Type 0} (x : A) (xs ys : List A) (a b : Bool) → (a ≡ true → b ≡ true) → length xs ≤ length ys → length (cond a (x ∷ xs) xs) ≤ length (cond b (x ∷ ys) ys)
one_fewer x xs ys true true h le = omega arith
one_fewer x xs ys true false h le = absurd (let e : false ≡ true = h refl in cc)
one_fewer x xs ys false true h le = omega arith
one_fewer x xs ys false false h le = le

pub fewer : {A : Type 0} (s t : A → Bool) (xs : List A) → ((x : A) → s x ≡ true → t x ≡ true) → length (filter s xs) ≤ length (filter t xs)
fewer s t [] h = omega arith
fewer s t (x ∷ xs) h = one_fewer x (filter s xs) (filter t xs) (s x) (t x) (h x) (fewer s t xs h)

one_short : {A : Type 0} (x : A) (xs ys : List A) (b : Bool) → length xs ≤ length ys → length (cond b (x ∷ xs) xs) ≤ suc (length ys)
one_short x xs ys true h = omega arith
one_short x xs ys false h = omega arith
