-- Lists with one item changed, or with more at the end; mapped lists and equal items; paths; looking up by path.
use Rattle.std.proofs.Common.{◌≡◌, ◌≢◌, ℕ, zero, suc, ◌+◌, ◌<◌, Bool, true, false, cond, ◌&&◌, List, [], ◌∷◌, ◌++◌, length, map, Option, Some, None, refl, ap, subst, ◌∙◌, ◌⊎◌, inl, inr, eqb-true, eq-eqb, arith}
use Rattle.std.specs.Prelude.{slice_get, slice_set, replicate, ◌==◌}
use Rattle.tree_pool.specs.Path.{same}
use Rattle.tree_cert.specs.declared.line.Head.{Head}
use Rattle.tree_pool.specs.Rows.{Row, update, child_rows, row_at}

pub get_updated : {A : Type 0} (xs : List A) (n : ℕ) (f : A → A) (x : A) → slice_get xs n ≡ Some x → slice_get (update xs n f) n ≡ Some (f x)
get_updated [] n f x h = absurd cc
get_updated (y ∷ xs) zero f x h = let e : y ≡ x = cc in ap (λ (z : _). Some (f z)) e
get_updated (y ∷ xs) (suc n) f x h = get_updated xs n f x h

pub get_other : {A : Type 0} (xs : List A) (n m : ℕ) (f : A → A) → m ≢ n → slice_get (update xs n f) m ≡ slice_get xs m
get_other [] n m f ne = refl
get_other (y ∷ xs) zero zero f ne = absurd (ne refl)
get_other (y ∷ xs) zero (suc m) f ne = refl
get_other (y ∷ xs) (suc n) zero f ne = refl
get_other (y ∷ xs) (suc n) (suc m) f ne = get_other xs n m f (λ e. ne (ap suc e))

-- what stands at a place of the changed list
pub updated_cases : {A : Type 0} (xs : List A) (n m : ℕ) (f : A → A) (y : A) → slice_get (update xs n f) m ≡ Some y
    → ((m ≢ n) × (slice_get xs m ≡ Some y)) ⊎ ((m ≡ n) × ((x : A) × (slice_get xs n ≡ Some x) × (y ≡ f x)))
updated_cases [] n m f y h = absurd cc
updated_cases (x ∷ xs) zero zero f y h = inr (refl, (x, refl, cc))
updated_cases (x ∷ xs) zero (suc m) f y h = inl (λ e. cc, h)
updated_cases (x ∷ xs) (suc n) zero f y h = inl (λ e. cc, h)
updated_cases (x ∷ xs) (suc n) (suc m) f y h =
    elim (updated_cases xs n m f y h) [
      | inl other ↦ inl (λ e. other.0 cc, other.1)
      | inr this ↦ inr (ap suc this.0, this.1)
    ]

pub length-update : {A : Type 0} (xs : List A) (n : ℕ) (f : A → A) → length (update xs n f) ≡ length xs
length-update [] n f = refl
length-update (x ∷ xs) zero f = refl
length-update (x ∷ xs) (suc n) f = ap suc (length-update xs n f)

pub get_left : {A : Type 0} (xs ys : List A) (n : ℕ) (x : A) → slice_get xs n ≡ Some x → slice_get (xs ++ ys) n ≡ Some x
get_left [] ys n x h = absurd cc
get_left (y ∷ xs) ys zero x h = h
get_left (y ∷ xs) ys (suc n) x h = get_left xs ys n x h

pub get_right : {A : Type 0} (xs ys : List A) (k : ℕ) → slice_get (xs ++ ys) (length xs + k) ≡ slice_get ys k
get_right [] ys k = ap (slice_get ys) (omega arith)
get_right (x ∷ xs) ys k =
    let e : length (x ∷ xs) + k ≡ suc (length xs + k) = omega arith in
    rw e (get_right xs ys k)

-- what stands at a place of a list with more at its end
pub appended_cases : {A : Type 0} (xs ys : List A) (n : ℕ) (y : A) → slice_get (xs ++ ys) n ≡ Some y
    → (slice_get xs n ≡ Some y) ⊎ ((k : ℕ) × (n ≡ length xs + k) × (slice_get ys k ≡ Some y))
appended_cases [] ys n y h = inr (n, omega arith, h)
appended_cases (x ∷ xs) ys zero y h = inl h
appended_cases (x ∷ xs) ys (suc n) y h =
    elim (appended_cases xs ys n y h) [
      | inl left ↦ inl left
      | inr right ↦ inr (right.0, (let e = right.1 in omega arith), right.2)
    ]

pub length-child_rows : (path : List ℕ) (k : ℕ) (heads : List Head) → length (child_rows path k heads) ≡ length heads
length-child_rows path k [] = refl
length-child_rows path k (h ∷ heads) = ap suc (length-child_rows path (suc k) heads)

-- something stands at each place of a list, and only one thing
pub there : {A : Type 0} (xs : List A) (k : ℕ) → k < length xs → (x : A) × (slice_get xs k ≡ Some x)
there [] k lt = absurd (omega arith)
there (x ∷ xs) zero lt = (x, refl)
there (x ∷ xs) (suc k) lt = there xs k (omega arith)

pub same_row : {A : Type 0} (xs : List A) (m n : ℕ) (x y : A) → slice_get xs m ≡ Some x → slice_get xs n ≡ Some y → m ≡ n → x ≡ y
same_row xs m n x y h g e = cc

-- what stands at a place of a mapped list
pub from_map : {A B : Type 0} (f : A → B) (xs : List A) (k : ℕ) (y : B) → slice_get (map f xs) k ≡ Some y → (x : A) × (slice_get xs k ≡ Some x) × (f x ≡ y)
from_map f [] k y h = absurd cc
from_map f (x ∷ xs) zero y h = (x, refl, cc)
from_map f (x ∷ xs) (suc k) y h = from_map f xs k y h

pub to_map : {A B : Type 0} (f : A → B) (xs : List A) (k : ℕ) (x : A) → slice_get xs k ≡ Some x → slice_get (map f xs) k ≡ Some (f x)
to_map f [] k x at = absurd cc
to_map f (y ∷ ys) zero x at = let e : y ≡ x = cc in ap (λ z. Some (f z)) e
to_map f (y ∷ ys) (suc k) x at = to_map f ys k x at

-- each of so many equal items
pub get_replicate : {A : Type 0} (n : ℕ) (x : A) (k : ℕ) → k < n → slice_get (replicate n x) k ≡ Some x
get_replicate zero x k lt = absurd (omega arith)
get_replicate (suc n) x zero lt = refl
get_replicate (suc n) x (suc k) lt = get_replicate n x k (omega arith)

-- a list with one item put in the place of another
pub set_cases : {A : Type 0} (xs : List A) (n m : ℕ) (x y : A) → slice_get (slice_set xs n x) m ≡ Some y → ((m ≡ n) × (x ≡ y)) ⊎ (slice_get xs m ≡ Some y)
set_cases [] n m x y h = absurd cc
set_cases (z ∷ xs) zero zero x y h = inl (refl, cc)
set_cases (z ∷ xs) zero (suc m) x y h = inr h
set_cases (z ∷ xs) (suc n) zero x y h = inr h
set_cases (z ∷ xs) (suc n) (suc m) x y h = elim (set_cases xs n m x y h) [ inl e ↦ inl (ap suc e.0, e.1) | inr e ↦ inr e ]

pub set_other : {A : Type 0} (xs : List A) (n m : ℕ) (x y : A) → m ≢ n → slice_get xs m ≡ Some y → slice_get (slice_set xs n x) m ≡ Some y
set_other [] n m x y ne h = absurd cc
set_other (z ∷ xs) zero zero x y ne h = absurd (ne refl)
set_other (z ∷ xs) zero (suc m) x y ne h = h
set_other (z ∷ xs) (suc n) zero x y ne h = h
set_other (z ∷ xs) (suc n) (suc m) x y ne h = set_other xs n m x y (λ e. ne (ap suc e)) h

pub set_some : {A : Type 0} (xs : List (Option A)) (n m : ℕ) (y : A) → slice_get (slice_set xs n None) m ≡ Some (Some y) → slice_get xs m ≡ Some (Some y)
set_some [] n m y h = absurd cc
set_some (z ∷ xs) zero zero y h = absurd cc
set_some (z ∷ xs) zero (suc m) y h = h
set_some (z ∷ xs) (suc n) zero y h = h
set_some (z ∷ xs) (suc n) (suc m) y h = set_some xs n m y h

pub same_self : (p : List ℕ) → same p p ≡ true
same_self [] = refl
same_self (i ∷ p) = let e = same_self p in let f : (i == i) ≡ true = eq-eqb i i refl in rw (e, f) refl

paths_by : (i j : ℕ) (p q : List ℕ) (a b : Bool) → same p q ≡ a → (i == j) ≡ b → (same p q ≡ true → p ≡ q) → (a && b) ≡ true → i ∷ p ≡ j ∷ q
paths_by i j p q true true x y k h = ap (λ (n : ℕ). n ∷ p) (eqb-true i j y) ∙ ap (λ (n : List ℕ). j ∷ n) (k x)
paths_by i j p q true false x y k h = absurd cc
paths_by i j p q false b x y k h = absurd cc

pub same_paths : (p q : List ℕ) → same p q ≡ true → p ≡ q
same_paths [] [] h = refl
same_paths [] (j ∷ q) h = absurd cc
same_paths (i ∷ p) [] h = absurd cc
same_paths (i ∷ p) (j ∷ q) h = paths_by i j p q (same p q) (i == j) refl refl (same_paths p q) h

found_by : (x r : Row) (rows : List Row) (b : Bool) → same x.path r.path ≡ b → (same x.path r.path ≡ true → ⊥) → row_at rows r.path ≡ Some r → cond b (Some x) (row_at rows r.path) ≡ Some r
found_by x r rows true e n k = absurd (n e)
found_by x r rows false e n k = k

-- a row is found by its path, where no other has it
pub found : (rows : List Row) (n : ℕ) (r : Row) → slice_get rows n ≡ Some r
    → ((m : ℕ) (q : Row) → slice_get rows m ≡ Some q → same q.path r.path ≡ true → m ≡ n) → row_at rows r.path ≡ Some r
found [] n r h only = absurd cc
found (x ∷ rows) zero r h only = let e : x ≡ r = cc in rw (e, same_self r.path) refl
found (x ∷ rows) (suc n) r h only =
    found_by x r rows (same x.path r.path) refl (λ e. let z : 0 ≡ suc n = only 0 x refl e in cc)
    (found rows n r h (λ m q g k. let z : suc m ≡ suc n = only (suc m) q g k in cc))

stands_by : (x r : Row) (rows : List Row) (path : List ℕ) (b : Bool) → same x.path path ≡ b
    → (row_at rows path ≡ Some r → (n : ℕ) × (slice_get rows n ≡ Some r) × (r.path ≡ path))
    → cond b (Some x) (row_at rows path) ≡ Some r → (n : ℕ) × (slice_get (x ∷ rows) n ≡ Some r) × (r.path ≡ path)
stands_by x r rows path true e k h = let f : x ≡ r = cc in (0, ap Some f, subst (λ (y : Row). y.path ≡ path) f (same_paths x.path path e))
stands_by x r rows path false e k h = let z = k h in (suc z.0, z.1, z.2)

-- a row that is found stands somewhere
pub stands : (rows : List Row) (path : List ℕ) (r : Row) → row_at rows path ≡ Some r → (n : ℕ) × (slice_get rows n ≡ Some r) × (r.path ≡ path)
stands [] path r h = absurd cc
stands (x ∷ rows) path r h = stands_by x r rows path (same x.path path) refl (stands rows path r) h
