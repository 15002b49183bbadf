-- The order of the text, and the lines from a box on.
use Rattle.std.proofs.Common.{◌≡◌, ℕ, zero, suc, ◌+◌, ◌<◌, ◌≤◌, Bool, true, false, cond, List, [], ◌∷◌, ◌++◌, length, Option, Some, None, refl, sym, ◌∙◌, arith}
use Rattle.std.specs.Prelude.{slice_get}
use Rattle.std.specs.Ordering.{nat_cmp, MatchOrdering}
use Rattle.std.specs.Cmp.{nat_cmp_is}
use Rattle.std.specs.declared.cmp.Ordering.{Ordering}
use Rattle.std.specs.declared.cmp.Ordering.TheVariants.{Less, Equal, Greater}
use Rattle.tree_pool.specs.Rows.{Row, total}
use Rattle.tree_pool.specs.Lines.{own_lines, all_lines, from_root, pick, is_before, lines_from, lines_from_row, ahead}
use Rattle.tree_pool.proofs.Paths.{numbers}

cmp_self : (i : ℕ) → nat_cmp i i ≡ Equal
cmp_self i = sym (nat_cmp_is i i Equal refl)

cmp_less : (i j : ℕ) → i < j → nat_cmp i j ≡ Less
cmp_less i j lt = sym (nat_cmp_is i j Less lt)

trans_by : (i j k : ℕ) (a b : Ordering) → nat_cmp i j ≡ a → nat_cmp j k ≡ b → (x y z : Bool) → (x ≡ true → y ≡ true → z ≡ true) → pick a x ≡ true → pick b y ≡ true → pick (nat_cmp i k) z ≡ true
trans_by i j k Less Less e f x y z ih p q = let a = numbers i j Less e in let b = numbers j k Less f in let c = cmp_less i k (omega arith) in rw c refl
trans_by i j k Less Equal e f x y z ih p q = let a = numbers i j Less e in let b = numbers j k Equal f in let c = cmp_less i k (omega arith) in rw c refl
trans_by i j k Equal Less e f x y z ih p q = let a = numbers i j Equal e in let b = numbers j k Less f in let c = cmp_less i k (omega arith) in rw c refl
trans_by i j k Equal Equal e f x y z ih p q = let a = numbers i j Equal e in let b = numbers j k Equal f in let c : i ≡ k = a ∙ b in let d = cmp_self k in rw (c, d) (ih p q)
trans_by i j k Greater b e f x y z ih p q = absurd cc
trans_by i j k a Greater e f x y z ih p q = absurd cc

pub before_trans : (p q r : List ℕ) → is_before p q ≡ true → is_before q r ≡ true → is_before p r ≡ true
before_trans [] [] r h g = absurd cc
before_trans [] (j ∷ q) [] h g = absurd cc
before_trans [] (j ∷ q) (k ∷ r) h g = refl
before_trans (i ∷ p) [] r h g = absurd cc
before_trans (i ∷ p) (j ∷ q) [] h g = absurd cc
before_trans (i ∷ p) (j ∷ q) (k ∷ r) h g = trans_by i j k (nat_cmp i j) (nat_cmp j k) refl refl (is_before p q) (is_before q r) (is_before p r) (before_trans p q r) h g

pub not_before : (p : List ℕ) → is_before p p ≡ false
not_before [] = refl
not_before (i ∷ p) = let e = cmp_self i in rw e (not_before p)

-- what two paths share from the root on
shared : (p xs ys : List ℕ) → is_before (from_root p xs) (from_root p ys) ≡ is_before xs ys
shared [] xs ys = refl
shared (k ∷ p) xs ys = shared p (k ∷ xs) (k ∷ ys) ∙ (let e = cmp_self k in rw e refl)

from_root-append : (s p xs : List ℕ) → from_root (s ++ p) xs ≡ from_root p (from_root s xs)
from_root-append [] p xs = refl
from_root-append (k ∷ s) p xs = from_root-append s p (k ∷ xs)

-- a box comes before its children
pub before_child : (p : List ℕ) (k : ℕ) → is_before (from_root p []) (from_root (k ∷ p) []) ≡ true
before_child p k = shared p [] (k ∷ [])

-- and before the next child of a box that it stands below
pub before_sibling : (s p : List ℕ) (k : ℕ) → is_before (from_root (s ++ k ∷ p) []) (from_root (suc k ∷ p) []) ≡ true
before_sibling s p k =
    let e = from_root-append s (k ∷ p) [] in
    let f = cmp_less k (suc k) (omega arith) in
    rw e (shared p (k ∷ from_root s []) (suc k ∷ []) ∙ rw f refl)

-- ---- the lines from a box on

-- the lines of a row that doesn't come before
abbrev late : List ℕ → Row → ℕ
late p r = cond (is_before (from_root r.path []) p) 0 (length (own_lines r))

fewer_by : (b c : Bool) (n : ℕ) → (c ≡ true → b ≡ true) → cond b 0 n ≤ cond c 0 n
fewer_by true c n h = omega arith
fewer_by false true n h = absurd (let e = h refl in cc)
fewer_by false false n h = omega arith

fewer : (p q : List ℕ) → is_before p q ≡ true → (r : Row) → late q r ≤ late p r
fewer p q less r = fewer_by (is_before (from_root r.path []) q) (is_before (from_root r.path []) p) (length (own_lines r)) (λ e. before_trans (from_root r.path []) p q e less)

all_fewer : (p q : List ℕ) → is_before p q ≡ true → (rows : List Row) → total (late q) rows ≤ total (late p) rows
all_fewer p q less [] = omega arith
all_fewer p q less (r ∷ rows) = let a = fewer p q less r in let b = all_fewer p q less rows in omega arith

late_self : (r : Row) → late (from_root r.path []) r ≡ length (own_lines r)
late_self r = let e = not_before (from_root r.path []) in rw e refl

late_none : (q : List ℕ) (r : Row) → is_before (from_root r.path []) q ≡ true → late q r ≡ 0
late_none q r e = rw e refl

-- a box and those from a later one on are lines from it on
nearer : (q : List ℕ) (rows : List Row) (n : ℕ) (r : Row) → slice_get rows n ≡ Some r → is_before (from_root r.path []) q ≡ true → total (late q) rows + length (own_lines r) ≤ total (late (from_root r.path [])) rows
nearer q [] n r here less = absurd cc
nearer q (x ∷ rows) zero r here less =
    let same : x ≡ r = cc in
    let a = late_self r in
    let b = late_none q r less in
    let c = all_fewer (from_root r.path []) q less rows in
    rw same (omega arith)
nearer q (x ∷ rows) (suc n) r here less =
    let a = fewer (from_root r.path []) q less x in
    let b = nearer q rows n r here less in
    omega arith

-- a box's own lines are lines from it on
at_least : (rows : List Row) (n : ℕ) (r : Row) (p : List ℕ) → slice_get rows n ≡ Some r → from_root r.path [] ≡ p → length (own_lines r) ≤ total (late p) rows
at_least [] n r p here e = absurd cc
at_least (x ∷ rows) zero r p here e = let same : x ≡ r = cc in let a = late_self r in rw (same, ← e) (omega arith)
at_least (x ∷ rows) (suc n) r p here e = let a = at_least rows n r p here e in omega arith

late_small : (p : List ℕ) (r : Row) → late p r ≤ length (own_lines r)
late_small p r = small (is_before (from_root r.path []) p) (length (own_lines r))
  where
    small : (b : Bool) (n : ℕ) → cond b 0 n ≤ n
    small true n = omega arith
    small false n = omega arith

-- and there are no more than all
pub lines_few : (p : List ℕ) (rows : List Row) → total (late p) rows ≤ all_lines rows
lines_few p [] = omega arith
lines_few p (r ∷ rows) = let a = late_small p r in let b = lines_few p rows in omega arith

pub ahead_at : (rows : List Row) (n : ℕ) (r : Row) → slice_get rows n ≡ Some r → ahead rows (Some n) ≡ lines_from rows r.path
ahead_at rows n r here = rw here refl

pub ahead_few : (rows : List Row) (o : Option ℕ) → ahead rows o ≤ all_lines rows
ahead_few rows None = omega arith
ahead_few rows (Some n) = few (slice_get rows n)
  where
    few : (o : Option Row) → lines_from_row rows o ≤ all_lines rows
    few None = omega arith
    few (Some r) = lines_few (from_root r.path []) rows

pub lines_nearer : (rows : List Row) (n : ℕ) (r : Row) (path : List ℕ) → slice_get rows n ≡ Some r → is_before (from_root r.path []) (from_root path []) ≡ true → lines_from rows path + length (own_lines r) ≤ lines_from rows r.path
lines_nearer rows n r path here less = nearer (from_root path []) rows n r here less

pub lines_at_least : (rows : List Row) (n : ℕ) (r : Row) → slice_get rows n ≡ Some r → length (own_lines r) ≤ lines_from rows r.path
lines_at_least rows n r here = at_least rows n r (from_root r.path []) here refl
