-- Sums over rows, when one changes and when more come.
use Rattle.std.proofs.Common.{◌≡◌, ℕ, zero, suc, ◌+◌, ◌*◌, ◌≤◌, Bool, true, false, List, [], ◌∷◌, ◌++◌, length, Some, refl, ap, arith, length-append}
use Rattle.std.specs.Prelude.{slice_get}
use Rattle.tree_cert.specs.declared.line.Step.{Step}
use Rattle.tree_cert.specs.declared.line.Head.{Head}
use Rattle.tree_cert.specs.Tree.{Branch}
use Rattle.tree_pool.specs.Rows.{Standing, Waiting, Held, Quit, Shuts, Splits, Row, one, total, is_split, splits, update, fill, stand, child_rows, after, NotSplit}
use Rattle.tree_pool.specs.Shown.{end_of}
use Rattle.tree_pool.specs.Lines.{head_lines, step_lines, end_line, own_lines, all_lines}

pub total_update : (g : Row → ℕ) (rows : List Row) (n : ℕ) (r : Row) (f : Row → Row) → slice_get rows n ≡ Some r → total g (update rows n f) + g r ≡ total g rows + g (f r)
total_update g [] n r f h = absurd cc
total_update g (x ∷ rows) zero r f h = let e : x ≡ r = cc in rw e (omega arith)
total_update g (x ∷ rows) (suc n) r f h = let e = total_update g rows n r f h in omega arith

pub total_append : (g : Row → ℕ) (xs ys : List Row) → total g (xs ++ ys) ≡ total g xs + total g ys
total_append g [] ys = omega arith
total_append g (x ∷ xs) ys = let e = total_append g xs ys in omega arith

length-steps : (xs : List Step) → length (step_lines xs) ≡ length xs
length-steps [] = refl
length-steps (x ∷ xs) = ap suc (length-steps xs)

-- a box has its head, its steps and its end
pub row_size : (r : Row) → length (own_lines r) ≡ length (head_lines r.head) + length r.steps + 1
row_size r =
    let e = end_line (end_of r.standing) ∷ [] in
    let a = length-append (head_lines r.head) (step_lines r.steps ++ e) in
    let b = length-append (step_lines r.steps) e in
    let c = length-steps r.steps in
    let d : length e ≡ 1 = refl in
    omega arith

pub lines_filled : (rows : List Row) (n : ℕ) (r : Row) (xs : List Step) (s : Standing) → slice_get rows n ≡ Some r → all_lines (update rows n (fill xs s)) ≤ all_lines rows + length xs
lines_filled rows n r xs s here =
    let a = total_update (λ r. length (own_lines r)) rows n r (fill xs s) here in
    let b = row_size r in
    let c = row_size (fill xs s r) in
    omega arith

pub lines_stood : (rows : List Row) (n : ℕ) (r : Row) (s : Standing) → slice_get rows n ≡ Some r → all_lines (update rows n (stand s)) ≡ all_lines rows
lines_stood rows n r s here =
    let a = total_update (λ r. length (own_lines r)) rows n r (stand s) here in
    let b = row_size r in
    let c = row_size (stand s r) in
    omega arith

lines_children : (path : List ℕ) (k : ℕ) (heads : List Head) → all_lines (child_rows path k heads) ≡ 2 * length heads
lines_children path k [] = refl
lines_children path k (h ∷ heads) =
    let e = lines_children path (suc k) heads in
    let f = row_size (record { path = k ∷ path; head = Some h; steps = []; standing = Waiting }) in
    omega arith

pub lines_after : (rows : List Row) (n : ℕ) (r : Row) (xs : List Step) (s : Standing) (heads : List Head) → slice_get rows n ≡ Some r → all_lines (after rows n r.path (fill xs s) heads) ≤ all_lines rows + length xs + 2 * length heads
lines_after rows n r xs s heads here =
    let a = total_append (λ r. length (own_lines r)) (update rows n (fill xs s)) (child_rows r.path 0 heads) in
    let b = lines_filled rows n r xs s here in
    let c = lines_children r.path 0 heads in
    omega arith

pub not_split : (s : Standing) → NotSplit s → one (is_split s) ≡ 0
not_split Waiting h = refl
not_split Held h = refl
not_split Quit h = refl
not_split (Shuts c) h = refl
not_split (Splits f first count) h = absurd (h f first count refl)

pub splits_updated : (rows : List Row) (n : ℕ) (r : Row) (f : Row → Row) → slice_get rows n ≡ Some r → NotSplit r.standing → NotSplit (f r).standing → splits (update rows n f) ≡ splits rows
splits_updated rows n r f here before whole =
    let a = total_update (λ r. one (is_split r.standing)) rows n r f here in
    let b = not_split r.standing before in
    let c = not_split (f r).standing whole in
    omega arith

pub splits_children : (path : List ℕ) (k : ℕ) (heads : List Head) → splits (child_rows path k heads) ≡ 0
splits_children path k [] = refl
splits_children path k (h ∷ heads) = let e = splits_children path (suc k) heads in omega arith

pub splits_after : (rows : List Row) (n : ℕ) (r : Row) (xs : List Step) (g : Branch) (first count : ℕ) (heads : List Head) → slice_get rows n ≡ Some r → NotSplit r.standing
    → splits (after rows n r.path (fill xs (Splits g first count)) heads) ≡ splits rows + 1
splits_after rows n r xs g first count heads here before =
    let a = total_append (λ r. one (is_split r.standing)) (update rows n (fill xs (Splits g first count))) (child_rows r.path 0 heads) in
    let b = total_update (λ r. one (is_split r.standing)) rows n r (fill xs (Splits g first count)) here in
    let c = splits_children r.path 0 heads in
    let d = not_split r.standing before in
    omega arith

-- each row counts at most once
pub splits_few : (rows : List Row) → splits rows ≤ length rows
splits_few [] = omega arith
splits_few (r ∷ rows) =
    let a = splits_few rows in
    let b = one_small (is_split r.standing) in
    omega arith
  where
    one_small : (b : Bool) → one b ≤ 1
    one_small true = omega arith
    one_small false = omega arith
