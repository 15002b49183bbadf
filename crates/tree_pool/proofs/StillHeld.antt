-- What is held, and how many boxes there are, after a call.
use Rattle.std.proofs.Common.{◌≡◌, ◌≢◌, ℕ, suc, ◌+◌, List, [], ◌∷◌, length, refl, sym, ap, subst, inl, inr, arith, length-append}
use Rattle.std.specs.Prelude.{slice_get}
use Rattle.tree_cert.specs.declared.line.Head.{Head}
use Rattle.tree_cert.specs.TreeRules.{Holds}
use Rattle.tree_cert.proofs.Options.{holds_some, some_holds}
use Rattle.tree_pool.specs.Rows.{Row, Held, IsFirstWaiting, update, stand, child_rows, after}
use Rattle.tree_pool.specs.Calls.{IsHeld}
use Rattle.tree_pool.proofs.Lists.{get_updated, get_other, get_left, length-update, length-child_rows}
use Rattle.tree_pool.proofs.RowChanges.{differs}

pub held_now : (rows : List Row) (n : ℕ) → IsFirstWaiting rows n → IsHeld (update rows n (stand Held)) n
held_now rows n first = some_holds (slice_get (update rows n (stand Held)) n) (λ r. r.standing ≡ Held) (stand Held first.row) (get_updated rows n (stand Held) first.row first.here) refl

pub held_other : (rows : List Row) (n m : ℕ) (f : Row → Row) → m ≢ n → IsHeld rows m → IsHeld (update rows n f) m
held_other rows n m f ne held = subst (λ o. Holds o (λ r. r.standing ≡ Held)) (sym (get_other rows n m f ne)) held

pub held_still : (rows : List Row) (n m : ℕ) → IsFirstWaiting rows n → IsHeld rows m → IsHeld (update rows n (stand Held)) m
held_still rows n m first held =
    elim (differs m n) [
      | inl e ↦ subst (λ (k : ℕ). IsHeld (update rows n (stand Held)) k) (sym e) (held_now rows n first)
      | inr ne ↦ held_other rows n m (stand Held) ne held
    ]

pub held_after : (rows : List Row) (n m : ℕ) (path : List ℕ) (f : Row → Row) (heads : List Head) → m ≢ n → IsHeld rows m → IsHeld (after rows n path f heads) m
held_after rows n m path f heads ne held =
    let h = holds_some (slice_get (update rows n f) m) (λ r. r.standing ≡ Held) (held_other rows n m f ne held) in
    some_holds (slice_get (after rows n path f heads) m) (λ r. r.standing ≡ Held) h.0 (get_left (update rows n f) (child_rows path 0 heads) m h.0 h.1) h.2

pub length-after : (rows : List Row) (n : ℕ) (path : List ℕ) (f : Row → Row) (heads : List Head) → length (after rows n path f heads) ≡ length rows + length heads
length-after rows n path f heads =
    let a = length-append (update rows n f) (child_rows path 0 heads) in
    let b = length-update rows n f in
    let c = length-child_rows path 0 heads in
    omega arith
