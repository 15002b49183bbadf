-- How the counts of split and of waiting boxes change, and that a search ends.
use Rattle.std.proofs.Common.{◌≡◌, ◌≢◌, ℕ, zero, suc, ◌+◌, ◌-◌, ◌*◌, ◌<◌, ◌≤◌, Bool, true, false, List, [], ◌∷◌, ◌++◌, length, Option, Some, None, refl, sym, ap, subst, ◌∙◌, arith, length-append}
use Rattle.std.specs.Prelude.{slice_get}
use Rattle.tree_cert.specs.declared.line.Step.{Step}
use Rattle.tree_cert.specs.declared.line.Head.{Head}
use Rattle.tree_pool.specs.declared.node.WorkEnd.{WorkEnd}
use Rattle.tree_pool.specs.declared.node.WorkEnd.TheVariants as ends
use Rattle.tree_pool.specs.Nodes.{branch_of, is_waiting}
use Rattle.tree_pool.specs.Rows.{Row, Standing, Waiting, Held, Quit, Shuts, Splits, update, fill, stand, child_rows, after, one, is_split, total, splits, IsFirstWaiting}
use Rattle.tree_pool.proofs.Lists.{length-update, length-child_rows}
use Rattle.tree_pool.proofs.Totals.{total_update, total_append, splits_children}
use Rattle.search_order.specs.Searches.{SearchRules}
use Rattle.search_order.specs.Turns.{IsTurn, splits_by, waits, remains}
use Rattle.search_order.specs.Laws.{TurnsShrink}
use Rattle.tree_pool.specs.Laws.{heads_by}
use Rattle.tree_pool.proofs.GivenBack.{standing_by, given_taken, taken_row, count_heads}

one_split : (rows : List Row) (e : WorkEnd) → one (is_split (standing_by rows e)) ≡ splits_by e
one_split rows (ends.Shut c) = refl
one_split rows (ends.Split by heads) = refl
one_split rows ends.Left = refl

one_waits : (rows : List Row) (e : WorkEnd) → one (is_waiting (standing_by rows e)) ≡ 0
one_waits rows (ends.Shut c) = refl
one_waits rows (ends.Split by heads) = refl
one_waits rows ends.Left = refl

small_split : (e : WorkEnd) → splits_by e ≤ 1
small_split (ends.Shut c) = omega arith
small_split (ends.Split by heads) = omega arith
small_split ends.Left = omega arith

children_wait : (path : List ℕ) (k : ℕ) (heads : List Head) → waits (child_rows path k heads) ≡ length heads
children_wait path k [] = refl
children_wait path k (x ∷ heads) = let e = children_wait path (suc k) heads in omega arith

module _ (rows : List Row) (n : ℕ) (r : Row) (here : slice_get rows n ≡ Some r) (waiting : r.standing ≡ Waiting) (xs : List Step) (e : WorkEnd) where
  abbrev made : List Row
  made = after rows n r.path (fill xs (standing_by rows e)) (heads_by e)

  -- the counts after a waiting box was worked
  pub splits_made : splits made ≡ splits rows + splits_by e
  splits_made =
      let a = total_append (λ q. one (is_split q.standing)) (update rows n (fill xs (standing_by rows e))) (child_rows r.path 0 (heads_by e)) in
      let b = splits_children r.path 0 (heads_by e) in
      let c = total_update (λ q. one (is_split q.standing)) rows n r (fill xs (standing_by rows e)) here in
      let d : one (is_split r.standing) ≡ 0 = rw waiting refl in
      let f = one_split rows e in
      omega arith

  pub waits_made : waits made + 1 ≡ waits rows + length (heads_by e)
  waits_made =
      let a = total_append (λ q. one (is_waiting q.standing)) (update rows n (fill xs (standing_by rows e))) (child_rows r.path 0 (heads_by e)) in
      let b = children_wait r.path 0 (heads_by e) in
      let c = total_update (λ q. one (is_waiting q.standing)) rows n r (fill xs (standing_by rows e)) here in
      let d : one (is_waiting r.standing) ≡ 1 = rw waiting refl in
      let f = one_waits rows e in
      omega arith

  pub length_made : length made ≡ length rows + length (heads_by e)
  length_made =
      let a = length-append (update rows n (fill xs (standing_by rows e))) (child_rows r.path 0 (heads_by e)) in
      let b = length-update rows n (fill xs (standing_by rows e)) in
      let c = length-child_rows r.path 0 (heads_by e) in
      omega arith

-- taking changes no count of split boxes
pub splits_taken : (rows : List Row) (n : ℕ) → IsFirstWaiting rows n → splits (update rows n (stand Held)) ≡ splits rows
splits_taken rows n first =
    let c = total_update (λ q. one (is_split q.standing)) rows n first.row (stand Held) first.here in
    let d : one (is_split first.row.standing) ≡ 0 = (let w = first.waits in rw w refl) in
    omega arith

falls_by : (most w v d x y : ℕ) → v + 1 ≡ w + d → d ≤ most → y ≡ x + most + 1 → v + x < w + y
falls_by most w v d x y h few e = omega arith

falls : (most w v s t b d k : ℕ) → v + 1 ≡ w + d → t ≡ s + k → d ≤ most * k → k ≤ 1 → s + k ≤ b → v + (most + 1) * (b - t) < w + (most + 1) * (b - s)
falls most w v s t b d zero h e few small room =
    let same : t ≡ s = omega arith in
    let none : d ≡ 0 = (let z : most * 0 ≡ 0 = omega arith in omega arith) in
    rw same (omega arith)
falls most w v s t b d (suc zero) h e few small room =
    let up : b - s ≡ (b - t) + 1 = omega arith in
    let wide : (most + 1) * ((b - t) + 1) ≡ (most + 1) * (b - t) + most + 1 = omega arith in
    let le : d ≤ most = (let z : most * 1 ≡ most = omega arith in omega arith) in
    rw up (falls_by most w v d ((most + 1) * (b - t)) ((most + 1) * ((b - t) + 1)) h le wide)
falls most w v s t b d (suc (suc k)) h e few small room = absurd (omega arith)

narrows : (most l m s t b d k : ℕ) → m ≡ l + d → t ≡ s + k → d ≤ most * k → k ≤ 1 → s + k ≤ b → m + most * (b - t) ≤ l + most * (b - s)
narrows most l m s t b d zero h e few small room =
    let same : t ≡ s = omega arith in
    let none : d ≡ 0 = (let z : most * 0 ≡ 0 = omega arith in omega arith) in
    rw same (omega arith)
narrows most l m s t b d (suc zero) h e few small room =
    let up : b - s ≡ (b - t) + 1 = omega arith in
    let wide : most * ((b - t) + 1) ≡ most * (b - t) + most = omega arith in
    let le : d ≤ most = (let z : most * 1 ≡ most = omega arith in omega arith) in
    rw up (omega arith)
narrows most l m s t b d (suc (suc k)) h e few small room = absurd (omega arith)

module _ (s : SearchRules) (most budget : ℕ) (rows : List Row) (boxes : List s.tree.Box) (turns : List ℕ) (new : List Row) (boxes2 : List s.tree.Box) (turns2 : List ℕ) (n : ℕ) (e : WorkEnd)
    (first : IsFirstWaiting rows n) (turn : IsTurn s most budget (update rows n (stand Held)) boxes turns new boxes2 turns2 n e) where
  -- the new rows, from those before the box was taken
  pub new_is : new ≡ after rows n first.row.path (fill turn.steps (standing_by rows e)) (heads_by e)
  new_is =
      turn.rows_are ∙ given_taken rows n turn.row.path turn.steps e
      ∙ ap (λ (q : Row). after rows n q.path (fill turn.steps (standing_by rows e)) (heads_by e)) (taken_row rows n first turn.row turn.here)

  room_before : splits rows + splits_by e ≤ budget
  room_before = let a = splits_taken rows n first in let b = turn.room in omega arith

  few_heads : length (heads_by e) ≤ most * splits_by e
  few_heads = let a = count_heads s.tree turn.box e turn.kids turn.fits in let b = turn.few in omega arith

  splits_new : splits new ≡ splits rows + splits_by e
  splits_new = ap splits new_is ∙ splits_made rows n first.row first.here first.waits turn.steps e

  pub within_after : splits new ≤ budget
  within_after = let a = splits_new in let b = room_before in omega arith

  pub less_left : remains most budget new < remains most budget rows
  less_left =
      falls most (waits rows) (waits new) (splits rows) (splits new) budget (length (heads_by e)) (splits_by e)
      (let a = ap waits new_is in let b = waits_made rows n first.row first.here first.waits turn.steps e in omega arith)
      splits_new few_heads (small_split e) room_before

  pub room_after : length new + most * (budget - splits new) ≤ length rows + most * (budget - splits rows)
  room_after =
      narrows most (length rows) (length new) (splits rows) (splits new) budget (length (heads_by e)) (splits_by e)
      (ap length new_is ∙ length_made rows n first.row first.here first.waits turn.steps e) splits_new few_heads (small_split e) room_before

pub turns_shrink : (s : SearchRules) → TurnsShrink s
turns_shrink s root most budget rows boxes turns new boxes2 turns2 n e first turn = (
  less_left s most budget rows boxes turns new boxes2 turns2 n e first turn,
  within_after s most budget rows boxes turns new boxes2 turns2 n e first turn,
  room_after s most budget rows boxes turns new boxes2 turns2 n e first turn,
)
