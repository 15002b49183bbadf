-- Where the budget is spent, the search stops as it should.
use Rattle.std.proofs.Common.{◌≡◌, ◌≢◌, ℕ, zero, suc, ◌+◌, ◌<◌, ◌≤◌, List, [], ◌∷◌, ◌++◌, length, Option, Some, None, refl, sym, ap, subst, ◌∙◌, ◌⊎◌, inl, inr, arith}
use Rattle.std.specs.Prelude.{slice_get}
use Rattle.std.proofs.lemmas.List.{append-nil}
use Rattle.tree_cert.specs.declared.line.Step.{Step}
use Rattle.tree_cert.specs.declared.line.Head.{Head}
use Rattle.tree_cert.specs.TreeRules.{Holds}
use Rattle.tree_pool.specs.declared.node.WorkEnd.{WorkEnd}
use Rattle.tree_pool.specs.declared.node.WorkEnd.TheVariants as ends
use Rattle.tree_pool.specs.Path.{IsEarlier}
use Rattle.tree_pool.specs.Rows.{Row, Standing, Waiting, Held, Quit, Shuts, Splits, NotSplit, IsMap, IsFirstWaiting, update, fill, stand, splits}
use Rattle.tree_pool.specs.Rules.{Boxes, after_steps, IsOf}
use Rattle.tree_pool.specs.Laws.{WorkFits}
use Rattle.tree_pool.specs.Calls.{given_rows}
use Rattle.tree_pool.proofs.Lists.{get_updated, updated_cases}
use Rattle.tree_pool.proofs.RowChanges.{KeepsPlace, target, map_updated}
use Rattle.tree_pool.proofs.Paths.{earlier_trans, not_earlier}
use Rattle.tree_pool.proofs.Totals.{splits_updated}
use Rattle.tree_pool.proofs.Ruled.{standing_keeps, giving_keeps}
use Rattle.search_order.specs.Searches.{SearchRules, IsLeft, KnownAt, IsKnown, IsWorked, StopsAt}
use Rattle.search_order.specs.Turns.{IsFull}
use Rattle.search_order.specs.Laws.{FullStops}
use Rattle.tree_pool.proofs.GivenBack.{update_twice, taken_row}
use Rattle.tree_pool.proofs.PoolKeeps.{waiting_whole}
use Rattle.search_order.proofs.Counts.{splits_taken}
use Rattle.search_order.proofs.Grown.{known_kept}

pub later_not_earlier : (p q : List ℕ) → IsEarlier p q → IsEarlier q p → ⊥
later_not_earlier p q h g = not_earlier p (earlier_trans p q p h g)

pub is_waiting_or : (e : Standing) → (e ≡ Waiting) ⊎ (e ≢ Waiting)
is_waiting_or Waiting = inl refl
is_waiting_or Held = inr (λ h. cc)
is_waiting_or Quit = inr (λ h. cc)
is_waiting_or (Shuts c) = inr (λ h. cc)
is_waiting_or (Splits f first count) = inr (λ h. cc)

module _ (s : SearchRules) (root : s.tree.Box) (budget : ℕ) (rows : List Row) (boxes : Boxes s.tree) (turns : List ℕ) (inv : IsWorked s root budget rows boxes turns)
    (n : ℕ) (first : IsFirstWaiting rows n) (xs : List Step) (turn : ℕ) (box : s.tree.Box) (left : IsLeft s boxes turns n xs turn box) where
  abbrev new : List Row
  new = update rows n (fill xs Quit)

  keeps : KeepsPlace first.row (fill xs Quit)
  keeps = record { path = refl; head = refl; before = waiting_whole first.row.standing first.waits }

  moves : (m : ℕ) (q : Row) → slice_get rows m ≡ Some q → (y : Row) × (slice_get new m ≡ Some y) × (y.path ≡ q.path) × (y.head ≡ q.head)
  moves = target rows n first.row (fill xs Quit) first.here keeps

  known_still : (m : ℕ) (q : Row) → slice_get rows m ≡ Some q → IsKnown s new boxes turns m q
  known_still m q here =
      let k = known_kept s rows boxes turns new [] [] moves m q (inv.known m q here) in
      subst (λ (bs : Boxes s.tree). IsKnown s new bs turns m q) (append-nil boxes) (subst (λ (ts : List ℕ). IsKnown s new (boxes ++ []) ts m q) (append-nil turns) k)

  this_row : (m : ℕ) (q : Row) → (m ≡ n) × ((x : Row) × (slice_get rows n ≡ Some x) × (q ≡ fill xs Quit x)) → q.path ≡ first.row.path
  this_row m q this = let a = this.1.1 in let b = first.here in let c = this.1.2 in cc

  pub stops : s.calm box → (s.least turn box → ⊥) → splits new ≡ budget → StopsAt s budget new boxes turns n
  stops calm wide spent =
      record {
        row = fill xs Quit first.row;
        here = get_updated rows n (fill xs Quit) first.row first.here;
        quit = refl;
        turn = turn;
        box = box;
        left = left;
        calm = calm;
        wide = wide;
        spent = spent;
        before = λ m q at less.
            elim (updated_cases rows n m (fill xs Quit) q at) [
              | inl other ↦ elim (is_waiting_or q.standing) [
                | inl waits ↦ absurd (later_not_earlier q.path first.row.path less (first.first m q other.1 waits other.0))
                | inr ne ↦ (ne, known_still m q other.1)
              ]
              | inr this ↦ absurd (not_earlier first.row.path (let path = this_row m q this in rw path at less))
            ];
        behind = λ m q at later.
            elim (updated_cases rows n m (fill xs Quit) q at) [
              | inl other ↦ elim (is_waiting_or q.standing) [
                | inl waits ↦ (waits, inv.bare m q other.1 waits)
                | inr ne ↦ absurd (later_not_earlier q.path first.row.path (inv.ordered m n q first.row other.1 first.here ne first.waits) later)
              ]
              | inr this ↦ absurd (not_earlier first.row.path (let path = this_row m q this in rw path at later))
            ];
      }

  pub map_stops : IsMap new
  map_stops = map_updated rows inv.map n first.row first.here (fill xs Quit) keeps (λ f a b h. cc)

  work_fits : WorkFits s.tree left.start xs ends.Left []
  work_fits = let a = left.after in rw a refl

  pub pool_stops : IsOf s.tree root new boxes
  pool_stops =
      let taken = update rows n (stand Held) in
      let kept : KeepsPlace first.row (stand Held) = record { path = refl; head = refl; before = waiting_whole first.row.standing first.waits } in
      let paths = map_updated rows inv.map n first.row first.here (stand Held) kept (λ f a b h. cc) in
      let pool = standing_keeps s.tree root rows boxes n first.row Held inv.map inv.pool first.here (inl first.waits) (inr refl) in
      let there = get_updated rows n (stand Held) first.row first.here in
      let given = giving_keeps s.tree root taken boxes n (stand Held first.row) left.start paths pool there refl left.here xs ends.Left [] work_fits in
      subst (λ (bs : Boxes s.tree). IsOf s.tree root new bs) (append-nil boxes)
      (subst (λ (rs : List Row). IsOf s.tree root rs (boxes ++ [])) (update_twice rows n (stand Held) (fill xs Quit)) given)

pub full_stops : (s : SearchRules) → FullStops s
full_stops s root budget rows boxes turns new n inv first full =
    let row_is = taken_row rows n first full.row full.here in
    let before : new ≡ update rows n (fill full.steps Quit) = full.rows_are ∙ update_twice rows n (stand Held) (fill full.steps Quit) in
    let a = splits_taken rows n first in
    let same : splits (update rows n (fill full.steps Quit)) ≡ splits rows = splits_updated rows n first.row (fill full.steps Quit) first.here (waiting_whole first.row.standing first.waits) (λ f b c h. cc) in
    let spent : splits (update rows n (fill full.steps Quit)) ≡ budget = (let b = inv.within in let e = full.spent in omega arith) in (
      subst (λ (rs : List Row). StopsAt s budget rs boxes turns n) (sym before) (stops s root budget rows boxes turns inv n first full.steps full.turn full.box full.left full.calm full.wide spent),
      subst IsMap (sym before) (map_stops s root budget rows boxes turns inv n first full.steps full.turn full.box full.left),
      subst (λ (rs : List Row). IsOf s.tree root rs boxes) (sym before) (pool_stops s root budget rows boxes turns inv n first full.steps full.turn full.box full.left),
    )
