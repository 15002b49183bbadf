-- What each call keeps of a pool of a problem and a root.
use Rattle.std.proofs.Common.{◌≡◌, ◌≢◌, ℕ, zero, suc, ◌+◌, ◌<◌, ◌≤◌, List, [], ◌∷◌, ◌++◌, map, length, Option, Some, None, refl, sym, ap, subst, ◌∙◌, ◌⊎◌, inl, inr, arith, length-append, length-set, ℤ}
use Rattle.std.specs.Prelude.{slice_get, slice_set, replicate, Result, Ok, Err, IfOk, IfSome, IfNone, OnOk, OnErr}
use Rattle.std.proofs.lemmas.Option.{slice_get_within}
use Rattle.std.proofs.lemmas.List.{length-map, length-replicate}
use Rattle.gas_model.specs.Rows.{Network}
use Rattle.gas_model.specs.Within.{IsWithin}
use Rattle.gas_model.specs.Boxes.{Bounds, BoxFits}
use Rattle.gas_model.specs.Choices.{PartFits}
use Rattle.gas_model.specs.declared.rows.PartState.{PartState}
use Rattle.tree_cert.specs.declared.line.Step.{Step}
use Rattle.tree_cert.specs.declared.line.Head.{Head}
use Rattle.tree_cert.specs.TreeRules.{Holds}
use Rattle.tree_cert.proofs.Options.{holds_some}
use Rattle.tree_rules.specs.Rules.{PartBox}
use Rattle.tree_rules.specs.Branches.{headed, rules_of}
use Rattle.tree_pool.specs.declared.node.WorkEnd as tree
use Rattle.tree_pool.specs.declared.node.WorkEnd.TheVariants as ends
use Rattle.tree_pool.specs.Rows.{Row, Standing, Waiting, Held, Quit, Shuts, Splits, NotSplit, IsMap, IsFirstWaiting, NoneWaits, first_row, update, stand, fill, after}
use Rattle.tree_pool.specs.Rules.{after_steps, IsOf}
use Rattle.tree_pool.specs.Calls.{IsHeld, given_rows}
use Rattle.tree_pool.specs.Laws.{EndFits, heads_by}
use Rattle.tree_pool.proofs.Lists.{get_left, get_right, appended_cases, updated_cases, length-update, to_map, from_map, get_replicate, set_other, set_some, there}
use Rattle.tree_pool.proofs.RowChanges.{KeepsPlace, Becomes, target, origin, placed, moved, map_after, map_updated}
use Rattle.tree_pool.proofs.PoolCalls.{one_map}
use Rattle.tree_pool.proofs.PoolKeeps.{held_whole}
use Rattle.tree_pool.proofs.Ruled.{box_there, holds_map, unsplit, new_is_of, standing_keeps, giving_keeps}
use Rattle.tree_pool.proofs.GivenBack.{standing_by, given_after, becomes_whole}
use Rattle.box_split.specs.declared.forks.Fork.{Fork}
use Rattle.box_split.specs.declared.forks.Fork.TheVariants.{Least}
use Rattle.box_pool.specs.declared.pool.WorkEnd.{WorkEnd}
use Rattle.box_pool.specs.declared.pool.WorkEnd.TheVariants.{Shut, Split, Left}
use Rattle.box_pool.specs.declared.open_box.BoxView.{BoxView}
use Rattle.box_pool.specs.Grid.{pool_scale}
use Rattle.box_pool.specs.Forks.{heads_of, next_of}
use Rattle.box_pool.specs.Origins.{Origin, box_of, turn_of, turn_by, origin_by, IsOrigin}
use Rattle.box_pool.specs.Pools.{Boxed, PoolFits, ViewFits, CanEnd, IsNew, IsGiven, new_origins, box_of_view}
use Rattle.box_pool.specs.PoolOf.{IsForked, SplitIsForked, HasOrigin, IsPoolOf, root_at, IsWorkOn}
use Rattle.box_pool.proofs.Forked.{forks_are_expected}
use Rattle.box_pool.proofs.StillFits.{kept_shape, new_fits}
use Rattle.box_pool.proofs.ViewKids.{kids_by, next_by, base_by, box_end, ends_there, headed_box, turn_of_head, Comes, comes, count_kids}

abbrev pub boxed : List Row → List (Option Origin) → Boxed
boxed rows origins = record { rows = rows; origins = origins }

same_pool : (a b : List Row) (x y : List (Option Origin)) → a ≡ b → x ≡ y → boxed a x ≡ boxed b y
same_pool a b x y e f = ap (λ (rs : List Row). boxed rs x) e ∙ ap (λ (os : List (Option Origin)). boxed b os) f

-- ---- splits, where rows keep their places

fork_moved : (p : Network) (rows new : List Row) (turns turns2 : List ℕ) → ((m : ℕ) (q : Row) → slice_get rows m ≡ Some q → (y : Row) × (slice_get new m ≡ Some y) × (y.path ≡ q.path) × (y.head ≡ q.head))
    → ((m t : ℕ) → slice_get turns m ≡ Some t → slice_get turns2 m ≡ Some t) → (turn : ℕ) (b : PartBox) (e : Standing) → SplitIsForked p rows turns turn b e → SplitIsForked p new turns2 turn b e
fork_moved p rows new turns turns2 moves stay turn b Waiting h = h
fork_moved p rows new turns turns2 moves stay turn b Held h = h
fork_moved p rows new turns turns2 moves stay turn b Quit h = h
fork_moved p rows new turns turns2 moves stay turn b (Shuts c) h = h
fork_moved p rows new turns turns2 moves stay turn b (Splits f first count) h =
    record {
      fork = h.fork;
      has = h.has;
      wide = h.wide;
      branch_is = h.branch_is;
      number = h.number;
      head_at = λ k x at. let z = h.head_at k x at in let y = moves (first + k) z.0 z.1 in (y.0, y.1, y.3 ∙ z.2);
      turn_at = λ k x at. stay (first + k) (next_of h.fork) (h.turn_at k x at);
    }

open_fork : (p : Network) (rows : List Row) (turns : List ℕ) (turn : ℕ) (b : PartBox) (e : Standing) → (e ≡ Waiting) ⊎ (e ≡ Held) → SplitIsForked p rows turns turn b e
open_fork p rows turns turn b e (inl is) = rw is tt
open_fork p rows turns turn b e (inr is) = rw is tt

-- ---- a box is taken or lost

module _ (p : Network) (root : PartBox) (old : Boxed) (owned : IsPoolOf p root old) (n : ℕ) (r : Row) (here : slice_get old.rows n ≡ Some r) (s : Standing) (was : (r.standing ≡ Waiting) ⊎ (r.standing ≡ Held)) (is : (s ≡ Waiting) ⊎ (s ≡ Held)) where
  abbrev stood : List Row
  stood = update old.rows n (stand s)

  keeps : KeepsPlace r (stand s)
  keeps = record { path = refl; head = refl; before = unsplit r.standing was }

  fork_stays : (m : ℕ) (y : Row) (b : PartBox) (turn : ℕ) → slice_get stood m ≡ Some y → slice_get owned.boxes m ≡ Some b → slice_get owned.turns m ≡ Some turn → Holds (after_steps (rules_of p) b y.steps) (λ c. SplitIsForked p stood owned.turns turn c y.standing)
  fork_stays m y b turn at box turned =
      elim (updated_cases old.rows n m (stand s) y at) [
        | inl other ↦
            holds_map (after_steps (rules_of p) b y.steps) (λ c. SplitIsForked p old.rows owned.turns turn c y.standing) (λ c. SplitIsForked p stood owned.turns turn c y.standing)
            (λ c h. fork_moved p old.rows stood owned.turns owned.turns (target old.rows n r (stand s) here keeps) (λ i t e. e) turn c y.standing h) (owned.forks m y b turn other.1 box turned)
        | inr this ↦
            let x = this.1.0 in
            let at_m : slice_get old.rows m ≡ Some x = (let a = this.0 in let b = this.1.1 in cc) in
            subst (λ (z : Row). Holds (after_steps (rules_of p) b z.steps) (λ c. SplitIsForked p stood owned.turns turn c z.standing)) (sym this.1.2)
            (holds_map (after_steps (rules_of p) b x.steps) (λ c. SplitIsForked p old.rows owned.turns turn c x.standing) (λ c. SplitIsForked p stood owned.turns turn c s) (λ c h. open_fork p stood owned.turns turn c s is)
            (owned.forks m x b turn at_m box turned))
      ]

  open_stays : (m : ℕ) (y : Row) → slice_get stood m ≡ Some y → (y.standing ≡ Waiting) ⊎ (y.standing ≡ Held) → HasOrigin old.origins owned.boxes owned.turns m
  open_stays m y at open_now =
      elim (updated_cases old.rows n m (stand s) y at) [
        | inl other ↦ owned.open_boxes m y other.1 open_now
        | inr this ↦ subst (λ (i : ℕ). HasOrigin old.origins owned.boxes owned.turns i) (sym this.0) (owned.open_boxes n r here was)
      ]

  pub standing_stays : IsPoolOf p root (boxed stood old.origins)
  standing_stays = record {
    boxes = owned.boxes;
    turns = owned.turns;
    paths = map_updated old.rows owned.paths n r here (stand s) keeps (unsplit s is);
    of_root = standing_keeps (rules_of p) root old.rows owned.boxes n r s owned.paths owned.of_root here was is;
    count = owned.count ∙ sym (length-update old.rows n (stand s));
    first = owned.first;
    forks = fork_stays;
    fits = owned.fits;
    places = owned.places ∙ sym (length-update old.rows n (stand s));
    open_boxes = open_stays;
  }

pub taken_of : (p : Network) (root : PartBox) (old new : Boxed) (o : Option ℕ) → IfNone o (NoneWaits old.rows × (new.rows ≡ old.rows)) → IfSome o (λ n. IsFirstWaiting old.rows n × (new.rows ≡ update old.rows n (stand Held))) → new.origins ≡ old.origins
    → IsPoolOf p root old → IsPoolOf p root new
taken_of p root old new None none some same owned = subst (IsPoolOf p root) (same_pool old.rows new.rows old.origins new.origins (sym none.1) (sym same)) owned
taken_of p root old new (Some n) none some same owned =
    let first = some.0 in
    subst (IsPoolOf p root) (same_pool (update old.rows n (stand Held)) new.rows old.origins new.origins (sym some.1) (sym same)) (standing_stays p root old owned n first.row first.here Held (inl first.waits) (inr refl))

pub lost_of : (p : Network) (root : PartBox) (old new : Boxed) (n : ℕ) → IsHeld old.rows n → new.rows ≡ update old.rows n (stand Waiting) → new.origins ≡ old.origins → IsPoolOf p root old → IsPoolOf p root new
lost_of p root old new n held rows same owned =
    let z = holds_some (slice_get old.rows n) (λ r. r.standing ≡ Held) held in
    subst (IsPoolOf p root) (same_pool (update old.rows n (stand Waiting)) new.rows old.origins new.origins (sym rows) (sym same)) (standing_stays p root old owned n z.0 z.1 Waiting (inr z.2) (inl refl))

-- ---- a new pool

pub only : {A : Type 0} (x y : A) (n : ℕ) → slice_get (x ∷ []) n ≡ Some y → (n ≡ 0) × (y ≡ x)
only x y zero h = (refl, cc)
only x y (suc n) h = absurd cc

pub new_of : (p : Network) (part : PartState) (b : Bounds) (pool : Boxed) → PartFits p part → BoxFits p b → IsNew p part b pool → IsPoolOf p (root_at part b) pool
new_of p part b pool part_fits box_fits is =
    let o : Origin = record { part = part; shape = Some is.shape; bounds = b; next = 0; head = None } in
    let all : List (Option Origin) = Some o ∷ [] in
    let rows : List Row = first_row ∷ [] in
    let made : IsPoolOf p (root_at part b) (boxed rows all) = record {
      boxes = root_at part b ∷ [];
      turns = 0 ∷ [];
      paths = one_map;
      of_root = new_is_of (rules_of p) (root_at part b);
      count = refl;
      first = refl;
      forks = λ n r c turn at box turned. let z = only first_row r n at in subst (λ (x : Row). Holds (after_steps (rules_of p) c x.steps) (λ d. SplitIsForked p rows (0 ∷ []) turn d x.standing)) (sym z.1) tt;
      fits = new_fits p part b (boxed rows all) part_fits box_fits (record { rows = refl; shape = is.shape; is_shape = is.is_shape; origins = refl });
      places = refl;
      open_boxes = λ n r at open_now. let z = only first_row r n at in subst (λ (i : ℕ). HasOrigin all (root_at part b ∷ []) (0 ∷ []) i) (sym z.0) (record { origin = o; here = refl; box = refl; turn = refl });
    } in
    subst (IsPoolOf p (root_at part b)) (same_pool rows pool.rows all pool.origins (sym is.rows) (sym is.origins)) made

-- ---- work is given back

module _ (p : Network) (within_limits : IsWithin p) (root : PartBox) (old : Boxed) (owned : IsPoolOf p root old) (n : ℕ) (r : Row) (here : slice_get old.rows n ≡ Some r) (held : r.standing ≡ Held) (steps : List Step) (end : WorkEnd) (v : BoxView)
    (can : CanEnd p v end) (work : IsWorkOn p old n steps end v) where
  abbrev kids : List (Head × PartBox)
  kids = kids_by p v end

  abbrev more : List PartBox
  more = map (λ (k : Head × PartBox). k.1) kids

  abbrev later : List ℕ
  later = replicate (length kids) (next_by end)

  abbrev change : Row → Row
  change = fill steps (standing_by old.rows (box_end p v end))

  abbrev heads : List Head
  heads = heads_by (box_end p v end)

  abbrev made : List Row
  made = after old.rows n r.path change heads

  abbrev places_after : List (Option Origin)
  places_after = slice_set old.origins n None ++ new_origins p v end

  becomes : Becomes old.rows r change heads
  becomes = becomes_whole old.rows r steps (box_end p v end) (held_whole r.standing held)

  own : HasOrigin old.origins owned.boxes owned.turns n
  own = owned.open_boxes n r here (inr held)

  same_origin : own.origin ≡ work.origin
  same_origin = let a = own.here in let b = work.here in cc

  box_here : slice_get owned.boxes n ≡ Some (box_of pool_scale work.origin)
  box_here = own.box ∙ ap (λ (o : Origin). Some (box_of pool_scale o)) same_origin

  turn_here : slice_get owned.turns n ≡ Some v.turn
  turn_here = own.turn ∙ ap (λ (o : Origin). Some (turn_of o)) same_origin ∙ ap Some (sym work.turn)

  fits_there : Holds (after_steps (rules_of p) (box_of pool_scale work.origin) steps) (λ c. EndFits (rules_of p) c (box_end p v end) kids)
  fits_there = let a = work.after in rw a (ends_there p v end within_limits can work.holds)

  of_after : IsOf (rules_of p) root made (owned.boxes ++ more)
  of_after =
      subst (λ (rs : List Row). IsOf (rules_of p) root rs (owned.boxes ++ more)) (given_after old.rows n r.path steps (box_end p v end))
      (giving_keeps (rules_of p) root old.rows owned.boxes n r (box_of pool_scale work.origin) owned.paths owned.of_root here held box_here steps (box_end p v end) kids fits_there)

  sized : length (slice_set old.origins n None) ≡ length old.rows
  sized = length-set old.origins n None ∙ owned.places

  count_after : length (owned.turns ++ later) ≡ length made
  count_after =
      let a = length-append owned.turns later in
      let b = length-replicate (length kids) (next_by end) in
      let c = length-append owned.boxes more in
      let d = length-map kids (λ (k : Head × PartBox). k.1) in
      let e = of_after.count in
      let f = owned.of_root.count in
      let g = owned.count in
      omega arith

  places_count : length places_after ≡ length made
  places_count =
      let a = length-append (slice_set old.origins n None) (new_origins p v end) in
      let b = count_kids p v end in
      let c = length-append owned.boxes more in
      let d = length-map kids (λ (k : Head × PartBox). k.1) in
      let e = of_after.count in
      let f = owned.of_root.count in
      let g = sized in
      omega arith

  -- child k stands behind the old boxes
  child_place : (k : ℕ) (h : Head) → Comes p v end k h → slice_get places_after (length old.rows + k) ≡ Some (Some (origin_by (base_by v end) (Some h)))
  child_place k h c =
      let a = get_right (slice_set old.origins n None) (new_origins p v end) k in
      let is = c.is in
      let b : slice_get (new_origins p v (Split c.fork)) k ≡ Some (Some (origin_by (base_by v (Split c.fork)) (Some h))) = to_map (λ x. Some (origin_by (base_by v (Split c.fork)) (Some x))) (heads_of p v.part.value c.fork) k h c.at in
      let d : slice_get (new_origins p v end) k ≡ Some (Some (origin_by (base_by v end) (Some h))) = (rw is b) in
      let s = sized in
      rw (← s) (a ∙ d)

  child_box : (k : ℕ) (h : Head) → Comes p v end k h → slice_get (owned.boxes ++ more) (length old.rows + k) ≡ Some (box_of pool_scale (origin_by (base_by v end) (Some h)))
  child_box k h c =
      let is = c.is in
      let a = get_right owned.boxes more k in
      let b : slice_get (kids_by p v (Split c.fork)) k ≡ Some (h, headed (box_of_view v) h) = to_map (λ x. (x, headed (box_of_view v) x)) (heads_of p v.part.value c.fork) k h c.at in
      let d : slice_get kids k ≡ Some (h, headed (box_of_view v) h) = (rw is b) in
      let e = to_map (λ (x : Head × PartBox). x.1) kids k (h, headed (box_of_view v) h) d in
      let s = owned.of_root.count in
      rw (← s) (a ∙ e ∙ ap Some (headed_box v end h))

  later_turn : (k : ℕ) → k < length kids → slice_get (owned.turns ++ later) (length old.rows + k) ≡ Some (next_by end)
  later_turn k lt =
      let a = get_right owned.turns later k in
      let b = get_replicate (length kids) (next_by end) k lt in
      let s = owned.count in
      rw (← s) (a ∙ b)

  child_within : (k : ℕ) (h : Head) → Comes p v end k h → k < length kids
  child_within k h c =
      let is = c.is in
      let l = slice_get_within (heads_of p v.part.value c.fork) k h c.at in
      let m : length (kids_by p v (Split c.fork)) ≡ length (heads_of p v.part.value c.fork) = length-map (heads_of p v.part.value c.fork) (λ (h : Head). (h, headed (box_of_view v) h)) in
      (rw is (omega arith))

  child_turn : (k : ℕ) (h : Head) → Comes p v end k h → slice_get (owned.turns ++ later) (length old.rows + k) ≡ Some (turn_of (origin_by (base_by v end) (Some h)))
  child_turn k h c =
      let is = c.is in
      let t : turn_by (next_by end) (Some h) ≡ next_by end = subst (λ (e : WorkEnd). turn_by (next_by e) (Some h) ≡ next_by e) (sym is) (turn_of_head p v.part.value c.fork k h c.at) in
      later_turn k (child_within k h c) ∙ ap Some (sym t)

  child_origin : (k : ℕ) (h : Head) → Comes p v end k h → HasOrigin places_after (owned.boxes ++ more) (owned.turns ++ later) (length old.rows + k)
  child_origin k h c = record { origin = origin_by (base_by v end) (Some h); here = child_place k h c; box = child_box k h c; turn = child_turn k h c }

  -- the rows, the boxes and the turns of before are still there
  moves : (m : ℕ) (q : Row) → slice_get old.rows m ≡ Some q → (y : Row) × (slice_get made m ≡ Some y) × (y.path ≡ q.path) × (y.head ≡ q.head)
  moves = moved old.rows owned.paths n r here change heads becomes

  stay : (m t : ℕ) → slice_get owned.turns m ≡ Some t → slice_get (owned.turns ++ later) m ≡ Some t
  stay m t h = get_left owned.turns later m t h

  before_box : (m : ℕ) (q : Row) (b : PartBox) → slice_get old.rows m ≡ Some q → slice_get (owned.boxes ++ more) m ≡ Some b → slice_get owned.boxes m ≡ Some b
  before_box m q b at now =
      let z = box_there (rules_of p) root old.rows owned.boxes owned.of_root m q at in
      let a = get_left owned.boxes more m z.0 z.1 in
      let same : z.0 ≡ b = cc in
      z.1 ∙ ap Some same

  before_turn : (m : ℕ) (q : Row) (t : ℕ) → slice_get old.rows m ≡ Some q → slice_get (owned.turns ++ later) m ≡ Some t → slice_get owned.turns m ≡ Some t
  before_turn m q t at now =
      let z = there owned.turns m (let a = slice_get_within old.rows m q at in let b = owned.count in omega arith) in
      let a = get_left owned.turns later m z.0 z.1 in
      let same : z.0 ≡ t = cc in
      z.1 ∙ ap Some same

  -- the fork of the box that was split
  fork_here : (e : WorkEnd) → end ≡ e → SplitIsForked p made (owned.turns ++ later) v.turn (box_of_view v) (standing_by old.rows (box_end p v e))
  fork_here (Shut c) is = tt
  fork_here Left is = tt
  fork_here (Split fork) is =
      let split : CanEnd p v (Split fork) = subst (λ (e : WorkEnd). CanEnd p v e) is can in
      record {
        fork = fork;
        has = split.2;
        wide = split.3;
        branch_is = refl;
        number = refl;
        head_at = λ k h at.
            let in_heads : slice_get heads k ≡ Some h = ap (λ (e : WorkEnd). slice_get (heads_by (box_end p v e)) k) is ∙ at in
            let z = placed old.rows owned.paths n r here change heads becomes k h in_heads in
            (z.0, z.1, z.2.head_is);
        turn_at = λ k h at. later_turn k (child_within k h (record { fork = fork; is = is; at = at })) ∙ ap (λ (e : WorkEnd). Some (next_by e)) is;
      }

  forks_after : (m : ℕ) (y : Row) (b : PartBox) (turn : ℕ) → slice_get made m ≡ Some y → slice_get (owned.boxes ++ more) m ≡ Some b → slice_get (owned.turns ++ later) m ≡ Some turn
      → Holds (after_steps (rules_of p) b y.steps) (λ c. SplitIsForked p made (owned.turns ++ later) turn c y.standing)
  forks_after m y b turn at box turned =
      elim (origin old.rows owned.paths n r here change heads becomes m y at) [
        | inl before ↦ elim before.which [
          | inl other ↦
              let q = before.row in
              subst (λ (z : Row). Holds (after_steps (rules_of p) b z.steps) (λ c. SplitIsForked p made (owned.turns ++ later) turn c z.standing)) (sym other.1)
              (holds_map (after_steps (rules_of p) b q.steps) (λ c. SplitIsForked p old.rows owned.turns turn c q.standing) (λ c. SplitIsForked p made (owned.turns ++ later) turn c q.standing)
              (λ c h. fork_moved p old.rows made owned.turns (owned.turns ++ later) moves stay turn c q.standing h)
              (owned.forks m q b turn before.here (before_box m q b before.here box) (before_turn m q turn before.here turned)))
          | inr this ↦
              let q = before.row in
              let at_n = this.0 in
              let there = before.here in
              let b_is : b ≡ box_of pool_scale work.origin = (let a = before_box m q b there box in let c = box_here in cc) in
              let turn_is : turn ≡ v.turn = (let a = before_turn m q turn there turned in let c = turn_here in cc) in
              let done : Holds (after_steps (rules_of p) (box_of pool_scale work.origin) steps) (λ c. SplitIsForked p made (owned.turns ++ later) v.turn c (standing_by old.rows (box_end p v end))) = (let a = work.after in rw a (fork_here end refl)) in
              subst (λ (z : Row). Holds (after_steps (rules_of p) b z.steps) (λ c. SplitIsForked p made (owned.turns ++ later) turn c z.standing)) (sym this.1)
              (subst (λ (t : ℕ). Holds (after_steps (rules_of p) b steps) (λ c. SplitIsForked p made (owned.turns ++ later) t c (standing_by old.rows (box_end p v end)))) (sym turn_is)
              (subst (λ (x : PartBox). Holds (after_steps (rules_of p) x steps) (λ c. SplitIsForked p made (owned.turns ++ later) v.turn c (standing_by old.rows (box_end p v end)))) (sym b_is) done))
        ]
        | inr child_now ↦ let (k, h, sum, in_heads, child) = child_now in let a = child.steps_is in let w = child.waits in rw (a, w) tt
      ]

  worked_now : (e : tree.WorkEnd) → (standing_by old.rows e ≡ Waiting) ⊎ (standing_by old.rows e ≡ Held) → ⊥
  worked_now (ends.Shut c) h = elim h [ inl e ↦ absurd cc | inr e ↦ absurd cc ]
  worked_now (ends.Split f hs) h = elim h [ inl e ↦ absurd cc | inr e ↦ absurd cc ]
  worked_now ends.Left h = elim h [ inl e ↦ absurd cc | inr e ↦ absurd cc ]

  open_after : (m : ℕ) (y : Row) → slice_get made m ≡ Some y → (y.standing ≡ Waiting) ⊎ (y.standing ≡ Held) → HasOrigin places_after (owned.boxes ++ more) (owned.turns ++ later) m
  open_after m y at open_now =
      elim (origin old.rows owned.paths n r here change heads becomes m y at) [
        | inl before ↦ elim before.which [
          | inl other ↦
              let z = owned.open_boxes m before.row before.here (subst (λ (x : Row). (x.standing ≡ Waiting) ⊎ (x.standing ≡ Held)) other.1 open_now) in
              record {
                origin = z.origin;
                here = get_left (slice_set old.origins n None) (new_origins p v end) m (Some z.origin) (set_other old.origins n m None (Some z.origin) other.0 z.here);
                box = get_left owned.boxes more m (box_of pool_scale z.origin) z.box;
                turn = get_left owned.turns later m (turn_of z.origin) z.turn;
              }
          | inr this ↦ absurd (worked_now (box_end p v end) (subst (λ (x : Row). (x.standing ≡ Waiting) ⊎ (x.standing ≡ Held)) this.1 open_now))
        ]
        | inr child_now ↦
            let (k, h, sum, in_heads, child) = child_now in
            subst (λ (i : ℕ). HasOrigin places_after (owned.boxes ++ more) (owned.turns ++ later) i) (sym sum) (child_origin k h (comes p v end k h in_heads))
      ]

  fits_after : PoolFits p (boxed made places_after)
  fits_after m o at =
      elim (appended_cases (slice_set old.origins n None) (new_origins p v end) m (Some o) at) [
        | inl before ↦ owned.fits m o (set_some old.origins n m o before)
        | inr child_now ↦ let (k, sum, in_new) = child_now in child_fits end refl k o in_new
      ]
    where
      child_fits : (e : WorkEnd) → end ≡ e → (k : ℕ) (o : Origin) → slice_get (new_origins p v e) k ≡ Some (Some o) → IsOrigin p o
      child_fits (Shut c) is k o at = absurd cc
      child_fits Left is k o at = absurd cc
      child_fits (Split fork) is k o at =
          let split : CanEnd p v (Split fork) = subst (λ (e : WorkEnd). CanEnd p v e) is can in
          let fits = split.0 in
          let z = from_map (λ x. Some (origin_by (base_by v (Split fork)) (Some x))) (heads_of p v.part.value fork) k (Some o) at in
          let begin = (forks_are_expected p pool_scale v.part.value v.bounds.value v.turn fork within_limits fits.part fits.bounds split.2 split.3).1 k z.0 z.1 in
          let e : origin_by (base_by v (Split fork)) (Some z.0) ≡ o = (let t = z.2 in cc) in
          subst (IsOrigin p) e (record { part = fits.part; shape = kept_shape p v fork k z.0 z.1 fits.shape; bounds = fits.bounds; picks = begin.0; halves = begin.1 })

  pub given_stays : IsPoolOf p root (boxed made places_after)
  given_stays = record {
    boxes = owned.boxes ++ more;
    turns = owned.turns ++ later;
    paths = map_after old.rows owned.paths n r here change heads becomes;
    of_root = of_after;
    count = count_after;
    first = stay 0 0 owned.first;
    forks = forks_after;
    fits = fits_after;
    places = places_count;
    open_boxes = open_after;
  }

pub given_of : (p : Network) (root : PartBox) (old new : Boxed) (n : ℕ) (steps : List Step) (end : WorkEnd) (v : BoxView) → IsWithin p → IsHeld old.rows n → CanEnd p v end → IsWorkOn p old n steps end v → IsGiven p old new n steps end v
    → IsPoolOf p root old → IsPoolOf p root new
given_of p root old new n steps end v within_limits held can work given owned =
    let h = holds_some (slice_get old.rows n) (λ r. r.standing ≡ Held) held in
    let g = holds_some (slice_get old.rows n) (λ r. new.rows ≡ given_rows old.rows n r.path steps (box_end p v end)) given.rows in
    let same : g.0 ≡ h.0 = (let a = g.1 in let b = h.1 in cc) in
    let rows : new.rows ≡ after old.rows n h.0.path (fill steps (standing_by old.rows (box_end p v end))) (heads_by (box_end p v end)) =
    g.2 ∙ ap (λ (r : Row). given_rows old.rows n r.path steps (box_end p v end)) same ∙ given_after old.rows n h.0.path steps (box_end p v end) in
    subst (IsPoolOf p root)
    (same_pool (after old.rows n h.0.path (fill steps (standing_by old.rows (box_end p v end))) (heads_by (box_end p v end))) new.rows (slice_set old.origins n None ++ new_origins p v end) new.origins (sym rows) (sym given.origins))
    (given_stays p within_limits root old owned n h.0 h.1 h.2 steps end v can work)

pub given_or_kept : {A E : Type 0} (p : Network) (root : PartBox) (old new : Boxed) (n : ℕ) (steps : List Step) (end : WorkEnd) (v : BoxView) (result : Result A E) → OnOk result (IsGiven p old new n steps end v) → OnErr result (new ≡ old) → IsWithin p → IsHeld old.rows n → CanEnd p v end
    → IsWorkOn p old n steps end v → IsPoolOf p root old → IsPoolOf p root new
given_or_kept p root old new n steps end v (Ok x) given same within_limits held can work owned = given_of p root old new n steps end v within_limits held can work given owned
given_or_kept p root old new n steps end v (Err e) given same within_limits held can work owned = subst (IsPoolOf p root) (sym same) owned

pub if_ok_map : {A E : Type 0} (r : Result A E) (P Q : A → Type 0) → ((x : A) → P x → Q x) → IfOk r P → IfOk r Q
if_ok_map (Ok x) P Q f h = f x h
if_ok_map (Err e) P Q f h = h
