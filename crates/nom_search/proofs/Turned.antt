-- What a turn comes to, as the search sees it.
use Rattle.std.proofs.Common.{◌≡◌, ◌≢◌, ℕ, zero, suc, ◌+◌, ◌*◌, ◌<◌, ◌≤◌, List, [], ◌∷◌, ◌++◌, map, length, Option, Some, None, refl, sym, ap, subst, ◌∙◌, inl, inr, arith, length-append, length-set, true, false, ℤ}
use Rattle.std.specs.Prelude.{slice_get, slice_set, replicate}
use Rattle.std.specs.List.{range_with_len}
use Rattle.std.specs.Option.{option_map_or}
use Rattle.std.proofs.lemmas.Option.{slice_get_within}
use Rattle.std.proofs.lemmas.List.{length-map}
use Rattle.gas_model.specs.Rows.{Network}
use Rattle.gas_model.specs.Within.{IsWithin}
use Rattle.gas_model.specs.declared.rows.ArcRow.{ArcRow}
use Rattle.gas_model.specs.declared.rows.Group.{Group}
use Rattle.gas_model.specs.declared.rows.PartState.{PartState}
use Rattle.gas_model.specs.Choices.{allowed_states}
use Rattle.tree_cert.specs.declared.line.Head.{Head}
use Rattle.tree_cert.specs.declared.line.Head.TheVariants.{Take, State, Half}
use Rattle.tree_cert.specs.TreeRules.{Holds}
use Rattle.tree_cert.proofs.Options.{holds_some}
use Rattle.tree_rules.specs.Rules.{PartBox}
use Rattle.tree_rules.specs.Branches.{headed, rules_of, decision_heads}
use Rattle.tree_pool.specs.declared.node.BranchBy.{BranchBy}
use Rattle.tree_pool.specs.declared.node.BranchBy.TheVariants as by
use Rattle.tree_pool.specs.declared.node.WorkEnd as tree
use Rattle.tree_pool.specs.Rows.{Row, Waiting, Held, update, stand, fill, after, splits, IsFirstWaiting}
use Rattle.tree_pool.specs.Laws.{EndFits, heads_by}
use Rattle.tree_pool.specs.Calls.{given_rows}
use Rattle.tree_pool.proofs.Lists.{get_left, get_right, appended_cases, from_map, to_map, get_replicate, set_other, set_some}
use Rattle.tree_pool.proofs.RowChanges.{origin}
use Rattle.box_split.specs.declared.forks.Fork.{Fork}
use Rattle.box_split.specs.declared.forks.Fork.TheVariants.{Group as GroupFork, Free, Halve, Least}
use Rattle.search_order.specs.Searches.{IsLeft, IsWorked}
use Rattle.search_order.specs.Turns.{EndKnown, IsTurn, splits_by}
use Rattle.tree_pool.proofs.GivenBack.{standing_by, becomes_by, worked_by}
use Rattle.search_order.proofs.Counts.{new_is}
use Rattle.search_order.proofs.Grown.{turns_keep}
use Rattle.box_pool.specs.declared.pool.WorkEnd.{WorkEnd}
use Rattle.box_pool.specs.declared.pool.WorkEnd.TheVariants.{Shut, Split, Left}
use Rattle.box_pool.specs.declared.open_box.ParentBox.{ParentBox}
use Rattle.box_pool.specs.declared.open_box.BoxView.{BoxView}
use Rattle.box_pool.specs.Grid.{pool_scale}
use Rattle.box_pool.specs.Forks.{by_of, heads_of, next_of, state_heads}
use Rattle.box_pool.specs.Expected.{kids_of}
use Rattle.box_pool.specs.Origins.{Origin, box_of, turn_of, turn_by, origin_by, IsOrigin}
use Rattle.box_pool.specs.Pools.{Boxed, PoolFits, ViewFits, end_as, base_of, new_origins, box_of_view}
use Rattle.box_pool.proofs.Forked.{forks_are_expected}
use Rattle.box_pool.proofs.StillFits.{kept_shape}
use Rattle.box_pool.proofs.ViewKids.{kids_by, next_by, base_by, box_end, first_of_kids, headed_box, turn_of_head, Comes, comes, count_kids}
use Rattle.nom_search.specs.Sought.{sought}
use Rattle.nom_search.specs.Searched.{IsOfStable, AreOfStable, IsSearched, IsEnd, IsWork}
use Rattle.nom_search.proofs.Runs.{few_heads}

-- ---- the end of the work

pub end_fits : (p : Network) (tol : ℤ) (v : BoxView) (end : WorkEnd) → IsWithin p → ViewFits p v → IsEnd p tol v end → EndFits (rules_of p) (box_of_view v) (box_end p v end) (kids_by p v end)
end_fits p tol v (Shut c) within fits known = (known, refl)
end_fits p tol v (Split fork) within fits known =
    ((forks_are_expected p pool_scale v.part.value v.bounds.value v.turn fork within fits.part fits.bounds known.1 known.2).0, first_of_kids (box_of_view v) (heads_of p v.part.value fork))
end_fits p tol v Left within fits known = refl

pub end_known : (p : Network) (tol : ℤ) (v : BoxView) (end : WorkEnd) → IsEnd p tol v end → EndKnown (sought p tol) (box_end p v end) v.turn (box_of_view v) (next_by end)
end_known p tol v (Shut c) known = tt
end_known p tol v (Split fork) known = (known.0, record { fork = fork; has = known.1; wide = known.2; branch_is = refl; heads_are = refl; next_is = refl })
end_known p tol v Left known = known

pub few_kids : (p : Network) (v : BoxView) (end : WorkEnd) → IsWithin p → length (kids_by p v end) ≤ 1024 * splits_by (box_end p v end)
few_kids p v (Shut c) within = omega arith
few_kids p v (Split fork) within =
    let a = few_heads p v.part.value fork within in
    let b : length (kids_by p v (Split fork)) ≡ length (heads_of p v.part.value fork) = length-map (heads_of p v.part.value fork) (λ (h : Head). (h, headed (box_of_view v) h)) in
    omega arith
few_kids p v Left within = omega arith

module _ (p : Network) (within : IsWithin p) (tol : ℤ) (root : PartBox) (budget : ℕ) (old taken new : Boxed) (n : ℕ) (end : WorkEnd) (searched : IsSearched p tol root budget old) (first : IsFirstWaiting old.rows n)
    (rows_taken : taken.rows ≡ update old.rows n (stand Held)) (same_origins : taken.origins ≡ old.origins) (w : IsWork p tol budget taken new n end) where
  from : (o : Origin) × (slice_get old.origins n ≡ Some (Some o)) × (slice_get searched.boxes n ≡ Some (box_of pool_scale o)) × (slice_get searched.turns n ≡ Some (turn_of o))
  from = searched.origins.each n first.row first.here first.waits

  same : from.0 ≡ w.origin
  same = let a = from.1 in let b = w.here in let c = same_origins in cc

  abbrev tree_end : tree.WorkEnd
  tree_end = box_end p w.view end

  abbrev kids : List (Head × PartBox)
  kids = kids_by p w.view end

  left : IsLeft (sought p tol) searched.boxes searched.turns n w.steps w.view.turn (box_of_view w.view)
  left =
      let e = same in
      record {
        start = box_of pool_scale w.origin;
        here = from.2 ∙ ap (λ (o : Origin). Some (box_of pool_scale o)) e;
        turned = from.3 ∙ ap (λ (o : Origin). Some (turn_of o)) e ∙ ap Some (sym w.leads.turn);
        moves = w.leads.moves;
        after = w.leads.after;
      }

  given : (r : Row) × (slice_get (update old.rows n (stand Held)) n ≡ Some r) × (new.rows ≡ given_rows (update old.rows n (stand Held)) n r.path w.steps tree_end)
  given =
      holds_some (slice_get (update old.rows n (stand Held)) n) (λ r. new.rows ≡ given_rows (update old.rows n (stand Held)) n r.path w.steps tree_end)
      (subst (λ (rs : List Row). Holds (slice_get rs n) (λ r. new.rows ≡ given_rows rs n r.path w.steps tree_end)) rows_taken w.given.rows)

  pub turn : IsTurn (sought p tol) 1024 budget (update old.rows n (stand Held)) searched.boxes searched.turns new.rows (searched.boxes ++ map (λ k. k.1) kids) (searched.turns ++ replicate (length kids) (next_by end)) n tree_end
  turn =
      record {
        row = given.0;
        here = given.1;
        steps = w.steps;
        kids = kids;
        turn = w.view.turn;
        next = next_by end;
        box = box_of_view w.view;
        left = left;
        fits = end_fits p tol w.view end within w.leads.fits w.known;
        known = end_known p tol w.view end w.known;
        few = few_kids p w.view end within;
        room = (let a = ap splits rows_taken in let b = w.room in omega arith);
        rows_are = given.2;
        boxes_are = refl;
        turns_are = refl;
      }

  worked : IsWorked (sought p tol) root budget new.rows (searched.boxes ++ map (λ k. k.1) kids) (searched.turns ++ replicate (length kids) (next_by end))
  worked = turns_keep (sought p tol) root 1024 budget old.rows searched.boxes searched.turns new.rows (searched.boxes ++ map (λ k. k.1) kids) (searched.turns ++ replicate (length kids) (next_by end)) n tree_end searched.worked first turn

  rows_after : new.rows ≡ after old.rows n first.row.path (fill w.steps (standing_by old.rows tree_end)) (heads_by tree_end)
  unfolding turn
  rows_after = new_is (sought p tol) 1024 budget old.rows searched.boxes searched.turns new.rows (searched.boxes ++ map (λ k. k.1) kids) (searched.turns ++ replicate (length kids) (next_by end)) n tree_end first turn

  origins_after : new.origins ≡ slice_set old.origins n None ++ new_origins p w.view end
  origins_after = w.given.origins ∙ ap (λ (os : List (Option Origin)). slice_set os n None ++ new_origins p w.view end) same_origins

  sized : length (slice_set old.origins n None) ≡ length old.rows
  sized = length-set old.origins n None ∙ searched.origins.count

  count_after : length new.origins ≡ length new.rows
  count_after =
      let a = ap length origins_after ∙ length-append (slice_set old.origins n None) (new_origins p w.view end) in
      let b = count_kids p w.view end in
      let c = worked.pool.count in
      let d = length-append searched.boxes (map (λ (k : Head × PartBox). k.1) kids) in
      let e = length-map kids (λ (k : Head × PartBox). k.1) in
      let f = searched.worked.pool.count in
      let g = sized in
      omega arith

  child_place : (k : ℕ) (h : Head) → Comes p w.view end k h → slice_get new.origins (length old.rows + k) ≡ Some (Some (origin_by (base_by w.view end) (Some h)))
  child_place k h c =
      let a = get_right (slice_set old.origins n None) (new_origins p w.view end) k in
      let is = c.is in
      let b : slice_get (new_origins p w.view (Split c.fork)) k ≡ Some (Some (origin_by (base_by w.view (Split c.fork)) (Some h))) = to_map (λ x. Some (origin_by (base_by w.view (Split c.fork)) (Some x))) (heads_of p w.view.part.value c.fork) k h c.at in
      let d : slice_get (new_origins p w.view end) k ≡ Some (Some (origin_by (base_by w.view end) (Some h))) = (rw is b) in
      let s = sized in
      let z = origins_after in
      rw (z, ← s) (a ∙ d)

  child_box : (k : ℕ) (h : Head) → Comes p w.view end k h → slice_get (searched.boxes ++ map (λ (k : Head × PartBox). k.1) kids) (length old.rows + k) ≡ Some (box_of pool_scale (origin_by (base_by w.view end) (Some h)))
  child_box k h c =
      let is = c.is in
      let a = get_right searched.boxes (map (λ (k : Head × PartBox). k.1) kids) k in
      let b : slice_get (kids_by p w.view (Split c.fork)) k ≡ Some (h, headed (box_of_view w.view) h) = to_map (λ x. (x, headed (box_of_view w.view) x)) (heads_of p w.view.part.value c.fork) k h c.at in
      let d : slice_get kids k ≡ Some (h, headed (box_of_view w.view) h) = (rw is b) in
      let e = to_map (λ (x : Head × PartBox). x.1) kids k (h, headed (box_of_view w.view) h) d in
      let s = searched.worked.pool.count in
      rw (← s) (a ∙ e ∙ ap Some (headed_box w.view end h))

  child_turn : (k : ℕ) (h : Head) → Comes p w.view end k h → slice_get (searched.turns ++ replicate (length kids) (next_by end)) (length old.rows + k) ≡ Some (turn_of (origin_by (base_by w.view end) (Some h)))
  child_turn k h c =
      let is = c.is in
      let a = get_right searched.turns (replicate (length kids) (next_by end)) k in
      let l = slice_get_within (heads_of p w.view.part.value c.fork) k h c.at in
      let m : length (kids_by p w.view (Split c.fork)) ≡ length (heads_of p w.view.part.value c.fork) = length-map (heads_of p w.view.part.value c.fork) (λ (h : Head). (h, headed (box_of_view w.view) h)) in
      let lt : k < length kids = (rw is (omega arith)) in
      let b = get_replicate (length kids) (next_by end) k lt in
      let t : turn_by (next_by end) (Some h) ≡ next_by end = subst (λ (e : WorkEnd). turn_by (next_by e) (Some h) ≡ next_by e) (sym is) (turn_of_head p w.view.part.value c.fork k h c.at) in
      let s = searched.worked.count in
      rw (← s) (a ∙ b ∙ ap Some (sym t))

  origin_each : (m : ℕ) (r : Row) → slice_get new.rows m ≡ Some r → r.standing ≡ Waiting
      → (o : Origin) × (slice_get new.origins m ≡ Some (Some o)) × (slice_get (searched.boxes ++ map (λ (k : Head × PartBox). k.1) kids) m ≡ Some (box_of pool_scale o)) × (slice_get (searched.turns ++ replicate (length kids) (next_by end)) m ≡ Some (turn_of o))
  origin_each m r here waits =
      elim (origin old.rows searched.worked.map n first.row first.here (fill w.steps (standing_by old.rows tree_end)) (heads_by tree_end) (becomes_by old.rows first.row w.steps tree_end first.waits) m r (let a = rows_after in rw a at here)) [
        | inl before ↦ elim before.which [
          | inl other ↦
              let z = searched.origins.each m before.row before.here (let a = other.1 in cc) in
              let q = origins_after in (
                z.0,
                rw q (get_left (slice_set old.origins n None) (new_origins p w.view end) m (Some z.0) (set_other old.origins n m None (Some z.0) other.0 z.1)),
                get_left searched.boxes (map (λ (k : Head × PartBox). k.1) kids) m (box_of pool_scale z.0) z.2,
                get_left searched.turns (replicate (length kids) (next_by end)) m (turn_of z.0) z.3,
              )
          | inr this ↦ absurd (worked_by old.rows tree_end (let a = this.1 in cc))
        ]
        | inr child_now ↦
            let (k, h, sum, at, child) = child_now in
            let c = comes p w.view end k h at in
            (origin_by (base_by w.view end) (Some h), rw sum (child_place k h c), rw sum (child_box k h c), rw sum (child_turn k h c))
      ]

  begins : (k : ℕ) (h : Head) → Comes p w.view end k h → IsOrigin p (origin_by (base_by w.view end) (Some h))
  begins k h c =
      let is = c.is in
      let known : IsEnd p tol w.view (Split c.fork) = subst (λ (e : WorkEnd). IsEnd p tol w.view e) is w.known in
      let fits = w.leads.fits in
      let can = (forks_are_expected p pool_scale w.view.part.value w.view.bounds.value w.view.turn c.fork within fits.part fits.bounds known.1 known.2).1 k h c.at in
      record { part = fits.part; shape = rw is (kept_shape p w.view c.fork k h c.at fits.shape); bounds = fits.bounds; picks = can.0; halves = can.1 }

  fits_after : PoolFits p new
  fits_after m o here =
      elim (appended_cases (slice_set old.origins n None) (new_origins p w.view end) m (Some o) (let a = origins_after in rw a at here)) [
        | inl before ↦ searched.origins.fits m o (set_some old.origins n m o before)
        | inr child_now ↦ let (k, sum, at) = child_now in child_fits end refl k o at
      ]
    where
      child_fits : (e : WorkEnd) → end ≡ e → (k : ℕ) (o : Origin) → slice_get (new_origins p w.view e) k ≡ Some (Some o) → IsOrigin p o
      child_fits (Shut c) is k o at = absurd cc
      child_fits Left is k o at = absurd cc
      child_fits (Split fork) is k o at =
          let z = from_map (λ x. Some (origin_by (base_by w.view (Split fork)) (Some x))) (heads_of p w.view.part.value fork) k (Some o) at in
          let b = begins k z.0 (record { fork = fork; is = is; at = z.1 }) in
          let there : origin_by (base_by w.view (Split fork)) (Some z.0) ≡ o = (let t = z.2 in cc) in
          let e : origin_by (base_by w.view end) (Some z.0) ≡ o = ap (λ (x : WorkEnd). origin_by (base_by w.view x) (Some z.0)) is ∙ there in
          subst (IsOrigin p) e b

  -- a box that is split is stable, and its children come of it
  stable_after : AreOfStable p new
  stable_after m o here =
      elim (appended_cases (slice_set old.origins n None) (new_origins p w.view end) m (Some o) (let a = origins_after in rw a at here)) [
        | inl before ↦ searched.origins.stable m o (set_some old.origins n m o before)
        | inr child_now ↦ let (k, sum, at) = child_now in child_stable end refl k o at
      ]
    where
      child_stable : (e : WorkEnd) → end ≡ e → (k : ℕ) (o : Origin) → slice_get (new_origins p w.view e) k ≡ Some (Some o) → IsOfStable p o
      child_stable (Shut c) is k o at = absurd cc
      child_stable Left is k o at = absurd cc
      child_stable (Split fork) is k o at =
          let known : IsEnd p tol w.view (Split fork) = subst (λ (e : WorkEnd). IsEnd p tol w.view e) is w.known in
          let z = from_map (λ x. Some (origin_by (base_by w.view (Split fork)) (Some x))) (heads_of p w.view.part.value fork) k (Some o) at in
          let e : origin_by (base_by w.view (Split fork)) (Some z.0) ≡ o = (let t = z.2 in cc) in
          subst (IsOfStable p) e (λ h i. known.0.stable)

  pub searched_after : IsSearched p tol root budget new
  searched_after = record {
    boxes = searched.boxes ++ map (λ k. k.1) kids;
    turns = searched.turns ++ replicate (length kids) (next_by end);
    worked = worked;
    origins = record { fits = fits_after; stable = stable_after; count = count_after; each = origin_each };
  }
