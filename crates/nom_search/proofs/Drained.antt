-- One turn of the loop over the boxes of a pool.
use Rattle.std.proofs.Common.{◌≡◌, ◌≢◌, ℕ, ◌+◌, ◌*◌, ◌-◌, ◌<◌, ◌≤◌, List, ◌++◌, map, length, Option, Some, None, Ok, refl, sym, ap, subst, ◌∙◌, inl, inr, ℤ}
use Rattle.std.specs.Prelude.{slice_get, replicate}
use Rattle.std.specs.Option.{option_or}
use Rattle.gas_model.specs.Rows.{Network}
use Rattle.gas_model.specs.Within.{IsWithin}
use Rattle.tree_cert.proofs.Options.{holds_some}
use Rattle.tree_rules.specs.Rules.{PartBox}
use Rattle.tree_rules.specs.Branches.{rules_of}
use Rattle.tree_pool.specs.declared.node.WorkEnd as tree
use Rattle.tree_pool.specs.declared.node.WorkEnd.TheVariants as ends
use Rattle.tree_pool.specs.Rows.{Row, Held, IsMap, update, stand, splits, IsFirstWaiting}
use Rattle.tree_pool.specs.Calls.{IsHeld, given_rows}
use Rattle.tree_pool.proofs.Lists.{get_updated, length-update}
use Rattle.search_order.specs.Searches.{IsLeft, FirstQuit}
use Rattle.search_order.specs.Turns.{IsFull, remains}
use Rattle.search_order.specs.Laws.{quit_then}
use Rattle.search_order.proofs.Counts.{splits_taken, turns_shrink}
use Rattle.search_order.proofs.Quits.{first_quit_stays}
use Rattle.search_order.proofs.Stops.{full_stops}
use Rattle.box_pool.specs.declared.pool.WorkEnd.{WorkEnd}
use Rattle.box_pool.specs.declared.pool.WorkEnd.TheVariants.{Shut, Split, Left}
use Rattle.box_pool.specs.Grid.{pool_scale}
use Rattle.box_pool.specs.Origins.{Origin, box_of, turn_of}
use Rattle.box_pool.specs.Pools.{Boxed, PoolFits, end_as, box_of_view}
use Rattle.box_split.specs.Forks.{fork_of}
use Rattle.topo.specs.Shapes.{Layout}
use Rattle.topo.proofs.OnlyOne.{one_shape}
use Rattle.gas_model.specs.declared.rows.Setting.{Setting}
use Rattle.gas_model.specs.Near.{IsNear, SettingFits}
use Rattle.tree_pool.specs.Rules.{IsOf}
use Rattle.tree_pool.proofs.RowChanges.{KeepsPlace, map_updated}
use Rattle.tree_pool.proofs.Ruled.{standing_keeps}
use Rattle.tree_pool.proofs.PoolKeeps.{waiting_whole}
use Rattle.nom_search.specs.Sought.{sought, IsLeast}
use Rattle.nom_search.specs.Searched.{AreOfStable, IsSearched, IsStopped, IsWork, IsUnpaid, Turns}
use Rattle.nom_search.specs.declared.searching.Turn.{Turn}
use Rattle.nom_search.specs.declared.searching.Turn.TheVariants as kinds
use Rattle.box_pool.proofs.ViewKids.{kids_by, next_by}
use Rattle.nom_search.proofs.Turned.{turn, searched_after}

quit_same : (quit : Option ℕ) (n : ℕ) (e : tree.WorkEnd) → e ≢ ends.Left → quit_then quit n e ≡ quit
quit_same (Some m) n e ne = refl
quit_same None n (ends.Shut c) ne = refl
quit_same None n (ends.Split by heads) ne = refl
quit_same None n ends.Left ne = absurd (ne refl)

quit_now : (quit : Option ℕ) (n : ℕ) → quit_then quit n ends.Left ≡ option_or quit (Some n)
quit_now (Some m) n = refl
quit_now None n = refl

other_end : (p : Network) (v : _) (end : WorkEnd) → end ≢ Left → end_as p v end ≢ ends.Left
other_end p v (Shut c) ne h = cc
other_end p v (Split fork) ne h = cc
other_end p v Left ne h = ne refl

pub done_is : (p : Network) (tol : ℤ) (budget : ℕ) (old new : Boxed) (n : ℕ) (t : Turn) → t ≡ kinds.Done → Turns p tol budget old new n (Ok t) → (end : WorkEnd) × (end ≢ Left) × IsWork p tol budget old new n end
done_is p tol budget old new n t is h = subst (λ (k : Turn). Turns p tol budget old new n (Ok k)) is h

pub least_is : (p : Network) (tol : ℤ) (budget : ℕ) (old new : Boxed) (n : ℕ) (t : Turn) → t ≡ kinds.Least → Turns p tol budget old new n (Ok t) → IsWork p tol budget old new n Left
least_is p tol budget old new n t is h = subst (λ (k : Turn). Turns p tol budget old new n (Ok k)) is h

pub full_is : (p : Network) (tol : ℤ) (budget : ℕ) (old new : Boxed) (n : ℕ) (t : Turn) → t ≡ kinds.Full → Turns p tol budget old new n (Ok t) → IsUnpaid p tol budget old new n
full_is p tol budget old new n t is h = subst (λ (k : Turn). Turns p tol budget old new n (Ok k)) is h

module _ (p : Network) (within : IsWithin p) (tol : ℤ) (budget : ℕ) (old taken : Boxed) (n : ℕ) (first : IsFirstWaiting old.rows n) (rows_taken : taken.rows ≡ update old.rows n (stand Held)) (same_origins : taken.origins ≡ old.origins) where
  pub held : IsHeld taken.rows n
  held = let a = get_updated old.rows n (stand Held) first.row first.here in rw (rows_taken, a) refl

  pub taken_length : length taken.rows ≡ length old.rows
  taken_length = ap length rows_taken ∙ length-update old.rows n (stand Held)

  pub taken_splits : splits taken.rows ≡ splits old.rows
  taken_splits = ap splits rows_taken ∙ splits_taken old.rows n first

  module _ (root : PartBox) (searched : IsSearched p tol root budget old) where
    pub taken_fits : PoolFits p taken
    taken_fits = λ m o h. searched.origins.fits m o (let a = same_origins in rw a at h)

    pub taken_stable : AreOfStable p taken
    taken_stable = λ m o h. searched.origins.stable m o (let a = same_origins in rw a at h)

    pub taken_origin : (o : Origin) × (slice_get taken.origins n ≡ Some (Some o))
    taken_origin = let z = searched.origins.each n first.row first.here first.waits in (z.0, (let a = same_origins in rw a z.1))

    module _ (new : Boxed) (end : WorkEnd) (w : IsWork p tol budget taken new n end) where
      pub shrinks : (remains 1024 budget new.rows < remains 1024 budget old.rows) × (splits new.rows ≤ budget) × (length new.rows + 1024 * (budget - splits new.rows) ≤ length old.rows + 1024 * (budget - splits old.rows))
      shrinks =
          turns_shrink (sought p tol) root 1024 budget old.rows searched.boxes searched.turns new.rows (searched.boxes ++ map (λ k. k.1) (kids_by p w.view end)) (searched.turns ++ replicate (length (kids_by p w.view end)) (next_by end)) n (end_as p w.view.part.value end) first
          (turn p within tol root budget old taken new n end searched first rows_taken same_origins w)

      pub quits : (quit : Option ℕ) → FirstQuit old.rows quit → FirstQuit new.rows (quit_then quit n (end_as p w.view.part.value end))
      quits quit h =
          first_quit_stays (sought p tol) root 1024 budget old.rows searched.boxes searched.turns new.rows (searched.boxes ++ map (λ k. k.1) (kids_by p w.view end)) (searched.turns ++ replicate (length (kids_by p w.view end)) (next_by end)) n (end_as p w.view.part.value end) quit searched.worked first
          (turn p within tol root budget old taken new n end searched first rows_taken same_origins w) h

      pub quits_not : end ≢ Left → (quit : Option ℕ) → FirstQuit old.rows quit → FirstQuit new.rows quit
      quits_not ne quit h = subst (λ (o : Option ℕ). FirstQuit new.rows o) (quit_same quit n (end_as p w.view.part.value end) (other_end p w.view.part.value end ne)) (quits quit h)

      pub searched_on : IsSearched p tol root budget new
      searched_on = searched_after p within tol root budget old taken new n end searched first rows_taken same_origins w

    pub quits_left : (new : Boxed) (w : IsWork p tol budget taken new n Left) (quit : Option ℕ) → FirstQuit old.rows quit → FirstQuit new.rows (option_or quit (Some n))
    quits_left new w quit h = subst (λ (o : Option ℕ). FirstQuit new.rows o) (quit_now quit n) (quits new Left w quit h)

    pub stopped : (new : Boxed) → IsUnpaid p tol budget taken new n → IsStopped p tol root budget new n
    stopped new u =
        let z = searched.origins.each n first.row first.here first.waits in
        let same : z.0 ≡ u.origin = (let a = z.1 in let b = u.here in let c = same_origins in cc) in
        let left : IsLeft (sought p tol) searched.boxes searched.turns n u.steps u.view.turn (box_of_view u.view) = record {
          start = box_of pool_scale u.origin;
          here = z.2 ∙ ap (λ (o : Origin). Some (box_of pool_scale o)) same;
          turned = z.3 ∙ ap (λ (o : Origin). Some (turn_of o)) same ∙ ap Some (sym u.leads.turn);
          moves = u.leads.moves;
          after = u.leads.after;
        } in
        let given = holds_some (slice_get taken.rows n) (λ r. new.rows ≡ given_rows taken.rows n r.path u.steps ends.Left) u.given.rows in
        let full : IsFull (sought p tol) budget (update old.rows n (stand Held)) searched.boxes searched.turns new.rows n =
        subst (λ (rs : List Row). IsFull (sought p tol) budget rs searched.boxes searched.turns new.rows n) rows_taken
        (record {
          row = given.0;
          here = given.1;
          steps = u.steps;
          turn = u.view.turn;
          box = box_of_view u.view;
          left = left;
          calm = u.calm;
          wide = λ least. not_least least;
          spent = u.spent;
          rows_are = given.2;
        }) in
        let s = full_stops (sought p tol) root budget old.rows searched.boxes searched.turns new.rows n searched.worked first full in
        record { boxes = searched.boxes; turns = searched.turns; map = s.1; of_root = s.2; first = searched.worked.first; stops = s.0 }
      where
        not_least : IsLeast p u.view.turn (box_of_view u.view) → ⊥
        not_least least =
            let s = one_shape p u.view.part.value least.shape u.has.shape least.is_shape u.has.is_shape in
            u.wide (u.has.fork_is ∙ ap (λ (k : Layout). fork_of p k.split_list u.view.part.value u.view.bounds.value u.view.turn) (sym s) ∙ sym least.fork_is)
