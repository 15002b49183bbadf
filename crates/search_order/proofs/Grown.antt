-- A turn keeps what is known.
use Rattle.std.proofs.Common.{◌≡◌, ◌≢◌, ℕ, zero, suc, ◌+◌, ◌*◌, ◌<◌, ◌≤◌, List, [], ◌∷◌, ◌++◌, map, length, Option, Some, None, refl, sym, ap, subst, ◌∙◌, ◌⊎◌, inl, inr, arith, length-append}
use Rattle.std.specs.Prelude.{slice_get, replicate}
use Rattle.std.proofs.lemmas.List.{append-nil, length-map, length-replicate}
use Rattle.std.proofs.lemmas.Option.{slice_get_within}
use Rattle.tree_cert.specs.declared.line.Step.{Step}
use Rattle.tree_cert.specs.declared.line.Head.{Head}
use Rattle.tree_cert.specs.TreeRules.{TreeRules, Holds}
use Rattle.tree_cert.specs.Tree.{Branch}
use Rattle.tree_pool.specs.declared.node.WorkEnd.{WorkEnd}
use Rattle.tree_pool.specs.declared.node.WorkEnd.TheVariants as ends
use Rattle.tree_pool.specs.Nodes.{branch_of}
use Rattle.tree_pool.specs.Path.{IsEarlier}
use Rattle.tree_pool.specs.Rows.{Row, Standing, Waiting, Held, Quit, Shuts, Splits, NotSplit, IsMap, IsFirstWaiting, update, fill, stand, child_rows, after, first_row, splits}
use Rattle.tree_pool.specs.Rules.{Boxes, after_steps, IsOf}
use Rattle.tree_pool.specs.Laws.{EndFits, WorkFits, heads_by}
use Rattle.tree_pool.specs.Calls.{given_rows}
use Rattle.tree_pool.proofs.Lists.{get_updated, get_left, get_right, length-update, from_map, to_map, get_replicate}
use Rattle.tree_pool.proofs.RowChanges.{KeepsPlace, Source, IsChild, Becomes, origin, moved, placed, map_after, map_updated}
use Rattle.tree_pool.proofs.Paths.{earlier_trans, before_child}
use Rattle.tree_pool.proofs.Ruled.{new_is_of, standing_keeps, giving_keeps}
use Rattle.search_order.specs.Searches.{SearchRules, IsLeft, HaveHeads, KnownAt, IsKnown, IsWorked}
use Rattle.search_order.specs.Turns.{EndKnown, IsTurn}
use Rattle.search_order.specs.Laws.{SearchBegins, TurnsKeep}
use Rattle.search_order.proofs.Counts.{new_is, within_after}
use Rattle.tree_pool.proofs.GivenBack.{standing_by, given_taken, becomes_by, worked_by, heads_are, count_heads}
use Rattle.tree_pool.proofs.PoolKeeps.{waiting_whole}

module _ (s : SearchRules) (rows : List Row) (boxes : Boxes s.tree) (turns : List ℕ) (new : List Row) (more : Boxes s.tree) (later : List ℕ)
    (moves : (m : ℕ) (q : Row) → slice_get rows m ≡ Some q → (y : Row) × (slice_get new m ≡ Some y) × (y.path ≡ q.path) × (y.head ≡ q.head)) where
  pub left_kept : (n : ℕ) (xs : List Step) (turn : ℕ) (b : s.tree.Box) → IsLeft s boxes turns n xs turn b → IsLeft s (boxes ++ more) (turns ++ later) n xs turn b
  left_kept n xs turn b l = record { start = l.start; here = get_left boxes more n l.start l.here; turned = get_left turns later n turn l.turned; moves = l.moves; after = l.after }

  heads_kept : (first : ℕ) (heads : List Head) (next : ℕ) → HaveHeads rows turns first heads next → HaveHeads new (turns ++ later) first heads next
  heads_kept first heads next h =
      record {
        row = λ k x at. let z = h.row k x at in let y = moves (first + k) z.0 z.1 in (y.0, y.1, y.3 ∙ z.2);
        turn = λ k x at. get_left turns later (first + k) next (h.turn k x at);
      }

  pub known_at_kept : (e : Standing) (turn : ℕ) (b : s.tree.Box) → KnownAt s rows turns e turn b → KnownAt s new (turns ++ later) e turn b
  known_at_kept Waiting turn b h = h
  known_at_kept Held turn b h = h
  known_at_kept Quit turn b h = h
  known_at_kept (Shuts c) turn b h = h
  known_at_kept (Splits f first count) turn b h =
      let (calm, (heads, next, number, forks, have)) = h in
      (calm, (heads, next, number, forks, heads_kept first heads next have))

  pub known_kept : (n : ℕ) (r : Row) → IsKnown s rows boxes turns n r → IsKnown s new (boxes ++ more) (turns ++ later) n r
  known_kept n r k = record { turn = k.turn; box = k.box; left = left_kept n r.steps k.turn k.box k.left; known = known_at_kept r.standing k.turn k.box k.known }

module _ (s : SearchRules) (root : s.tree.Box) (budget : ℕ) (rows : List Row) (boxes : Boxes s.tree) (turns : List ℕ) (inv : IsWorked s root budget rows boxes turns)
    (n : ℕ) (first : IsFirstWaiting rows n) (xs : List Step) (e : WorkEnd) (kids : List (Head × s.tree.Box)) (turn next : ℕ) (box : s.tree.Box)
    (left : IsLeft s boxes turns n xs turn box) (fits : EndFits s.tree box e kids) (known : EndKnown s e turn box next) where
  abbrev new : List Row
  new = after rows n first.row.path (fill xs (standing_by rows e)) (heads_by e)

  abbrev more : List s.tree.Box
  more = map (λ k. k.1) kids

  abbrev later : List ℕ
  later = replicate (length kids) next

  becomes : Becomes rows first.row (fill xs (standing_by rows e)) (heads_by e)
  becomes = becomes_by rows first.row xs e first.waits

  sized : length boxes ≡ length rows
  sized = inv.pool.count

  work_fits : WorkFits s.tree left.start xs e kids
  work_fits = let a = left.after in rw a fits

  pool_after : IsOf s.tree root new (boxes ++ more)
  pool_after =
      let taken = update rows n (stand Held) in
      let keeps : KeepsPlace first.row (stand Held) = record { path = refl; head = refl; before = waiting_whole first.row.standing first.waits } in
      let paths = map_updated rows inv.map n first.row first.here (stand Held) keeps (λ f a b h. cc) in
      let pool = standing_keeps s.tree root rows boxes n first.row Held inv.map inv.pool first.here (inl first.waits) (inr refl) in
      let there = get_updated rows n (stand Held) first.row first.here in
      subst (λ (rs : List Row). IsOf s.tree root rs (boxes ++ more)) (given_taken rows n first.row.path xs e)
      (giving_keeps s.tree root taken boxes n (stand Held first.row) left.start paths pool there refl left.here xs e kids work_fits)

  moves : (m : ℕ) (q : Row) → slice_get rows m ≡ Some q → (y : Row) × (slice_get new m ≡ Some y) × (y.path ≡ q.path) × (y.head ≡ q.head)
  moves = moved rows inv.map n first.row first.here (fill xs (standing_by rows e)) (heads_by e) becomes

  -- child k has its head, box and turn
  child_known : (k : ℕ) (x : Head) → slice_get (heads_by e) k ≡ Some x → (kid : Head × s.tree.Box) × (slice_get kids k ≡ Some kid) × (kid.0 ≡ x)
  child_known k x at = from_map (λ (k : Head × s.tree.Box). k.0) kids k x (let a = heads_are s.tree box e kids fits in rw (← a) at)

  turn_of_child : (k : ℕ) (kid : Head × s.tree.Box) → slice_get kids k ≡ Some kid → slice_get (turns ++ later) (length rows + k) ≡ Some next
  turn_of_child k kid at =
      let a = slice_get_within kids k kid at in
      let b = get_right turns later k in
      let c = get_replicate (length kids) next k a in
      let d = inv.count in
      rw (← d) (b ∙ c)

  box_of_child : (k : ℕ) (kid : Head × s.tree.Box) → slice_get kids k ≡ Some kid → slice_get (boxes ++ more) (length rows + k) ≡ Some kid.1
  box_of_child k kid at =
      let b = get_right boxes more k in
      let c = to_map (λ (k : Head × s.tree.Box). k.1) kids k kid at in
      let d = sized in
      rw (← d) (b ∙ c)

  known_by : (end : WorkEnd) → e ≡ end → KnownAt s new (turns ++ later) (standing_by rows end) turn box
  known_by (ends.Shut c) is = tt
  known_by ends.Left is = subst (λ (k : WorkEnd). EndKnown s k turn box next) is known
  known_by (ends.Split by heads) is =
      let k = subst (λ (k : WorkEnd). EndKnown s k turn box next) is known in
      let same : heads_by e ≡ heads = ap heads_by is in (
        k.0,
        (
          heads,
          next,
          refl,
          k.1,
          record {
            row = λ j x at. child_row j x (rw same at);
            turn = λ j x at. let z = child_known j x (rw same at) in turn_of_child j z.0 z.1;
          },
        ),
      )
    where
      child_row : (j : ℕ) (x : Head) → slice_get (heads_by e) j ≡ Some x → (q : Row) × (slice_get new (length rows + j) ≡ Some q) × (q.head ≡ Some x)
      child_row j x at =
          let z = placed rows inv.map n first.row first.here (fill xs (standing_by rows e)) (heads_by e) becomes j x at in
          (z.0, z.1, z.2.head_is)

  known_after : (m : ℕ) (y : Row) → slice_get new m ≡ Some y → IsKnown s new (boxes ++ more) (turns ++ later) m y
  known_after m y h =
      elim (origin rows inv.map n first.row first.here (fill xs (standing_by rows e)) (heads_by e) becomes m y h) [
        | inl old ↦ elim old.which [
          | inl other ↦
              let is : y ≡ old.row = other.1 in
              rw is (known_kept s rows boxes turns new more later moves m old.row (inv.known m old.row old.here))
          | inr this ↦
              let same : old.row ≡ first.row = (let a = old.here in let b = first.here in let c = this.0 in cc) in
              let is : y ≡ fill xs (standing_by rows e) first.row = this.1 ∙ ap (fill xs (standing_by rows e)) same in
              let at : m ≡ n = this.0 in
              rw (is, at) (record { turn = turn; box = box; left = left_kept s rows boxes turns new more later moves n xs turn box left; known = known_by e refl })
        ]
        | inr new_child ↦
            let (k, x, sum, at, child) = new_child in
            let z = child_known k x at in
            let steps = child.steps_is in
            let waits = child.waits in
            record {
              turn = next;
              box = z.0.1;
              left = record { start = z.0.1; here = rw sum (box_of_child k z.0 z.1); turned = rw sum (turn_of_child k z.0 z.1); moves = rw steps (s.still z.0.1); after = rw steps refl };
              known = rw waits tt;
            }
      ]

  bare_after : (m : ℕ) (y : Row) → slice_get new m ≡ Some y → y.standing ≡ Waiting → y.steps ≡ []
  bare_after m y h waits =
      elim (origin rows inv.map n first.row first.here (fill xs (standing_by rows e)) (heads_by e) becomes m y h) [
        | inl old ↦ elim old.which [
          | inl other ↦ rw other.1 (inv.bare m old.row old.here (let a = other.1 in cc))
          | inr this ↦ absurd (worked_by rows e (let a = this.1 in cc))
        ]
        | inr new_child ↦ let (k, x, sum, at, child) = new_child in child.steps_is
      ]

  -- a box that was worked comes before the new children
  above_children : (m : ℕ) (y : Row) → Source rows n (fill xs (standing_by rows e)) m y → y.standing ≢ Waiting → (k : ℕ) → IsEarlier y.path (k ∷ first.row.path)
  above_children m y old ne k =
      elim old.which [
        | inl other ↦
            let less = inv.ordered m n old.row first.row old.here first.here (λ a. ne (let b = other.1 in cc)) first.waits in
            let path : y.path ≡ old.row.path = old.path in
            rw path (earlier_trans old.row.path first.row.path (k ∷ first.row.path) less (before_child k first.row.path))
        | inr this ↦
            let same : old.row ≡ first.row = (let a = old.here in let b = first.here in let c = this.0 in cc) in
            let path : y.path ≡ first.row.path = (let a = old.path in cc) in
            rw path (before_child k first.row.path)
      ]

  ordered_after : (m i : ℕ) (y z : Row) → slice_get new m ≡ Some y → slice_get new i ≡ Some z → y.standing ≢ Waiting → z.standing ≡ Waiting → IsEarlier y.path z.path
  ordered_after m i y z h g ne waits =
      elim (origin rows inv.map n first.row first.here (fill xs (standing_by rows e)) (heads_by e) becomes m y h) [
        | inl old ↦ elim (origin rows inv.map n first.row first.here (fill xs (standing_by rows e)) (heads_by e) becomes i z g) [
          | inl also ↦ elim also.which [
            | inl unchanged ↦
                let still : also.row.standing ≡ Waiting = (let a = unchanged.1 in cc) in
                elim old.which [
                  | inl other ↦ rw (old.path, also.path) (inv.ordered m i old.row also.row old.here also.here (λ a. ne (let b = other.1 in cc)) still)
                  | inr this ↦
                      let same : old.row ≡ first.row = (let a = old.here in let b = first.here in let c = this.0 in cc) in
                      let path : y.path ≡ first.row.path = (let a = old.path in cc) in
                      rw (path, also.path) (first.first i also.row also.here still unchanged.0)
                ]
            | inr changed ↦ absurd (worked_by rows e (let a = changed.1 in cc))
          ]
          | inr child_now ↦ let (k, x, sum, at, child) = child_now in let p = child.path_is in rw p (above_children m y old ne k)
        ]
        | inr child_now ↦ let (k, x, sum, at, child) = child_now in absurd (ne child.waits)
      ]

  count_after : length (turns ++ later) ≡ length new
  count_after =
      let a = length-append turns later in
      let b = length-replicate (length kids) next in
      let c = length-append boxes more in
      let d = length-map kids (λ (k : Head × s.tree.Box). k.1) in
      let f = pool_after.count in
      let g = inv.count in
      let h = sized in
      omega arith

  pub worked_after : splits new ≤ budget → IsWorked s root budget new (boxes ++ more) (turns ++ later)
  worked_after small = record {
    map = map_after rows inv.map n first.row first.here (fill xs (standing_by rows e)) (heads_by e) becomes;
    pool = pool_after;
    count = count_after;
    first = get_left turns later 0 0 inv.first;
    known = known_after;
    bare = bare_after;
    ordered = ordered_after;
    within = small;
  }

pub turns_keep : (s : SearchRules) → TurnsKeep s
turns_keep s root most budget rows boxes turns new2 boxes2 turns2 n e inv first turn =
    let is = new_is s most budget rows boxes turns new2 boxes2 turns2 n e first turn in
    let within_it = within_after s most budget rows boxes turns new2 boxes2 turns2 n e first turn in
    let worked = worked_after s root budget rows boxes turns inv n first turn.steps e turn.kids turn.turn turn.next turn.box turn.left turn.fits turn.known (subst (λ (rs : List Row). splits rs ≤ budget) is within_it) in
    subst (λ (ts : List ℕ). IsWorked s root budget new2 boxes2 ts) (sym turn.turns_are)
    (subst (λ (bs : Boxes s.tree). IsWorked s root budget new2 bs (turns ++ replicate (length turn.kids) turn.next)) (sym turn.boxes_are)
    (subst (λ (rs : List Row). IsWorked s root budget rs (boxes ++ map (λ k. k.1) turn.kids) (turns ++ replicate (length turn.kids) turn.next)) (sym is) worked))

only_row : (m : ℕ) (r : Row) → slice_get (first_row ∷ []) m ≡ Some r → (m ≡ 0) × (r ≡ first_row)
only_row zero r h = (refl, cc)
only_row (suc m) r h = absurd cc

pub search_begins : (s : SearchRules) → SearchBegins s
search_begins s root budget =
    record {
      map = record {
        top = λ r h. let e = only_row 0 r h in (ap (λ (x : Row). x.path) e.1, ap (λ (x : Row). x.head) e.1);
        some = omega arith;
        headed = λ m q h. absurd cc;
        distinct = λ m n q r h g e. let a = only_row m q h in let b = only_row n r g in a.0 ∙ sym b.0;
        below = λ n r f first count h is. let e = only_row n r h in absurd (let a : Waiting ≡ Splits f first count = sym (ap (λ (x : Row). x.standing) e.1) ∙ is in cc);
        above = λ m q h. absurd cc;
      };
      pool = new_is_of s.tree root;
      count = refl;
      first = refl;
      known = λ n r h. let e = only_row n r h in rw (e.0, e.1) (record { turn = 0; box = root; left = record { start = root; here = refl; turned = refl; moves = s.still root; after = refl }; known = tt });
      bare = λ n r h waits. let e = only_row n r h in ap (λ (x : Row). x.steps) e.1;
      ordered = λ m n q r h g ne waits. let e = only_row m q h in absurd (ne (ap (λ (x : Row). x.standing) e.1));
      within = omega arith;
    }
