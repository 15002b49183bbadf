-- The one tree of rows that are a map.
use Rattle.std.proofs.Common.{◌≡◌, ◌≢◌, ℕ, List, [], Option, Some, None, refl, sym, subst}
use Rattle.std.specs.Prelude.{slice_get, option_map}
use Rattle.tree_cert.specs.Tree.{Tree}
use Rattle.tree_cert.specs.TreeRules.{Holds}
use Rattle.tree_cert.proofs.Options.{holds_some, some_holds}
use Rattle.tree_pool.specs.Rows.{Row, row_at, IsMap}
use Rattle.tree_pool.specs.Shown.{Work, Opens, end_of, work_of, works, IsBoxOf, Shows, NoneOpen}
use Rattle.tree_pool.specs.Laws.{ShowOneTree, IsWholeWhereNoneOpen, WorksDecide}
use Rattle.tree_pool.proofs.Lists.{stands, there}
use Rattle.tree_pool.proofs.Shown.{agree, one_box, work_at}
use Rattle.tree_pool.proofs.WholeTrees.{shown, closed, none_open}

pub works_decide : WorksDecide
works_decide v w same t shows =
    let z = holds_some (v []) (λ x. IsBoxOf v [] x.steps x.end t) shows in
    some_holds (w []) (λ x. IsBoxOf w [] x.steps x.end t) z.0 (let a = same [] in let b = z.1 in cc) (agree v w same [] z.0.steps z.0.end t z.2)

module _ (rows : List Row) (map : IsMap rows) where
  root_work : (q : Row) × (slice_get rows 0 ≡ Some q) × (works rows [] ≡ Some (work_of q))
  root_work =
      let q = there rows 0 map.some in
      let top = map.top q.0 q.1 in
      (q.0, q.1, subst (λ (p : List ℕ). works rows p ≡ Some (work_of q.0)) top.0 (work_at rows map 0 q.0 q.1))

  root_box : (t : Tree) → Shows (works rows) [] t → IsBoxOf (works rows) [] root_work.0.steps (end_of root_work.0.standing) t
  root_box t shows = subst (λ (o : Option Work). Holds o (λ x. IsBoxOf (works rows) [] x.steps x.end t)) root_work.2 shows

  pub show_one_tree : ShowOneTree rows
  show_one_tree =
      let q = root_work in
      let z = shown rows map 0 q.0 q.1 in
      let top = map.top q.0 q.1 in (
        (z.0, subst (λ (o : Option Work). Holds o (λ x. IsBoxOf (works rows) [] x.steps x.end z.0)) (sym q.2) (subst (λ (p : List ℕ). IsBoxOf (works rows) p q.0.steps (end_of q.0.standing) z.0) top.0 z.1)),
        λ t u h g. one_box (works rows) [] q.0.steps (end_of q.0.standing) t u (root_box t h) (root_box u g),
      )

  no_end : NoneOpen rows → (p : List ℕ) (x : Work) → works rows p ≡ Some x → x.end ≢ Opens
  no_end none p x here = by_row (row_at rows p) refl here
    where
      by_row : (o : Option Row) → row_at rows p ≡ o → option_map work_of o ≡ Some x → x.end ≢ Opens
      by_row None e h = absurd cc
      by_row (Some r) e h =
          let z = stands rows p r e in
          let same : work_of r ≡ x = cc in
          subst (λ (y : Work). y.end ≢ Opens) same (none z.0 r z.1)

  pub whole_where_none_open : IsWholeWhereNoneOpen rows
  whole_where_none_open t shows =
      let q = root_work in
      let box = root_box t shows in (
        λ whole n r here. none_open rows map q.0 q.1 t box whole n r here,
        λ none. closed (works rows) (no_end none) [] q.0.steps (end_of q.0.standing) t (none 0 q.0 q.1) box,
      )
