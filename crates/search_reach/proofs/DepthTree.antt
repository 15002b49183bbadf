-- The part state of each box of a pool is one of its depth.
use Rattle.std.proofs.Common.{◌≡◌, ◌≢◌, ℕ, zero, suc, ◌+◌, ◌<◌, List, [], ◌∷◌, map, length, Option, Some, refl, sym, ap, subst, ◌∙◌, ◌⊎◌, inl, inr, arith, ℤ}
use Rattle.std.specs.Prelude.{slice_get}
use Rattle.gas_model.specs.declared.rows.PartState.{PartState}
use Rattle.gas_model.specs.Rows.{Network}
use Rattle.gas_model.specs.Choices.{allowed_states}
use Rattle.tree_cert.specs.declared.line.Head.{Head}
use Rattle.tree_cert.specs.declared.line.Head.TheVariants.{State}
use Rattle.tree_cert.specs.Tree.{Branch, ByGroup, ByArc, ByHalves}
use Rattle.tree_cert.specs.TreeRules.{Holds}
use Rattle.tree_rules.specs.Rules.{PartBox}
use Rattle.tree_rules.specs.Branches.{Wait, Heads, Halves, with_pick, decision_heads, after_branch, rules_of, root_box}
use Rattle.tree_pool.specs.Nodes.{branch_of}
use Rattle.tree_pool.specs.Rows.{Standing, Waiting, Quit, Splits, Row, IsMap}
use Rattle.tree_pool.specs.Rules.{AreGiven, EndHolds, IsOf}
use Rattle.search_order.specs.Searches.{KnownAt, IsKnown, StopsAt}
use Rattle.search_order.specs.Levels.{IsNarrow}
use Rattle.search_order.proofs.PathOrder.{total}
use Rattle.box_split.specs.declared.forks.Fork.{Fork}
use Rattle.box_split.specs.declared.forks.Fork.TheVariants.{Least}
use Rattle.box_pool.specs.Grid.{pool_scale}
use Rattle.box_pool.specs.Forks.{by_of, HasFork}
use Rattle.nom_search.specs.Sought.{sought, IsSplitBy}
use Rattle.search_reach.specs.Depth.{children_at}
use Rattle.box_split.proofs.ForkCases.{ByGroup as GroupCase, ByArc as ArcCase, ByHalf as HalfCase, fork_cases}
use Rattle.search_reach.proofs.DepthKids.{HasHead, steps_keep_part, heads_give, halves_keep, by_var, by_group, by_arc, group_child, arc_child}
use Rattle.search_reach.proofs.DepthParts.{IsAt, root_at, group_is, group_next, half_next, arc_next}
use Rattle.search_reach.proofs.DepthWidth.{few_heads}
use Rattle.tree_pool.proofs.Lists.{there, same_row}

abbrev pub Cases : Network → PartState → Fork → Type 0
Cases p part fork = GroupCase p part fork ⊎ (ArcCase p part fork ⊎ HalfCase p part fork)

-- what a fork that isn't `Least` is by
pub cases_of : (p : Network) (part : PartState) (b : _) (turn : ℕ) (fork : Fork) → HasFork p part b turn fork → fork ≢ Least → Cases p part fork
cases_of p part b turn fork has wide =
    let e = has.fork_is in
    subst (Cases p part) (sym e) (fork_cases p has.shape.split_list part b turn (λ z. wide (e ∙ z)))

-- ---- the children of one box

module _ (p : Network) (rows : List Row) (boxes : List PartBox) (first count : ℕ) (d : ℕ) (box : PartBox) (at : IsAt p d box.part) (k : ℕ) (lt : k < count) (child : PartBox) (here : slice_get boxes (first + k) ≡ Some child) where
  abbrev Given : Wait → Type 0
  Given w = AreGiven (rules_of p) rows boxes w first count

  kid_of : (w : Wait) (g : Given w) → (kid : Head × PartBox) × (slice_get g.kids k ≡ Some kid) × (child ≡ kid.1)
  kid_of w g =
      let kid = there g.kids k (let e = g.number in omega arith) in
      let stands = (g.each k kid.0 kid.1).box in
      let same : child ≡ kid.0.1 = (let a : Some child ≡ Some kid.0.1 = sym here ∙ stands in cc a) in
      (kid.0, kid.1, same)

  head_of : (heads : List Head) → Given (Heads box heads) → HasHead box heads k child
  head_of heads g =
      let z = kid_of (Heads box heads) g in
      subst (HasHead box heads k) (sym z.2) (heads_give p box heads g.kids g.expected k z.0 z.1)

  group_child_at : (fork : Fork) → GroupCase p box.part fork → Holds (after_branch p box (branch_of (by_of fork))) Given → IsAt p (suc d) child.part
  group_child_at fork by h =
      let same : by.group ≡ d = group_is p d box.part at by.group by.found in
      let g = there p.groups by.group by.found.within in
      let now : Holds (after_branch p box (ByGroup by.group)) Given = subst (λ (f : Fork). Holds (after_branch p box (branch_of (by_of f))) Given) by.is h in
      let c = group_child box by.group g.0 k child (head_of (decision_heads by.group g.0) (by_group p box by.group g.0 Given g.1 now)) in
      let row : slice_get p.groups d ≡ Some g.0 = subst (λ (i : ℕ). slice_get p.groups i ≡ Some g.0) same g.1 in
      let next = group_next p d box.part at c.0 g.0 row c.1 (let a = by.found.within in omega arith) in
      subst (IsAt p (suc d)) (sym (c.2 ∙ ap (λ (i : ℕ). with_pick box.part i c.0) same)) next

  arc_child_at : (fork : Fork) → ArcCase p box.part fork → Holds (after_branch p box (branch_of (by_of fork))) Given → IsAt p (suc d) child.part
  arc_child_at fork by h =
      let row = there p.arcs by.arc by.found.within in
      let now : Holds (after_branch p box (ByArc by.arc)) Given = subst (λ (f : Fork). Holds (after_branch p box (branch_of (by_of f))) Given) by.is h in
      let states = allowed_states p box.part by.arc row.0 in
      let c = arc_child box by.arc states k child (head_of (map (State by.arc) states) (by_arc p box by.arc row.0 Given row.1 now)) in
      subst (IsAt p (suc d)) (sym c.2) (arc_next p d box.part at by.picked by.arc row.0 row.1 by.found.within by.found.passes c.1 c.0)

  half_child_at : (fork : Fork) → HalfCase p box.part fork → Holds (after_branch p box (branch_of (by_of fork))) Given → IsAt p (suc d) child.part
  half_child_at fork by h =
      let now : Holds (after_branch p box (ByHalves by.half.var)) Given = subst (λ (f : Fork). Holds (after_branch p box (branch_of (by_of f))) Given) by.half.is h in
      let g = by_var p box by.half.var Given now in
      let z = kid_of (Halves box by.half.var) g in
      let same : child.part ≡ box.part = ap (λ (x : PartBox). x.part) z.2 ∙ halves_keep p box by.half.var g.kids g.expected k z.0 z.1 in
      subst (IsAt p (suc d)) (sym same) (half_next p d box.part at by.picked by.fixed)

  child_at : (fork : Fork) → Cases p box.part fork → Holds (after_branch p box (branch_of (by_of fork))) Given → IsAt p (suc d) child.part
  child_at fork cases h =
      elim cases [
        | inl g ↦ group_child_at fork g h
        | inr c ↦ elim c [ inl a ↦ arc_child_at fork a h | inr b ↦ half_child_at fork b h ]
      ]

-- ---- the boxes of a pool whose search stopped

splits_not_quit : (f : Branch) (first count : ℕ) → Quit ≡ Splits f first count → ⊥
splits_not_quit f first count h = cc

splits_not_waiting : (f : Branch) (first count : ℕ) → Waiting ≡ Splits f first count → ⊥
splits_not_waiting f first count h = cc

module _ (p : Network) (tol : ℤ) (budget : ℕ) (rows : List Row) (boxes : List PartBox) (turns : List ℕ) (n : ℕ)
    (paths : IsMap rows) (pool : IsOf (rules_of p) (root_box pool_scale p) rows boxes) (stop : StopsAt (sought p tol) budget rows boxes turns n) where
  -- a split box is known
  known_split : (m : ℕ) (q : Row) (f : Branch) (first count : ℕ) → slice_get rows m ≡ Some q → q.standing ≡ Splits f first count → IsKnown (sought p tol) rows boxes turns m q
  known_split m q f first count here split =
      elim (total q.path stop.row.path) [
        | inl less ↦ (stop.before m q here less).1
        | inr b ↦ elim b [
          | inl e ↦
              let same = same_row rows m n q stop.row here stop.here (paths.distinct m n q stop.row here stop.here e) in
              absurd (splits_not_quit f first count (sym stop.quit ∙ ap (λ (x : Row). x.standing) (sym same) ∙ split))
          | inr more ↦ absurd (splits_not_waiting f first count (sym (stop.behind m q here more).0 ∙ split))
        ]
      ]

  -- a split box, and what is left of it when it is split
  record IsSplit (m : ℕ) (f : Branch) (first count : ℕ) : Type 0 where
    start : PartBox
    here : slice_get boxes m ≡ Some start
    turn : ℕ
    box : PartBox
    part : box.part ≡ start.part
    heads : List Head
    next : ℕ
    number : count ≡ length heads
    by : IsSplitBy p turn box f heads next
    given : Holds (after_branch p box f) (λ w. AreGiven (rules_of p) rows boxes w first count)

  is_split : (m : ℕ) (q : Row) (f : Branch) (first count : ℕ) → slice_get rows m ≡ Some q → q.standing ≡ Splits f first count → IsSplit m f first count
  is_split m q f first count here split =
      let known = known_split m q f first count here split in
      let left = known.left in
      let is = subst (λ (e : Standing). KnownAt (sought p tol) rows turns e known.turn known.box) split known.known in
      let holds = subst (λ (o : Option PartBox). Holds o (λ c. EndHolds (rules_of p) rows boxes c q.standing)) left.after (pool.each m q left.start here left.here) in
      record {
        start = left.start;
        here = left.here;
        turn = known.turn;
        box = known.box;
        part = steps_keep_part p known.box left.start q.steps left.after;
        heads = is.1.0;
        next = is.1.1;
        number = is.1.2;
        by = is.1.3;
        given = subst (EndHolds (rules_of p) rows boxes known.box) split holds;
      }

  cases_at : (m : ℕ) (f : Branch) (first count : ℕ) (s : IsSplit m f first count) → Cases p s.box.part s.by.fork
  cases_at m f first count s = cases_of p s.box.part s.box.bounds s.turn s.by.fork s.by.has s.by.wide

  -- each box has a part state of its depth
  at_path : (path : List ℕ) (m : ℕ) (q : Row) (b : PartBox) → slice_get rows m ≡ Some q → q.path ≡ path → slice_get boxes m ≡ Some b → IsAt p (length path) b.part
  at_path [] zero q b here is there_box =
      let same : root_box pool_scale p ≡ b = (let a : Some (root_box pool_scale p) ≡ Some b = sym pool.rooted ∙ there_box in cc a) in
      subst (λ (x : PartBox). IsAt p 0 x.part) same (root_at p)
  at_path [] (suc m) q b here is there_box =
      let h = paths.above m q here in
      let (r, here2, path2) = (paths.below h.parent h.row h.branch h.first h.count h.here h.split).1 h.nth h.within in
      let same : r ≡ q = same_row rows (h.first + h.nth) (suc m) r q here2 here (sym h.number) in
      absurd (let whole : h.nth ∷ h.row.path ≡ [] = sym path2 ∙ ap (λ (x : Row). x.path) same ∙ is in cc whole)
  at_path (k ∷ path) zero q b here is there_box = absurd (let e = (paths.top q here).0 in cc)
  at_path (k ∷ path) (suc m) q b here is there_box =
      let h = paths.above m q here in
      let (r, here2, path2) = (paths.below h.parent h.row h.branch h.first h.count h.here h.split).1 h.nth h.within in
      let same : r ≡ q = same_row rows (h.first + h.nth) (suc m) r q here2 here (sym h.number) in
      let whole : h.nth ∷ h.row.path ≡ k ∷ path = sym path2 ∙ ap (λ (x : Row). x.path) same ∙ is in
      let above : h.row.path ≡ path = cc whole in
      let s = is_split h.parent h.row h.branch h.first h.count h.here h.split in
      let at = subst (IsAt p (length path)) (sym s.part) (at_path path h.parent h.row s.start h.here above s.here) in
      let here_box : slice_get boxes (h.first + h.nth) ≡ Some b = subst (λ (i : ℕ). slice_get boxes i ≡ Some b) h.number there_box in
      let given = subst (λ (f : Branch). Holds (after_branch p s.box f) (λ w. AreGiven (rules_of p) rows boxes w h.first h.count)) s.by.branch_is s.given in
      child_at p rows boxes h.first h.count (length path) s.box at h.nth h.within b here_box s.by.fork (cases_at h.parent h.branch h.first h.count s) given

  -- no split box has more children than its depth allows
  pub narrow : IsNarrow (children_at p) rows
  narrow m q f first count here split =
      let s = is_split m q f first count here split in
      let at = subst (IsAt p (length q.path)) (sym s.part) (at_path q.path m q s.start here refl s.here) in
      let few = few_heads p (length q.path) s.box.part at s.by.fork (cases_at m f first count s) in
      let heads = ap length s.by.heads_are in
      let number = s.number in
      omega arith
