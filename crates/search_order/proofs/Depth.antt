-- A box that stands open for want of budget lies deep: all boxes above its depth were split before it.
use Rattle.std.proofs.Common.{◌≡◌, ◌≢◌, ℕ, zero, suc, ◌+◌, ◌*◌, ◌<◌, ◌≤◌, Bool, true, false, cond, List, [], ◌∷◌, ◌++◌, length, Option, Some, None, refl, sym, ap, subst, ◌∙◌, ◌⊎◌, inl, inr, arith, length-append}
use Rattle.std.specs.Prelude.{slice_get}
use Rattle.std.proofs.lemmas.Bool.Decides.{eqb_tells}
use Rattle.tree_cert.specs.TreeRules.{Holds}
use Rattle.tree_cert.specs.Tree.{Branch}
use Rattle.tree_pool.specs.Path.{IsEarlier}
use Rattle.tree_pool.specs.Rows.{Standing, Waiting, Held, Quit, Shuts, Splits, Row, IsMap, HangsBelow, one, is_split, splits}
use Rattle.tree_pool.specs.Rules.{Boxes}
use Rattle.search_order.specs.Searches.{SearchRules, StopsAt}
use Rattle.search_order.proofs.PathOrder.{total, earlier_length}
use Rattle.search_order.specs.Levels.{width, levels, IsNarrow}
use Rattle.search_order.specs.Laws.{StopsDeep}
use Rattle.tree_pool.proofs.Lists.{same_row}
use Rattle.search_order.proofs.Members.{Member, Apart, pigeon, member_left, member_right}

-- the paths of the children of a path, and of all the paths of a list
abbrev child_paths : ℕ → List ℕ → List (List ℕ)
child_paths zero p = []
child_paths (suc c) p = (c ∷ p) ∷ child_paths c p

abbrev below_all : ℕ → List (List ℕ) → List (List ℕ)
below_all c [] = []
below_all c (p ∷ ps) = child_paths c p ++ below_all c ps

-- the paths that a depth allows, and those down to it
abbrev paths : (ℕ → ℕ) → ℕ → List (List ℕ)
paths m zero = [] ∷ []
paths m (suc i) = below_all (m i) (paths m i)

abbrev paths_to : (ℕ → ℕ) → ℕ → List (List ℕ)
paths_to m zero = [] ∷ []
paths_to m (suc k) = paths_to m k ++ paths m (suc k)

length-child_paths : (c : ℕ) (p : List ℕ) → length (child_paths c p) ≡ c
length-child_paths zero p = refl
length-child_paths (suc c) p = ap suc (length-child_paths c p)

length-below_all : (c : ℕ) (ps : List (List ℕ)) → length (below_all c ps) ≡ length ps * c
length-below_all c [] = omega arith
length-below_all c (p ∷ ps) =
    let a = length-append (child_paths c p) (below_all c ps) in
    let b = length-child_paths c p in
    let d = length-below_all c ps in
    let e : suc (length ps) * c ≡ length ps * c + c = omega arith in
    omega arith

length-paths : (m : ℕ → ℕ) (i : ℕ) → length (paths m i) ≡ width m i
length-paths m zero = refl
length-paths m (suc i) = length-below_all (m i) (paths m i) ∙ ap (λ k. k * m i) (length-paths m i)

length-paths_to : (m : ℕ → ℕ) (k : ℕ) → length (paths_to m k) ≡ levels m k
length-paths_to m zero = refl
length-paths_to m (suc k) =
    let a = length-append (paths_to m k) (paths m (suc k)) in
    let b = length-paths_to m k in
    let c = length-paths m (suc k) in
    omega arith

in_child_paths : (j c : ℕ) (p : List ℕ) → j < c → Member (j ∷ p) (child_paths c p)
in_child_paths j zero p lt = absurd (omega arith)
in_child_paths j (suc c) p lt = elim (eqb_tells j c) [ inl e ↦ inl (ap (λ (k : ℕ). k ∷ p) e.1) | inr e ↦ inr (in_child_paths j c p (let ne = e.1 in omega arith)) ]

in_below_all : (j c : ℕ) (p : List ℕ) (ps : List (List ℕ)) → j < c → Member p ps → Member (j ∷ p) (below_all c ps)
in_below_all j c p [] lt h = absurd h
in_below_all j c p (q ∷ ps) lt h =
    elim h [
      | inl e ↦ member_left (j ∷ p) (child_paths c q) (below_all c ps) (subst (λ (k : List ℕ). Member (j ∷ p) (child_paths c k)) e (in_child_paths j c p lt))
      | inr i ↦ member_right (j ∷ p) (child_paths c q) (below_all c ps) (in_below_all j c p ps lt i)
    ]

in_paths_to : (m : ℕ → ℕ) (k i : ℕ) (p : List ℕ) → i ≤ k → Member p (paths m i) → Member p (paths_to m k)
in_paths_to m zero zero p le h = h
in_paths_to m zero (suc i) p le h = absurd (omega arith)
in_paths_to m (suc k) i p le h =
    elim (eqb_tells i (suc k)) [
      | inl e ↦ member_right p (paths_to m k) (paths m (suc k)) (subst (λ (d : ℕ). Member p (paths m d)) e.1 h)
      | inr e ↦ member_left p (paths_to m k) (paths m (suc k)) (in_paths_to m k i p (let ne = e.1 in omega arith) h)
    ]

module _ (m : ℕ → ℕ) (rows : List Row) (map : IsMap rows) (narrow : IsNarrow m rows) where
  -- each box has a path that its depth allows
  allowed : (path : List ℕ) (n : ℕ) (r : Row) → slice_get rows n ≡ Some r → r.path ≡ path → Member path (paths m (length path))
  allowed [] n r here is = inl refl
  allowed (k ∷ path) zero r here is = absurd (let e = (map.top r here).0 in cc)
  allowed (k ∷ path) (suc n) r here is =
      let h = map.above n r here in
      let (q, here2, path2) = (map.below h.parent h.row h.branch h.first h.count h.here h.split).1 h.nth h.within in
      let same : q ≡ r = same_row rows (h.first + h.nth) (suc n) q r here2 here (sym h.number) in
      let whole : h.nth ∷ h.row.path ≡ k ∷ path = sym path2 ∙ ap (λ (x : Row). x.path) same ∙ is in
      let above : h.row.path ≡ path = cc whole in
      let number : h.nth ≡ k = cc whole in
      let few : h.count ≤ m (length path) = subst (λ (x : List ℕ). h.count ≤ m (length x)) above (narrow h.parent h.row h.branch h.first h.count h.here h.split) in
      let less = h.within in
      in_below_all k (m (length path)) path (paths m (length path)) (omega arith) (allowed path h.parent h.row h.here above)

-- the paths of the split boxes
abbrev split_paths : List Row → List (List ℕ)
split_paths [] = []
split_paths (r ∷ rows) = cond (is_split r.standing) (r.path ∷ split_paths rows) (split_paths rows)

length-split_by : (b : Bool) (p : List ℕ) (ps : List (List ℕ)) (n : ℕ) → length ps ≡ n → length (cond b (p ∷ ps) ps) ≡ one b + n
length-split_by true p ps n e = omega arith
length-split_by false p ps n e = omega arith

length-split_paths : (rows : List Row) → length (split_paths rows) ≡ splits rows
length-split_paths [] = refl
length-split_paths (r ∷ rows) = length-split_by (is_split r.standing) r.path (split_paths rows) (splits rows) (length-split_paths rows)

-- a member is the path of a split box
found_split_by : (r : Row) (rows : List Row) (p : List ℕ) (b : Bool) → is_split r.standing ≡ b
    → (Member p (split_paths rows) → (n : ℕ) × (q : Row) × (slice_get rows n ≡ Some q) × (is_split q.standing ≡ true) × (q.path ≡ p))
    → Member p (cond b (r.path ∷ split_paths rows) (split_paths rows)) → (n : ℕ) × (q : Row) × (slice_get (r ∷ rows) n ≡ Some q) × (is_split q.standing ≡ true) × (q.path ≡ p)
found_split_by r rows p true is below h =
    elim h [ inl e ↦ (0, r, refl, is, sym e) | inr i ↦ (let z = below i in (suc z.0, z.1, z.2, z.3, z.4)) ]
found_split_by r rows p false is below h = let z = below h in (suc z.0, z.1, z.2, z.3, z.4)

found_split : (rows : List Row) (p : List ℕ) → Member p (split_paths rows) → (n : ℕ) × (q : Row) × (slice_get rows n ≡ Some q) × (is_split q.standing ≡ true) × (q.path ≡ p)
found_split [] p h = absurd h
found_split (r ∷ rows) p h = found_split_by r rows p (is_split r.standing) refl (found_split rows p) h

apart_by : (r : Row) (rows : List Row) (b : Bool) → Apart (split_paths rows) → (Member r.path (split_paths rows) → ⊥) → Apart (cond b (r.path ∷ split_paths rows) (split_paths rows))
apart_by r rows true h ne = (ne, h)
apart_by r rows false h ne = h

apart_paths : (rows : List Row) → ((m n : ℕ) (q r : Row) → slice_get rows m ≡ Some q → slice_get rows n ≡ Some r → q.path ≡ r.path → m ≡ n) → Apart (split_paths rows)
apart_paths [] distinct = tt
apart_paths (r ∷ rows) distinct =
    apart_by r rows (is_split r.standing)
    (apart_paths rows (λ m n q z h g e. let same : suc m ≡ suc n = distinct (suc m) (suc n) q z h g e in cc))
    (λ h. let z = found_split rows r.path h in let same : suc z.0 ≡ 0 = distinct (suc z.0) 0 z.1 r z.2 refl z.4 in cc)

less_or : (a b : ℕ) → (a < b) ⊎ (b ≤ a)
less_or zero zero = inr (omega arith)
less_or zero (suc b) = inl (omega arith)
less_or (suc a) zero = inr (omega arith)
less_or (suc a) (suc b) = elim (less_or a b) [ inl h ↦ inl (omega arith) | inr h ↦ inr (omega arith) ]

module _ (s : SearchRules) (m : ℕ → ℕ) (budget : ℕ) (rows : List Row) (boxes : Boxes s.tree) (turns : List ℕ) (n : ℕ)
    (map : IsMap rows) (narrow : IsNarrow m rows) (halted : StopsAt s budget rows boxes turns n) where
  no_split : (q : ℕ) (r : Row) → slice_get rows q ≡ Some r → is_split r.standing ≡ true → r.path ≡ halted.row.path → ⊥
  no_split q r here is same =
      let e = map.distinct q n r halted.row here halted.here same in
      let rows_same : r ≡ halted.row = same_row rows q n r halted.row here halted.here e in
      let f : is_split Quit ≡ true = ap is_split (sym halted.quit ∙ ap (λ (x : Row). x.standing) (sym rows_same)) ∙ is in
      cc

  -- a split box lies no deeper than the named one
  shallow : (q : ℕ) (r : Row) → slice_get rows q ≡ Some r → is_split r.standing ≡ true → length r.path ≤ length halted.row.path
  shallow q r here is =
      elim (total r.path halted.row.path) [
        | inl less ↦ earlier_length r.path halted.row.path less
        | inr b ↦ elim b [
          | inl e ↦ absurd (no_split q r here is e)
          | inr more ↦
              let w = halted.behind q r here more in
              absurd (let f : is_split Waiting ≡ true = ap is_split (sym w.0) ∙ is in cc)
        ]
      ]

  allowed_to : (k : ℕ) → length halted.row.path ≤ k → (p : List ℕ) → Member p (halted.row.path ∷ split_paths rows) → Member p (paths_to m k)
  allowed_to k le p h =
      elim h [
        | inl e ↦ rw e (in_paths_to m k (length halted.row.path) halted.row.path le (allowed m rows map narrow halted.row.path n halted.row halted.here refl))
        | inr i ↦
            let z = found_split rows p i in
            let short = shallow z.0 z.1 z.2 z.3 in
            in_paths_to m k (length p) p (let f = ap length z.4 in omega arith) (allowed m rows map narrow p z.0 z.1 z.2 z.4)
      ]

  -- The named box is deeper than each depth that the budget pays for.
  pub deep : (k : ℕ) → levels m k ≤ budget → k < length halted.row.path
  deep k paid =
      elim (less_or k (length halted.row.path)) [
        | inl h ↦ h
        | inr le ↦
            let few = pigeon (halted.row.path ∷ split_paths rows) (paths_to m k)
            ((λ h. let z = found_split rows halted.row.path h in no_split z.0 z.1 z.2 z.3 z.4), apart_paths rows map.distinct)
            (allowed_to k le) in
            let a = length-paths_to m k in
            let b = length-split_paths rows in
            let c = halted.spent in
            absurd (omega arith)
      ]

pub stops_deep : (s : SearchRules) → StopsDeep s
stops_deep s m budget rows boxes turns n map narrow halted k paid = deep s m budget rows boxes turns n map narrow halted k paid
