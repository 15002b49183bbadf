-- A pool shows a tree, and it is closed exactly where no box is open.
use Rattle.std.proofs.Common.{◌≡◌, ◌≢◌, ℕ, zero, suc, ◌+◌, ◌<◌, ◌≤◌, List, [], ◌∷◌, length, Option, Some, refl, sym, ap, subst, ◌∙◌, arith}
use Rattle.std.specs.Prelude.{slice_get}
use Rattle.std.proofs.lemmas.Option.{slice_get_within}
use Rattle.tree_cert.specs.declared.line.Step.{Step}
use Rattle.tree_cert.specs.declared.line.Head.{Head}
use Rattle.tree_cert.specs.Tree.{Branch, Tree, Children, Then, Shut, Left, Split, NoChild, Child, IsClosed, AreClosed}
use Rattle.tree_cert.proofs.Options.{holds_some}
use Rattle.tree_pool.specs.Rows.{Standing, Waiting, Held, Quit, Shuts, Splits, Row, IsMap}
use Rattle.tree_pool.specs.Shown.{End, Opens, Closes, Forks, Work, end_of, work_of, works, IsBoxOf, AreChildrenOf}
use Rattle.tree_pool.proofs.Shown.{work_at}
use Rattle.tree_pool.proofs.Lists.{same_row}

add_steps : (w : List ℕ → Option Work) (path : List ℕ) (xs : List Step) (e : End) (t : Tree) → IsBoxOf w path [] e t → (u : Tree) × IsBoxOf w path xs e u
add_steps w path [] e t h = (t, h)
add_steps w path (x ∷ xs) e t h = let z = add_steps w path xs e t h in (Then x z.0, (refl, z.1))

module _ (rows : List Row) (map : IsMap rows) where
  -- what a box below needs
  abbrev Shown : Row → Type 0
  Shown r = (t : Tree) × IsBoxOf (works rows) r.path r.steps (end_of r.standing) t

  shown_children : (n : ℕ) (r : Row) (f : Branch) (first count : ℕ) → slice_get rows n ≡ Some r → r.standing ≡ Splits f first count
      → ((m : ℕ) (q : Row) → slice_get rows m ≡ Some q → n < m → Shown q) → (k c : ℕ) → k + c ≡ count → (ks : Children) × AreChildrenOf (works rows) r.path k c ks
  shown_children n r f first count here splits below k zero sum = (NoChild, tt)
  shown_children n r f first count here splits below k (suc c) sum =
      let z = map.below n r f first count here splits in
      let (q, at, path) = z.1 k (omega arith) in
      let t = below (first + k) q at (let lt = z.0 in omega arith) in
      let head = number (first + k) q at (let lt = z.0 in omega arith) in
      let rest = shown_children n r f first count here splits below (suc k) c (omega arith) in
      let found : works rows (k ∷ r.path) ≡ Some (work_of q) = rw path at (work_at rows map (first + k) q at) in
      (Child head.0 t.0 rest.0, (rw found (head.1, subst (λ (p : List ℕ). IsBoxOf (works rows) p q.steps (end_of q.standing) t.0) path t.1), rest.1))
    where
      number : (m : ℕ) (q : Row) → slice_get rows m ≡ Some q → n < m → (h : Head) × (q.head ≡ Some h)
      number zero q at lt = absurd (omega arith)
      number (suc m) q at lt = map.headed m q at

  shown_end : (n : ℕ) (r : Row) → slice_get rows n ≡ Some r → ((m : ℕ) (q : Row) → slice_get rows m ≡ Some q → n < m → Shown q)
      → (e : Standing) → r.standing ≡ e → (t : Tree) × IsBoxOf (works rows) r.path [] (end_of e) t
  shown_end n r here below Waiting is = (Left, tt)
  shown_end n r here below Held is = (Left, tt)
  shown_end n r here below Quit is = (Left, tt)
  shown_end n r here below (Shuts c) is = (Shut c, refl)
  shown_end n r here below (Splits f first count) is =
      let z = shown_children n r f first count here is below 0 count (omega arith) in
      (Split f z.0, (refl, z.1))

  shown_from : (fuel n : ℕ) (r : Row) → slice_get rows n ≡ Some r → length rows ≤ n + fuel → Shown r
  shown_from zero n r here le = absurd (let a = slice_get_within rows n r here in omega arith)
  shown_from (suc fuel) n r here le =
      let z = shown_end n r here (λ m q at lt. shown_from fuel m q at (omega arith)) r.standing refl in
      add_steps (works rows) r.path r.steps (end_of r.standing) z.0 z.1

  -- each box of a pool shows a tree
  pub shown : (n : ℕ) (r : Row) → slice_get rows n ≡ Some r → (t : Tree) × IsBoxOf (works rows) r.path r.steps (end_of r.standing) t
  shown n r here = shown_from (length rows) n r here (omega arith)

-- where nothing is open, the tree is closed
mutual
  pub closed : (w : List ℕ → Option Work) → ((p : List ℕ) (x : Work) → w p ≡ Some x → x.end ≢ Opens) → (path : List ℕ) (xs : List Step) (e : End) (t : Tree) → e ≢ Opens → IsBoxOf w path xs e t → IsClosed t
  closed w none path (x ∷ xs) e (Then y t) ne h = closed w none path xs e t ne h.1
  closed w none path [] (Closes c) (Shut d) ne h = tt
  closed w none path [] Opens Left ne h = ne refl
  closed w none path [] (Forks f count) (Split g ks) ne h = closed_all w none path zero count ks h.1
  closed w none path xs e t ne h = absurd assumption

  pub closed_all : (w : List ℕ → Option Work) → ((p : List ℕ) (x : Work) → w p ≡ Some x → x.end ≢ Opens) → (path : List ℕ) (k count : ℕ) (ks : Children) → AreChildrenOf w path k count ks → AreClosed ks
  closed_all w none path k zero NoChild h = tt
  closed_all w none path k (suc count) (Child g t ks) h =
      let x = holds_some (w (k ∷ path)) (λ x. (x.head ≡ Some g) × IsBoxOf w (k ∷ path) x.steps x.end t) h.0 in
      (closed w none (k ∷ path) x.0.steps x.0.end t (none (k ∷ path) x.0 x.1) x.2.1, closed_all w none path (suc k) count ks h.1)
  closed_all w none path k count ks h = absurd assumption

not_open : (w : List ℕ → Option Work) (path : List ℕ) (xs : List Step) (e : End) (t : Tree) → IsBoxOf w path xs e t → IsClosed t → e ≢ Opens
not_open w path (x ∷ xs) e (Then y t) h c = not_open w path xs e t h.1 c
not_open w path [] (Closes d) (Shut g) h c = λ k. cc
not_open w path [] Opens Left h c = λ k. c
not_open w path [] (Forks f count) (Split g ks) h c = λ k. cc
not_open w path xs e t h c = absurd assumption

-- the tree of a child, which is closed with its parent's
closed_child : (w : List ℕ → Option Work) (path : List ℕ) (k count : ℕ) (ks : Children) → AreChildrenOf w path k count ks → AreClosed ks → (j : ℕ) → j < count
    → (x : Work) × (w ((k + j) ∷ path) ≡ Some x) × ((t : Tree) × IsBoxOf w ((k + j) ∷ path) x.steps x.end t × IsClosed t)
closed_child w path k zero NoChild h c j lt = absurd (omega arith)
closed_child w path k (suc count) (Child g t ks) h c zero lt =
    let x = holds_some (w (k ∷ path)) (λ x. (x.head ≡ Some g) × IsBoxOf w (k ∷ path) x.steps x.end t) h.0 in
    let e : k + 0 ≡ k = omega arith in
    rw e (x.0, x.1, (t, x.2.1, c.0))
closed_child w path k (suc count) (Child g t ks) h c (suc j) lt =
    let e : suc k + j ≡ k + suc j = omega arith in
    rw e at (closed_child w path (suc k) count ks h.1 c.1 j (omega arith))
closed_child w path k count ks h c j lt = absurd assumption

closed_below : (w : List ℕ → Option Work) (path : List ℕ) (xs : List Step) (f : Branch) (count : ℕ) (t : Tree) → IsBoxOf w path xs (Forks f count) t → IsClosed t → (j : ℕ) → j < count
    → (x : Work) × (w (j ∷ path) ≡ Some x) × ((u : Tree) × IsBoxOf w (j ∷ path) x.steps x.end u × IsClosed u)
closed_below w path (x ∷ xs) f count (Then y t) h c j lt = closed_below w path xs f count t h.1 c j lt
closed_below w path [] f count (Split g ks) h c j lt = let e : 0 + j ≡ j = omega arith in rw e at (closed_child w path 0 count ks h.1 c j lt)
closed_below w path xs f count t h c j lt = absurd assumption

reach_child : (w : List ℕ → Option Work) (path : List ℕ) (k j : ℕ) (p r : Row) (f : Branch) (first count : ℕ) → w (k ∷ path) ≡ Some (work_of r) → p.standing ≡ Splits f first count → j < count → j ≡ k
    → (t : Tree) → IsBoxOf w path p.steps (end_of p.standing) t → IsClosed t → (u : Tree) × IsBoxOf w (k ∷ path) r.steps (end_of r.standing) u × IsClosed u
reach_child w path k j p r f first count found splits lt number t h c =
    let e : end_of p.standing ≡ Forks f count = ap end_of splits in
    let y = closed_below w path p.steps f count t (subst (λ (e : End). IsBoxOf w path p.steps e t) e h) c j lt in
    let at : w (k ∷ path) ≡ Some y.0 = subst (λ (i : ℕ). w (i ∷ path) ≡ Some y.0) number y.1 in
    let work : y.0 ≡ work_of r = cc in
    let z = subst (λ (i : ℕ). (u : Tree) × IsBoxOf w (i ∷ path) y.0.steps y.0.end u × IsClosed u) number y.2 in
    subst (λ (x : Work). (u : Tree) × IsBoxOf w (k ∷ path) x.steps x.end u × IsClosed u) work z

module _ (rows : List Row) (map : IsMap rows) (start : Row) (top : slice_get rows 0 ≡ Some start) (t : Tree) (shows : IsBoxOf (works rows) [] start.steps (end_of start.standing) t) (whole : IsClosed t) where
  mutual
    reach : (path : List ℕ) (n : ℕ) (r : Row) → slice_get rows n ≡ Some r → r.path ≡ path → (u : Tree) × IsBoxOf (works rows) path r.steps (end_of r.standing) u × IsClosed u
    reach [] zero r here is = let e : r ≡ start = cc in rw e (t, shows, whole)
    reach [] (suc m) r here is =
        let a = map.above m r here in
        let (q, here2, path2) = (map.below a.parent a.row a.branch a.first a.count a.here a.split).1 a.nth a.within in
        absurd (let e = a.number in cc)
    reach (k ∷ path) zero r here is = absurd (let e = (map.top r here).0 in cc)
    reach (k ∷ path) (suc m) r here is =
        let a = map.above m r here in
        let p = a.row in
        let j = a.nth in
        let (q, here2, path2) = (map.below a.parent p a.branch a.first a.count a.here a.split).1 j a.within in
        let same = same_row rows (a.first + j) (suc m) q r here2 here (sym a.number) in
        let paths : j ∷ p.path ≡ k ∷ path = sym path2 ∙ ap (λ (x : Row). x.path) same ∙ is in
        let above : p.path ≡ path = cc paths in
        let number : j ≡ k = cc paths in
        let z = reach path a.parent p a.here above in
        let found : works rows (k ∷ path) ≡ Some (work_of r) = subst (λ (p : List ℕ). works rows p ≡ Some (work_of r)) is (work_at rows map (suc m) r here) in
        reach_child (works rows) path k j p r a.branch a.first a.count found a.split a.within number z.0 z.1 z.2

  -- where the tree is closed, no box is open
  pub none_open : (n : ℕ) (r : Row) → slice_get rows n ≡ Some r → end_of r.standing ≢ Opens
  none_open n r here = let z = reach r.path n r here refl in not_open (works rows) r.path r.steps (end_of r.standing) z.0 z.1 z.2
