-- What each call leaves as it was.
use Rattle.std.proofs.Common.{◌≡◌, ◌≢◌, ℕ, zero, suc, ◌+◌, ◌<◌, Bool, true, false, cond, List, [], ◌∷◌, length, Some, None, refl, ap, subst, ◌∙◌, ◌⊎◌, inl, inr, arith, length-append}
use Rattle.std.specs.Prelude.{slice_get, option_map}
use Rattle.std.proofs.lemmas.Option.{slice_get_within}
use Rattle.std.proofs.lemmas.List.{append-nil}
use Rattle.tree_cert.specs.declared.line.Head.{Head}
use Rattle.tree_pool.specs.Path.{same}
use Rattle.tree_pool.specs.Rows.{Waiting, Splits, Row, row_at, IsMap, NotSplit, HangsBelow, update, child_rows, after}
use Rattle.tree_cert.specs.Tree.{Branch}
use Rattle.tree_pool.specs.Shown.{work_of, works}
use Rattle.tree_pool.proofs.Lists.{get_updated, get_other, updated_cases, length-update, get_left, get_right, appended_cases, there}

-- a change of a row that keeps its place in the map
pub record KeepsPlace (r : Row) (f : Row → Row) : Type 0 where
  pub path : (f r).path ≡ r.path
  pub head : (f r).head ≡ r.head
  pub before : NotSplit r.standing

-- a row after the change comes from one before it, with the same place
pub record Source (rows : List Row) (n : ℕ) (f : Row → Row) (m : ℕ) (y : Row) : Type 0 where
  pub row : Row
  pub here : slice_get rows m ≡ Some row
  pub path : y.path ≡ row.path
  pub head : y.head ≡ row.head
  pub which : ((m ≢ n) × (y ≡ row)) ⊎ ((m ≡ n) × (y ≡ f row))

pub source : (rows : List Row) (n : ℕ) (r : Row) (f : Row → Row) → slice_get rows n ≡ Some r → KeepsPlace r f
    → (m : ℕ) (y : Row) → slice_get (update rows n f) m ≡ Some y → Source rows n f m y
source rows n r f here keeps m y h =
    elim (updated_cases rows n m f y h) [
      | inl other ↦ record { row = y; here = other.1; path = refl; head = refl; which = inl (other.0, refl) }
      | inr this ↦
          let x = this.1 in
          let same : x.0 ≡ r = let a = x.1 in cc in
          let is : y ≡ f r = let a = x.2 in cc in
          record {
            row = r;
            here = (let a = this.0 in cc);
            path = (let a = keeps.path in cc);
            head = (let a = keeps.head in cc);
            which = inr (this.0, is);
          }
    ]

pub differs : (m n : ℕ) → (m ≡ n) ⊎ (m ≢ n)
differs zero zero = inl refl
differs zero (suc n) = inr (λ e. cc)
differs (suc m) zero = inr (λ e. cc)
differs (suc m) (suc n) = elim (differs m n) [ inl e ↦ inl (ap suc e) | inr e ↦ inr (λ h. e cc) ]

-- a row before the change has one after it
pub target : (rows : List Row) (n : ℕ) (r : Row) (f : Row → Row) → slice_get rows n ≡ Some r → KeepsPlace r f
    → (m : ℕ) (q : Row) → slice_get rows m ≡ Some q → (y : Row) × (slice_get (update rows n f) m ≡ Some y) × (y.path ≡ q.path) × (y.head ≡ q.head)
target rows n r f here keeps m q h =
    elim (differs m n) [
      | inl e ↦
          let same : q ≡ r = cc in
          (f r, (let a = get_updated rows n f r here in cc), (let a = keeps.path in cc), (let a = keeps.head in cc))
      | inr e ↦ (q, (let a = get_other rows n m f e in cc), refl, refl)
    ]

-- a child's row
pub record IsChild (path : List ℕ) (k : ℕ) (x : Head) (q : Row) : Type 0 where
  pub path_is : q.path ≡ k ∷ path
  pub head_is : q.head ≡ Some x
  pub steps_is : q.steps ≡ []
  pub waits : q.standing ≡ Waiting

child_at : (path : List ℕ) (k : ℕ) (kids : List Head) (j : ℕ) (q : Row) → slice_get (child_rows path k kids) j ≡ Some q
    → (x : Head) × (slice_get kids j ≡ Some x) × IsChild path (k + j) x q
child_at path k [] j q h = absurd cc
child_at path k (x ∷ kids) zero q h =
    (x, refl, record { path_is = (let e : k + 0 ≡ k = omega arith in cc); head_is = cc; steps_is = cc; waits = cc })
child_at path k (x ∷ kids) (suc j) q h =
    let z = child_at path (suc k) kids j q h in
    let e : suc k + j ≡ k + suc j = omega arith in
    (z.0, z.1, rw e at z.2)

child_of : (path : List ℕ) (k : ℕ) (kids : List Head) (j : ℕ) (x : Head) → slice_get kids j ≡ Some x
    → (q : Row) × (slice_get (child_rows path k kids) j ≡ Some q) × IsChild path (k + j) x q
child_of path k [] j x h = absurd cc
child_of path k (y ∷ kids) zero x h = (
  record { path = k ∷ path; head = Some y; steps = []; standing = Waiting },
  refl,
  record { path_is = (let e : k + 0 ≡ k = omega arith in cc); head_is = cc; steps_is = refl; waits = refl },
)
child_of path k (y ∷ kids) (suc j) x h =
    let z = child_of path (suc k) kids j x h in
    let e : suc k + j ≡ k + suc j = omega arith in
    (z.0, z.1, rw e at z.2)

-- where a path lies one below another, the other is split
parent_splits : (rows : List Row) → IsMap rows → (n : ℕ) (r : Row) → slice_get rows n ≡ Some r → NotSplit r.standing
    → (m : ℕ) (q : Row) (k : ℕ) → slice_get rows m ≡ Some q → q.path ≡ k ∷ r.path → ⊥
parent_splits rows map n r here whole zero q k at is = let e = (map.top q at).0 in cc
parent_splits rows map n r here whole (suc m) q k at is =
    let a = map.above m q at in
    let (q2, here2, path2) = (map.below a.parent a.row a.branch a.first a.count a.here a.split).1 a.nth a.within in
    let same : q2 ≡ q = (let e = a.number in cc) in
    let paths : a.row.path ≡ r.path = cc in
    let numbers = map.distinct a.parent n a.row r a.here here paths in
    let rows_same : a.row ≡ r = (let e = a.here in cc) in
    whole a.branch a.first a.count (let e = a.split in cc)

-- What the rows become: one row changes, and where it was split its children stand at the end.
pub record Becomes (rows : List Row) (r : Row) (f : Row → Row) (kids : List Head) : Type 0 where
  pub keeps : KeepsPlace r f
  pub which : (NotSplit (f r).standing × (kids ≡ [])) ⊎ ((g : Branch) × ((f r).standing ≡ Splits g (length rows) (length kids)))

module _ (rows : List Row) (map : IsMap rows) (n : ℕ) (r : Row) (here : slice_get rows n ≡ Some r) (f : Row → Row) (kids : List Head) (becomes : Becomes rows r f kids) where
  -- a row that stands there afterwards was there, or is a new child
  pub origin : (m : ℕ) (y : Row) → slice_get (after rows n r.path f kids) m ≡ Some y
      → Source rows n f m y ⊎ ((k : ℕ) × (x : Head) × (m ≡ length rows + k) × (slice_get kids k ≡ Some x) × IsChild r.path k x y)
  origin m y h =
      elim (appended_cases (update rows n f) (child_rows r.path 0 kids) m y h) [
        | inl left ↦ inl (source rows n r f here becomes.keeps m y left)
        | inr right ↦
            let (k, sum, at) = right in
            let z = child_at r.path 0 kids k y at in
            let e : 0 + k ≡ k = omega arith in
            inr (k, z.0, (let a = length-update rows n f in cc), z.1, rw e at z.2)
      ]

  -- a new child stands after the old rows
  pub placed : (k : ℕ) (x : Head) → slice_get kids k ≡ Some x → (q : Row) × (slice_get (after rows n r.path f kids) (length rows + k) ≡ Some q) × IsChild r.path k x q
  placed k x h =
      let z = child_of r.path 0 kids k x h in
      let e : 0 + k ≡ k = omega arith in
      let a = get_right (update rows n f) (child_rows r.path 0 kids) k in
      let b = length-update rows n f in
      (z.0, (let c = z.1 in cc), rw e at z.2)

  pub moved : (m : ℕ) (q : Row) → slice_get rows m ≡ Some q → (y : Row) × (slice_get (after rows n r.path f kids) m ≡ Some y) × (y.path ≡ q.path) × (y.head ≡ q.head)
  moved m q h =
      let z = target rows n r f here becomes.keeps m q h in
      (z.0, get_left (update rows n f) (child_rows r.path 0 kids) m z.0 z.1, z.2, z.3)

  pub unmoved : (m : ℕ) (q : Row) → slice_get rows m ≡ Some q → m ≢ n → slice_get (after rows n r.path f kids) m ≡ Some q
  unmoved m q h e = get_left (update rows n f) (child_rows r.path 0 kids) m q (let a = get_other rows n m f e in cc)

  pub changed : slice_get (after rows n r.path f kids) n ≡ Some (f r)
  changed = get_left (update rows n f) (child_rows r.path 0 kids) n (f r) (get_updated rows n f r here)

  above_old : (m : ℕ) (q : Row) → slice_get rows (suc m) ≡ Some q → HangsBelow (after rows n r.path f kids) (suc m)
  above_old m q h =
      let a = map.above m q h in
      let other : a.parent ≢ n = λ e. becomes.keeps.before a.branch a.first a.count (let same : a.row ≡ r = (let b = a.here in cc) in let d = a.split in cc) in
      record { parent = a.parent; row = a.row; branch = a.branch; first = a.first; count = a.count; nth = a.nth; here = unmoved a.parent a.row a.here other; split = a.split; within = a.within; number = a.number }

  top_after : (y : Row) → slice_get (after rows n r.path f kids) 0 ≡ Some y → (y.path ≡ []) × (y.head ≡ None)
  top_after y h =
      elim (origin 0 y h) [
        | inl old ↦ let b = map.top old.row old.here in (old.path ∙ b.0, old.head ∙ b.1)
        | inr new ↦ let (k, x, sum, at, child) = new in absurd (let a = slice_get_within rows n r here in omega arith)
      ]

  headed_after : (m : ℕ) (y : Row) → slice_get (after rows n r.path f kids) (suc m) ≡ Some y → (h : Head) × (y.head ≡ Some h)
  headed_after m y h =
      elim (origin (suc m) y h) [
        | inl old ↦ let z = map.headed m old.row old.here in (z.0, let a = old.head in let b = z.1 in cc)
        | inr new ↦ let (k, x, sum, at, child) = new in (x, child.head_is)
      ]

  distinct_after : (i j : ℕ) (y z : Row) → slice_get (after rows n r.path f kids) i ≡ Some y → slice_get (after rows n r.path f kids) j ≡ Some z → y.path ≡ z.path → i ≡ j
  distinct_after i j y z h g same =
      elim (origin i y h) [
        | inl old ↦ elim (origin j z g) [
          | inl also ↦ map.distinct i j old.row also.row old.here also.here (let a = old.path in let b = also.path in cc)
          | inr new ↦
              let (k, x, sum, at, child) = new in
              absurd (parent_splits rows map n r here becomes.keeps.before i old.row k old.here (let a = old.path in let b = child.path_is in cc))
        ]
        | inr new ↦
            let (k, x, sum, at, child) = new in
            elim (origin j z g) [
              | inl old ↦ absurd (parent_splits rows map n r here becomes.keeps.before j old.row k old.here (let a = old.path in let b = child.path_is in cc))
              | inr also ↦
                  let (l, w, sum2, at2, child2) = also in
                  let e : k ≡ l = let a = child.path_is in let b = child2.path_is in cc in
                  cc
            ]
      ]

  below_after : (m : ℕ) (y : Row) (g : Branch) (first count : ℕ) → slice_get (after rows n r.path f kids) m ≡ Some y → y.standing ≡ Splits g first count →
      (m < first) × ((k : ℕ) → k < count → (q : Row) × (slice_get (after rows n r.path f kids) (first + k) ≡ Some q) × (q.path ≡ k ∷ y.path))
  below_after m y g first count h splits =
      elim (origin m y h) [
        | inl old ↦ elim old.which [
          | inl other ↦
              let z = map.below m old.row g first count old.here (let a = other.1 in cc) in
              (z.0, λ k lt. let (q, at, path) = z.1 k lt in let (w, here2, path2, head2) = moved (first + k) q at in (w, here2, (let a = old.path in cc)))
          | inr this ↦
              elim becomes.which [
                | inl none ↦ absurd (none.0 g first count (let a = this.1 in let b = old.here in let c = this.0 in let d : old.row ≡ r = cc in cc))
                | inr made ↦
                    let d : old.row ≡ r = (let b = old.here in let c = this.0 in cc) in
                    let e : Splits g first count ≡ Splits made.0 (length rows) (length kids) = (let a = this.1 in let b = made.1 in cc) in
                    let e1 : first ≡ length rows = cc in
                    let e2 : count ≡ length kids = cc in (
                      (let lt = slice_get_within rows n r here in let c = this.0 in omega arith),
                      λ k lt.
                          let x = there kids k (let lt2 : k < length kids = omega arith in lt2) in
                          let z = placed k x.0 x.1 in
                          (z.0, (let a = z.1 in cc), (let a = z.2.path_is in let b = old.path in cc)),
                    )
              ]
        ]
        | inr new ↦ let (k, x, sum, at, child) = new in absurd (let a = child.waits in cc)
      ]

  above_after : (m : ℕ) (y : Row) → slice_get (after rows n r.path f kids) (suc m) ≡ Some y → HangsBelow (after rows n r.path f kids) (suc m)
  above_after m y h =
      elim (origin (suc m) y h) [
        | inl old ↦ above_old m old.row old.here
        | inr new ↦
            let (k, x, sum, at, child) = new in
            elim becomes.which [
              | inl none ↦ absurd (let a = none.1 in cc)
              | inr made ↦ record { parent = n; row = f r; branch = made.0; first = length rows; count = length kids; nth = k; here = changed; split = made.1; within = slice_get_within kids k x at; number = sum }
            ]
      ]

  some_after : 0 < length (after rows n r.path f kids)
  some_after =
      let a = length-append (update rows n f) (child_rows r.path 0 kids) in
      let b = length-update rows n f in
      let c = map.some in
      omega arith

  pub map_after : IsMap (after rows n r.path f kids)
  map_after = record { top = top_after; some = some_after; headed = headed_after; distinct = distinct_after; below = below_after; above = above_after }

-- looking up by path: a change that keeps a row's path changes what is found only there
found_updated : (rows : List Row) (n : ℕ) (f : Row → Row) (path : List ℕ) → ((r : Row) → slice_get rows n ≡ Some r → ((f r).path ≡ r.path) × (work_of (f r) ≡ work_of r))
    → works (update rows n f) path ≡ works rows path
found_updated [] n f path h = refl
found_updated (x ∷ rows) zero f path h =
    let z = h x refl in
    either (same (f x).path path) (same x.path path) (ap (λ (p : List ℕ). same p path) z.0) z.1
  where
    either : (a b : Bool) → a ≡ b → work_of (f x) ≡ work_of x → option_map work_of (cond a (Some (f x)) (row_at rows path)) ≡ option_map work_of (cond b (Some x) (row_at rows path))
    either true true g e = ap Some e
    either false false g e = refl
    either true false g e = absurd cc
    either false true g e = absurd cc
found_updated (x ∷ rows) (suc n) f path h = either (same x.path path) (found_updated rows n f path h)
  where
    either : (b : Bool) → works (update rows n f) path ≡ works rows path → option_map work_of (cond b (Some x) (row_at (update rows n f) path)) ≡ option_map work_of (cond b (Some x) (row_at rows path))
    either true e = refl
    either false e = e

-- taking and losing change no work
pub works_kept : (rows : List Row) (n : ℕ) (f : Row → Row) → ((r : Row) → slice_get rows n ≡ Some r → ((f r).path ≡ r.path) × (work_of (f r) ≡ work_of r))
    → (path : List ℕ) → works (update rows n f) path ≡ works rows path
works_kept rows n f h path = found_updated rows n f path h

pub map_updated : (rows : List Row) → IsMap rows → (n : ℕ) (r : Row) → slice_get rows n ≡ Some r → (f : Row → Row) → KeepsPlace r f → NotSplit (f r).standing → IsMap (update rows n f)
map_updated rows map n r here f keeps whole = subst IsMap (append-nil (update rows n f)) (map_after rows map n r here f [] (record { keeps = keeps; which = inl (whole, refl) }))
