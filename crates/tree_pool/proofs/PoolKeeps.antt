-- What a pool keeps, when a box stands otherwise and when one is split.
use Rattle.std.proofs.Common.{◌≡◌, ◌≢◌, ℕ, zero, suc, ◌+◌, ◌*◌, ◌<◌, ◌≤◌, ◌^◌, Bool, true, false, List, [], ◌∷◌, ◌++◌, length, map, get_or, Some, refl, sym, ap, subst, ◌∙◌, ◌⊎◌, inl, inr, arith, length-append}
use Rattle.std.specs.Prelude.{slice_get, slice_set}
use Rattle.std.proofs.lemmas.Option.{slice_get_within}
use Rattle.std.proofs.lemmas.List.{length-set, length-map}
use Rattle.tree_cert.specs.declared.line.Step.{Step}
use Rattle.tree_cert.specs.declared.line.Head.{Head}
use Rattle.tree_cert.specs.Tree.{Branch}
use Rattle.tree_pool.specs.declared.node.Node.{Node}
use Rattle.tree_pool.specs.Path.{IsEarlier}
use Rattle.tree_pool.specs.Lineages.{children_from}
use Rattle.tree_pool.specs.Rows.{Standing, Waiting, Held, Quit, Shuts, Splits, Row, update, fill, after, NotSplit, IsMap, IsFirstWaiting, NoneWaits}
use Rattle.tree_pool.specs.Lines.{all_lines}
use Rattle.tree_pool.specs.Nodes.{standing_of, is_waiting, row_of, rows_of, AreInOrder, NoneBelow, IsFirstBelow, HaveOrderedCuts, IsPool, AreRows}
use Rattle.tree_pool.specs.Calls.{HasOrderedCut, fresh_node, fresh_nodes, NodesPass, LastBefore}
use Rattle.tree_pool.proofs.Lists.{updated_cases, there}
use Rattle.tree_pool.proofs.RowChanges.{KeepsPlace, Becomes, source, origin, differs, map_updated, map_after}
use Rattle.tree_pool.proofs.Paths.{earlier_trans}
use Rattle.tree_pool.proofs.Totals.{splits_updated, splits_after, lines_after}
use Rattle.tree_pool.proofs.NodeList.{length-rows, row_here, row_back, rows_set, rows_split, length-children}

-- ---- one box stands otherwise

pub none_updated : (rows : List Row) (n : ℕ) (r : Row) (f : Row → Row) (k : ℕ) → slice_get rows n ≡ Some r → is_waiting (f r).standing ≡ false → NoneBelow rows k → NoneBelow (update rows n f) k
none_updated rows n r f k here not h m q lt at =
    elim (updated_cases rows n m f q at) [
      | inl other ↦ h m q lt other.1
      | inr this ↦
          let x = this.1 in
          let same : x.0 ≡ r = (let a = x.1 in cc) in
          let is : q ≡ f r = (let a = x.2 in cc) in
          rw is not
    ]

pub none_before : (rows : List Row) (n : ℕ) (f : Row → Row) (k : ℕ) → k ≤ n → NoneBelow rows k → NoneBelow (update rows n f) k
none_before rows n f k le h m q lt at =
    elim (updated_cases rows n m f q at) [
      | inl other ↦ h m q lt other.1
      | inr this ↦ absurd (let e = this.0 in omega arith)
    ]

pub none_less : (rows : List Row) (k from : ℕ) → k ≤ from → NoneBelow rows from → NoneBelow rows k
none_less rows k from le h m q lt at = h m q (omega arith) at

cuts_updated : (rows : List Row) (n : ℕ) (r : Row) (f : Row → Row) → slice_get rows n ≡ Some r → HaveOrderedCuts rows → HasOrderedCut (f r).standing → HaveOrderedCuts (update rows n f)
cuts_updated rows n r f here h cut m q c at is =
    elim (updated_cases rows n m f q at) [
      | inl other ↦ h m q c other.1 is
      | inr this ↦
          let x = this.1 in
          let same : x.0 ≡ r = (let a = x.1 in cc) in
          let eq : q ≡ f r = (let a = x.2 in cc) in
          subst HasOrderedCut (ap (λ (k : Row). k.standing) (sym eq) ∙ is) cut
    ]

order_updated : (rows : List Row) (n : ℕ) (r : Row) (f : Row → Row) → slice_get rows n ≡ Some r → KeepsPlace r f → AreInOrder rows → AreInOrder (update rows n f)
order_updated rows n r f here keeps h i j y z at there lt =
    let a = source rows n r f here keeps i y at in
    let b = source rows n r f here keeps j z there in
    rw (a.path, b.path) (h i j a.row b.row a.here b.here lt)

pub pool_set : (ps : List (List ℕ)) (ns : List Node) (from : ℕ) (io : Bool) (br ls : ℕ) → IsPool ps ns from io br ls → (n : ℕ) (x y : Node) (f : Row → Row) → n < length ns → x ≡ get_or ns n x
    → row_of (get_or ps n []) y ≡ f (row_of (get_or ps n []) x) → KeepsPlace (row_of (get_or ps n []) x) f → NotSplit (f (row_of (get_or ps n []) x)).standing → HasOrderedCut (f (row_of (get_or ps n []) x)).standing
    → (from2 : ℕ) → from2 ≤ length ns → NoneBelow (update (rows_of ps ns) n f) from2 → (ls2 : ℕ) → 2 + all_lines (update (rows_of ps ns) n f) ≤ ls2 → ls2 < 2 ^ 64
    → IsPool ps (slice_set ns n y) from2 io br ls2
pool_set ps ns from io br ls pool n x y f lt is e keeps whole cut from2 inside none ls2 room bound =
    let rows = rows_of ps ns in
    let r = row_of (get_or ps n []) x in
    let here : slice_get rows n ≡ Some r = row_here ps ns n x pool.sized lt is in
    let set : rows_of ps (slice_set ns n y) ≡ update rows n f = rows_set ps ns n x y f pool.sized lt is e in
    let len = length-set ns n y in
    record {
      sized = pool.sized ∙ sym len;
      small = rw len pool.small;
      map = rw set (map_updated rows pool.map n r here f keeps whole);
      cuts = rw set (cuts_updated rows n r f here pool.cuts cut);
      within = rw len inside;
      none = rw set none;
      ordered = λ yes. rw set (order_updated rows n r f here keeps (pool.ordered yes));
      counted = rw set (pool.counted ∙ sym (splits_updated rows n r f here keeps.before whole));
      room = rw set room;
      bound = bound;
    }

-- ---- a box is split

abbrev AllBefore : List Row → List ℕ → Type 0
AllBefore rows path = (m : ℕ) (q : Row) → slice_get rows m ≡ Some q → (k : ℕ) → IsEarlier q.path (k ∷ path)

-- where the last box stands below one before this, the children of this come after all
all_before : (ps : List (List ℕ)) (ns : List Node) → length ps ≡ length ns → IsMap (rows_of ps ns) → AreInOrder (rows_of ps ns) → (n : ℕ) (r : Row) → slice_get (rows_of ps ns) n ≡ Some r → LastBefore ps n → AllBefore (rows_of ps ns) r.path
all_before ps ns sized map order n r here (inl single) m q at k =
    let a = slice_get_within (rows_of ps ns) m q at in
    let b = length-rows ps ns sized in
    let z : m ≡ 0 = omega arith in
    let e = (map.top q (subst (λ (i : ℕ). slice_get (rows_of ps ns) i ≡ Some q) z at)).0 in
    rw e tt
all_before ps ns sized map order n r here (inr (i, p, last, lt, size, is)) m q at k =
    let rows = rows_of ps ns in
    let b = length-rows ps ns sized in
    let c = slice_get_within rows n r here in
    let d = slice_get_within rows m q at in
    let l = there rows last (omega arith) in
    let u = there rows p (omega arith) in
    let lx = row_back ps ns last l.0 l.1 in
    let ux = row_back ps ns p u.0 u.1 in
    let lp : l.0.path ≡ i ∷ u.0.path = ap (λ (r : Row). r.path) lx.2 ∙ is ∙ ap (λ (r : Row). i ∷ r.path) (sym ux.2) in
    let less : IsEarlier l.0.path (k ∷ r.path) = rw lp (inl (order p n u.0 r u.1 here lt)) in
    elim (differs m last) [
      | inl e ↦ (let same : q ≡ l.0 = (let f = l.1 in cc) in rw same less)
      | inr ne ↦ earlier_trans q.path l.0.path (k ∷ r.path) (order m last q l.0 at l.1 (omega arith)) less
    ]

module _ (rows : List Row) (map : IsMap rows) (n : ℕ) (r : Row) (here : slice_get rows n ≡ Some r) (f : Row → Row) (heads : List Head) (becomes : Becomes rows r f heads) where
  cuts_after : HaveOrderedCuts rows → HasOrderedCut (f r).standing → HaveOrderedCuts (after rows n r.path f heads)
  cuts_after h cut m y c at is =
      elim (origin rows map n r here f heads becomes m y at) [
        | inl old ↦ elim old.which [
          | inl other ↦ h m old.row c old.here (ap (λ (k : Row). k.standing) (sym other.1) ∙ is)
          | inr this ↦
              let same : old.row ≡ r = (let a = old.here in let b = this.0 in cc) in
              let eq : y ≡ f r = (let a = this.1 in cc) in
              subst HasOrderedCut (ap (λ (k : Row). k.standing) (sym eq) ∙ is) cut
        ]
        | inr new ↦ let (k, x, sum, there, child) = new in absurd (let a = child.waits in cc)
      ]

  none_after : (k : ℕ) → k ≤ length rows → is_waiting (f r).standing ≡ false → NoneBelow rows k → NoneBelow (after rows n r.path f heads) k
  none_after k le not h m y lt at =
      elim (origin rows map n r here f heads becomes m y at) [
        | inl old ↦ elim old.which [
          | inl other ↦ rw other.1 (h m old.row lt old.here)
          | inr this ↦
              let same : old.row ≡ r = (let a = old.here in let b = this.0 in cc) in
              let eq : y ≡ f r = (let a = this.1 in cc) in
              rw eq not
        ]
        | inr new ↦ let (j, x, sum, there, child) = new in absurd (omega arith)
      ]

  order_after : AreInOrder rows → AllBefore rows r.path → AreInOrder (after rows n r.path f heads)
  order_after order before i j y z h g lt =
      elim (origin rows map n r here f heads becomes i y h) [
        | inl old ↦ elim (origin rows map n r here f heads becomes j z g) [
          | inl also ↦ rw (old.path, also.path) (order i j old.row also.row old.here also.here lt)
          | inr new ↦ let (k, x, sum, there, child) = new in rw (old.path, child.path_is) (before i old.row old.here k)
        ]
        | inr new ↦
            let (k, x, sum, there, child) = new in
            elim (origin rows map n r here f heads becomes j z g) [
              | inl also ↦ absurd (let a = slice_get_within rows j also.row also.here in omega arith)
              | inr later ↦ let (l, w, sum2, there2, child2) = later in rw (child.path_is, child2.path_is) (inr (refl, (let less : k < l = omega arith in less)))
            ]
      ]

pub held_whole : (s : Standing) → s ≡ Held → NotSplit s
held_whole s e f first count k = cc

pub waiting_whole : (s : Standing) → s ≡ Waiting → NotSplit s
waiting_whole s e f first count k = cc

pub held_waits : (s : Standing) → s ≡ Held → is_waiting s ≡ false
held_waits s e = rw e refl

pub pool_split : (ps : List (List ℕ)) (ns : List Node) (from : ℕ) (io : Bool) (br ls : ℕ) → IsPool ps ns from io br ls → (n : ℕ) (x y : Node) (xs : List Step) (g : Branch) (heads : List Head) (io2 : Bool) (ls2 : ℕ)
    → n < length ns → x ≡ get_or ns n x → standing_of x.standing ≡ Held
    → row_of (get_or ps n []) y ≡ fill xs (Splits g (length ns) (length heads)) (row_of (get_or ps n []) x)
    → (io2 ≡ true → (io ≡ true) × LastBefore ps n) → length ns + length heads < 2 ^ 32 → ls + length xs + 2 * length heads ≤ ls2 → ls2 < 2 ^ 64
    → IsPool (ps ++ children_from (get_or ps n []) 0 (length heads)) (slice_set (ns ++ fresh_nodes heads) n y) from io2 (br + 1) ls2
    × (rows_of (ps ++ children_from (get_or ps n []) 0 (length heads)) (slice_set (ns ++ fresh_nodes heads) n y) ≡ after (rows_of ps ns) n (get_or ps n []) (fill xs (Splits g (length (rows_of ps ns)) (length heads))) heads)
pool_split ps ns from io br ls pool n x y xs g heads io2 ls2 lt is held e keep room more bound =
    let rows = rows_of ps ns in
    let path = get_or ps n [] in
    let r = row_of path x in
    let f = fill xs (Splits g (length rows) (length heads)) in
    let lr = length-rows ps ns pool.sized in
    let here : slice_get rows n ≡ Some r = row_here ps ns n x pool.sized lt is in
    let filled : row_of path y ≡ f r = e ∙ ap (λ (k : ℕ). fill xs (Splits g k (length heads)) r) (sym lr) in
    let split : rows_of (ps ++ children_from path 0 (length heads)) (slice_set (ns ++ fresh_nodes heads) n y) ≡ after rows n path f heads = rows_split ps ns n x y f heads pool.sized lt is filled in
    let before : NotSplit r.standing = held_whole _ held in
    let becomes : Becomes rows r f heads = record { keeps = record { path = refl; head = refl; before = before }; which = inr (g, refl) } in
    let lp = length-append ps (children_from path 0 (length heads)) in
    let ln = length-append ns (fresh_nodes heads) in
    let lk = length-children path 0 (length heads) in
    let lf = length-map heads fresh_node in
    let len = length-set (ns ++ fresh_nodes heads) n y in
    let old = pool.sized in
    let inside = pool.within in
    let had = pool.room in
    let lines = lines_after rows n r xs (Splits g (length rows) (length heads)) heads here in (
      record {
        sized = (let a : length (ps ++ children_from path 0 (length heads)) ≡ length (ns ++ fresh_nodes heads) = omega arith in a ∙ sym len);
        small = rw len (omega arith);
        map = rw split (map_after rows pool.map n r here f heads becomes);
        cuts = rw split (cuts_after rows pool.map n r here f heads becomes pool.cuts tt);
        within = rw len (omega arith);
        none = rw split (none_after rows pool.map n r here f heads becomes from (omega arith) refl pool.none);
        ordered = λ yes. rw split (order_after rows pool.map n r here f heads becomes (pool.ordered (keep yes).0) (all_before ps ns pool.sized pool.map (pool.ordered (keep yes).0) n r here (keep yes).1));
        counted = rw split (ap (λ (k : ℕ). k + 1) pool.counted ∙ sym (splits_after rows n r xs g (length rows) (length heads) heads here before));
        room = rw split (omega arith);
        bound = bound;
      },
      split,
    )

-- ---- the first waiting box

none_from : (ps : List (List ℕ)) (ns : List Node) (from k : ℕ) → NoneBelow (rows_of ps ns) from → NodesPass ns from k → NoneBelow (rows_of ps ns) k
none_from ps ns from k none pass m q lt at =
    elim (below m from) [
      | inl a ↦ none m q a at
      | inr b ↦
          let x = row_back ps ns m q at in
          (let e = x.2 in rw e (pass m x.0 b lt x.1))
    ]
  where
    below : (m from : ℕ) → (m < from) ⊎ (from ≤ m)
    below zero zero = inr (omega arith)
    below zero (suc k) = inl (omega arith)
    below (suc m) zero = inr (omega arith)
    below (suc m) (suc k) = elim (below m k) [ inl a ↦ inl (omega arith) | inr b ↦ inr (omega arith) ]

pub pool_from : (ps : List (List ℕ)) (ns : List Node) (from : ℕ) (io : Bool) (br ls : ℕ) → IsPool ps ns from io br ls → (k : ℕ) → k ≤ length ns → NodesPass ns from k → IsPool ps ns k io br ls
pool_from ps ns from io br ls pool k le pass =
    record {
      sized = pool.sized;
      small = pool.small;
      map = pool.map;
      cuts = pool.cuts;
      within = le;
      none = none_from ps ns from k pool.none pass;
      ordered = pool.ordered;
      counted = pool.counted;
      room = pool.room;
      bound = pool.bound;
    }

pub waits_so : (s : Standing) → is_waiting s ≡ true → s ≡ Waiting
waits_so Waiting h = refl
waits_so Held h = absurd cc
waits_so Quit h = absurd cc
waits_so (Shuts c) h = absurd cc
waits_so (Splits f first count) h = absurd cc

pub not_waits : (s : Standing) → is_waiting s ≡ false → s ≢ Waiting
not_waits s h e = (let a = ap is_waiting e in cc)

-- the box at which the look for a waiting one stopped is the first of those up to it
pub first_found : (ps : List (List ℕ)) (ns : List Node) (from : ℕ) (io : Bool) (br ls : ℕ) → IsPool ps ns from io br ls → (k : ℕ) → NodesPass ns from k → k < length ns
    → ((x : Node) → slice_get ns k ≡ Some x → is_waiting (standing_of x.standing) ≡ true) → IsFirstBelow (rows_of ps ns) (k + 1) k
first_found ps ns from io br ls pool k pass lt waits =
    let rows = rows_of ps ns in
    let lr = length-rows ps ns pool.sized in
    let none = none_from ps ns from k pool.none pass in
    let q = there rows k (omega arith) in
    let x = row_back ps ns k q.0 q.1 in
    record {
      row = q.0;
      here = q.1;
      waits = waits_so q.0.standing (let e = x.2 in rw e (waits x.0 x.1));
      first = λ m p less at w other. absurd (not_waits p.standing (none m p (omega arith) at) w);
    }

-- where none waits up to the end
pub none_waits : (ps : List (List ℕ)) (ns : List Node) (from : ℕ) (io : Bool) (br ls : ℕ) → IsPool ps ns from io br ls → NodesPass ns from (length ns) → NoneWaits (rows_of ps ns)
none_waits ps ns from io br ls pool pass m q at =
    let lr = length-rows ps ns pool.sized in
    let a = slice_get_within (rows_of ps ns) m q at in
    not_waits q.standing (none_from ps ns from (length ns) pool.none pass m q (omega arith) at)

-- in order, the first by number is the first
pub first_in_order : (rows : List Row) (k n : ℕ) → AreInOrder rows → IsFirstBelow rows (n + 1) n → IsFirstBelow rows k n
first_in_order rows k n order h =
    record {
      row = h.row;
      here = h.here;
      waits = h.waits;
      first = λ m q less at w other.
          elim (after_or m n) [
            | inl a ↦ h.first m q (omega arith) at w other
            | inr b ↦ order n m h.row q h.here at (let ne : m ≡ n → ⊥ = other in omega arith)
          ];
    }
  where
    after_or : (m n : ℕ) → (m < n + 1) ⊎ (n < m)
    after_or zero n = inl (omega arith)
    after_or (suc m) zero = inr (omega arith)
    after_or (suc m) (suc n) = elim (after_or m n) [ inl a ↦ inl (omega arith) | inr b ↦ inr (omega arith) ]

pub first_of_all : (rows : List Row) (k n : ℕ) → length rows ≤ k → IsFirstBelow rows k n → IsFirstWaiting rows n
first_of_all rows k n le h = record { row = h.row; here = h.here; waits = h.waits; first = λ m q at w other. h.first m q (let lt = slice_get_within rows m q at in omega arith) at w other }

pub rows_kept : (ps : List (List ℕ)) (ns : List Node) (from : ℕ) (io : Bool) (br ls : ℕ) → IsPool ps ns from io br ls → AreRows ps ns
rows_kept ps ns from io br ls pool = record { sized = pool.sized; small = pool.small; map = pool.map; cuts = pool.cuts }
