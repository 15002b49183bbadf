-- What each call that changes a pool leaves: the pool still holds, and its rows are what the call says.
use Rattle.std.proofs.Common.{◌≡◌, ℕ, zero, suc, ◌+◌, ◌-◌, ◌*◌, ◌<◌, ◌≤◌, ◌^◌, Bool, true, false, List, [], ◌∷◌, ◌++◌, length, get_or, Option, Some, None, refl, sym, ap, subst, ◌∙◌, arith}
use Rattle.std.specs.Prelude.{slice_get, slice_set}
use Rattle.std.proofs.lemmas.Option.{slice_get_within}
use Rattle.std.proofs.Math.ListN.{get_or-append}
use Rattle.tree_cert.specs.declared.line.Step.{Step}
use Rattle.tree_cert.specs.declared.line.Head.{Head}
use Rattle.tree_cert.specs.TreeRules.{Holds}
use Rattle.tree_cert.proofs.Options.{holds_some}
use Rattle.tree_pool.specs.declared.node.BranchBy.{BranchBy}
use Rattle.tree_pool.specs.declared.node.Node.{Node}
use Rattle.tree_pool.specs.declared.node.Standing as declared
use Rattle.tree_pool.specs.declared.node.Standing.TheVariants as nodes
use Rattle.tree_pool.specs.Lineages.{children_from}
use Rattle.tree_pool.specs.Rows.{Waiting, Held, Splits, Row, first_row, update, fill, stand, after, NotSplit, IsMap, IsFirstWaiting}
use Rattle.tree_cert.specs.declared.line.Line.{Line}
use Rattle.tree_cert.specs.Tree.{Tree}
use Rattle.tree_pool.specs.Shown.{works, Shows}
use Rattle.tree_pool.specs.Walks.{IsNext}
use Rattle.tree_pool.specs.Lines.{Remains, Pending, IsLineOf}
use Rattle.tree_pool.specs.Nodes.{branch_of, standing_of, is_waiting, row_of, rows_of, IsFirstBelow, IsPool, AreRows}
use Rattle.tree_pool.specs.Calls.{IfRow, IsHeld, HasOrderedCut, fresh_nodes, root_node, NodesPass, LastBefore}
use Rattle.tree_pool.proofs.Totals.{lines_filled, lines_stood}
use Rattle.tree_pool.proofs.NodeList.{length-rows, row_here, row_back, rows_set}
use Rattle.tree_pool.proofs.Onward.{line_number}
use Rattle.tree_pool.proofs.NextBoxes.{row_of_number}
use Rattle.tree_pool.proofs.PoolKeeps.{none_updated, none_before, none_less, pool_from, first_of_all, held_whole, waiting_whole, pool_set, pool_split}
use Rattle.tree_pool.proofs.Lists.{there}

-- a held box is a node that is held
pub held_node : (ps : List (List ℕ)) (ns : List Node) → length ps ≡ length ns → (n : ℕ) (x : Node) (rows : List Row) → rows_of ps ns ≡ rows → IsHeld rows n → x ≡ get_or ns n x
    → (n < length ns) × (standing_of x.standing ≡ Held) × (slice_get rows n ≡ Some (row_of (get_or ps n []) x))
held_node ps ns sized n x rows view held is =
    let h = holds_some (slice_get rows n) (λ r. r.standing ≡ Held) held in
    let lr = length-rows ps ns sized in
    let lv = ap length view in
    let lt : n < length ns = (let a = slice_get_within rows n h.0 h.1 in omega arith) in
    let row : slice_get rows n ≡ Some (row_of (get_or ps n []) x) = subst (λ (rs : List Row). slice_get rs n ≡ Some (row_of (get_or ps n []) x)) view (row_here ps ns n x sized lt is) in
    let same : h.0 ≡ row_of (get_or ps n []) x = (let a = h.1 in cc) in
    (lt, ap (λ (r : Row). r.standing) (sym same) ∙ h.2, row)

-- a held box has a number
pub held_within : (ps : List (List ℕ)) (ns : List Node) → length ps ≡ length ns → (rows : List Row) → rows_of ps ns ≡ rows → (n : ℕ) → IsHeld rows n → n < length ns
held_within ps ns sized rows view n held =
    let h = holds_some (slice_get rows n) (λ r. r.standing ≡ Held) held in
    let lr = length-rows ps ns sized in
    let lv = ap length view in
    let a = slice_get_within rows n h.0 h.1 in
    omega arith

-- the path of a box is that of its place
pub depth_found : (ps : List (List ℕ)) (ns : List Node) → length ps ≡ length ns → (rows : List Row) → rows_of ps ns ≡ rows → (n : ℕ) → n < length rows
    → (n < length ps) × ((d : ℕ) → d ≡ length (get_or ps n []) → IfRow rows n (λ r. d ≡ length r.path))
depth_found ps ns sized rows view n lt =
    let lr = length-rows ps ns sized in
    let lv = ap length view in
    let q = there rows n lt in
    let z = row_back ps ns n q.0 (subst (λ (rs : List Row). slice_get rs n ≡ Some q.0) (sym view) q.1) in
    (omega arith, λ d e. subst (λ (o : Option Row). Holds o (λ r. d ≡ length r.path)) (sym q.1) (e ∙ sym (ap (λ (r : Row). length r.path) z.2)))

pub lost : (ps : List (List ℕ)) (ns : List Node) (from : ℕ) (io : Bool) (br ls : ℕ) → IsPool ps ns from io br ls → (n : ℕ) (x y : Node) (rows : List Row) → rows_of ps ns ≡ rows → IsHeld rows n → x ≡ get_or ns n x
    → y ≡ record x { standing = nodes.Waiting } → (k : ℕ) → k ≤ from → k ≤ n
    → IsPool ps (slice_set ns n y) k io br ls × (rows_of ps (slice_set ns n y) ≡ update rows n (stand Waiting))
lost ps ns from io br ls pool n x y rows view held is done k le le2 =
    let h = held_node ps ns pool.sized n x rows view held is in
    let path = get_or ps n [] in
    let e : row_of path y ≡ stand Waiting (row_of path x) = ap (row_of path) done in
    let here = row_here ps ns n x pool.sized h.0 is in
    let lines = lines_stood (rows_of ps ns) n (row_of path x) Waiting here in
    let room = pool.room in
    let inside = pool.within in (
      pool_set ps ns from io br ls pool n x y (stand Waiting) h.0 is e (record { path = refl; head = refl; before = held_whole _ h.1 }) (waiting_whole _ refl) tt
          k (omega arith) (none_before (rows_of ps ns) n (stand Waiting) k le2 (none_less (rows_of ps ns) k from le pool.none)) ls (omega arith) pool.bound,
      rows_set ps ns n x y (stand Waiting) pool.sized h.0 is e ∙ ap (λ (rs : List Row). update rs n (stand Waiting)) view,
    )

pub taken : (ps : List (List ℕ)) (ns : List Node) (from : ℕ) (io : Bool) (br ls : ℕ) → IsPool ps ns from io br ls → (n : ℕ) (x y : Node) (rows : List Row) → rows_of ps ns ≡ rows → (k : ℕ) → IsFirstBelow (rows_of ps ns) k n → x ≡ get_or ns n x
    → y ≡ record x { standing = nodes.Held }
    → IsPool ps (slice_set ns n y) from io br ls × (rows_of ps (slice_set ns n y) ≡ update rows n (stand Held))
taken ps ns from io br ls pool n x y rows view k first is done =
    let path = get_or ps n [] in
    let lr = length-rows ps ns pool.sized in
    let lt : n < length ns = (let a = slice_get_within (rows_of ps ns) n first.row first.here in omega arith) in
    let here = row_here ps ns n x pool.sized lt is in
    let same : first.row ≡ row_of path x = (let a = first.here in cc) in
    let waits : standing_of x.standing ≡ Waiting = ap (λ (r : Row). r.standing) (sym same) ∙ first.waits in
    let e : row_of path y ≡ stand Held (row_of path x) = ap (row_of path) done in
    let lines = lines_stood (rows_of ps ns) n (row_of path x) Held here in
    let room = pool.room in (
      pool_set ps ns from io br ls pool n x y (stand Held) lt is e (record { path = refl; head = refl; before = waiting_whole _ waits }) (held_whole _ refl) tt
          from pool.within (none_updated (rows_of ps ns) n (row_of path x) (stand Held) from here refl pool.none) ls (omega arith) pool.bound,
      rows_set ps ns n x y (stand Held) pool.sized lt is e ∙ ap (λ (rs : List Row). update rs n (stand Held)) view,
    )

pub ended : (ps : List (List ℕ)) (ns : List Node) (from : ℕ) (io : Bool) (br ls : ℕ) → IsPool ps ns from io br ls → (n : ℕ) (x y : Node) (rows : List Row) → rows_of ps ns ≡ rows → IsHeld rows n → x ≡ get_or ns n x
    → (xs : List Step) (s : declared.Standing) → y ≡ record x { steps = xs; standing = s } → NotSplit (standing_of s) → is_waiting (standing_of s) ≡ false → HasOrderedCut (standing_of s) → (ls2 : ℕ) → ls2 ≡ ls + length xs + 2 * 0 → ls2 < 2 ^ 64
    → IsPool ps (slice_set ns n y) from io br ls2 × (rows_of ps (slice_set ns n y) ≡ update rows n (fill xs (standing_of s)))
ended ps ns from io br ls pool n x y rows view held is xs s done whole not cut ls2 more bound =
    let h = held_node ps ns pool.sized n x rows view held is in
    let path = get_or ps n [] in
    let f = fill xs (standing_of s) in
    let e : row_of path y ≡ f (row_of path x) = ap (row_of path) done in
    let here = row_here ps ns n x pool.sized h.0 is in
    let lines = lines_filled (rows_of ps ns) n (row_of path x) xs (standing_of s) here in
    let room = pool.room in (
      pool_set ps ns from io br ls pool n x y f h.0 is e (record { path = refl; head = refl; before = held_whole _ h.1 }) whole cut
          from pool.within (none_updated (rows_of ps ns) n (row_of path x) f from here not pool.none) ls2 (omega arith) bound,
      rows_set ps ns n x y f pool.sized h.0 is e ∙ ap (λ (rs : List Row). update rs n f) view,
    )

pub split_done : (ps : List (List ℕ)) (ns : List Node) (from : ℕ) (io : Bool) (br ls : ℕ) → IsPool ps ns from io br ls → (n : ℕ) (ps2 : List (List ℕ)) (ns2 : List Node) (x y : Node) (rows : List Row) → rows_of ps ns ≡ rows → IsHeld rows n
    → (heads : List Head) (count : ℕ) → count ≡ length heads → ps2 ≡ ps ++ children_from (get_or ps n []) 0 count → ns2 ≡ ns ++ fresh_nodes heads → x ≡ get_or ns2 n x
    → (xs : List Step) (f : BranchBy) (first : ℕ) → first ≡ length ns → y ≡ record x { steps = xs; standing = nodes.Split f first count }
    → (io2 : Bool) → (io2 ≡ true → (io ≡ true) × LastBefore ps n) → length rows + length heads < 2 ^ 32 → (ls2 : ℕ) → ls2 ≡ ls + length xs + 2 * count → ls2 < 2 ^ 64
    → IsPool ps2 (slice_set ns2 n y) from io2 (br + 1) ls2 × IfRow rows n (λ r. rows_of ps2 (slice_set ns2 n y) ≡ after rows n r.path (fill xs (Splits (branch_of f) (length rows) (length heads))) heads)
split_done ps ns from io br ls pool n ps2 ns2 x y rows view held heads count size grown grown2 is xs f first at done io2 keep room ls2 more bound =
    let lr = length-rows ps ns pool.sized in
    let lv = ap length view in
    let path = get_or ps n [] in
    let h0 = holds_some (slice_get rows n) (λ r. r.standing ≡ Held) held in
    let lt : n < length ns = (let a = slice_get_within rows n h0.0 h0.1 in omega arith) in
    let inside : x ≡ get_or ns n x = is ∙ ap (λ (l : List Node). get_or l n x) grown2 ∙ get_or-append ns (fresh_nodes heads) x n lt in
    let h = held_node ps ns pool.sized n x rows view held inside in
    let filled : row_of path y ≡ fill xs (Splits (branch_of f) (length ns) (length heads)) (row_of path x) =
    ap (row_of path) done ∙ ap (λ (k : ℕ). fill xs (Splits (branch_of f) k count) (row_of path x)) at ∙ ap (λ (k : ℕ). fill xs (Splits (branch_of f) (length ns) k) (row_of path x)) size in
    let z = pool_split ps ns from io br ls pool n x y xs (branch_of f) heads io2 ls2 lt inside h.1 filled keep (omega arith) (omega arith) bound in
    let paths : ps2 ≡ ps ++ children_from path 0 (length heads) = grown ∙ ap (λ (k : ℕ). ps ++ children_from path 0 k) size in (
      subst (λ (l : List Node). IsPool ps2 (slice_set l n y) from io2 (br + 1) ls2) (sym grown2) (subst (λ (q : List (List ℕ)). IsPool q (slice_set (ns ++ fresh_nodes heads) n y) from io2 (br + 1) ls2) (sym paths) z.0),
      subst (λ (o : Option Row). Holds o (λ r. rows_of ps2 (slice_set ns2 n y) ≡ after rows n r.path (fill xs (Splits (branch_of f) (length rows) (length heads))) heads)) (sym h.2)
          (subst (λ (l : List Node). rows_of ps2 (slice_set l n y) ≡ after rows n path (fill xs (Splits (branch_of f) (length rows) (length heads))) heads) (sym grown2)
          (subst (λ (q : List (List ℕ)). rows_of q (slice_set (ns ++ fresh_nodes heads) n y) ≡ after rows n path (fill xs (Splits (branch_of f) (length rows) (length heads))) heads) (sym paths)
          (z.1 ∙ ap (λ (rs : List Row). after rs n path (fill xs (Splits (branch_of f) (length rs) (length heads))) heads) view))),
    )

-- ---- a new pool

zero_only : (m : ℕ) (q : Row) → slice_get (first_row ∷ []) m ≡ Some q → m ≡ 0
zero_only zero q h = refl
zero_only (suc m) q h = absurd cc

root_waits : (m : ℕ) (q : Row) → slice_get (first_row ∷ []) m ≡ Some q → q.standing ≡ Waiting
root_waits zero q h = let e : first_row ≡ q = cc in subst (λ (r : Row). r.standing ≡ Waiting) e refl
root_waits (suc m) q h = absurd cc

pub one_map : IsMap (first_row ∷ [])
one_map =
    record {
      top = λ r h. let e : first_row ≡ r = cc in subst (λ (r : Row). (r.path ≡ []) × (r.head ≡ None)) e (refl, refl);
      some = omega arith;
      headed = λ m q h. absurd cc;
      distinct = λ m n q r h g e. zero_only m q h ∙ sym (zero_only n r g);
      below = λ n r f first count h s. absurd (let a = root_waits n r h in cc);
      above = λ m q h. absurd cc;
    }

root_pool : IsPool ([] ∷ []) (root_node ∷ []) 0 true 0 3
root_pool =
    record {
      sized = refl;
      small = omega arith;
      map = one_map;
      cuts = λ n r c at e. absurd (let a = root_waits n r at in cc);
      within = omega arith;
      none = λ m q lt at. absurd (omega arith);
      ordered = λ yes m n q r h g lt. absurd (let a = zero_only m q h in let b = zero_only n r g in omega arith);
      counted = refl;
      room = omega arith;
      bound = omega arith;
    }

pub made : (ps : List (List ℕ)) (ns : List Node) → ps ≡ [] ∷ [] → ns ≡ root_node ∷ [] → IsPool ps ns 0 true 0 3 × (rows_of ps ns ≡ first_row ∷ [])
made ps ns e f = (
  subst (λ (l : List (List ℕ)). IsPool l ns 0 true 0 3) (sym e) (subst (λ (l : List Node). IsPool ([] ∷ []) l 0 true 0 3) (sym f) root_pool),
  ap (λ (l : List (List ℕ)). rows_of l ns) e ∙ ap (λ (l : List Node). rows_of ([] ∷ []) l) f,
)

-- the number of a box's line, by paths and nodes
pub line_found : (ps : List (List ℕ)) (ns : List Node) → AreRows ps ns → (rows : List Row) → rows_of ps ns ≡ rows → (n : ℕ) → n < length rows → (all below : ℕ) (next : Option ℕ)
    → ((ls : List Line) → Pending (rows_of ps ns) (Some 0) ls → all ≡ length ls) → IsNext ps ns n next → ((ls : List Line) → Pending (rows_of ps ns) next ls → below ≡ length ls)
    → (below ≤ all) × ((t : Tree) → Shows (works rows) [] t → IsLineOf rows n (all - below + 1) t)
line_found ps ns are rows view n lt all below next counted step after =
    let lr = length-rows ps ns are.sized in
    let lv = ap length view in
    let q = row_of_number ps ns are n (omega arith) in
    subst (λ (rs : List Row). (below ≤ all) × ((t : Tree) → Shows (works rs) [] t → IsLineOf rs n (all - below + 1) t)) view
    (line_number (rows_of ps ns) are.map n q.0 q.1 all below counted
    (λ rest h. after rest (step.follows rest (subst (λ (o : Option Row). Holds o (λ r. Remains (rows_of ps ns) r rest)) (sym q.1) h))))

-- the box that is taken is the first that waits
pub took : (ps : List (List ℕ)) (ns : List Node) (from : ℕ) (io : Bool) (br ls : ℕ) → IsPool ps ns from io br ls → (k : ℕ) → NodesPass ns from k → k ≤ length ns → (n : ℕ) (x y : Node) (rows : List Row) → rows_of ps ns ≡ rows → IsFirstBelow (rows_of ps ns) (length ns) n
    → x ≡ get_or ns n x → y ≡ record x { standing = nodes.Held }
    → IsPool ps (slice_set ns n y) k io br ls × IsFirstWaiting rows n × (rows_of ps (slice_set ns n y) ≡ update rows n (stand Held))
took ps ns from io br ls pool k pass le n x y rows view first is done =
    let now = pool_from ps ns from io br ls pool k le pass in
    let z = taken ps ns k io br ls now n x y rows view (length ns) first is done in
    let lr = length-rows ps ns pool.sized in
    (z.0, subst (λ (rs : List Row). IsFirstWaiting rs n) view (first_of_all (rows_of ps ns) (length ns) n (omega arith) first), z.1)
