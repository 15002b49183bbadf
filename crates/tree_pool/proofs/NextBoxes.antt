-- The next box, by numbers.
use Rattle.std.proofs.Common.{◌≡◌, ℕ, suc, ◌+◌, ◌<◌, ◌≤◌, ◌^◌, true, List, [], ◌∷◌, ◌++◌, length, get_or, Option, Some, None, refl, sym, ap, subst, ◌∙◌, arith, append_assoc, length-append}
use Rattle.std.specs.Prelude.{slice_get, IfSome}
use Rattle.std.proofs.lemmas.Option.{slice_get_within, slice_get-get_or, get_or_from_slice_get}
use Rattle.std.proofs.lemmas.List.{append-nil}
use Rattle.tree_cert.specs.declared.line.Line.{Line}
use Rattle.tree_cert.specs.Tree.{Branch}
use Rattle.tree_cert.specs.TreeRules.{Holds}
use Rattle.tree_cert.proofs.Options.{holds_some}
use Rattle.tree_pool.specs.declared.node.Node.{Node}
use Rattle.tree_pool.specs.Rows.{Standing, Waiting, Held, Quit, Shuts, Splits, Row}
use Rattle.tree_pool.specs.Shown.{end_of, works}
use Rattle.tree_pool.specs.Lines.{children_of, After, Remains, Pending, Writes, own_lines, from_root, is_before, ahead}
use Rattle.tree_pool.specs.Nodes.{standing_of, children_count, row_of, rows_of, AreRows, FirstIs, node_size}
use Rattle.tree_pool.specs.Calls.{IfRow, HasOrderedCut}
use Rattle.tree_pool.specs.Walks.{IsAfter, IsNext}
use Rattle.tree_pool.proofs.NodeList.{length-rows, row_here, row_back}
use Rattle.tree_pool.proofs.Totals.{row_size}
use Rattle.tree_pool.proofs.Texts.{writes_none, writes_both}
use Rattle.tree_pool.proofs.Onward.{goes_down, goes_on, goes_up, goes_aside}
use Rattle.tree_pool.proofs.Ahead.{before_child, before_sibling, lines_nearer, lines_at_least, ahead_at}
use Rattle.tree_pool.proofs.Lists.{there}

count_same : (s : Standing) → children_of (end_of s) ≡ children_count s
count_same Waiting = refl
count_same Held = refl
count_same Quit = refl
count_same (Shuts c) = refl
count_same (Splits f first count) = refl

is_first : (s : Standing) (m : ℕ) → FirstIs s (Some m) → (f : Branch) × (count : ℕ) × (s ≡ Splits f m count) × (0 < count)
is_first Waiting m h = absurd cc
is_first Held m h = absurd cc
is_first Quit m h = absurd cc
is_first (Shuts c) m h = absurd cc
is_first (Splits f first count) m h = (f, count, ap (λ (k : ℕ). Splits f k count) (sym h.0), h.1)

no_first : (s : Standing) → FirstIs s None → children_of (end_of s) ≡ 0
no_first Waiting h = refl
no_first Held h = refl
no_first Quit h = refl
no_first (Shuts c) h = refl
no_first (Splits f first count) h = h

module _ (ps : List (List ℕ)) (ns : List Node) (are : AreRows ps ns) where
  -- the row of a number
  pub row_of_number : (n : ℕ) → n < length ns → (r : Row) × (slice_get (rows_of ps ns) n ≡ Some r) × (r.path ≡ get_or ps n [])
  row_of_number n lt =
      let q = there (rows_of ps ns) n (let a = length-rows ps ns are.sized in omega arith) in
      let x = row_back ps ns n q.0 q.1 in
      (q.0, q.1, ap (λ (r : Row). r.path) x.2)

  number_within : (n : ℕ) (r : Row) → slice_get (rows_of ps ns) n ≡ Some r → n < length ns
  number_within n r here = let a = slice_get_within (rows_of ps ns) n r here in let b = length-rows ps ns are.sized in omega arith

  -- up from a last child
  pub climbs : (n nth parent : ℕ) (x : Node) → parent < length ns → x ≡ get_or ns parent x → get_or ps n [] ≡ nth ∷ get_or ps parent [] → children_count (standing_of x.standing) ≤ nth + 1
      → (rest : List Line) → After (works (rows_of ps ns)) (get_or ps n []) rest → After (works (rows_of ps ns)) (get_or ps parent []) rest
  climbs n nth parent x lt is path last rest h =
      let here = row_here ps ns parent x are.sized lt is in
      let c = count_same (standing_of x.standing) in
      goes_up (rows_of ps ns) are.map (get_or ps parent []) nth parent (row_of (get_or ps parent []) x) here refl (omega arith) rest (subst (λ (p : List ℕ). After (works (rows_of ps ns)) p rest) path h)

  -- aside from another child
  pub goes_next : (start n nth parent : ℕ) (s : List ℕ) (x : Node) → n < length ns → parent < length ns → x ≡ get_or ns parent x → get_or ps n [] ≡ nth ∷ get_or ps parent [] → nth + 1 < children_count (standing_of x.standing)
      → get_or ps start [] ≡ s ++ get_or ps n [] → ((rest : List Line) → After (works (rows_of ps ns)) (get_or ps start []) rest → After (works (rows_of ps ns)) (get_or ps n []) rest)
      → IsAfter ps ns start (Some (n + 1))
  goes_next start n nth parent s x lt lt2 is path more above follows =
      let rows = rows_of ps ns in
      let q = row_of_number n lt in
      let here = row_here ps ns parent x are.sized lt2 is in
      let c = count_same (standing_of x.standing) in
      let z = goes_aside rows are.map n q.0 nth (get_or ps parent []) q.1 (q.2 ∙ path) parent (row_of (get_or ps parent []) x) here refl (omega arith) in
      let inside = number_within (n + 1) z.0 z.1 in
      let there = row_of_number (n + 1) inside in
      let same : there.0 ≡ z.0 = (let a = there.1 in let b = z.1 in cc) in
      let named : get_or ps (n + 1) [] ≡ suc nth ∷ get_or ps parent [] = sym there.2 ∙ ap (λ (r : Row). r.path) same ∙ z.2 in
      let from : get_or ps start [] ≡ s ++ (nth ∷ get_or ps parent []) = above ∙ ap (λ (p : List ℕ). s ++ p) path in
      record {
        follows = λ rest h. z.3 rest (subst (λ (p : List ℕ). After (works rows) p rest) path (follows rest h));
        within = inside;
        later = rw (from, named) (before_sibling s (get_or ps parent []) nth);
      }

  -- none after the root
  pub ends_at_root : (start : ℕ) → ((rest : List Line) → After (works (rows_of ps ns)) (get_or ps start []) rest → After (works (rows_of ps ns)) (get_or ps 0 []) rest) → 0 < length ns → IsAfter ps ns start None
  ends_at_root start follows some =
      let q = row_of_number 0 some in
      let root : get_or ps 0 [] ≡ [] = sym q.2 ∙ (are.map.top q.0 q.1).0 in
      record {
        follows = λ rest h. subst (λ (p : List ℕ). After (works (rows_of ps ns)) p rest) root (follows rest h);
        within = tt;
        later = tt;
      }

  at_row : (n : ℕ) (r : Row) (P : Row → Type 0) → slice_get (rows_of ps ns) n ≡ Some r → P r → IfRow (rows_of ps ns) n P
  at_row n r P here p = subst (λ (o : Option Row). Holds o P) (sym here) p

  row_fact : (n : ℕ) (r : Row) (P : Row → Type 0) → slice_get (rows_of ps ns) n ≡ Some r → IfRow (rows_of ps ns) n P → P r
  row_fact n r P here p = subst (λ (o : Option Row). Holds o P) here p

  closer : (n m : ℕ) (r q : Row) → slice_get (rows_of ps ns) n ≡ Some r → slice_get (rows_of ps ns) m ≡ Some q → is_before (from_root r.path []) (from_root q.path []) ≡ true
      → ahead (rows_of ps ns) (Some m) + length (own_lines r) ≤ ahead (rows_of ps ns) (Some n)
  closer n m r q here there less = rw (ahead_at (rows_of ps ns) n r here, ahead_at (rows_of ps ns) m q there) (lines_nearer (rows_of ps ns) n r q.path here less)

  -- the first child comes next
  pub next_down : (n m : ℕ) (x : Node) → n < length ns → x ≡ get_or ns n x → FirstIs (standing_of x.standing) (Some m) → IsNext ps ns n (Some m)
  next_down n m x lt is first =
      let rows = rows_of ps ns in
      let r = row_of (get_or ps n []) x in
      let here : slice_get rows n ≡ Some r = row_here ps ns n x are.sized lt is in
      let f = is_first (standing_of x.standing) m first in
      let z = (are.map.below n r f.0 m f.1 here f.2).1 0 f.3 in
      let e : m + 0 ≡ m = omega arith in
      let there : slice_get rows m ≡ Some z.0 = subst (λ (i : ℕ). slice_get rows i ≡ Some z.0) e z.1 in
      record {
        follows = λ rest h. goes_down rows are.map n r f.0 m f.1 here f.2 f.3 rest (row_fact n r (λ r. Remains rows r rest) here h);
        within = number_within m z.0 there;
        nearer = at_row n r (λ r. ahead rows (Some m) + length (own_lines r) ≤ ahead rows (Some n)) here
            (closer n m r z.0 here there (let a = z.2 in rw a (before_child r.path 0)));
      }

  later_row : (n : ℕ) (r : Row) (next : Option ℕ) → slice_get (rows_of ps ns) n ≡ Some r → r.path ≡ get_or ps n [] → IfSome next (λ m. m < length ns) → IfSome next (λ m. is_before (from_root (get_or ps n []) []) (from_root (get_or ps m []) []) ≡ true)
      → ahead (rows_of ps ns) next + length (own_lines r) ≤ ahead (rows_of ps ns) (Some n)
  later_row n r None here at inside later = let a = lines_at_least (rows_of ps ns) n r here in let b = ahead_at (rows_of ps ns) n r here in omega arith
  later_row n r (Some m) here at inside later =
      let q = row_of_number m inside in
      closer n m r q.0 here q.1 (rw (at, q.2) later)

  -- where there is no child, what comes after the box does
  pub next_on : (n : ℕ) (next : Option ℕ) (x : Node) → n < length ns → x ≡ get_or ns n x → FirstIs (standing_of x.standing) None → IsAfter ps ns n next → IsNext ps ns n next
  next_on n next x lt is none after =
      let rows = rows_of ps ns in
      let r = row_of (get_or ps n []) x in
      let here : slice_get rows n ≡ Some r = row_here ps ns n x are.sized lt is in
      record {
        follows = λ rest h. after.follows rest (goes_on rows are.map r (no_first (standing_of x.standing) none) rest (row_fact n r (λ r. Remains rows r rest) here h));
        within = after.within;
        nearer = at_row n r (λ r. ahead rows next + length (own_lines r) ≤ ahead rows (Some n)) here (later_row n r next here refl after.within after.later);
      }

  -- ---- a turn of a walk

  abbrev pub Counted : (first next : Option ℕ) → ℕ → Type 0
  Counted first next count = (ls : List Line) → Pending (rows_of ps ns) first ls → (rest : List Line) × Pending (rows_of ps ns) next rest × (length ls ≡ count + length rest)

  pub counts_on : (first next : Option ℕ) (n count : ℕ) (x : Node) → n < length ns → x ≡ get_or ns n x → IsNext ps ns n next → Counted first (Some n) count → Counted first next (count + node_size x)
  counts_on first next n count x lt is step so_far ls h =
      let rows = rows_of ps ns in
      let r = row_of (get_or ps n []) x in
      let here : slice_get rows n ≡ Some r = row_here ps ns n x are.sized lt is in
      let z = so_far ls h in
      let (rest, text, remains) = row_fact n r (λ r. (rest : List Line) × (z.0 ≡ own_lines r ++ rest) × Remains rows r rest) here z.1 in
      let a = ap length text in
      let b = length-append (own_lines r) rest in
      let c = row_size r in
      let d = z.2 in
      (rest, step.follows rest (at_row n r (λ r. Remains rows r rest) here remains), omega arith)

  pub size_ahead : (next : Option ℕ) (n : ℕ) (x : Node) → n < length ns → x ≡ get_or ns n x → IsNext ps ns n next → ahead (rows_of ps ns) next + node_size x ≤ ahead (rows_of ps ns) (Some n)
  size_ahead next n x lt is step =
      let r = row_of (get_or ps n []) x in
      let here = row_here ps ns n x are.sized lt is in
      let a = row_fact n r (λ r. ahead (rows_of ps ns) next + length (own_lines r) ≤ ahead (rows_of ps ns) (Some n)) here step.nearer in
      let c = row_size r in
      omega arith

  pub size_small : (n : ℕ) (x : Node) → n < length ns → x ≡ get_or ns n x → node_size x ≤ ahead (rows_of ps ns) (Some n)
  size_small n x lt is =
      let r = row_of (get_or ps n []) x in
      let here = row_here ps ns n x are.sized lt is in
      let a = lines_at_least (rows_of ps ns) n r here in
      let b = ahead_at (rows_of ps ns) n r here in
      let c = row_size r in
      omega arith

  abbrev pub Written : Option ℕ → (before now : List ℕ) → Type 0
  Written next before now = (ls : List Line) → Pending (rows_of ps ns) (Some 0) ls → (done : List Line) × (rest : List Line) × Pending (rows_of ps ns) next rest × (ls ≡ done ++ rest) × Writes before now done

  pub writes_on : (next : Option ℕ) (n : ℕ) (x : Node) (before now later : List ℕ) → n < length ns → x ≡ get_or ns n x → IsNext ps ns n next → Written (Some n) before now → Writes now later (own_lines (row_of [] x)) → Written next before later
  writes_on next n x before now later lt is step so_far own ls h =
      let rows = rows_of ps ns in
      let r = row_of (get_or ps n []) x in
      let here : slice_get rows n ≡ Some r = row_here ps ns n x are.sized lt is in
      let (done, left, pending, split, written) = so_far ls h in
      let (rest, text, remains) = row_fact n r (λ r. (rest : List Line) × (left ≡ own_lines r ++ rest) × Remains rows r rest) here pending in (
        done ++ own_lines r,
        rest,
        step.follows rest (at_row n r (λ r. Remains rows r rest) here remains),
        split ∙ ap (λ (l : List Line). done ++ l) text ∙ sym (append_assoc done (own_lines r) rest),
        writes_both before now later done (own_lines r) written own,
      )

  -- a node's cut can be spelled
  pub cut_of : (n : ℕ) (x : Node) → n < length ns → x ≡ get_or ns n x → HasOrderedCut (standing_of x.standing)
  cut_of n x lt is = by_standing (standing_of x.standing) refl
    where
      by_standing : (s : Standing) → standing_of x.standing ≡ s → HasOrderedCut s
      by_standing Waiting e = tt
      by_standing Held e = tt
      by_standing Quit e = tt
      by_standing (Shuts c) e = are.cuts n (row_of (get_or ps n []) x) c (row_here ps ns n x are.sized lt is) e
      by_standing (Splits f first count) e = tt

  pub counts_begin : (first : Option ℕ) → Counted first first 0
  counts_begin first ls h = (ls, h, omega arith)

  pub counts_done : (first : Option ℕ) (count : ℕ) → Counted first None count → (ls : List Line) → Pending (rows_of ps ns) first ls → count ≡ length ls
  counts_done first count so_far ls h =
      let z = so_far ls h in
      let a = ap length z.1 in
      let b = z.2 in
      let c : length z.0 ≡ 0 = a in
      omega arith

  pub writes_begin : (before : List ℕ) → Written (Some 0) before before
  writes_begin before ls h = ([], ls, h, refl, writes_none before)

  pub writes_done : (before now : List ℕ) → Written None before now → (ls : List Line) → Pending (rows_of ps ns) (Some 0) ls → Writes before now ls
  writes_done before now so_far ls h =
      let (done, rest, none, split, written) = so_far ls h in
      let whole : ls ≡ done = split ∙ ap (λ (l : List Line). done ++ l) none ∙ append-nil done in
      subst (λ (l : List Line). Writes before now l) (sym whole) written

  -- ---- a turn of the way after a box

  abbrev pub Followed : (start n : ℕ) → Type 0
  Followed start n = (rest : List Line) → After (works (rows_of ps ns)) (get_or ps start []) rest → After (works (rows_of ps ns)) (get_or ps n []) rest

  abbrev pub CountAt : ℕ → ℕ → Type 0
  CountAt parent count = Holds (slice_get ns parent) (λ x. count ≡ children_count (standing_of x.standing))

  node_there : (parent count : ℕ) → CountAt parent count → (x : Node) × (x ≡ get_or ns parent x) × (count ≡ children_count (standing_of x.standing))
  node_there parent count h =
      let z = holds_some (slice_get ns parent) (λ x. count ≡ children_count (standing_of x.standing)) h in
      (z.0, sym (get_or_from_slice_get ns parent z.0 z.0 z.1), z.2)

  pub goes_at : (start n nth parent count : ℕ) (s : List ℕ) → n < length ns → parent < length ns → CountAt parent count → get_or ps n [] ≡ nth ∷ get_or ps parent [] → nth + 1 < count
      → get_or ps start [] ≡ s ++ get_or ps n [] → Followed start n → IsAfter ps ns start (Some (n + 1))
  goes_at start n nth parent count s lt lt2 at path more above follows =
      let z = node_there parent count at in
      let e = z.2 in
      goes_next start n nth parent s z.0 lt lt2 z.1 path (omega arith) above follows

  pub climbs_at : (start n nth parent count : ℕ) → parent < length ns → CountAt parent count → get_or ps n [] ≡ nth ∷ get_or ps parent [] → count ≤ nth + 1 → Followed start n → Followed start parent
  climbs_at start n nth parent count lt at path last follows rest h =
      let z = node_there parent count at in
      let e = z.2 in
      climbs n nth parent z.0 lt z.1 path (omega arith) rest (follows rest h)

  pub above_at : (start n nth parent : ℕ) (s : List ℕ) → get_or ps n [] ≡ nth ∷ get_or ps parent [] → get_or ps start [] ≡ s ++ get_or ps n [] → get_or ps start [] ≡ (s ++ nth ∷ []) ++ get_or ps parent []
  above_at start n nth parent s path above = above ∙ ap (λ (p : List ℕ). s ++ p) path ∙ sym (append_assoc s (nth ∷ []) (get_or ps parent []))

  pub next_fits : (start n : ℕ) → IsAfter ps ns start (Some (n + 1)) → n + 1 < 2 ^ 32
  next_fits start n after = let a = after.within in let b = are.small in omega arith

-- the node of a number
pub node_at : (ns : List Node) (n : ℕ) (x : Node) → n < length ns → x ≡ get_or ns n x → slice_get ns n ≡ Some x
node_at ns n x lt is = slice_get-get_or ns n x lt ∙ ap Some (sym is)

-- there is a root
pub some_node : (ps : List (List ℕ)) (ns : List Node) → AreRows ps ns → 0 < length ns
some_node ps ns are = let a = length-rows ps ns are.sized in let b = are.map.some in omega arith
