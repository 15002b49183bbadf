-- The first waiting box, looked for from one number to the next.
use Rattle.std.proofs.Common.{◌≡◌, ◌≢◌, ℕ, ◌+◌, ◌<◌, true, false, List, [], length, get_or, Some, refl, ◌∙◌, ◌⊎◌, inl, inr, arith}
use Rattle.std.specs.Prelude.{slice_get}
use Rattle.std.specs.Ordering.{MatchOrdering}
use Rattle.std.specs.declared.cmp.Ordering.{Ordering}
use Rattle.std.specs.declared.cmp.Ordering.TheVariants.{Less, Equal, Greater}
use Rattle.tree_pool.specs.declared.node.Node.{Node}
use Rattle.tree_pool.specs.Path.{IsEarlier}
use Rattle.tree_pool.specs.Order.{order}
use Rattle.tree_pool.specs.Rows.{Row, Waiting, IsMap}
use Rattle.tree_pool.specs.Nodes.{standing_of, is_waiting, row_of, rows_of, IsFirstBelow}
use Rattle.tree_pool.specs.Calls.{NodesPass}
use Rattle.tree_pool.proofs.RowChanges.{differs}
use Rattle.tree_pool.proofs.Paths.{says, earlier_trans}
use Rattle.tree_pool.proofs.NodeList.{row_here, row_back}
use Rattle.tree_pool.proofs.NextBoxes.{node_at}
use Rattle.tree_pool.proofs.PoolKeeps.{waits_so, not_waits}

last : (m i : ℕ) → m < i + 1 → (m < i) ⊎ (m ≡ i)
last m i lt = elim (differs m i) [ inl e ↦ inr e | inr ne ↦ inl (omega arith) ]

pub pass_more : (ns : List Node) (from i : ℕ) (x : Node) → i < length ns → x ≡ get_or ns i x → is_waiting (standing_of x.standing) ≡ false → NodesPass ns from i → NodesPass ns from (i + 1)
pass_more ns from i x lt is not h m y ge less at =
    elim (last m i less) [
      | inl a ↦ h m y ge a at
      | inr e ↦ (let here = node_at ns i x lt is in let same : y ≡ x = cc in rw same not)
    ]

-- a box that doesn't wait changes nothing
stays : (rows : List Row) (i n : ℕ) (r : Row) → slice_get rows i ≡ Some r → r.standing ≢ Waiting → IsFirstBelow rows i n → IsFirstBelow rows (i + 1) n
stays rows i n r here ne h =
    record {
      row = h.row;
      here = h.here;
      waits = h.waits;
      first = λ m q lt at waits other.
          elim (last m i lt) [ inl a ↦ h.first m q a at waits other | inr e ↦ absurd (ne (let s : q ≡ r = cc in cc)) ];
    }

-- an earlier one takes its place
moves : (rows : List Row) (i n : ℕ) (r o : Row) → slice_get rows i ≡ Some r → r.standing ≡ Waiting → slice_get rows n ≡ Some o → IsEarlier r.path o.path → IsFirstBelow rows i n → IsFirstBelow rows (i + 1) i
moves rows i n r o here waits there less h =
    record {
      row = r;
      here = here;
      waits = waits;
      first = λ m q lt at w other.
          elim (last m i lt) [
            | inl a ↦ elim (differs m n) [
              | inl e ↦ (let s : q ≡ o = cc in rw s less)
              | inr ne ↦ earlier_trans r.path o.path q.path less (let s : h.row ≡ o = (let k = h.here in cc) in rw s at (h.first m q a at w ne))
            ]
            | inr e ↦ absurd (other e)
          ];
    }

-- a later one leaves it
keeps : (rows : List Row) (i n : ℕ) (r o : Row) → IsMap rows → slice_get rows i ≡ Some r → slice_get rows n ≡ Some o → (c : Ordering) → MatchOrdering c (IsEarlier r.path o.path) (r.path ≡ o.path) (IsEarlier o.path r.path) → c ≢ Less
    → IsFirstBelow rows i n → IsFirstBelow rows (i + 1) n
keeps rows i n r o map here there Less says ne h = absurd (ne refl)
keeps rows i n r o map here there Equal says ne h =
    record {
      row = h.row;
      here = h.here;
      waits = h.waits;
      first = λ m q lt at w other.
          elim (last m i lt) [ inl a ↦ h.first m q a at w other | inr e ↦ absurd (other (e ∙ map.distinct i n r o here there says)) ];
    }
keeps rows i n r o map here there Greater says ne h =
    let s : h.row ≡ o = (let k = h.here in cc) in
    record {
      row = h.row;
      here = h.here;
      waits = h.waits;
      first = λ m q lt at w other.
          elim (last m i lt) [ inl a ↦ h.first m q a at w other | inr e ↦ (let t : q ≡ r = cc in rw (s, t) says) ];
    }

module _ (ps : List (List ℕ)) (ns : List Node) (sized : length ps ≡ length ns) (map : IsMap (rows_of ps ns)) where
  pub better_stays : (i n : ℕ) (x : Node) → i < length ns → x ≡ get_or ns i x → is_waiting (standing_of x.standing) ≡ false → IsFirstBelow (rows_of ps ns) i n → IsFirstBelow (rows_of ps ns) (i + 1) n
  better_stays i n x lt is not h = stays (rows_of ps ns) i n (row_of (get_or ps i []) x) (row_here ps ns i x sized lt is) (not_waits (standing_of x.standing) not) h

  there_path : (n i : ℕ) (h : IsFirstBelow (rows_of ps ns) i n) → h.row.path ≡ get_or ps n []
  there_path n i h = let z = row_back ps ns n h.row h.here in let e = z.2 in rw e refl

  pub better_moves : (i n : ℕ) (x : Node) → i < length ns → x ≡ get_or ns i x → is_waiting (standing_of x.standing) ≡ true → order (get_or ps i []) (get_or ps n []) ≡ Less → IsFirstBelow (rows_of ps ns) i n → IsFirstBelow (rows_of ps ns) (i + 1) i
  better_moves i n x lt is waits less h =
      let e = there_path n i h in
      moves (rows_of ps ns) i n (row_of (get_or ps i []) x) h.row (row_here ps ns i x sized lt is) (waits_so (standing_of x.standing) waits) h.here
      (rw e (rw less at (says (get_or ps i []) (get_or ps n [])))) h

  pub better_keeps : (i n : ℕ) (x : Node) → i < length ns → x ≡ get_or ns i x → order (get_or ps i []) (get_or ps n []) ≢ Less → IsFirstBelow (rows_of ps ns) i n → IsFirstBelow (rows_of ps ns) (i + 1) n
  better_keeps i n x lt is ne h =
      let e = there_path n i h in
      keeps (rows_of ps ns) i n (row_of (get_or ps i []) x) h.row map (row_here ps ns i x sized lt is) h.here (order (get_or ps i []) (get_or ps n [])) (rw e (says (get_or ps i []) (get_or ps n []))) ne h
