-- The conditions of steps and closings by the balance of nodes. Ends and values count units of 1/K.
use Rattle.std.specs.Prelude.{ℕ, ◌==◌, ◌+◌, nat_lt, ℤ, pos, ◌+ℤ◌, ◌-ℤ◌, ◌*ℤ◌, List, [], ◌∷◌, length, slice_get, Bool, true, false, not, ◌&&◌, ◌||◌, int_le, int_lt, if◌then◌else◌}
use Rattle.std.specs.List.{list_all, list_any}
use Rattle.std.specs.Option.{option_map_or}
use Rattle.gas_model.specs.declared.rows.NodeRow.{NodeRow}
use Rattle.gas_model.specs.declared.rows.ArcRow.{ArcRow}
use Rattle.gas_model.specs.Points.{sum_out, sum_in, sum_other_out, sum_other_in}
use Rattle.tree_cert.specs.Spelling.{ascends_after}

-- The lower (`low`) or the upper end of the flow of the arc a, which leaves the node n, may become C. Of the arc i the
-- ends are ql i and qh i.
abbrev pub leaving_step : NodeRow → ℤ → (ql qh : ℕ → ℤ) → ℕ → List ArcRow → ℕ → (low : Bool) → (C : ℤ) → Bool
leaving_step node K ql qh n arcs a true C = int_le C (K *ℤ node.b_min -ℤ sum_other_out a qh n arcs +ℤ sum_in ql n arcs)
leaving_step node K ql qh n arcs a false C = int_le (K *ℤ node.b_max -ℤ sum_other_out a ql n arcs +ℤ sum_in qh n arcs) C

-- the same of an arc that enters the node
abbrev pub entering_step : NodeRow → ℤ → (ql qh : ℕ → ℤ) → ℕ → List ArcRow → ℕ → (low : Bool) → (C : ℤ) → Bool
entering_step node K ql qh n arcs a true C = int_le C (sum_out ql n arcs -ℤ sum_other_in a qh n arcs -ℤ K *ℤ node.b_max)
entering_step node K ql qh n arcs a false C = int_le (sum_out qh n arcs -ℤ sum_other_in a ql n arcs -ℤ K *ℤ node.b_min) C

-- No flows between the ends balance the node n: even the least flows take away more than it can bring in, or even the
-- greatest take away less.
abbrev pub takes_too_much : NodeRow → ℤ → (ql qh : ℕ → ℤ) → ℕ → List ArcRow → Bool
takes_too_much node K ql qh n arcs = int_lt (K *ℤ node.b_max) (sum_out ql n arcs -ℤ sum_in qh n arcs)

abbrev pub takes_too_little : NodeRow → ℤ → (ql qh : ℕ → ℤ) → ℕ → List ArcRow → Bool
takes_too_little node K ql qh n arcs = int_lt (sum_out qh n arcs -ℤ sum_in ql n arcs) (K *ℤ node.b_min)

abbrev pub balance_closing : NodeRow → ℤ → (ql qh : ℕ → ℤ) → ℕ → List ArcRow → Bool
balance_closing node K ql qh n arcs = takes_too_much node K ql qh n arcs || takes_too_little node K ql qh n arcs

-- at least one node of the problem, strictly ascending
abbrev pub are_cut_nodes : List NodeRow → List ℕ → Bool
are_cut_nodes nodes [] = false
are_cut_nodes nodes (n ∷ ns) = ascends_after n ns && list_all (λ m. nat_lt m (length nodes)) (n ∷ ns)

abbrev pub is_cut_node : List ℕ → ℕ → Bool
is_cut_node ns n = list_any (λ m. m == n) ns

-- exactly one end of the arc is among these nodes
abbrev pub crosses : List ℕ → ArcRow → Bool
crosses ns row = if is_cut_node ns row.from then not (is_cut_node ns row.to) else is_cut_node ns row.to

-- the test holds of each row, which are numbered from i
abbrev pub all_arcs : (ℕ → ArcRow → Bool) → ℕ → List ArcRow → Bool
all_arcs test i [] = true
all_arcs test i (row ∷ rows) = test i row && all_arcs test (i + 1) rows

-- the sum of f over the nodes of a list
abbrev pub sum_nodes : (ℕ → ℤ) → List ℕ → ℤ
sum_nodes f [] = pos 0
sum_nodes f (n ∷ ns) = f n +ℤ sum_nodes f ns

-- the least and the greatest supply of a node
abbrev pub least_supply : List NodeRow → ℕ → ℤ
least_supply nodes n = option_map_or (λ node. node.b_min) (slice_get nodes n) (pos 0)

abbrev pub greatest_supply : List NodeRow → ℕ → ℤ
greatest_supply nodes n = option_map_or (λ node. node.b_max) (slice_get nodes n) (pos 0)

-- The nodes can't balance together without other arcs: they bring in something at least, or want something at least.
abbrev pub brings_too_much : List NodeRow → List ℕ → Bool
brings_too_much nodes ns = int_lt (pos 0) (sum_nodes (least_supply nodes) ns)

abbrev pub brings_too_little : List NodeRow → List ℕ → Bool
brings_too_little nodes ns = int_lt (sum_nodes (greatest_supply nodes) ns) (pos 0)

abbrev pub is_unbalanced : List NodeRow → List ℕ → Bool
is_unbalanced nodes ns = brings_too_much nodes ns || brings_too_little nodes ns
