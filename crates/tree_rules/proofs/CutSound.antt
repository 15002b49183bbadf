-- A cut that holds leaves no point: the flows of a set of nodes that shut arcs cut off sum to nothing.
use Rattle.std.proofs.Common.{◌≡◌, ℕ, zero, suc, ◌+◌, ◌<◌, ◌≤◌, inl, inr, refl, sym, ap, ◌∙◌, subst, arith, ℤ, pos, ◌+ℤ◌, ◌-ℤ◌, ◌*ℤ◌, ◌≤ℤ◌, ◌<ℤ◌, Bool, true, false, cond, ◌||◌, not, nat_lt, ◌==◌, int_lt, IsTrue, List, [], ◌∷◌, length, slice_get, Some, add-zero, zero-add}
use Rattle.std.specs.List.{list_all}
use Rattle.std.specs.Option.{option_map_or}
use Rattle.std.proofs.lemmas.Bool.Decides.{nat_tests}
use Rattle.std.proofs.lemmas.Bool.{and_parts}
use Rattle.integer_laws.proofs.Ring.{linear, mul_add, mul_zero, mul_lt_left}
use Rattle.gas_model.specs.declared.rows.ArcRow.{ArcRow}
use Rattle.gas_model.specs.declared.rows.NodeRow.{NodeRow}
use Rattle.gas_model.specs.Points.{sum_arcs, leaving, entering, sum_out, sum_in, net_flow, balances}
use Rattle.tree_cert.specs.Spelling.{ascends_after}
use Rattle.tree_rules.specs.NodeRules.{are_cut_nodes, is_cut_node, crosses, all_arcs, sum_nodes, least_supply, greatest_supply, is_unbalanced}
use Rattle.tree_rules.proofs.UnitSound.{either}
use Rattle.tree_rules.proofs.NodeSound.{balance_says}

-- ---- tests of lists
-- what a test of all rows says of one
pub each_arc : (test : ℕ → ArcRow → Bool) (i : ℕ) (rows : List ArcRow) → IsTrue (all_arcs test i rows) → (j : ℕ) (row : ArcRow) → slice_get rows j ≡ Some row → IsTrue (test (i + j) row)
each_arc test i [] h j row e = absurd cc
each_arc test i (first ∷ rows) h zero row e =
    let same : first ≡ row = cc in
    rw (← same, add-zero i) (and_parts (test i first) (all_arcs test (i + 1) rows) h).0
each_arc test i (first ∷ rows) h (suc j) row e =
    subst (λ (n : ℕ). IsTrue (test n row)) (let s : i + 1 + j ≡ i + suc j = omega arith in s) (each_arc test (i + 1) rows (and_parts (test i first) (all_arcs test (i + 1) rows) h).1 j row e)

pub get_some : {X : Type 0} (xs : List X) (i : ℕ) → i < length xs → (x : X) × (slice_get xs i ≡ Some x)
get_some [] i h = absurd (omega arith)
get_some (x ∷ xs) zero h = (x, refl)
get_some (x ∷ xs) (suc i) h = get_some xs i (omega arith)

-- ---- sums of rows
sum_none : (i : ℕ) (rows : List ArcRow) → sum_arcs (λ j row. pos 0) i rows ≡ pos 0
sum_none i [] = refl
sum_none i (row ∷ rows) = omega (arith, linear, sum_none (i + 1) rows)

sum_both : (f g : ℕ → ArcRow → ℤ) (i : ℕ) (rows : List ArcRow) → sum_arcs f i rows +ℤ sum_arcs g i rows ≡ sum_arcs (λ j row. f j row +ℤ g j row) i rows
sum_both f g i [] = refl
sum_both f g i (row ∷ rows) = omega (arith, linear, sum_both f g (i + 1) rows)

-- the sum over nodes of sums over rows, the other way round
sum_turned : (f : ℕ → ℕ → ArcRow → ℤ) (i : ℕ) (rows : List ArcRow) (ns : List ℕ) → sum_nodes (λ n. sum_arcs (f n) i rows) ns ≡ sum_arcs (λ j row. sum_nodes (λ n. f n j row) ns) i rows
sum_turned f i rows [] = sym (sum_none i rows)
sum_turned f i rows (n ∷ ns) =
    ap (λ (z : ℤ). sum_arcs (f n) i rows +ℤ z) (sum_turned f i rows ns) ∙ sum_both (f n) (λ j row. sum_nodes (λ m. f m j row) ns) i rows

-- rows with equal terms have equal sums
pub record Same (f g : ℕ → ArcRow → ℤ) (i : ℕ) (rows : List ArcRow) : Type 0 where
  pub at : (j : ℕ) (row : ArcRow) → slice_get rows j ≡ Some row → f (i + j) row ≡ g (i + j) row

same_rest : (f g : ℕ → ArcRow → ℤ) (i : ℕ) (row : ArcRow) (rows : List ArcRow) → Same f g i (row ∷ rows) → Same f g (i + 1) rows
same_rest f g i row rows h = record { at = λ j r e. subst (λ (n : ℕ). f n r ≡ g n r) (let s : i + suc j ≡ i + 1 + j = omega arith in s) (h.at (suc j) r e) }

sum_same : (f g : ℕ → ArcRow → ℤ) (i : ℕ) (rows : List ArcRow) → Same f g i rows → sum_arcs f i rows ≡ sum_arcs g i rows
sum_same f g i [] h = refl
sum_same f g i (row ∷ rows) h =
    let here : f i row ≡ g i row = subst (λ (n : ℕ). f n row ≡ g n row) (add-zero i) (h.at 0 row refl) in
    omega (arith, linear, here, sum_same f g (i + 1) rows (same_rest f g i row rows h))

-- ---- sums of nodes
sum_nodes_apart : (f g : ℕ → ℤ) (ns : List ℕ) → sum_nodes (λ n. f n -ℤ g n) ns ≡ sum_nodes f ns -ℤ sum_nodes g ns
sum_nodes_apart f g [] = refl
sum_nodes_apart f g (n ∷ ns) = omega (arith, linear, sum_nodes_apart f g ns)

-- k f is at most g at each node
sum_nodes_below : (k : ℤ) (f g : ℕ → ℤ) (test : ℕ → Bool) (ns : List ℕ) → ((n : ℕ) → IsTrue (test n) → (k *ℤ f n) ≤ℤ g n) → IsTrue (list_all test ns) → (k *ℤ sum_nodes f ns) ≤ℤ sum_nodes g ns
sum_nodes_below k f g test [] h t = omega (arith, linear, mul_zero k)
sum_nodes_below k f g test (n ∷ ns) h t =
    let b = and_parts (test n) (list_all test ns) t in
    omega (arith, linear, mul_add k (f n) (sum_nodes f ns), h n b.0, sum_nodes_below k f g test ns h b.1)

sum_nodes_above : (k : ℤ) (f g : ℕ → ℤ) (test : ℕ → Bool) (ns : List ℕ) → ((n : ℕ) → IsTrue (test n) → g n ≤ℤ (k *ℤ f n)) → IsTrue (list_all test ns) → sum_nodes g ns ≤ℤ (k *ℤ sum_nodes f ns)
sum_nodes_above k f g test [] h t = omega (arith, linear, mul_zero k)
sum_nodes_above k f g test (n ∷ ns) h t =
    let b = and_parts (test n) (list_all test ns) t in
    omega (arith, linear, mul_add k (f n) (sum_nodes f ns), h n b.0, sum_nodes_above k f g test ns h b.1)

-- ---- an arc counts once at most
-- no node that comes before those of an ascending list is among them
before_all : (n k : ℕ) (ns : List ℕ) → k ≤ n → IsTrue (ascends_after n ns) → is_cut_node ns k ≡ false
before_all n k [] l h = refl
before_all n k (m ∷ ns) l h =
    let b = and_parts (nat_lt n m) (ascends_after m ns) h in
    let less : n < m = grind (arith, nat_tests, b.0) in
    let here : (m == k) ≡ false = grind (arith, nat_tests) in
    ap (λ (t : Bool). t || is_cut_node ns k) here ∙ before_all m k ns (omega arith) b.1

by_test : (z : ℤ) (a c : Bool) (rest : ℤ) (later : Bool) → a ≡ c → (IsTrue c → later ≡ false) → rest ≡ cond later z (pos 0) → cond a z (pos 0) +ℤ rest ≡ cond (c || later) z (pos 0)
by_test z true true rest later e none r = let f : rest ≡ pos 0 = r ∙ ap (λ (t : Bool). cond t z (pos 0)) (none refl) in omega (arith, linear, f)
by_test z false false rest later e none r = omega (arith, linear, r)
by_test z true false rest later e none r = absurd cc
by_test z false true rest later e none r = absurd cc

counted_more : (z : ℤ) (k m : ℕ) (ns : List ℕ) → IsTrue (ascends_after m ns) → sum_nodes (λ i. cond (k == i) z (pos 0)) ns ≡ cond (is_cut_node ns k) z (pos 0) → sum_nodes (λ i. cond (k == i) z (pos 0)) (m ∷ ns) ≡ cond (is_cut_node (m ∷ ns) k) z (pos 0)
counted_more z k m ns h rest =
    by_test z (k == m) (m == k) (sum_nodes (λ i. cond (k == i) z (pos 0)) ns) (is_cut_node ns k) (grind (arith, nat_tests))
    (λ t. before_all m k ns (let l : k ≤ m = grind (arith, nat_tests) in l) h) rest

-- of nodes that ascend at most one is k
counted : (z : ℤ) (k n : ℕ) (ns : List ℕ) → IsTrue (ascends_after n ns) → sum_nodes (λ i. cond (k == i) z (pos 0)) ns ≡ cond (is_cut_node ns k) z (pos 0)
counted z k n [] h = refl
counted z k n (m ∷ ns) h =
    let b = and_parts (nat_lt n m) (ascends_after m ns) h in
    counted_more z k m ns b.1 (counted z k m ns b.1)

counted_all : (nodes : List NodeRow) (z : ℤ) (k : ℕ) (ns : List ℕ) → IsTrue (are_cut_nodes nodes ns) → sum_nodes (λ i. cond (k == i) z (pos 0)) ns ≡ cond (is_cut_node ns k) z (pos 0)
counted_all nodes z k [] h = refl
counted_all nodes z k (n ∷ ns) h =
    let b = and_parts (ascends_after n ns) (list_all (λ m. nat_lt m (length nodes)) (n ∷ ns)) h in
    counted_more z k n ns b.0 (counted z k n ns b.0)

-- the arcs that aren't shut have both ends among the nodes, or none
pub record IsCutOff (x : ℕ → ℤ) (ns : List ℕ) (arcs : List ArcRow) : Type 0 where
  pub still : (a : ℕ) (row : ArcRow) → slice_get arcs a ≡ Some row → IsTrue (crosses ns row) → x a ≡ pos 0

same_ends : (z : ℤ) (f t : Bool) → (IsTrue (cond f (not t) t) → z ≡ pos 0) → cond f z (pos 0) ≡ cond t z (pos 0)
same_ends z true true h = refl
same_ends z false false h = refl
same_ends z true false h = h refl
same_ends z false true h = sym (h refl)

-- an arc brings as much out of the nodes as into them
through : (nodes : List NodeRow) (x : ℕ → ℤ) (ns : List ℕ) (arcs : List ArcRow) → IsTrue (are_cut_nodes nodes ns) → IsCutOff x ns arcs → (a : ℕ) (row : ArcRow) → slice_get arcs a ≡ Some row
    → sum_nodes (λ n. leaving x n a row) ns ≡ sum_nodes (λ n. entering x n a row) ns
through nodes x ns arcs c off a row e =
    counted_all nodes (x a) row.from ns c ∙ same_ends (x a) (is_cut_node ns row.from) (is_cut_node ns row.to) (off.still a row e) ∙ sym (counted_all nodes (x a) row.to ns c)

-- what leaves the nodes is what enters them
no_net : (nodes : List NodeRow) (x : ℕ → ℤ) (ns : List ℕ) (arcs : List ArcRow) → IsTrue (are_cut_nodes nodes ns) → IsCutOff x ns arcs → sum_nodes (λ n. net_flow x n arcs) ns ≡ pos 0
no_net nodes x ns arcs c off =
    let apart = sum_nodes_apart (λ n. sum_out x n arcs) (λ n. sum_in x n arcs) ns in
    let outs = sum_turned (leaving x) 0 arcs ns in
    let ins = sum_turned (entering x) 0 arcs ns in
    let same = sum_same (λ j row. sum_nodes (λ n. leaving x n j row) ns) (λ j row. sum_nodes (λ n. entering x n j row) ns) 0 arcs
    (record { at = λ j row e. subst (λ (i : ℕ). sum_nodes (λ n. leaving x n i row) ns ≡ sum_nodes (λ n. entering x n i row) ns) (sym (zero-add j)) (through nodes x ns arcs c off j row e) }) in
    omega (arith, linear, apart, outs, ins, same)

-- ---- the supplies
within_list : (nodes : List NodeRow) (ns : List ℕ) → IsTrue (are_cut_nodes nodes ns) → IsTrue (list_all (λ m. nat_lt m (length nodes)) ns)
within_list nodes [] h = refl
within_list nodes (n ∷ ns) h = (and_parts (ascends_after n ns) (list_all (λ m. nat_lt m (length nodes)) (n ∷ ns)) h).1

supply_says : (nodes : List NodeRow) (d : ℤ) (x : ℕ → ℤ) (arcs : List ArcRow) → ((n : ℕ) (node : NodeRow) → slice_get nodes n ≡ Some node → IsTrue (balances node d x n arcs)) → (n : ℕ) → IsTrue (nat_lt n (length nodes))
    → ((d *ℤ least_supply nodes n) ≤ℤ net_flow x n arcs) × (net_flow x n arcs ≤ℤ (d *ℤ greatest_supply nodes n))
supply_says nodes d x arcs h n t =
    let found = get_some nodes n (let l : n < length nodes = grind (arith, nat_tests) in l) in
    let s = balance_says found.0 d x n arcs (h n found.0 found.1) in
    let least : least_supply nodes n ≡ found.0.b_min = ap (λ o. option_map_or (λ node. node.b_min) o (pos 0)) found.1 in
    let greatest : greatest_supply nodes n ≡ found.0.b_max = ap (λ o. option_map_or (λ node. node.b_max) o (pos 0)) found.1 in
    (rw least s.0, rw greatest s.1)

pub cut_closed : (nodes : List NodeRow) (d : ℤ) (x : ℕ → ℤ) (arcs : List ArcRow) (ns : List ℕ) → pos 0 <ℤ d → ((n : ℕ) (node : NodeRow) → slice_get nodes n ≡ Some node → IsTrue (balances node d x n arcs)) → IsCutOff x ns arcs → IsTrue (are_cut_nodes nodes ns) → IsTrue (is_unbalanced nodes ns) → ⊥
cut_closed nodes d x arcs ns p h off c t =
    let within = within_list nodes ns c in
    let net = no_net nodes x ns arcs c off in
    let least = sum_nodes_below d (least_supply nodes) (λ n. net_flow x n arcs) (λ m. nat_lt m (length nodes)) ns (λ n l. (supply_says nodes d x arcs h n l).0) within in
    let greatest = sum_nodes_above d (greatest_supply nodes) (λ n. net_flow x n arcs) (λ m. nat_lt m (length nodes)) ns (λ n l. (supply_says nodes d x arcs h n l).1) within in
    elim (either (int_lt (pos 0) (sum_nodes (least_supply nodes) ns)) (int_lt (sum_nodes (greatest_supply nodes) ns) (pos 0)) t) [
      | inl much ↦ omega (arith, linear, net, least, mul_zero d, mul_lt_left d (pos 0) (sum_nodes (least_supply nodes) ns) p (omega (arith, linear, much)))
      | inr little ↦ omega (arith, linear, net, greatest, mul_zero d, mul_lt_left d (sum_nodes (greatest_supply nodes) ns) (pos 0) p (omega (arith, linear, little)))
    ]
