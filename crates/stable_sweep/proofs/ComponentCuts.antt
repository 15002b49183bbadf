-- A component is a cut exactly where its supply is unbalanced.
use Rattle.std.proofs.Common.{◌≡◌, ℕ, suc, ◌+◌, ◌<◌, ◌==◌, refl, sym, ap, ◌∙◌, subst, inl, inr, arith, ℤ, pos, Bool, true, false, cond, not, ◌&&◌, IsTrue, List, [], ◌∷◌, length, get_or, Option, Some, None, eq-eqb, eqb-true, add-zero, zero-add}
use Rattle.std.specs.Prelude.{◌||◌, nat_lt, int_lt, slice_get, option_and_then}
use Rattle.std.specs.List.{list_all}
use Rattle.std.proofs.lemmas.Bool.{cases_Bool, false≢true, and_parts, and_from}
use Rattle.std.proofs.lemmas.Option.{slice_get_within, get_or_from_slice_get}
use borrow.Author.Tests.{lt-ltb}
use Rattle.gas_model.specs.declared.rows.ArcRow.{ArcRow}
use Rattle.gas_model.specs.declared.rows.NodeRow.{NodeRow}
use Rattle.gas_model.specs.declared.rows.PartState.{PartState}
use Rattle.gas_model.specs.Rows.{Network}
use Rattle.gas_model.specs.Choices.{fixed_state}
use Rattle.gas_model.specs.Laws.{is_shut}
use Rattle.gas_model.specs.Within.{IsWithin}
use Rattle.topo.specs.Graphs.{Graph, graph_of, no_arc, Joined, stay, along, IsRoot, Lists}
use Rattle.topo.specs.States.{is_there, fixed_at}
use Rattle.topo.specs.Walks.{those}
use Rattle.topo.specs.Shapes.{Layout, AreRoots, IsShapeOf}
use Rattle.topo.proofs.PassingNumbers.{those_list, any_those}
use Rattle.topo.proofs.Labels.{then_along, back}
use Rattle.topo.proofs.Laid.{one_root, own_root}
use Rattle.topo.proofs.OnlyOne.{one_list}
use Rattle.tree_cert.specs.Spelling.{ascends_after}
use Rattle.tree_rules.specs.NodeRules.{are_cut_nodes, is_cut_node, crosses, all_arcs, sum_nodes, least_supply, greatest_supply}
use Rattle.tree_rules.specs.NodeRules as node_rule
use Rattle.tree_rules.specs.Rules.{cuts}
use Rattle.stable_sweep.specs.declared.cuts.Supply.{Supply}
use Rattle.stable_sweep.specs.Supplies.{no_supply, cannot_balance, IsSupply, AreSupplies, NoneUnbalanced, IsUnbalanced}
use Rattle.stable_sweep.specs.Components.{IsNodeOf, IsComponent, NoneCuts, Cuts}

-- the nodes that have this root
abbrev pub nodes_with : List ℕ → (root count : ℕ) → List ℕ
nodes_with root_of root count = those (λ n. get_or root_of n 0 == root) count

-- ---- roots
root_along : (g : Graph) (keep : ℕ → Bool) (m n r : ℕ) → Joined g keep m n → IsRoot g keep n r → IsRoot g keep m r
root_along g keep m n r j a = record { joined = then_along g keep m n r j a.joined; first = λ x k. a.first x (then_along g keep n m x (back g keep m n j) k) }

same_roots : (g : Graph) (keep : ℕ → Bool) (nodes : ℕ) (root_of : List ℕ) (m n : ℕ) → AreRoots g keep nodes root_of → m < nodes → n < nodes → Joined g keep m n → get_or root_of m 0 ≡ get_or root_of n 0
same_roots g keep nodes root_of m n a h k j = one_root g keep m (get_or root_of m 0) (get_or root_of n 0) (a.each m h) (root_along g keep m n (get_or root_of n 0) j (a.each n k))

-- roots are nodes, no later than their own
pub roots_known : (p : Network) (part : PartState) (s : Layout) → IsShapeOf p part s → length s.root_of ≡ length p.nodes
roots_known p part s h = h.laid_out.root_of.count

pub roots_within : (p : Network) (part : PartState) (s : Layout) → IsShapeOf p part s → (n : ℕ) → n < length p.nodes → get_or s.root_of n 0 < length p.nodes
roots_within p part s h n l = let r = (h.laid_out.root_of.each n l).first n stay in omega (arith, r, l)

-- ---- the nodes of a component
pub nodes_listed : (p : Network) (part : PartState) (root_of : List ℕ) (root : ℕ) → AreRoots (graph_of p.arcs) (is_there p part) (length p.nodes) root_of → Lists (nodes_with root_of root (length p.nodes)) (IsNodeOf p part root)
nodes_listed p part root_of root a =
    those_list (λ n. get_or root_of n 0 == root) (length p.nodes) (IsNodeOf p part root)
    (λ n h t. record { is_node = h; has_root = subst (IsRoot (graph_of p.arcs) (is_there p part) n) (eqb-true (get_or root_of n 0) root t) (a.each n h) })
    (λ n i. (i.is_node, eq-eqb (get_or root_of n 0) root (one_root (graph_of p.arcs) (is_there p part) n (get_or root_of n 0) root (a.each n i.is_node) i.has_root)))

-- ---- what a cut asks of its nodes
ascends : (n : ℕ) (ns : List ℕ) → ((i j : ℕ) → i < j → j < length (n ∷ ns) → get_or (n ∷ ns) i 0 < get_or (n ∷ ns) j 0) → IsTrue (ascends_after n ns)
ascends n [] h = refl
ascends n (m ∷ ns) h =
    and_from (nat_lt n m) (ascends_after m ns) (lt-ltb n m (h 0 1 (omega arith) (omega arith)))
    (ascends m ns (λ i j l k. h (suc i) (suc j) (omega arith) (omega arith)))

all_below : (count : ℕ) (ns : List ℕ) → ((i : ℕ) → i < length ns → get_or ns i 0 < count) → IsTrue (list_all (λ m. nat_lt m count) ns)
all_below count [] h = refl
all_below count (n ∷ ns) h =
    and_from (nat_lt n count) (list_all (λ m. nat_lt m count) ns) (lt-ltb n count (h 0 (omega arith))) (all_below count ns (λ i l. h (suc i) (omega arith)))

cut_nodes : (nodes : List NodeRow) (ns : List ℕ) → ((i j : ℕ) → i < j → j < length ns → get_or ns i 0 < get_or ns j 0) → ((i : ℕ) → i < length ns → get_or ns i 0 < length nodes) → 0 < length ns → IsTrue (are_cut_nodes nodes ns)
cut_nodes nodes [] up within h = absurd (omega arith)
cut_nodes nodes (n ∷ ns) up within h =
    and_from (ascends_after n ns) (list_all (λ m. nat_lt m (length nodes)) (n ∷ ns)) (ascends n ns up) (all_below (length nodes) (n ∷ ns) within)

-- ---- and of its arcs
all_from : (test : ℕ → ArcRow → Bool) (i : ℕ) (rows : List ArcRow) → ((j : ℕ) (row : ArcRow) → slice_get rows j ≡ Some row → IsTrue (test (i + j) row)) → IsTrue (all_arcs test i rows)
all_from test i [] h = refl
all_from test i (row ∷ rows) h =
    and_from (test i row) (all_arcs test (i + 1) rows) (subst (λ (n : ℕ). IsTrue (test n row)) (add-zero i) (h 0 row refl))
    (all_from test (i + 1) rows (λ j r e. subst (λ (n : ℕ). IsTrue (test n r)) (let s : i + suc j ≡ i + 1 + j = omega arith in s) (h (suc j) r e)))

crosses_not : (ns : List ℕ) (row : ArcRow) → is_cut_node ns row.from ≡ is_cut_node ns row.to → crosses ns row ≡ false
crosses_not ns row e = both (is_cut_node ns row.from) (is_cut_node ns row.to) e
  where
    both : (x y : Bool) → x ≡ y → cond x (not y) y ≡ false
    both true true e = refl
    both false false e = refl
    both true false e = absurd (false≢true (sym e))
    both false true e = absurd (false≢true e)

or_right : (a b : Bool) → IsTrue b → IsTrue (a || b)
or_right true b h = refl
or_right false b h = h

arc_passes : (p : Network) (part : PartState) (root_of : List ℕ) (root : ℕ) → AreRoots (graph_of p.arcs) (is_there p part) (length p.nodes) root_of → IsWithin p → (a : ℕ) (row : ArcRow) → slice_get p.arcs a ≡ Some row
    → IsTrue (not (crosses (nodes_with root_of root (length p.nodes)) row) || is_shut (fixed_state p part a row))
arc_passes p part root_of root roots w a row e =
    let g = graph_of p.arcs in
    let q : ℕ → Bool = λ n. get_or root_of n 0 == root in
    let ns = nodes_with root_of root (length p.nodes) in
    let inside : (n : ℕ) → n < length p.nodes → (nat_lt n (length p.nodes) && q n) ≡ q n = λ n h. ap (λ (b : Bool). b && q n) (lt-ltb n (length p.nodes) h) in
    elim (cases_Bool (is_shut (fixed_state p part a row))) [
      | inl t ↦ or_right (not (crosses ns row)) (is_shut (fixed_state p part a row)) t
      | inr f ↦
          let fixed : fixed_at p part a ≡ fixed_state p part a row = ap (option_and_then (fixed_state p part a)) e in
          let there : IsTrue (is_there p part a) = ap not (ap is_shut fixed ∙ f) in
          let own : get_or p.arcs a no_arc ≡ row = get_or_from_slice_get p.arcs a row no_arc e in
          let joined : Joined g (is_there p part) row.from row.to = along stay a (slice_get_within p.arcs a row e) there (inl (ap (λ (r : ArcRow). r.from) own, ap (λ (r : ArcRow). r.to) own)) in
          let same = same_roots g (is_there p part) (length p.nodes) root_of row.from row.to roots (w.from a row e) (w.to a row e) joined in
          let alike : is_cut_node ns row.from ≡ is_cut_node ns row.to =
          any_those q (length p.nodes) row.from ∙ inside row.from (w.from a row e) ∙ ap (λ (n : ℕ). n == root) same ∙ sym (inside row.to (w.to a row e)) ∙ sym (any_those q (length p.nodes) row.to) in
          ap (λ (b : Bool). not b || is_shut (fixed_state p part a row)) (crosses_not ns row alike)
    ]

-- ---- the sums at a root are those of its component
sums_alike : (p : Network) (root_of : List ℕ) (root : ℕ) (s : Supply) → IsSupply p.nodes root_of root (length p.nodes) s → cannot_balance s ≡ node_rule.is_unbalanced p.nodes (nodes_with root_of root (length p.nodes))
sums_alike p root_of root s i =
    ap (λ (z : ℤ). int_lt (pos 0) z || int_lt s.greatest (pos 0)) i.least
    ∙ ap (λ (z : ℤ). int_lt (pos 0) (sum_nodes (least_supply p.nodes) (nodes_with root_of root (length p.nodes))) || int_lt z (pos 0)) i.greatest

-- nodes that can't balance are at least one
some_node : (nodes : List NodeRow) (ns : List ℕ) → node_rule.is_unbalanced nodes ns ≡ true → 0 < length ns
some_node nodes [] h = absurd (false≢true h)
some_node nodes (n ∷ ns) h = omega arith

-- a component whose sums balance is no cut
no_cut : (p : Network) (part : PartState) (s : Layout) (all : List Supply) (root : ℕ) (ns : List ℕ) → IsShapeOf p part s → AreSupplies p.nodes s.root_of (length p.nodes) all → IsComponent p part root ns → cannot_balance (get_or all root no_supply) ≡ false → IsTrue (cuts p part ns) → ⊥
no_cut p part s all root ns shape sums c balances h =
    let roots = shape.laid_out.root_of in
    let mine = nodes_with s.root_of root (length p.nodes) in
    let same : ns ≡ mine = one_list ns mine (IsNodeOf p part root) c.nodes (nodes_listed p part s.root_of root roots) in
    let balanced : node_rule.is_unbalanced p.nodes mine ≡ false = sym (sums_alike p s.root_of root (get_or all root no_supply) (sums.each root c.own.is_node)) ∙ balances in
    let parts = and_parts (are_cut_nodes p.nodes ns && all_arcs (λ a row. not (crosses ns row) || is_shut (fixed_state p part a row)) 0 p.arcs) (node_rule.is_unbalanced p.nodes ns) h in
    false≢true (sym balanced ∙ ap (node_rule.is_unbalanced p.nodes) (sym same) ∙ parts.1)

pub is_cut : (p : Network) (part : PartState) (s : Layout) (all : List Supply) (root : ℕ) (ns : List ℕ) → IsWithin p → IsShapeOf p part s → AreSupplies p.nodes s.root_of (length p.nodes) all → IsUnbalanced all root → ns ≡ nodes_with s.root_of root (length p.nodes) → Cuts p part ns
is_cut p part s all root ns w shape sums u e =
    let roots = shape.laid_out.root_of in
    let mine = nodes_with s.root_of root (length p.nodes) in
    let below : root < length p.nodes = let h = u.within in let c = sums.count in omega arith in
    let bad : node_rule.is_unbalanced p.nodes mine ≡ true = sym (sums_alike p s.root_of root (get_or all root no_supply) (sums.each root below)) ∙ u.is in
    let listed = nodes_listed p part s.root_of root roots in
    let some = some_node p.nodes mine bad in
    let first = listed.sound 0 some in
    let cut_ok : IsTrue (are_cut_nodes p.nodes mine) = cut_nodes p.nodes mine listed.ascending (λ i h. (listed.sound i h).is_node) some in
    let arcs_ok : IsTrue (all_arcs (λ a row. not (crosses mine row) || is_shut (fixed_state p part a row)) 0 p.arcs) =
    all_from (λ a row. not (crosses mine row) || is_shut (fixed_state p part a row)) 0 p.arcs
    (λ j row h. subst (λ (a : ℕ). IsTrue (not (crosses mine row) || is_shut (fixed_state p part a row))) (sym (zero-add j)) (arc_passes p part s.root_of root roots w j row h)) in
    let whole : IsTrue (cuts p part mine) =
    and_from (are_cut_nodes p.nodes mine && all_arcs (λ a row. not (crosses mine row) || is_shut (fixed_state p part a row)) 0 p.arcs) (node_rule.is_unbalanced p.nodes mine)
    (and_from (are_cut_nodes p.nodes mine) (all_arcs (λ a row. not (crosses mine row) || is_shut (fixed_state p part a row)) 0 p.arcs) cut_ok arcs_ok) bad in
    subst (Cuts p part) (sym e) (record {
      root = root;
      component = record { own = record { is_node = below; has_root = own_root (graph_of p.arcs) (is_there p part) (get_or mine 0 0) root first.has_root }; nodes = listed };
      first = λ earlier ms e c. no_cut p part s all earlier ms shape sums c (u.first earlier e);
      cuts = whole;
    })

pub none_cuts : (p : Network) (part : PartState) (s : Layout) (all : List Supply) → IsShapeOf p part s → AreSupplies p.nodes s.root_of (length p.nodes) all → NoneUnbalanced all → NoneCuts p part
none_cuts p part s all shape sums none = record {
  none = λ root ns c h. no_cut p part s all root ns shape sums c (none.none root (let b = c.own.is_node in let k = sums.count in omega arith)) h;
}
