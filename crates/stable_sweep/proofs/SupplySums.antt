-- Sums of supplies by root, one node after the other.
use Rattle.std.proofs.Common.{◌≡◌, ◌≢◌, ℕ, zero, suc, ◌+◌, ◌*◌, ◌^◌, ◌<◌, ◌≤◌, ◌==◌, refl, sym, ap, ◌∙◌, subst, inl, inr, arith, lit≤, ℤ, pos, ◌+ℤ◌, ◌≤ℤ◌, neg_ℤ, w64, List, [], ◌∷◌, ◌++◌, length, get_or, add-one, Bool, true, false, cond, IsTrue, FitsSigned, Some, eq-eqb, ne_eqb, get_or-set_same}
use Rattle.std.specs.Prelude.{slice_get}
use Rattle.std.specs.Option.{option_map_or}
use Rattle.std.proofs.Math.ListN.{set}
use Rattle.std.proofs.lemmas.Bool.{cases_eq}
use Rattle.std.proofs.lemmas.Option.{slice_get_read, get_or_from_slice_get}
use Rattle.std.proofs.lemmas.List.{length-set, get_or-set_other}
use borrow.Author.Differences.{fits_in}
use Rattle.integer_laws.specs.Sizes.{IsWithin}
use Rattle.integer_laws.proofs.Ring.{linear}
use Rattle.integer_laws.proofs.SizeLemmas.{within_parts, one_part, sum_within}
use Rattle.gas_model.specs.declared.rows.NodeRow.{NodeRow}
use Rattle.gas_model.specs.Rows.{Network}
use Rattle.gas_model.specs.Within.{IsWithin as IsLimited}
use Rattle.gas_model.specs.Limits.{is_node_within}
use Rattle.gas_model.proofs.LimitFacts.{flow_size, node_supplies}
use Rattle.topo.specs.Walks.{those}
use Rattle.tree_rules.specs.NodeRules.{sum_nodes, least_supply, greatest_supply}
use Rattle.tree_rules.proofs.CutSound.{get_some}
use Rattle.stable_sweep.specs.declared.cuts.Supply.{Supply}
use Rattle.stable_sweep.specs.Supplies.{no_supply, IsSupply, AreSupplies}

sum_append : (f : ℕ → ℤ) (xs ys : List ℕ) → sum_nodes f (xs ++ ys) ≡ sum_nodes f xs +ℤ sum_nodes f ys
sum_append f [] ys = omega (arith, linear)
sum_append f (x ∷ xs) ys = omega (arith, linear, sum_append f xs ys)

sum_yes : (f : ℕ → ℤ) (q : ℕ → Bool) (k : ℕ) → q k ≡ true → sum_nodes f (those q (suc k)) ≡ sum_nodes f (those q k) +ℤ f k
sum_yes f q k t =
    let e : those q (suc k) ≡ those q k ++ k ∷ [] = ap (λ (b : Bool). those q k ++ cond b (k ∷ []) []) t in
    let s = sum_append f (those q k) (k ∷ []) in
    ap (sum_nodes f) e ∙ (omega (arith, linear, s))

sum_no : (f : ℕ → ℤ) (q : ℕ → Bool) (k : ℕ) → q k ≡ false → sum_nodes f (those q (suc k)) ≡ sum_nodes f (those q k)
sum_no f q k t =
    let e : those q (suc k) ≡ those q k ++ [] = ap (λ (b : Bool). those q k ++ cond b (k ∷ []) []) t in
    let s = sum_append f (those q k) [] in
    ap (sum_nodes f) e ∙ (omega (arith, linear, s))

-- ---- sizes
least_within : (nodes : List NodeRow) → ((n : ℕ) (node : NodeRow) → slice_get nodes n ≡ Some node → IsTrue (is_node_within node)) → (n : ℕ) → n < length nodes → IsWithin (10 ^ 12) (least_supply nodes n)
least_within nodes each n h =
    let r = get_some nodes n h in
    let e : least_supply nodes n ≡ r.0.b_min = ap (λ o. option_map_or (λ (node : NodeRow). node.b_min) o (pos 0)) r.1 in
    subst (IsWithin (10 ^ 12)) (sym e) (flow_size r.0.b_min (node_supplies r.0 (each n r.0 r.1)).0)

greatest_within : (nodes : List NodeRow) → ((n : ℕ) (node : NodeRow) → slice_get nodes n ≡ Some node → IsTrue (is_node_within node)) → (n : ℕ) → n < length nodes → IsWithin (10 ^ 12) (greatest_supply nodes n)
greatest_within nodes each n h =
    let r = get_some nodes n h in
    let e : greatest_supply nodes n ≡ r.0.b_max = ap (λ o. option_map_or (λ (node : NodeRow). node.b_max) o (pos 0)) r.1 in
    subst (IsWithin (10 ^ 12)) (sym e) (flow_size r.0.b_max (node_supplies r.0 (each n r.0 r.1)).1)

sum_size : (f : ℕ → ℤ) (q : ℕ → Bool) (k : ℕ) → ((n : ℕ) → n < k → IsWithin (10 ^ 12) (f n)) → IsWithin (k * 10 ^ 12) (sum_nodes f (those q k))
sum_size f q zero h = lit≤ tt
sum_size f q (suc k) h =
    let before = sum_size f q k (λ n l. h n (omega arith)) in
    let both : IsWithin (k * 10 ^ 12 + 10 ^ 12) (sum_nodes f (those q k) +ℤ f k) = sum_within (sum_nodes f (those q k)) (f k) (k * 10 ^ 12) (10 ^ 12) before (h k (omega arith)) in
    let cases : (b : Bool) → q k ≡ b → IsWithin (suc k * 10 ^ 12) (sum_nodes f (those q (suc k))) = λ b. elim b as (λ b. q k ≡ b → IsWithin (suc k * 10 ^ 12) (sum_nodes f (those q (suc k)))) [
      | true ↦ λ t. subst (IsWithin (suc k * 10 ^ 12)) (sym (sum_yes f q k t)) (let r : IsWithin (suc k * 10 ^ 12) (sum_nodes f (those q k) +ℤ f k) = omega (arith, both) in r)
      | false ↦ λ t. subst (IsWithin (suc k * 10 ^ 12)) (sym (sum_no f q k t)) (let r : IsWithin (suc k * 10 ^ 12) (sum_nodes f (those q k)) = omega (arith, before) in r)
    ] in cases (q k) refl

fits_sum : (z : ℤ) → IsWithin (2001 * 10 ^ 12) z → FitsSigned w64 z
fits_sum z h =
    let low : neg_ℤ (pos (2001 * 10 ^ 12)) ≤ℤ z = omega (arith, linear, h, within_parts, one_part z) in
    let high : z ≤ℤ pos (2001 * 10 ^ 12) = omega (arith, linear, h, within_parts, one_part z) in
    fits_in w64 z (omega (arith, linear))

-- the sum with one more node fits
pub record Fits (s : Supply) (node : NodeRow) : Type 0 where
  pub least : FitsSigned w64 (s.least +ℤ node.b_min)
  pub greatest : FitsSigned w64 (s.greatest +ℤ node.b_max)

pub supply_fits : (nodes : List NodeRow) (root_of : List ℕ) (root k : ℕ) (s : Supply) (node : NodeRow) → ((n : ℕ) (node : NodeRow) → slice_get nodes n ≡ Some node → IsTrue (is_node_within node)) → length nodes ≤ 2000 → k < length nodes → slice_get nodes k ≡ Some node → IsSupply nodes root_of root k s → Fits s node
supply_fits nodes root_of root k s node each few h is sup =
    let q : ℕ → Bool = λ n. get_or root_of n 0 == root in
    let own = node_supplies node (each k node is) in
    let least : IsWithin (k * 10 ^ 12) s.least = subst (IsWithin (k * 10 ^ 12)) (sym sup.least) (sum_size (least_supply nodes) q k (λ n l. least_within nodes each n (omega arith))) in
    let greatest : IsWithin (k * 10 ^ 12) s.greatest = subst (IsWithin (k * 10 ^ 12)) (sym sup.greatest) (sum_size (greatest_supply nodes) q k (λ n l. greatest_within nodes each n (omega arith))) in
    record {
      least = fits_sum (s.least +ℤ node.b_min) (let r = sum_within s.least node.b_min (k * 10 ^ 12) (10 ^ 12) least (flow_size node.b_min own.0) in omega (arith, r));
      greatest = fits_sum (s.greatest +ℤ node.b_max) (let r = sum_within s.greatest node.b_max (k * 10 ^ 12) (10 ^ 12) greatest (flow_size node.b_max own.1) in omega (arith, r));
    }

-- ---- one more node
one_more : (nodes : List NodeRow) (root_of : List ℕ) (root k : ℕ) (s t : Supply) (node : NodeRow) → slice_get nodes k ≡ Some node → get_or root_of k 0 ≡ root → IsSupply nodes root_of root k s → t.least ≡ s.least +ℤ node.b_min → t.greatest ≡ s.greatest +ℤ node.b_max → IsSupply nodes root_of root (k + 1) t
one_more nodes root_of root k s t node is here sup l g =
    let q : ℕ → Bool = λ n. get_or root_of n 0 == root in
    let passes : q k ≡ true = eq-eqb (get_or root_of k 0) root here in
    let low : least_supply nodes k ≡ node.b_min = ap (λ o. option_map_or (λ (x : NodeRow). x.b_min) o (pos 0)) is in
    let high : greatest_supply nodes k ≡ node.b_max = ap (λ o. option_map_or (λ (x : NodeRow). x.b_max) o (pos 0)) is in
    subst (λ (m : ℕ). IsSupply nodes root_of root m t) (sym (add-one k)) (record {
      least = let e = sum_yes (least_supply nodes) q k passes in l ∙ ap (λ (z : ℤ). z +ℤ node.b_min) sup.least ∙ ap (λ (z : ℤ). sum_nodes (least_supply nodes) (those q k) +ℤ z) (sym low) ∙ sym e;
      greatest = let e = sum_yes (greatest_supply nodes) q k passes in g ∙ ap (λ (z : ℤ). z +ℤ node.b_max) sup.greatest ∙ ap (λ (z : ℤ). sum_nodes (greatest_supply nodes) (those q k) +ℤ z) (sym high) ∙ sym e;
    })

one_other : (nodes : List NodeRow) (root_of : List ℕ) (root k : ℕ) (s : Supply) → get_or root_of k 0 ≢ root → IsSupply nodes root_of root k s → IsSupply nodes root_of root (k + 1) s
one_other nodes root_of root k s other sup =
    let q : ℕ → Bool = λ n. get_or root_of n 0 == root in
    let fails : q k ≡ false = ne_eqb (get_or root_of k 0) root other in
    subst (λ (m : ℕ). IsSupply nodes root_of root m s) (sym (add-one k)) (record {
      least = sup.least ∙ sym (sum_no (least_supply nodes) q k fails);
      greatest = sup.greatest ∙ sym (sum_no (greatest_supply nodes) q k fails);
    })

pub supplies_more : (nodes : List NodeRow) (root_of : List ℕ) (k root : ℕ) (all : List Supply) (t : Supply) (node : NodeRow) → slice_get nodes k ≡ Some node → get_or root_of k 0 ≡ root → root < length nodes → AreSupplies nodes root_of k all
    → t.least ≡ (get_or all root no_supply).least +ℤ node.b_min → t.greatest ≡ (get_or all root no_supply).greatest +ℤ node.b_max → AreSupplies nodes root_of (k + 1) (set all root t)
supplies_more nodes root_of k root all t node is here within a l g = record {
  count = length-set all root t ∙ a.count;
  each = λ r h. elim (cases_eq r root) [
    | inl e ↦
        let at : get_or (set all root t) r no_supply ≡ t = ap (λ (i : ℕ). get_or (set all root t) i no_supply) e ∙ get_or-set_same all root t no_supply (let c = a.count in omega arith) in
        subst (IsSupply nodes root_of r (k + 1)) (sym at) (subst (λ (i : ℕ). IsSupply nodes root_of i (k + 1) t) (sym e) (one_more nodes root_of root k (get_or all root no_supply) t node is here (a.each root within) l g))
    | inr n ↦
        let at : get_or (set all root t) r no_supply ≡ get_or all r no_supply = get_or-set_other all root r t no_supply n in
        subst (IsSupply nodes root_of r (k + 1)) (sym at) (one_other nodes root_of r k (get_or all r no_supply) (λ e. n (sym e ∙ here)) (a.each r h))
  ];
}

-- ---- as the calls of the loop say it
-- the item that is read at a place
item_is : {X : Type 0} (xs : List X) (i : ℕ) (x d : X) → i < length xs → x ≡ get_or xs i x → get_or xs i d ≡ x
item_is xs i x d h e = get_or_from_slice_get xs i x d (slice_get_read xs (length xs) i x refl h e)

-- one turn of the loop: the row of a node, its root, and the supply that was at it
pub record AtTurn (p : Network) (root_of : List ℕ) (n root : ℕ) (all : List Supply) (node : NodeRow) (s : Supply) : Type 0 where
  pub below : n < length p.nodes
  pub row : slice_get p.nodes n ≡ Some node
  pub root_is : get_or root_of n 0 ≡ root
  pub within : root < length p.nodes
  pub sums : AreSupplies p.nodes root_of n all
  pub supply : get_or all root no_supply ≡ s

pub at_turn : (p : Network) (root_of : List ℕ) (n root : ℕ) (rows : List NodeRow) (all : List Supply) (node : NodeRow) (s : Supply) → rows ≡ p.nodes → n < length rows → node ≡ get_or rows n node → root ≡ get_or root_of n 0 → get_or root_of n 0 < length p.nodes → AreSupplies p.nodes root_of n all → s ≡ get_or all root s → AtTurn p root_of n root all node s
at_turn p root_of n root rows all node s e h r f l a i =
    let within : root < length p.nodes = subst (λ (k : ℕ). k < length p.nodes) (sym f) l in
    record {
      below = subst (λ (xs : List NodeRow). n < length xs) e h;
      row = subst (λ (xs : List NodeRow). slice_get xs n ≡ Some node) e (slice_get_read rows (length rows) n node refl h r);
      root_is = sym f;
      within = within;
      sums = a;
      supply = item_is all root s no_supply (let c = a.count in omega (arith, within, c)) i;
    }

pub turn_fits : (p : Network) (root_of : List ℕ) (n root : ℕ) (all : List Supply) (node : NodeRow) (s : Supply) → IsLimited p → AtTurn p root_of n root all node s → Fits s node
turn_fits p root_of n root all node s w t =
    supply_fits p.nodes root_of root n s node w.nodes w.few_nodes t.below t.row (subst (IsSupply p.nodes root_of root n) t.supply (t.sums.each root t.within))

pub turn_more : (p : Network) (root_of : List ℕ) (n root : ℕ) (all : List Supply) (node : NodeRow) (s t : Supply) → AtTurn p root_of n root all node s → t.least ≡ s.least +ℤ node.b_min → t.greatest ≡ s.greatest +ℤ node.b_max → AreSupplies p.nodes root_of (n + 1) (set all root t)
turn_more p root_of n root all node s t h l g =
    supplies_more p.nodes root_of n root all t node h.row h.root_is h.within h.sums
    (l ∙ ap (λ (x : Supply). x.least +ℤ node.b_min) (sym h.supply)) (g ∙ ap (λ (x : Supply). x.greatest +ℤ node.b_max) (sym h.supply))
