-- The rows of a problem stay those of a problem where a node gets other bounds of its supply.
use Rattle.std.proofs.Common.{◌≡◌, ◌==◌, ◌<◌, ◌&&◌, ℕ, zero, suc, ℤ, Bool, true, false, cond, not, List, [], ◌∷◌, ◌++◌, length, map, get_or, Option, Some, None, Ok, Err, refl, sym, ap, ◌∙◌, arith, subst, leb}
use Rattle.std.specs.Prelude.{slice_set}
use Rattle.std.specs.Option.{option_or}
use Rattle.std.proofs.lemmas.List.{length-set}
use Rattle.base_types.specs.Names.{is_among}
use Rattle.base_types.specs.Numbers.{is_flow}
use Rattle.gas_model.specs.declared.rows.NodeRow.{NodeRow}
use Rattle.gas_model.specs.declared.rows.ModelFault.{ModelFault}
use Rattle.gas_model.specs.declared.rows.Rows.{Rows}
use Rattle.gas_model.specs.declared.rows.Many.TheVariants as many
use Rattle.gas_model.specs.declared.rows.ModelFault.TheVariants as fault
use Rattle.gas_model.specs.Limits.{is_node_within}
use Rattle.gas_model.specs.Within.{IsWithin}
use Rattle.gas_model.specs.Rows.{Network, arc_of, group_of, text_ids, node_id, node_ids, node_fault, nodes_fault, first_offence, count_fault, group_count_fault, arcs_fault, groups_fault, rows_fault, rows_of, network_of, answer, IsProblem}
use Rattle.gas_model.specs.Supplies.{no_node, node_with_supply, with_supply}
use Rattle.gas_model.proofs.Remade.{both_none, passed, not_false, AreClean, clean_rows, made}
use Rattle.gas_model.proofs.Limited.{limited}

-- the node keeps its limits
still_within : (n : NodeRow) (low high : ℤ) → is_flow low ≡ true → is_flow high ≡ true → is_node_within n ≡ true → is_node_within (node_with_supply n low high) ≡ true
still_within n low high l h w = grind arith

-- the node has no offence that it didn't have
node_clean : (earlier : List (List ℕ)) (n : NodeRow) (low high : ℤ) → is_flow low ≡ true → is_flow high ≡ true → node_fault earlier n ≡ None → node_fault earlier (node_with_supply n low high) ≡ None
node_clean earlier n low high l h clean =
    let p = passed (not (is_node_within n)) (fault.OverLimit n.id) _ clean in
    let w = still_within n low high l h (not_false (is_node_within n) p.0) in
    rw (w) p.1

nodes_clean : (earlier : List (List ℕ)) (nodes : List NodeRow) (n : ℕ) (low high : ℤ) → is_flow low ≡ true → is_flow high ≡ true → n < length nodes
    → first_offence node_id node_fault earlier nodes ≡ None → first_offence node_id node_fault earlier (slice_set nodes n (node_with_supply (get_or nodes n no_node) low high)) ≡ None
nodes_clean earlier [] n low high l h lt clean = absurd (omega arith)
nodes_clean earlier (x ∷ xs) zero low high l h lt clean =
    let p = both_none (node_fault earlier x) _ clean in
    ap (λ o. option_or o (first_offence node_id node_fault (earlier ++ x.id ∷ []) xs)) (node_clean earlier x low high l h p.0) ∙ p.1
nodes_clean earlier (x ∷ xs) (suc n) low high l h lt clean =
    let p = both_none (node_fault earlier x) _ clean in
    ap (λ o. option_or o (first_offence node_id node_fault (earlier ++ x.id ∷ []) (slice_set xs n (node_with_supply (get_or xs n no_node) low high)))) p.0
    ∙ nodes_clean (earlier ++ x.id ∷ []) xs n low high l h (omega arith) p.1

-- the ids of the nodes stay
same_ids : (nodes : List NodeRow) (n : ℕ) (low high : ℤ) → node_ids (slice_set nodes n (node_with_supply (get_or nodes n no_node) low high)) ≡ node_ids nodes
same_ids [] n low high = refl
same_ids (x ∷ xs) zero low high = refl
same_ids (x ∷ xs) (suc n) low high = ap (λ ids. x.id ∷ ids) (same_ids xs n low high)

-- a problem is that of its rows, which have no offence
clean_problem : (o : Option ModelFault) (p q : Network) → answer o q ≡ Ok p → (o ≡ None) × (q ≡ p)
clean_problem None p q e = (refl, cc)
clean_problem (Some f) p q e = absurd cc

none_or : {A : Type 0} (a b : Option A) → a ≡ None → b ≡ None → option_or a b ≡ None
none_or a b e f = ap (λ o. option_or o b) e ∙ f

module _ (p : Network) (is : IsProblem p) (n : ℕ) (lt : n < length p.nodes) (low high : ℤ) (l : is_flow low ≡ true) (h : is_flow high ≡ true) where
  clean : (rows_fault (rows_of p) ≡ None) × (network_of (rows_of p) ≡ p)
  clean = clean_problem (rows_fault (rows_of p)) p (network_of (rows_of p)) is

  parts : AreClean (rows_of p)
  parts = clean_rows (rows_of p) clean.0

  abbrev supplied : Rows
  supplied = record { nodes = (with_supply p n low high).nodes; arcs = (rows_of p).arcs; groups = (rows_of p).groups }

  counts : count_fault supplied.nodes supplied.arcs ≡ None
  counts =
      ap (λ (k : ℕ). cond (not (leb k 2000)) (Some (fault.TooMany many.Nodes)) (cond (not (leb (length (rows_of p).arcs) 2000)) (Some (fault.TooMany many.Arcs)) None))
      (length-set p.nodes n (node_with_supply (get_or p.nodes n no_node) low high))
      ∙ parts.counts

  supplied_clean : rows_fault supplied ≡ None
  supplied_clean =
      let nodes : nodes_fault supplied.nodes ≡ None = nodes_clean [] p.nodes n low high l h lt parts.nodes in
      let arcs : arcs_fault (node_ids supplied.nodes) supplied.arcs ≡ None = ap (λ ids. arcs_fault ids (rows_of p).arcs) (same_ids p.nodes n low high) ∙ parts.arcs in
      none_or (count_fault supplied.nodes supplied.arcs) _ counts
      (none_or (group_count_fault supplied.groups) _ parts.group_counts
      (none_or (nodes_fault supplied.nodes) _ nodes
      (none_or (arcs_fault (node_ids supplied.nodes) supplied.arcs) (groups_fault supplied.arcs supplied.groups) arcs parts.groups)))

  network_is : network_of supplied ≡ with_supply p n low high
  network_is =
      let arcs : map (arc_of (node_ids supplied.nodes)) (rows_of p).arcs ≡ p.arcs =
      ap (λ ids. map (arc_of ids) (rows_of p).arcs) (same_ids p.nodes n low high) ∙ ap (λ (x : Network). x.arcs) clean.1 in
      let groups : map (group_of (text_ids (rows_of p).arcs)) (rows_of p).groups ≡ p.groups = ap (λ (x : Network). x.groups) clean.1 in
      λ j. record { nodes = (with_supply p n low high).nodes; arcs = arcs j; groups = groups j }

  pub supplied_problem : IsProblem (with_supply p n low high)
  supplied_problem = subst IsProblem network_is (made supplied supplied_clean)

  pub supplied_within : IsWithin (with_supply p n low high)
  supplied_within = subst IsWithin network_is (limited supplied supplied_clean)
