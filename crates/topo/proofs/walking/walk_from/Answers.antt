use Rattle.std.proofs.Common.{rules, ◌≡◌, ℕ, ◌<◌, ◌++◌, ◌&&◌, not, map, List, length, ap, sym, ◌∙◌, subst, arith}
use Rattle.std.specs.Prelude.{Some, None}
use Rattle.std.specs.List.{filter}
use Rattle.std.proofs.lemmas.List.{get_or_default}
use Rattle.topo.specs.Graphs.{graph_of}
use Rattle.topo.specs.Roles.{has_tree_role}
use Rattle.topo.specs.Walks.{is_by, far, onward}
use Rattle.topo.proofs.Walked.{Walked, walked_root, walked_step, walked_short, walked_arc, arcs_below, far_below}
use Rattle.topo.proofs.walking.walk_from.Goals as goal

pub go_on-requires : goal.go_on-requires
go_on-requires c = record { at = λ k h. let lt = arcs_below (graph_of c.args.arcs.now) c.args.root k _ c.requires.tree.1.listed (c.at_node.ensures ∙ c.requires.at c.args.root c.requires.root) h in omega (arith, c.requires.roles) }

pub nodes-init : goal.nodes-init
nodes-init c =
    let start : length c.args.walk.now.items ≡ c.len-i.result = search rules in
    subst (Walked (graph_of c.args.arcs.now) (has_tree_role c.args.roles.now) c.args.root c.args.walk.now.items c.go_on.new.walk.items) start
    (walked_root (graph_of c.args.arcs.now) c.requires.tree.0 (has_tree_role c.args.roles.now) c.args.root c.args.walk.now.items c.go_on.new.walk.items c.requires.tree.1
    (c.in_ok-go_on.ensures ∙ ap (λ (xs : List ℕ). c.args.walk.now.items ++ map (λ a. (a, c.args.root)) (filter (λ a. has_tree_role c.args.roles.now a && not (is_by None a)) xs)) (c.at_node.ensures ∙ c.requires.at c.args.root c.requires.root)))

pub far-node-requires : goal.far-node-requires
far-node-requires c =
    let lt : c.nodes.i < length c.nodes.walk.items = search rules in
    let e = c.index.ensures ∙ get_or_default c.nodes.walk.items c.nodes.i c.index.result.now (0, 0) lt in
    subst (λ (x : ℕ × ℕ). x.0 < length c.args.arcs.now) (sym e) (walked_arc (graph_of c.args.arcs.now) (has_tree_role c.args.roles.now) _ _ _ _ c.nodes.invariant lt)

pub go_on-requires-in-nodes : goal.go_on-requires-in-nodes
go_on-requires-in-nodes c = record {
  at = λ k h.
      let lt : c.nodes.i < length c.nodes.walk.items = search rules in
      let e = c.index.ensures ∙ get_or_default c.nodes.walk.items c.nodes.i c.index.result.now (0, 0) lt in
      let arc = subst (λ (x : ℕ × ℕ). x.0 < length c.args.arcs.now) (sym e) (walked_arc (graph_of c.args.arcs.now) (has_tree_role c.args.roles.now) _ _ _ _ c.nodes.invariant lt) in
      let below : c.far-node.result < length c.args.at.now = subst (λ (n : ℕ). n < length c.args.at.now) (sym c.far-node.ensures) (far_below (graph_of c.args.arcs.now) (length c.args.at.now) c.index.result.now.0 c.index.result.now.1 c.requires.ends arc) in
      let b = arcs_below (graph_of c.args.arcs.now) c.far-node.result k _ c.requires.tree.1.listed (c.at_node-in-nodes.ensures ∙ c.requires.at c.far-node.result below) h in
      omega (arith, c.requires.roles);
}

pub nodes-smaller : goal.nodes-smaller
nodes-smaller c = let short = walked_short _ _ _ (length c.args.at.now) _ _ _ c.requires.root c.requires.ends c.nodes.invariant in omega arith

pub nodes-preserved : goal.nodes-preserved
nodes-preserved c =
    let lt : c.nodes.i < length c.nodes.walk.items = search rules in
    let e = c.index.ensures ∙ get_or_default c.nodes.walk.items c.nodes.i c.index.result.now (0, 0) lt in
    let arc = subst (λ (x : ℕ × ℕ). x.0 < length c.args.arcs.now) (sym e) (walked_arc (graph_of c.args.arcs.now) (has_tree_role c.args.roles.now) _ _ _ _ c.nodes.invariant lt) in
    let below : c.far-node.result < length c.args.at.now = subst (λ (n : ℕ). n < length c.args.at.now) (sym c.far-node.ensures) (far_below (graph_of c.args.arcs.now) (length c.args.at.now) c.index.result.now.0 c.index.result.now.1 c.requires.ends arc) in
    let g = graph_of c.args.arcs.now in
    let tree = has_tree_role c.args.roles.now in
    let found : c.go_on-in-nodes.new.walk.items ≡ c.nodes.walk.items ++ onward g tree c.far-node.result (Some c.index.result.now.0) = c.in_ok-go_on-2.ensures ∙ ap (λ (xs : List ℕ). c.nodes.walk.items ++ map (λ a. (a, c.far-node.result)) (filter (λ a. has_tree_role c.args.roles.now a && not (is_by (Some c.index.result.now.0) a)) xs)) (c.at_node-in-nodes.ensures ∙ c.requires.at c.far-node.result below) in
    walked_step g c.requires.tree.0 tree c.args.root _ _ _ c.nodes.i c.requires.tree.1 c.nodes.invariant lt
    (found ∙ ap (λ (n : ℕ). c.nodes.walk.items ++ onward g tree n (Some c.index.result.now.0)) c.far-node.ensures ∙ ap (λ (x : ℕ × ℕ). c.nodes.walk.items ++ onward g tree (far g x.0 x.1) (Some x.0)) e)
