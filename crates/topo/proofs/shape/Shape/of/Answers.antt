use Rattle.std.proofs.Common.{◌≡◌, List, length, ap, sym, ◌∙◌, subst, arith}
use Rattle.std.proofs.lemmas.List.{length-map}
use Rattle.topo.specs.declared.forest.Role.{Role}
use Rattle.topo.specs.Graphs.{graph_of}
use Rattle.topo.specs.States.{is_kept}
use Rattle.topo.specs.Roles.{AreRoles, EndsBelow}
use Rattle.topo.proofs.PassingNumbers.{arcs_at-those}
use Rattle.topo.proofs.Ends.{within_ends, roots_below}
use Rattle.topo.proofs.Spanned.{spans}
use Rattle.topo.proofs.Shaped.{shaped}
use Rattle.topo.proofs.shape.Shape.of.Goals as goal

pub walk_of-requires-clause-tree : goal.walk_of-requires-clause-tree
walk_of-requires-clause-tree c = (is_kept c.as_slice.result.now, spans _ _ c.as_slice-5.result.now (arcs_at-those c.arcs-arcs.result.now) (subst (λ (xs : List Role). AreRoles (graph_of c.arcs-arcs.result.now) (is_kept c.as_slice.result.now) xs) (sym c.as_slice-5.ensures.value) c.in_ok-parts.ensures.roles))

pub walk_of-requires-clause-ends : goal.walk_of-requires-clause-ends
walk_of-requires-clause-ends c =
    let below : EndsBelow c.arcs-arcs.result.now (length c.nodes-nodes.result.now) = rw (c.arcs-arcs.ensures.rows, c.nodes-nodes.ensures.rows) (within_ends c.args.p.now c.nodes-nodes.ensures.within) in
    let long = ap length (c.as_slice-4.ensures.value ∙ ap (λ v. v.items) c.deref.ensures) in
    let lists = c.in_ok-at_node.ensures.count in
    let nodes = ap length c.nodes-nodes.ensures.rows in
    let mapped = length-map c.in_ok-at_node.at_node.value.items (λ v. v.items) in
    let same : length c.nodes-nodes.result.now ≡ length c.as_slice-4.result.now = omega arith in
    subst (EndsBelow c.arcs-arcs.result.now) same below

pub walk_of-requires-clause-roots : goal.walk_of-requires-clause-roots
walk_of-requires-clause-roots c i h =
    let lt = roots_below c.as_slice-6.result.now c.as_slice-2.result.now (length c.nodes-nodes.result.now) i (c.as_slice-6.ensures.value ∙ c.in_ok-roots.ensures) (ap length c.as_slice-2.ensures.value ∙ c.in_ok-parts.ensures.roots.count) h in
    let long = ap length (c.as_slice-4.ensures.value ∙ ap (λ v. v.items) c.deref.ensures) in
    let lists = c.in_ok-at_node.ensures.count in
    let nodes = ap length c.nodes-nodes.ensures.rows in
    let mapped = length-map c.in_ok-at_node.at_node.value.items (λ v. v.items) in
    omega arith

pub split_list-requires-clause-ends : goal.split_list-requires-clause-ends
split_list-requires-clause-ends c = rw (c.arcs-arcs.ensures.rows, c.nodes-nodes.ensures.rows) (within_ends c.args.p.now c.nodes-nodes.ensures.within)

pub split_list-requires-clause-roots : goal.split_list-requires-clause-roots
split_list-requires-clause-roots c i h = roots_below c.as_slice-8.result.now c.as_slice-2.result.now (length c.nodes-nodes.result.now) i (c.as_slice-8.ensures.value ∙ c.in_ok-roots.ensures) (ap length c.as_slice-2.ensures.value ∙ c.in_ok-parts.ensures.roots.count) h

pub returns : goal.returns
returns c = shaped c.args.p.now c.args.state.now c.in_ok-states.states.items c.in_ok-parts.parts.roles.items _ c.nodes-nodes.ensures.within c.in_ok-states.ensures.count c.in_ok-states.ensures.each (record {
  roles = rw (c.arcs-arcs.ensures.rows, c.as_slice.ensures.value) at c.in_ok-parts.ensures.roles;
  root_of = rw (c.arcs-arcs.ensures.rows, c.nodes-nodes.ensures.rows, c.as_slice.ensures.value) at c.in_ok-parts.ensures.roots;
  roots = rw c.as_slice-2.ensures.value at c.in_ok-roots.ensures;
  chords = rw c.as_slice-3.ensures.value at c.in_ok-chords.ensures;
  walk = rw (c.arcs-arcs.ensures.rows, c.as_slice-5.ensures.value, c.as_slice-6.ensures.value) at c.in_ok-walk.ensures;
  at_node = c.in_ok-at_node.ensures;
  split_list = rw (c.as_slice-7.ensures.value, c.as_slice-8.ensures.value, c.arcs-arcs.ensures.rows, c.as_slice-9.ensures.value) at c.in_ok-split_list.ensures;
})
