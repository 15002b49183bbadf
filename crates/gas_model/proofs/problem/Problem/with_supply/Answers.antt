use Rattle.std.proofs.Common.{◌≡◌, ◌∙◌, refl, to_z-of_z}
use Rattle.gas_model.specs.Supplies.{with_supply}
use Rattle.gas_model.proofs.Limited.{ends_limited, groups_limited}
use Rattle.gas_model.proofs.Supplied.{supplied_problem, supplied_within}
use Rattle.gas_model.proofs.problem.Problem.with_supply.Goals as goal

pub arcs_at_nodes-requires : goal.arcs_at_nodes-requires
arcs_at_nodes-requires c =
    let q = with_supply c.args.self.now c.args.node c.args.b_min c.args.b_max in
    let made = simp (to_z-of_z, c.ranges.b_min, c.ranges.b_max) at c.in_ok-nodes.ensures in
    let nodes : c.as_slice.result.now ≡ q.nodes = rw (c.as_slice.ensures, made, c.nodes.ensures.rows) refl in
    let arcs : c.as_slice-2.result.now ≡ q.arcs = c.as_slice-2.ensures ∙ c.in_ok-arcs.ensures ∙ c.arcs.ensures.rows in
    let within = supplied_within c.args.self.now c.nodes.ensures.problem c.args.node c.requires.node c.args.b_min c.args.b_max c.requires.low c.requires.high in
    rw (nodes, arcs) (ends_limited q within)

pub rulings_of_arcs-requires-clause-arcs : goal.rulings_of_arcs-requires-clause-arcs
rulings_of_arcs-requires-clause-arcs c =
    let q = with_supply c.args.self.now c.args.node c.args.b_min c.args.b_max in
    let arcs : c.as_slice-3.result.now ≡ q.arcs = c.as_slice-3.ensures ∙ c.in_ok-arcs.ensures ∙ c.arcs.ensures.rows in
    let groups : c.as_slice-4.result.now ≡ q.groups = c.as_slice-4.ensures ∙ c.in_ok-groups.ensures ∙ c.groups.ensures.rows in
    let within = supplied_within c.args.self.now c.nodes.ensures.problem c.args.node c.requires.node c.args.b_min c.args.b_max c.requires.low c.requires.high in
    rw (arcs, groups) (groups_limited q within)

pub invariant_of-result : goal.invariant_of-result
invariant_of-result c =
    let p = c.args.self.now in
    let made = simp (to_z-of_z, c.ranges.b_min, c.ranges.b_max) at c.in_ok-nodes.ensures in
    let arcs = c.in_ok-arcs.ensures ∙ c.arcs.ensures.rows in
    let groups = c.in_ok-groups.ensures ∙ c.groups.ensures.rows in
    record {
      problem = rw (made, c.nodes.ensures.rows, arcs, groups) (supplied_problem p c.nodes.ensures.problem c.args.node c.requires.node c.args.b_min c.args.b_max c.requires.low c.requires.high);
      within = rw (made, c.nodes.ensures.rows, arcs, groups) (supplied_within p c.nodes.ensures.problem c.args.node c.requires.node c.args.b_min c.args.b_max c.requires.low c.requires.high);
      arcs_at = rw (c.as_slice.ensures, c.as_slice-2.ensures) at c.in_ok-arcs_at.ensures;
      rulings = rw (c.as_slice-3.ensures, c.as_slice-4.ensures) at c.in_ok-rulings.ensures;
      order = rw (groups, ← c.self.view_is) c.self.invariant.order;
    }
