use Rattle.gas_model.proofs.Limited.{ends_limited, groups_limited, placed_network, placed_problem, placed_within}
use Rattle.std.proofs.Common.{subst}
use Rattle.gas_model.specs.Rows.{Network}
use Rattle.gas_model.specs.Rulings.{rulings_at, AreInOrder}
use Rattle.gas_model.proofs.InOrder.{ordered}
use Rattle.gas_model.proofs.Remade.{placed}
use Rattle.gas_model.proofs.problem.Problem.make.Goals as goal

pub arcs_at_nodes-requires : goal.arcs_at_nodes-requires
arcs_at_nodes-requires c =
    rw (c.as_slice.ensures, c.as_slice-2.ensures)
    (ends_limited (placed_network c.args.rows c.in_ok-placed.placed) (placed_within c.args.rows c.in_ok-placed.placed c.in_ok-placed.ensures.clean c.in_ok-placed.ensures.placed))

pub rulings_of_arcs-requires-clause-arcs : goal.rulings_of_arcs-requires-clause-arcs
rulings_of_arcs-requires-clause-arcs c =
    rw (c.as_slice-3.ensures, c.as_slice-4.ensures)
    (groups_limited (placed_network c.args.rows c.in_ok-placed.placed) (placed_within c.args.rows c.in_ok-placed.placed c.in_ok-placed.ensures.clean c.in_ok-placed.ensures.placed))

pub rulings_of_arcs-requires-clause-few : goal.rulings_of_arcs-requires-clause-few
rulings_of_arcs-requires-clause-few c =
    rw c.as_slice-4.ensures (placed_within c.args.rows c.in_ok-placed.placed c.in_ok-placed.ensures.clean c.in_ok-placed.ensures.placed).few_groups

pub invariant_of-result : goal.invariant_of-result
invariant_of-result c = record {
  problem = placed_problem c.args.rows c.in_ok-placed.placed c.in_ok-placed.ensures.clean c.in_ok-placed.ensures.placed;
  within = placed_within c.args.rows c.in_ok-placed.placed c.in_ok-placed.ensures.clean c.in_ok-placed.ensures.placed;
  arcs_at = rw (c.as_slice.ensures, c.as_slice-2.ensures) at c.in_ok-arcs_at.ensures;
  rulings = rw (c.as_slice-3.ensures, c.as_slice-4.ensures) at c.in_ok-rulings.ensures;
  order = λ i. subst (λ (p : Network). AreInOrder (rulings_at p.groups i)) (placed c.args.rows c.in_ok-placed.placed c.in_ok-placed.ensures.placed) (ordered c.args.rows c.in_ok-placed.ensures.clean i);
}
