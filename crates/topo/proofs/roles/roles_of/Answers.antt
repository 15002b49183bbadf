use Rattle.std.proofs.Common.{ap, sym, arith, not}
use Rattle.topo.proofs.Placed.{placed_row, placed_away, placed_roles, placed_roots}
use Rattle.topo.proofs.roles.roles_of.Goals as goal
use Rattle.topo.proofs.roles.roles_of.Goals.{then-is_shut, else-is_shut}

pub loop-a-preserved : goal.loop-a-preserved
loop-a-preserved c = elim c.if-is_shut.branch [
  | then-is_shut w ↦ rw (w.roots-is, c.in_ok-push.ensures.items, w.role-is) (placed_away _ _ _ _ _ _ (ap not (sym w.if-is_shut.ensures)) c.loop-a.invariant)
  | else-is_shut w ↦ rw (w.roots-is, c.in_ok-push.ensures.items, w.role-is) (placed_row c.args.arcs.now _ _ _ _ _ _ w.unite-role.result c.index-arcs-a.result c.loop-a-test.true c.index-arcs-a.is (ap not (sym w.if-is_shut.ensures)) c.loop-a.invariant w.unite-role.ensures.down w.unite-role.auto.up (w.unite-role.ensures.labels _ c.loop-a.invariant.labels))
]

pub returns-clause-roles : goal.returns-clause-roles
returns-clause-roles c = placed_roles _ _ _ _ _ c.loop-a.a (omega arith) c.loop-a.invariant

pub returns-clause-roots : goal.returns-clause-roots
returns-clause-roots c = placed_roots _ _ _ _ _ _ c.loop-a.a (omega arith) c.loop-a.invariant (omega arith) c.flatten.ensures
