use Rattle.std.proofs.Common.{sym}
use Rattle.box_ends.proofs.EmptyVars.{leaves_all, flow_left_none, square_left_none}
use Rattle.box_ends.proofs.scaled.ScaledBox.first_empty.Goals as goal

pub returns-in-Some-clause-some : goal.returns-in-Some-clause-some
returns-in-Some-clause-some c =
    let place = rw (c.deref.ensures.value) at c.in-Some.ensures in
    rw (← c.self.view_is) (flow_left_none _ c.in-Some.arc (sym place))

pub returns-in_err-node-clause-none : goal.returns-in_err-node-clause-none
returns-in_err-node-clause-none c =
    let flows = rw (c.deref.ensures.value) at c.in_default.ensures in
    let squares = rw (c.deref-2.ensures.value) at c.in_err-node.ensures in
    rw (c.from_residual.ensures, ← c.self.view_is) (leaves_all _ (sym flows) (sym squares))

pub returns-clause-some : goal.returns-clause-some
returns-clause-some c =
    let place = rw (c.deref-2.ensures.value) at c.in_ok-node.ensures in
    rw (← c.self.view_is) (square_left_none _ c.in_ok-node.node (sym place))
