use Rattle.std.proofs.Common.{Some, rules, to_z-of_z, FitsSigned}
use Rattle.std.specs.Int.{w128}
use Rattle.tree_check.proofs.Undoing.{moved_back, picked_back, named_back, old_pick, old_state, pick_at, state_at, end_limited}
use Rattle.tree_check.proofs.branches.take_head.Goals as goal

pub returns-in-Take-clause-back : goal.returns-in-Take-clause-back
returns-in-Take-clause-back c = rw (c.put_pick.ensures, c.pick-pick.ensures) (picked_back c.args.b.now c.in-Take.group (Some c.in-Take.decision))

pub returns-in-Take-clause-change : goal.returns-in-Take-clause-change
returns-in-Take-clause-change c =
    let head = rw c.in-Take.is at c.requires.head in
    rw c.pick-pick.ensures (old_pick c.args.p.now c.args.b.now c.in-Take.group c.requires.fits head.group)

pub returns-in-Take-clause-fits : goal.returns-in-Take-clause-fits
returns-in-Take-clause-fits c =
    let head = rw c.in-Take.is at c.requires.head in
    rw c.put_pick.ensures (pick_at c.args.p.now c.args.b.now c.in-Take.group (Some c.in-Take.decision) c.requires.fits head)

pub returns-in-State-clause-back : goal.returns-in-State-clause-back
returns-in-State-clause-back c = rw (c.put_state.ensures, c.named-old.ensures) (named_back c.args.b.now c.in-State.arc (Some c.in-State.state))

pub returns-in-State-clause-change : goal.returns-in-State-clause-change
returns-in-State-clause-change c =
    let head = rw c.in-State.is at c.requires.head in
    rw c.named-old.ensures (old_state c.args.p.now c.args.b.now c.in-State.arc c.requires.fits head.arc)

pub returns-in-State-clause-fits : goal.returns-in-State-clause-fits
returns-in-State-clause-fits c =
    let head = rw c.in-State.is at c.requires.head in
    rw c.put_state.ensures (state_at c.args.p.now c.args.b.now c.in-State.arc (Some c.in-State.state) c.requires.fits head)

pub returns-in-Half-clause-back : goal.returns-in-Half-clause-back
returns-in-Half-clause-back c = rw (c.put_ends.ensures, c.ends-ends.ensures.value) (moved_back c.args.b.now c.in-Half.var _)

pub put_ends-requires-clause-ends : goal.put_ends-requires-clause-ends
put_ends-requires-clause-ends c =
    let head = rw c.in-Half.is at c.requires.head in
    let fits : FitsSigned w128 c.in-Half.value = search rules in
    let moved = simp (to_z-of_z, fits) at c.with_end.ensures in
    rw moved (end_limited c.args.b.now.scale c.in-Half.var c.in-Half.low c.in-Half.value c.ends-ends.result c.ends-ends.ensures.limits head.1)
