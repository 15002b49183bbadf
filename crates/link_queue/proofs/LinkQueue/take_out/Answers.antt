use Rattle.std.proofs.Common.{◌≤◌, arith}
use Rattle.link_queue.proofs.Rings.{behind_below, is_queue, kept_take}
use Rattle.link_queue.proofs.LinkQueue.take_out.Goals as goal

pub index_mut-requires-3 : goal.index_mut-requires-3
index_mut-requires-3 c =
    let small = rw (← c.self.view_is) at c.requires in
    let most : c.args.i ≤ c.self.inside.size = omega (arith, small) in
    let below = behind_below _ _ _ _ _ _ c.self.invariant most c.index-behind.ensures in
    omega (arith, below, c.self.inside.prev.ok.0)

pub invariant_of-self : goal.invariant_of-self
invariant_of-self c =
    let small = rw (← c.self.view_is) at c.requires in
    (kept_take _ _ _ _ _ _ _ c.self.invariant small c.index-before.ensures c.index-behind.ensures).ring

pub returns-clause-held : goal.returns-clause-held
returns-clause-held c =
    let small = rw (← c.self.view_is) at c.requires in
    rw (← c.self.view_is) (kept_take _ _ _ _ _ _ _ c.self.invariant small c.index-before.ensures c.index-behind.ensures).shown

pub returns-clause-queue : goal.returns-clause-queue
returns-clause-queue c =
    let small = rw (← c.self.view_is) at c.requires in
    is_queue _ _ _ _ (kept_take _ _ _ _ _ _ _ c.self.invariant small c.index-before.ensures c.index-behind.ensures).ring
