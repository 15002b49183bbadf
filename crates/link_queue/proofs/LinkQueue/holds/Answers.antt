use Rattle.link_queue.proofs.Rings.{test_is, is_queue}
use Rattle.link_queue.proofs.LinkQueue.holds.Goals as goal

pub returns-clause-value : goal.returns-clause-value
returns-clause-value c =
    let small = rw (← c.self.view_is) at c.requires in
    rw (← c.self.view_is) (test_is _ _ _ _ _ _ c.self.invariant small c.index.ensures)

pub returns-clause-queue : goal.returns-clause-queue
returns-clause-queue c = rw (← c.self.view_is) (is_queue _ _ _ _ c.self.invariant)
