use Rattle.std.proofs.Common.{◌≡◌, sym, ◌∙◌, false}
use Rattle.link_queue.specs.Queue.{holds}
use Rattle.link_queue.specs.Ring.{held_by}
use Rattle.link_queue.proofs.Rings.{is_queue, kept_push}
use Rattle.link_queue.proofs.LinkQueue.push_back.Goals as goal

pub invariant_of-self : goal.invariant_of-self
invariant_of-self c =
    let small = rw (← c.self.view_is) at c.requires in
    let new : holds c.args.i (held_by c.self.inside.size c.self.inside.next.items) ≡ false = rw (← c.self.view_is) at (sym c.holds.ensures.value ∙ c.if-holds.false) in
    (kept_push _ _ _ _ _ _ c.self.invariant small new c.index-last.ensures).ring

pub returns-clause-held : goal.returns-clause-held
returns-clause-held c =
    let small = rw (← c.self.view_is) at c.requires in
    let new : holds c.args.i (held_by c.self.inside.size c.self.inside.next.items) ≡ false = rw (← c.self.view_is) at (sym c.holds.ensures.value ∙ c.if-holds.false) in
    rw (← c.self.view_is) (kept_push _ _ _ _ _ _ c.self.invariant small new c.index-last.ensures).shown

pub returns-clause-queue : goal.returns-clause-queue
returns-clause-queue c =
    let small = rw (← c.self.view_is) at c.requires in
    let new : holds c.args.i (held_by c.self.inside.size c.self.inside.next.items) ≡ false = rw (← c.self.view_is) at (sym c.holds.ensures.value ∙ c.if-holds.false) in
    is_queue _ _ _ _ (kept_push _ _ _ _ _ _ c.self.invariant small new c.index-last.ensures).ring
