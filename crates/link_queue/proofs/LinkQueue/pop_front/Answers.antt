use Rattle.std.proofs.Common.{◌≡◌, ◌<◌, sym, subst, ◌∙◌, ap, ◌∷◌, List, ℕ}
use Rattle.link_queue.specs.Queue.{without}
use Rattle.link_queue.proofs.Rings.{front_is}
use Rattle.link_queue.proofs.LinkQueue.pop_front.Goals as goal

pub returns-clause-value : goal.returns-clause-value
returns-clause-value c =
    let f = front_is _ _ _ _ _ c.self.invariant c.index-front.ensures c.if-front-self.false in
    let small : c.index-front.result.now < c.args.self.now.size = rw (← c.self.view_is) f.0 in
    let before : c.args.self.now.held ≡ c.index-front.result.now ∷ without c.index-front.result.now c.args.self.now.held = rw (← c.self.view_is) f.1 in
    (before ∙ ap (λ (ys : List ℕ). c.index-front.result.now ∷ ys) (sym c.take_out.ensures.held), subst (λ (n : ℕ). c.index-front.result.now < n) (sym c.take_out.ensures.size) small)
