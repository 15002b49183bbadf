use Rattle.std.proofs.Common.{◌≡◌, ◌≢◌, sym, ◌∙◌, inl, inr, arith}
use Rattle.topo.proofs.Climb.{joined_labels, same_labels}
use Rattle.topo.proofs.forest.unite.Goals as goal

pub returns-then-first-second-clause-labels : goal.returns-then-first-second-clause-labels
returns-then-first-second-clause-labels c = λ label l0.
    let one = c.find-first.ensures.labels label l0 in
    let two = c.find-second.ensures.labels label one.0 in
    let e : label c.args.m ≡ label c.args.n = one.1 ∙ c.if-first-second.true ∙ sym two.1 in
    (same_labels _ label _ _ e two.0, e)

pub returns-then-first-second-2-clause-labels : goal.returns-then-first-second-2-clause-labels
returns-then-first-second-2-clause-labels c = λ label l0.
    let one = c.find-first.ensures.labels label l0 in
    let two = c.find-second.ensures.labels label one.0 in
    let ne : c.find-first.result ≢ c.find-second.result = c.if-first-second.false in
    (joined_labels _ label _ _ _ _ (omega arith) c.if-first-second-2.true two.0 (c.find-second.ensures.tops _ c.find-first.ensures.end.1) c.find-second.ensures.end.1 (inl (one.1, two.1)), λ e. ne (sym one.1 ∙ e ∙ two.1))

pub returns-else-first-second-2-clause-labels : goal.returns-else-first-second-2-clause-labels
returns-else-first-second-2-clause-labels c = λ label l0.
    let one = c.find-first.ensures.labels label l0 in
    let two = c.find-second.ensures.labels label one.0 in
    let ne : c.find-first.result ≢ c.find-second.result = c.if-first-second.false in
    (joined_labels _ label _ _ _ _ (omega arith) (omega (arith, c.if-first-second-2.false)) two.0 c.find-second.ensures.end.1 (c.find-second.ensures.tops _ c.find-first.ensures.end.1) (inr (one.1, two.1)), λ e. ne (sym one.1 ∙ e ∙ two.1))
