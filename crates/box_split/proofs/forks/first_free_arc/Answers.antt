use Rattle.std.proofs.Common.{◌≡◌, length, ◌<◌, below_more, sym, ap, ◌∙◌, arith, is_none, not}
use Rattle.topo.specs.States.{fixed_at}
use Rattle.topo.proofs.FixedStates.{fixed_at_row}
use Rattle.box_split.proofs.Firsts.{first_some, first_none}
use Rattle.box_split.proofs.forks.first_free_arc.Goals as goal

pub returns-then-is_none-clause-first : goal.returns-then-is_none-clause-first
returns-then-is_none-clause-first c =
    let long = ap length c.arcs-a-end.ensures.rows in
    let here = fixed_at_row c.args.p.now c.args.state.now c.loop-a.a c.state_of.result (omega arith) c.state_of.ensures in
    sym (first_some (λ a. is_none (fixed_at c.args.p.now c.args.state.now a)) (length c.args.p.now.arcs) c.loop-a.a (omega arith) (ap is_none (sym here) ∙ ap not (c.is_none.ensures ∙ ap not c.if-is_none.true)) c.loop-a.invariant)

pub loop-a-preserved : goal.loop-a-preserved
loop-a-preserved c =
    let long = ap length c.arcs-a-end.ensures.rows in
    let here = fixed_at_row c.args.p.now c.args.state.now c.loop-a.a c.state_of.result (omega arith) c.state_of.ensures in
    below_more _ _ c.loop-a.invariant (ap is_none (sym here) ∙ ap not (c.is_none.ensures ∙ ap not c.if-is_none.false))

pub returns-clause-first : goal.returns-clause-first
returns-clause-first c =
    let long = ap length c.arcs-a-end.ensures.rows in
    sym (first_none (λ a. is_none (fixed_at c.args.p.now c.args.state.now a)) (length c.args.p.now.arcs) (λ k h. c.loop-a.invariant k (omega arith)))
