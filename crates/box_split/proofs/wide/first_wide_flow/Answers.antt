use Rattle.std.proofs.Common.{length, ◌<◌, sym, ap, ◌∙◌, arith}
use Rattle.base_types.specs.declared.variables.Var.TheVariants.{Flow}
use Rattle.box_split.specs.Forks.{is_wide}
use Rattle.box_split.proofs.Firsts.{first_some, first_none}
use Rattle.box_split.proofs.wide.first_wide_flow.Goals as goal

pub returns-then-is_wide-clause-value : goal.returns-then-is_wide-clause-value
returns-then-is_wide-clause-value g c =
    let long = ap length c.arcs-a-end.ensures.rows in
    sym (first_some (λ a. is_wide c.args.b.now (Flow a)) (length c.args.p.now.arcs) c.loop-a.a (omega arith) (sym c.is_wide.ensures ∙ c.if-is_wide.true) c.loop-a.invariant)

pub returns-clause-value : goal.returns-clause-value
returns-clause-value g c =
    let long = ap length c.arcs-a-end.ensures.rows in
    sym (first_none (λ a. is_wide c.args.b.now (Flow a)) (length c.args.p.now.arcs) (λ k h. c.loop-a.invariant k (omega arith)))
