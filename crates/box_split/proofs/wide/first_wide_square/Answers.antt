use Rattle.std.proofs.Common.{length, ◌<◌, sym, ap, ◌∙◌, arith}
use Rattle.base_types.specs.declared.variables.Var.TheVariants.{Square}
use Rattle.box_split.specs.Forks.{is_wide}
use Rattle.box_split.proofs.Firsts.{first_some, first_none}
use Rattle.box_split.proofs.wide.first_wide_square.Goals as goal

pub returns-then-is_wide-clause-value : goal.returns-then-is_wide-clause-value
returns-then-is_wide-clause-value g c =
    let long = ap length c.nodes-n-end.ensures.rows in
    sym (first_some (λ n. is_wide c.args.b.now (Square n)) (length c.args.p.now.nodes) c.loop-n.n (omega arith) (sym c.is_wide.ensures ∙ c.if-is_wide.true) c.loop-n.invariant)

pub returns-clause-value : goal.returns-clause-value
returns-clause-value g c =
    let long = ap length c.nodes-n-end.ensures.rows in
    sym (first_none (λ n. is_wide c.args.b.now (Square n)) (length c.args.p.now.nodes) (λ k h. c.loop-n.invariant k (omega arith)))
