use Rattle.std.proofs.Common.{ap, sym, ◌∙◌, arith}
use Rattle.std.specs.Prelude.{◌++◌, ◌∷◌, []}
use Rattle.std.proofs.lemmas.List.FromFn.{map-range_with_len_more}
use Rattle.tree_cert.specs.declared.line.Head.TheVariants.{Take}
use Rattle.box_pool.proofs.forks.decision_heads.Goals as goal

pub loop-decision-preserved : goal.loop-decision-preserved
loop-decision-preserved c =
    let n = c.loop-decision.decision in
    c.in_ok-push.ensures.ok ∙ ap (λ hs. hs ++ Take c.args.group n ∷ []) c.loop-decision.invariant ∙ sym (map-range_with_len_more (Take c.args.group) 0 n n (omega arith))
