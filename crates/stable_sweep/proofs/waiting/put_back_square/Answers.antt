use Rattle.std.proofs.Common.{◌∙◌}
use Rattle.gas_model.proofs.NodeSums.{arc_within}
use Rattle.stable_sweep.proofs.PutBacks.{puts_more, puts_square}
use Rattle.stable_sweep.proofs.waiting.put_back_square.Goals as goal

pub put_back_arc-requires-clause-arc : goal.put_back_arc-requires-clause-arc
put_back_arc-requires-clause-arc c = arc_within c.args.p.now.arcs c.args.node c.loop-arc.arc-index c.arcs_at-arc-items.result.now c.arcs_at-arc-items.ensures.arcs c.loop-arc-test.true

pub loop-arc-preserved : goal.loop-arc-preserved
loop-arc-preserved c = record {
  size = c.put_back_arc.ensures.size ∙ c.loop-arc.invariant.size;
  few = c.put_back_arc.ensures.few;
  kept = λ i h. c.put_back_arc.ensures.kept i (c.loop-arc.invariant.kept i h);
  put = puts_more _ _ _ _ _ _ _ c.loop-arc.invariant.put c.put_back_arc.ensures.kept c.put_back_arc.ensures.put;
}

pub returns-clause-put : goal.returns-clause-put
returns-clause-put c = puts_square _ _ c.args.node _ _ _ _ c.arcs_at-arc-items.ensures.arcs c.loop-arc.invariant.put c.loop-arc-test.false
