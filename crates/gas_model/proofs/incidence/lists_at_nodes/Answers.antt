use Rattle.std.proofs.Common.{arith}
use Rattle.gas_model.proofs.Listed.{kept_turn}
use Rattle.gas_model.proofs.incidence.lists_at_nodes.Goals as goal

pub loop-a-preserved : goal.loop-a-preserved
loop-a-preserved c =
    kept_turn _ _ _ c.args.nodes c.loop-a.a c.args.arcs.now c.index-arcs-a.result c.requires (omega (arith, c.loop-a-test.true)) c.index-arcs-a.is c.loop-a.invariant c.in_ok-note.ensures c.in_ok-note-2.ensures
