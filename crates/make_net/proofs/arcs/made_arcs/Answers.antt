use Rattle.std.proofs.Common.{sym, zero-add}
use Rattle.std.proofs.lemmas.List.FromFn.{map-range_with_len_more}
use Rattle.make_net.specs.Made.{made_arc}
use Rattle.make_net.proofs.arcs.made_arcs.Goals as goal

pub loop-node-preserved : goal.loop-node-preserved
loop-node-preserved c =
    rw (c.in_ok-push.ensures.ok, c.loop-node.invariant, c.in_ok-made_arc.ensures) (sym (map-range_with_len_more (made_arc c.args.count) 0 c.loop-node.node c.loop-node.node (zero-add c.loop-node.node)))
