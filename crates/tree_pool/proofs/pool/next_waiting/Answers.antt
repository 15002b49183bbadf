use Rattle.std.proofs.Common.{◌≡◌, length, arith}
use Rattle.std.proofs.lemmas.Option.{slice_get_within}
use Rattle.tree_pool.proofs.NextBoxes.{node_at}
use Rattle.tree_pool.proofs.Earliest.{pass_more}
use Rattle.tree_pool.proofs.pool.next_waiting.Goals as goal

pub loop-i-preserved : goal.loop-i-preserved
loop-i-preserved c =
    pass_more c.args.nodes.now c.args.from c.loop-i.i c.index-nodes-i.result c.loop-i-test.true c.index-nodes-i.is (let a = c.waits.ensures in let b = c.if-waits.false in cc) c.loop-i.invariant

pub returns-then-waits-clause-waits : goal.returns-then-waits-clause-waits
returns-then-waits-clause-waits c x at =
    let here = node_at c.args.nodes.now c.loop-i.i c.index-nodes-i.result c.loop-i-test.true c.index-nodes-i.is in
    let same : x ≡ c.index-nodes-i.result = cc in
    rw same (let a = c.waits.ensures in let b = c.if-waits.true in cc)

pub returns-clause-waits : goal.returns-clause-waits
returns-clause-waits c x at = absurd (let a = slice_get_within c.args.nodes.now (length c.args.nodes.now) x at in omega arith)
