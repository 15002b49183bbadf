use Rattle.std.proofs.Common.{arith, refl}
use Rattle.std.specs.Str.{bytes_eq}
use Rattle.std.proofs.Math.Path.{fun_ext}
use Rattle.name_places.specs.ByName.{look}
use Rattle.network.proofs.Kept.{kept_more, kept_all}
use Rattle.network.proofs.nominations.node_words.Goals as goal

pub loop-node-init : goal.loop-node-init
loop-node-init c = rw c.no_values-words.ensures (record { are = λ q. refl })

pub loop-node-preserved : goal.loop-node-preserved
loop-node-preserved c =
    kept_more (λ id n. bytes_eq id n.id) (λ n. n.word) (look c.loop-node.words) (look c.keep_first.new.values) c.args.nodes.now c.loop-node.node-index c.node-item.result (omega (arith, c.loop-node-test.true)) c.node-item.is
    (λ q. rw c.as_str.ensures at c.in_ok-keep_first.ensures q) c.loop-node.invariant

pub returns : goal.returns
returns c = fun_ext (kept_all (λ id n. bytes_eq id n.id) (λ n. n.word) (look c.loop-node.words) c.args.nodes.now c.loop-node.node-index (omega (arith, c.loop-node-test.false)) c.loop-node.invariant)
