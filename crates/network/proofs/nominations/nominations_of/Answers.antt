use Rattle.std.proofs.Common.{arith, refl}
use Rattle.std.specs.Str.{bytes_eq}
use Rattle.std.proofs.Math.Path.{fun_ext}
use Rattle.name_places.specs.ByName.{look}
use Rattle.network.specs.Nodes.{nominated}
use Rattle.network.proofs.Kept.{kept_more, kept_all}
use Rattle.network.proofs.nominations.nominations_of.Goals as goal

pub loop-node-init : goal.loop-node-init
loop-node-init c = rw c.no_values-nominations.ensures (record { are = λ q. refl })

pub loop-node-preserved : goal.loop-node-preserved
loop-node-preserved c =
    kept_more (λ id s. bytes_eq id s.id) (nominated) (look c.loop-node.nominations) (look c.keep_first.new.values) c.args.nodes.now c.loop-node.node-index c.node-item.result (omega (arith, c.loop-node-test.true)) c.node-item.is
    (λ q. rw (c.as_str.ensures, c.bounds_of.ensures) at c.in_ok-keep_first.ensures q) c.loop-node.invariant

pub returns : goal.returns
returns c = fun_ext (kept_all (λ id s. bytes_eq id s.id) (nominated) (look c.loop-node.nominations) c.args.nodes.now c.loop-node.node-index (omega (arith, c.loop-node-test.false)) c.loop-node.invariant)
