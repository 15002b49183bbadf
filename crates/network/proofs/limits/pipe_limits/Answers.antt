use Rattle.std.proofs.Common.{arith, refl}
use Rattle.std.proofs.Math.Path.{fun_ext}
use Rattle.name_places.specs.ByName.{look}
use Rattle.network.proofs.PipeLimits.{limited_more, limited_all}
use Rattle.network.proofs.limits.pipe_limits.Goals as goal

pub loop-arc-init : goal.loop-arc-init
loop-arc-init c = rw c.no_values-limits.ensures (record { are = λ id. refl })

pub loop-arc-preserved : goal.loop-arc-preserved
loop-arc-preserved c =
    limited_more (look c.loop-arc.limits) (look c.add_limit.new.limits) c.args.arcs.now c.loop-arc.arc-index c.arc-item.result (omega (arith, c.loop-arc-test.true)) c.arc-item.is c.in_ok-add_limit.ensures c.loop-arc.invariant

pub returns : goal.returns
returns c = fun_ext (limited_all (look c.loop-arc.limits) c.args.arcs.now c.loop-arc.arc-index (omega (arith, c.loop-arc-test.false)) c.loop-arc.invariant)
