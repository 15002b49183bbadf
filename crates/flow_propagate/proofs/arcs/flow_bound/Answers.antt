use Rattle.std.proofs.Common.{◌≡◌, ◌∙◌}
use Rattle.flow_propagate.proofs.ArcFlows.{zero_bound}
use Rattle.flow_propagate.proofs.arcs.flow_bound.Goals as goal

pub returns-in_default : goal.returns-in_default
returns-in_default c = zero_bound c.args.form.now c.args.scale c.args.e c.args.low c.in_default.not-Drags
