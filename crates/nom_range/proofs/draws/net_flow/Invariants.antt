use Rattle.std.proofs.Common.{◌^◌}
use Rattle.gas_model.specs.Near.{number_at}
use Rattle.gas_model.proofs.NodeSums.{NetSums}
use Rattle.nom_range.proofs.draws.net_flow.Given as goal

abbrev pub invariant-loop-arc : goal.invariant-loop-arc
invariant-loop-arc l = NetSums (10 ^ 12) (number_at l.setting.flows) (number_at l.setting.flows) l.p.arcs l.node l.at l.arc-index l.total
