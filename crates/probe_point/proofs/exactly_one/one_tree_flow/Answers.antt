use Rattle.probe_point.proofs.Unique.{one_tree_flow}
use Rattle.probe_point.proofs.exactly_one.one_tree_flow.Goals as goal

pub returns : goal.returns
returns c = one_tree_flow
