use Rattle.search_reach.proofs.HalfEach.{half_each_is_left}
use Rattle.search_reach.proofs.finest.shared_flow.Goals as goal

pub returns : goal.returns
returns c = half_each_is_left
