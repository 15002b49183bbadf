use Rattle.search_reach.proofs.DepthLaw.{deep_stops}
use Rattle.search_reach.proofs.depth.stopped_searches_are_deep.Goals as goal

pub returns : goal.returns
returns c = deep_stops
