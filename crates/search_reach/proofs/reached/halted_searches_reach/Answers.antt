use Rattle.search_reach.proofs.Reaching.{halted_reach}
use Rattle.search_reach.proofs.reached.halted_searches_reach.Goals as goal

pub returns : goal.returns
returns c = halted_reach
