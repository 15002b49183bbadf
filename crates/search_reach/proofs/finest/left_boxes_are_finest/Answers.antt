use Rattle.search_reach.proofs.FinestLaws.{left_are_finest}
use Rattle.search_reach.proofs.finest.left_boxes_are_finest.Goals as goal

pub returns : goal.returns
returns c = left_are_finest
