use Rattle.search_reach.proofs.WidthLaws.{narrow_named}
use Rattle.search_reach.proofs.widths.named_boxes_are_narrow.Goals as goal

pub returns : goal.returns
returns c = narrow_named
