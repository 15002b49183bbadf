use Rattle.search_order.proofs.Depth.{stops_deep}
use Rattle.search_order.proofs.laws.stopped_boxes_are_deep.Goals as goal

pub returns : goal.returns
returns g c = stops_deep g.S.Search.search
