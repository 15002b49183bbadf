use Rattle.search_order.proofs.Stops.{full_stops}
use Rattle.search_order.proofs.laws.searches_stop.Goals as goal

pub returns : goal.returns
returns g c = full_stops g.S.Search.search
