use Rattle.search_order.proofs.Grown.{search_begins}
use Rattle.search_order.proofs.laws.search_begins.Goals as goal

pub returns : goal.returns
returns g c = search_begins g.S.Search.search
