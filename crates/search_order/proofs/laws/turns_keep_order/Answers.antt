use Rattle.search_order.proofs.Grown.{turns_keep}
use Rattle.search_order.proofs.laws.turns_keep_order.Goals as goal

pub returns : goal.returns
returns g c = turns_keep g.S.Search.search
