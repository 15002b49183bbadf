use Rattle.search_order.proofs.Counts.{turns_shrink}
use Rattle.search_order.proofs.laws.turns_shrink.Goals as goal

pub returns : goal.returns
returns g c = turns_shrink g.S.Search.search
