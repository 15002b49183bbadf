use Rattle.search_order.proofs.Quits.{first_quit_stays}
use Rattle.search_order.proofs.laws.first_left_stays.Goals as goal

pub returns : goal.returns
returns g c = first_quit_stays g.S.Search.search
