-- The box at which a search stops lies deep.
use Rattle.search_order.proofs.Depth.{stops_deep}
use Rattle.nom_search.specs.Sought.{sought}
use Rattle.search_reach.specs.Depth.{StoppedSearchesAreDeep, children_at}
use Rattle.search_reach.proofs.DepthTree.{narrow}

pub deep_stops : StoppedSearchesAreDeep
deep_stops p tol budget rows text line h k paid =
    stops_deep (sought p tol) (children_at p) budget rows h.boxes h.turns h.named h.map (narrow p tol budget rows h.boxes h.turns h.named h.map h.of_root h.halts) h.halts k paid
