use Rattle.search_order.proofs.Grown.{search_begins, turns_keep}
use Rattle.search_order.proofs.Counts.{turns_shrink}
use Rattle.search_order.proofs.Quits.{first_quit_stays}
use Rattle.search_order.proofs.Stops.{full_stops}
use Rattle.search_order.proofs.Depth.{stops_deep}
use Rattle.nom_search.specs.Sought.{sought}
use Rattle.nom_search.proofs.laws.problems_are_searched_in_order.Goals as goal

pub returns-clause-begins : goal.returns-clause-begins
returns-clause-begins c = λ p tol. search_begins (sought p tol)

pub returns-clause-turns : goal.returns-clause-turns
returns-clause-turns c = λ p tol. turns_keep (sought p tol)

pub returns-clause-shrinks : goal.returns-clause-shrinks
returns-clause-shrinks c = λ p tol. turns_shrink (sought p tol)

pub returns-clause-first : goal.returns-clause-first
returns-clause-first c = λ p tol. first_quit_stays (sought p tol)

pub returns-clause-stops : goal.returns-clause-stops
returns-clause-stops c = λ p tol. full_stops (sought p tol)

pub returns-clause-deep : goal.returns-clause-deep
returns-clause-deep c = λ p tol. stops_deep (sought p tol)
