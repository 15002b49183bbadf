use Rattle.std.proofs.Common.{◌+◌, ◌-◌, ◌*◌, ◌<◌, ◌≤◌, ◌^◌, length, pos}
use Rattle.tree_rules.specs.Rules.{PartBox}
use Rattle.tree_pool.specs.Rows.{splits}
use Rattle.search_order.specs.Searches.{FirstQuit}
use Rattle.search_order.specs.Turns.{remains}
use Rattle.box_pool.specs.PoolOf.{IsPoolOf}
use Rattle.nom_search.specs.LastChoices.{AreTools}
use Rattle.nom_search.specs.Searched.{IsSearched}
use Rattle.nom_search.proofs.searching.drain.Given as goal

abbrev pub invariant-loop-id : goal.invariant-loop-id
invariant-loop-id l = record {
  tools : AreTools l.p l.tools;
  within : splits l.pool.rows ≤ l.boxes;
  room : length l.pool.rows + 1024 * (l.boxes - splits l.pool.rows) + 1024 < 2 ^ 32;
  first : FirstQuit l.pool.rows l.first;
  whole : (root : PartBox) → IsPoolOf l.p root l.fn.pool → IsPoolOf l.p root l.pool;
  kept : (root : PartBox) → IsSearched l.p (pos l.tol) root l.boxes l.fn.pool → IsSearched l.p (pos l.tol) root l.boxes l.pool;
}

abbrev pub decreases-loop-id : goal.decreases-loop-id
decreases-loop-id l = remains 1024 l.boxes l.pool.rows
