-- What holds of each search in breadth-first order.
use Rattle.std.specs.Prelude.{◌≡◌, ℕ, ◌+◌, ◌*◌, ◌-◌, ◌<◌, ◌≤◌, List, [], ◌∷◌, length, Option, Some, None}
use Rattle.tree_pool.specs.declared.node.WorkEnd.{WorkEnd}
use Rattle.tree_pool.specs.declared.node.WorkEnd.TheVariants as ends
use Rattle.tree_pool.specs.Rows.{Row, Held, IsMap, IsFirstWaiting, first_row, update, stand, splits}
use Rattle.tree_pool.specs.Rules.{Boxes, IsOf}
use Rattle.search_order.specs.Searches.{SearchRules, IsWorked, StopsAt, FirstQuit}
use Rattle.search_order.specs.Turns.{IsTurn, IsFull, remains}
use Rattle.search_order.specs.Levels.{levels, IsNarrow}

-- a new pool is one that the search has worked
abbrev pub SearchBegins : SearchRules → Type 0
SearchBegins s = (root : s.tree.Box) (budget : ℕ) → IsWorked s root budget (first_row ∷ []) (root ∷ []) (0 ∷ [])

-- a turn for the first waiting box keeps that it is
abbrev pub TurnsKeep : SearchRules → Type 0
TurnsKeep s = (root : s.tree.Box) (most budget : ℕ) (rows : List Row) (boxes : Boxes s.tree) (turns : List ℕ) (new : List Row) (boxes2 : Boxes s.tree) (turns2 : List ℕ) (n : ℕ) (end : WorkEnd)
    → IsWorked s root budget rows boxes turns → IsFirstWaiting rows n → IsTurn s most budget (update rows n (stand Held)) boxes turns new boxes2 turns2 n end → IsWorked s root budget new boxes2 turns2

-- and leaves less to do, within the numbers that were free
abbrev pub TurnsShrink : SearchRules → Type 0
TurnsShrink s = (root : s.tree.Box) (most budget : ℕ) (rows : List Row) (boxes : Boxes s.tree) (turns : List ℕ) (new : List Row) (boxes2 : Boxes s.tree) (turns2 : List ℕ) (n : ℕ) (end : WorkEnd)
    → IsFirstWaiting rows n → IsTurn s most budget (update rows n (stand Held)) boxes turns new boxes2 turns2 n end
    → (remains most budget new < remains most budget rows) × (splits new ≤ budget) × (length new + most * (budget - splits new) ≤ length rows + most * (budget - splits rows))

-- the first box that was left open for good is the first for which the work ended so
abbrev pub quit_then : Option ℕ → ℕ → WorkEnd → Option ℕ
quit_then (Some m) n end = Some m
quit_then None n (ends.Shut c) = None
quit_then None n (ends.Split by heads) = None
quit_then None n ends.Left = Some n

abbrev pub FirstQuitStays : SearchRules → Type 0
FirstQuitStays s = (root : s.tree.Box) (most budget : ℕ) (rows : List Row) (boxes : Boxes s.tree) (turns : List ℕ) (new : List Row) (boxes2 : Boxes s.tree) (turns2 : List ℕ) (n : ℕ) (end : WorkEnd) (quit : Option ℕ)
    → IsWorked s root budget rows boxes turns → IsFirstWaiting rows n → IsTurn s most budget (update rows n (stand Held)) boxes turns new boxes2 turns2 n end → FirstQuit rows quit → FirstQuit new (quit_then quit n end)

-- where the first waiting box is left for want of budget, the search stops there, and the pool is still of its root
abbrev pub FullStops : SearchRules → Type 0
FullStops s = (root : s.tree.Box) (budget : ℕ) (rows : List Row) (boxes : Boxes s.tree) (turns : List ℕ) (new : List Row) (n : ℕ)
    → IsWorked s root budget rows boxes turns → IsFirstWaiting rows n → IsFull s budget (update rows n (stand Held)) boxes turns new n → StopsAt s budget new boxes turns n × IsMap new × IsOf s.tree root new boxes

-- the box at which it stops is deeper than each depth down to which the budget pays for all boxes
abbrev pub StopsDeep : SearchRules → Type 0
StopsDeep s = (m : ℕ → ℕ) (budget : ℕ) (rows : List Row) (boxes : Boxes s.tree) (turns : List ℕ) (n : ℕ)
    → IsMap rows → IsNarrow m rows → (stop : StopsAt s budget rows boxes turns n) → (k : ℕ) → levels m k ≤ budget → k < length stop.row.path
