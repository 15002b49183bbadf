-- How far a search has come, and how it ends.
use Rattle.std.specs.Prelude.{◌≡◌, ◌≢◌, true, ℕ, ◌+◌, ◌≤◌, ℤ, List, length, Some, Result, Ok, Err, slice_get}
use Rattle.base_types.specs.declared.collections.NoMemory.{NoMemory}
use Rattle.gas_model.specs.Rows.{Network}
use Rattle.gas_model.specs.Near.{IsNear, SettingFits}
use Rattle.tree_cert.specs.declared.line.Head.{Head}
use Rattle.tree_cert.specs.declared.line.Step.{Step}
use Rattle.tree_rules.specs.Rules.{PartBox, closing_holds}
use Rattle.tree_rules.specs.Branches.{rules_of}
use Rattle.tree_pool.specs.Rows.{Row, Waiting, IsMap, NoneWaits, splits}
use Rattle.tree_pool.specs.Rules.{after_steps, IsOf}
use Rattle.stable_sweep.specs.Runs.{AreTurns}
use Rattle.box_split.specs.declared.forks.Fork.{Fork}
use Rattle.box_split.specs.declared.forks.Fork.TheVariants.{Least}
use Rattle.search_order.specs.Searches.{IsWorked, StopsAt, FirstQuit}
use Rattle.search_order.specs.Turns.{splits_by}
use Rattle.box_pool.specs.declared.pool.WorkEnd.{WorkEnd}
use Rattle.box_pool.specs.declared.pool.WorkEnd.TheVariants.{Shut, Split, Left}
use Rattle.box_pool.specs.declared.open_box.BoxView.{BoxView}
use Rattle.box_pool.specs.Grid.{pool_scale}
use Rattle.box_pool.specs.Forks.{HasFork}
use Rattle.box_pool.specs.Origins.{Origin, box_of, turn_of}
use Rattle.box_pool.specs.Pools.{Boxed, PoolFits, ViewFits, IsGiven, end_as, box_of_view}
use Rattle.nom_search.specs.Sought.{sought, IsCalm, IsLeast}
use Rattle.nom_search.specs.declared.searching.Turn.{Turn}
use Rattle.nom_search.specs.declared.searching.Turn.TheVariants as turn
use Rattle.nom_search.specs.declared.searching.Outcome.{Outcome}
use Rattle.nom_search.specs.declared.searching.Outcome.TheVariants as outcome
use Rattle.stable_sweep.specs.declared.sweep.Settled.{Settled}
use Rattle.stable_sweep.specs.Settling.{IsStable, SettledAs}

-- where it has a head, it is the child of a stable box
abbrev pub IsOfStable : Network → Origin → Type 0
IsOfStable p o = (h : Head) → o.head ≡ Some h → IsStable p (record { scale = pool_scale; part = o.part; bounds = o.bounds })

abbrev pub AreOfStable : Network → Boxed → Type 0
AreOfStable p pool = (n : ℕ) (o : Origin) → slice_get pool.origins n ≡ Some (Some o) → IsOfStable p o

-- each box that waits can be made where it comes from
pub record AreOrigins (p : Network) (pool : Boxed) (boxes : List PartBox) (turns : List ℕ) : Type 0 where
  pub fits : PoolFits p pool
  pub stable : AreOfStable p pool
  pub count : length pool.origins ≡ length pool.rows
  pub each : (n : ℕ) (r : Row) → slice_get pool.rows n ≡ Some r → r.standing ≡ Waiting
      → (o : Origin) × (slice_get pool.origins n ≡ Some (Some o)) × (slice_get boxes n ≡ Some (box_of pool_scale o)) × (slice_get turns n ≡ Some (turn_of o))

-- the search has worked the boxes of the pool of this root in their order
pub record IsSearched (p : Network) (tol : ℤ) (root : PartBox) (budget : ℕ) (pool : Boxed) : Type 0 where
  pub boxes : List PartBox
  pub turns : List ℕ
  pub worked : IsWorked (sought p tol) root budget pool.rows boxes turns
  pub origins : AreOrigins p pool boxes turns

-- the search stopped at box n for want of budget, and the pool is of this root, whose turn is 0
pub record IsStopped (p : Network) (tol : ℤ) (root : PartBox) (budget : ℕ) (pool : Boxed) (n : ℕ) : Type 0 where
  pub boxes : List PartBox
  pub turns : List ℕ
  pub map : IsMap pool.rows
  pub of_root : IsOf (rules_of p) root pool.rows boxes
  pub first : slice_get turns 0 ≡ Some 0
  pub stops : StopsAt (sought p tol) budget pool.rows boxes turns n

-- what is known of the box that is left, by the end of the work on it
abbrev pub IsEnd : Network → ℤ → BoxView → WorkEnd → Type 0
IsEnd p tol v (Shut c) = closing_holds p (box_of_view v) c ≡ true
IsEnd p tol v (Split fork) = IsCalm p tol (box_of_view v) × HasFork p v.part.value v.bounds.value v.turn fork × (fork ≢ Least)
IsEnd p tol v Left = IsCalm p tol (box_of_view v) × IsLeast p v.turn (box_of_view v)

-- these steps, each of which shrinks a width by an eighth, lead from a box to what is left of it
pub record LeadsTo (p : Network) (o : Origin) (steps : List Step) (v : BoxView) : Type 0 where
  pub fits : ViewFits p v
  pub turn : v.turn ≡ turn_of o
  pub moves : AreTurns p (box_of pool_scale o) steps
  pub after : after_steps (rules_of p) (box_of pool_scale o) steps ≡ Some (box_of_view v)

-- work was given back for box n
pub record IsWork (p : Network) (tol : ℤ) (budget : ℕ) (old new : Boxed) (n : ℕ) (end : WorkEnd) : Type 0 where
  pub origin : Origin
  pub here : slice_get old.origins n ≡ Some (Some origin)
  pub steps : List Step
  pub view : BoxView
  pub leads : LeadsTo p origin steps view
  pub known : IsEnd p tol view end
  pub given : IsGiven p old new n steps end view
  pub room : splits old.rows + splits_by (end_as p view.part.value end) ≤ budget

-- box n was left open for want of budget
pub record IsUnpaid (p : Network) (tol : ℤ) (budget : ℕ) (old new : Boxed) (n : ℕ) : Type 0 where
  pub origin : Origin
  pub here : slice_get old.origins n ≡ Some (Some origin)
  pub steps : List Step
  pub view : BoxView
  pub leads : LeadsTo p origin steps view
  pub calm : IsCalm p tol (box_of_view view)
  pub fork : Fork
  pub has : HasFork p view.part.value view.bounds.value view.turn fork
  pub wide : fork ≢ Least
  pub spent : budget ≤ splits old.rows
  pub given : IsGiven p old new n steps Left view

-- what a turn for box n comes to
abbrev pub Turns : Network → ℤ → ℕ → Boxed → Boxed → ℕ → Result Turn NoMemory → Type 0
Turns p tol budget old new n (Ok turn.Done) = (end : WorkEnd) × (end ≢ Left) × IsWork p tol budget old new n end
Turns p tol budget old new n (Ok turn.Least) = IsWork p tol budget old new n Left
Turns p tol budget old new n (Ok turn.Full) = IsUnpaid p tol budget old new n
Turns p tol budget old new n (Ok (turn.Carried s)) = IsNear p tol s × SettingFits p s × (new ≡ old)
Turns p tol budget old new n (Err e) = new ≡ old

-- a view, settled by these steps
pub record IsSettled (p : Network) (old new : BoxView) (steps : List Step) (end : Settled) : Type 0 where
  pub fits : ViewFits p new
  pub part : new.part ≡ old.part
  pub shape : new.shape ≡ old.shape
  pub turn : new.turn ≡ old.turn
  pub moves : AreTurns p (box_of_view old) steps
  pub after : after_steps (rules_of p) (box_of_view old) steps ≡ Some (box_of_view new)
  pub ends : SettledAs p (box_of_view new) end

-- how the boxes of a pool end
abbrev pub Ends : Network → ℤ → PartBox → ℕ → Boxed → Result Outcome NoMemory → Type 0
Ends p tol root budget new (Ok (outcome.Dry first)) = IsSearched p tol root budget new × NoneWaits new.rows × FirstQuit new.rows first
Ends p tol root budget new (Ok (outcome.Full n)) = IsStopped p tol root budget new n
Ends p tol root budget new (Ok (outcome.Carried s)) = IsNear p tol s × SettingFits p s
Ends p tol root budget new (Err e) = Unit {0}
