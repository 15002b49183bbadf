-- What the search of a problem asks of boxes.
use Rattle.std.specs.Prelude.{◌≡◌, ◌≢◌, ℕ, ℤ, List}
use Rattle.gas_model.specs.declared.rows.Setting.{Setting}
use Rattle.gas_model.specs.Rows.{Network}
use Rattle.gas_model.specs.Near.{IsNear}
use Rattle.tree_cert.specs.declared.line.Head.{Head}
use Rattle.tree_cert.specs.Tree.{Branch}
use Rattle.tree_rules.specs.Rules.{PartBox}
use Rattle.tree_rules.specs.Branches.{rules_of}
use Rattle.tree_pool.specs.Nodes.{branch_of}
use Rattle.search_order.specs.Searches.{SearchRules}
use Rattle.stable_sweep.specs.Runs.{AreTurns}
use Rattle.stable_sweep.specs.Settling.{IsStable}
use Rattle.probe_point.specs.Points.{IsProbe}
use Rattle.box_split.specs.declared.forks.Fork.{Fork}
use Rattle.box_split.specs.declared.forks.Fork.TheVariants.{Least}
use Rattle.box_pool.specs.Forks.{by_of, heads_of, next_of, HasFork}

-- what is tried in a box fails: its probe isn't near
pub record IsFar (p : Network) (tol : ℤ) (b : PartBox) : Type 0 where
  pub setting : Setting
  pub probe : IsProbe b.scale p b.part b.bounds setting
  pub far : IsNear p tol setting → ⊥

-- the box is stable, and its probe isn't near
pub record IsCalm (p : Network) (tol : ℤ) (b : PartBox) : Type 0 where
  pub stable : IsStable p b
  pub far : IsFar p tol b

abbrev pub IsLeast : Network → ℕ → PartBox → Type 0
IsLeast p turn b = HasFork p b.part b.bounds turn Least

-- with this turn the box is split by this branch, and its children have these heads and this turn
pub record IsSplitBy (p : Network) (turn : ℕ) (b : PartBox) (branch : Branch) (heads : List Head) (next : ℕ) : Type 0 where
  pub fork : Fork
  pub has : HasFork p b.part b.bounds turn fork
  pub wide : fork ≢ Least
  pub branch_is : branch ≡ branch_of (by_of fork)
  pub heads_are : heads ≡ heads_of p b.part fork
  pub next_is : next ≡ next_of fork

-- Each step shrinks its width by an eighth. A box that is split or left open for good is stable, its probe isn't near, and
-- its fork is the one of its turn.
abbrev pub sought : Network → ℤ → SearchRules
sought p tol = record {
  tree = rules_of p;
  moves = AreTurns p;
  still = λ b. tt;
  calm = IsCalm p tol;
  least = IsLeast p;
  forks = IsSplitBy p;
}
