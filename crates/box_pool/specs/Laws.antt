-- What holds of forks and their children, and of pools of problems.
use Rattle.std.specs.Prelude.{ℕ, List, []}
use Rattle.gas_model.specs.declared.rows.PartState.{PartState}
use Rattle.gas_model.specs.Rows.{Network}
use Rattle.gas_model.specs.Boxes.{Bounds, BoxFits}
use Rattle.gas_model.specs.Within.{IsWithin}
use Rattle.tree_cert.specs.Tree.{Tree}
use Rattle.tree_cert.specs.TreeRules.{Passes}
use Rattle.tree_rules.specs.Rules.{PartBox}
use Rattle.tree_rules.specs.Branches.{rules_of}
use Rattle.tree_pool.specs.Shown.{works, Shows}
use Rattle.tree_pool.specs.Laws.{ShowOneTree, IsWholeWhereNoneOpen}
use Rattle.box_split.specs.declared.forks.Fork.{Fork}
use Rattle.box_pool.specs.Forks.{IsForkOf, HasFork}
use Rattle.box_pool.specs.Pools.{Boxed}
use Rattle.box_pool.specs.PoolOf.{IsPoolOf}

abbrev pub ForksAreOf : Type 0
ForksAreOf = (p : Network) (part : PartState) (b : Bounds) (turn : ℕ) (fork : Fork) → IsWithin p → BoxFits p b → HasFork p part b turn fork → IsForkOf p fork

-- A pool of a problem and a root shows one tree and no other. It passes at that root, with no box left open exactly where
-- no box waits, is held or was left.
abbrev pub PoolsShowOneTree : Type 0
PoolsShowOneTree = (p : Network) (root : PartBox) (pool : Boxed) → IsPoolOf p root pool → ShowOneTree pool.rows × ((t : Tree) → Shows (works pool.rows) [] t → Passes (rules_of p) t root) × IsWholeWhereNoneOpen pool.rows
