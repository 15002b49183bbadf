-- What the rules expect after a fork, and what can be made of its children.
use Rattle.std.specs.Prelude.{◌≡◌, ◌≢◌, ℕ, ℤ, List, map, Some, slice_get}
use Rattle.gas_model.specs.declared.rows.PartState.{PartState}
use Rattle.gas_model.specs.Rows.{Network}
use Rattle.gas_model.specs.Boxes.{Bounds, BoxFits}
use Rattle.gas_model.specs.Choices.{PartFits}
use Rattle.gas_model.specs.Within.{IsWithin}
use Rattle.tree_cert.specs.declared.line.Head.{Head}
use Rattle.tree_cert.specs.TreeRules.{Holds}
use Rattle.tree_rules.specs.Rules.{PartBox}
use Rattle.tree_rules.specs.Branches.{headed, after_branch, rules_of}
use Rattle.tree_pool.specs.Rules.{AreExpected}
use Rattle.tree_pool.specs.Nodes.{branch_of}
use Rattle.box_split.specs.declared.forks.Fork.{Fork}
use Rattle.box_split.specs.declared.forks.Fork.TheVariants.{Least}
use Rattle.box_pool.specs.Forks.{by_of, heads_of, HasFork}
use Rattle.box_pool.specs.Origins.{CanPick, CanHalve}

-- the children of a box with these heads
abbrev pub kids_of : PartBox → List Head → List (Head × PartBox)
kids_of b heads = map (λ h. (h, headed b h)) heads

-- the branch is allowed, and its children are all that are expected
abbrev pub IsExpected : Network → PartBox → Fork → Type 0
IsExpected p b fork = Holds (after_branch p b (branch_of (by_of fork))) (λ w. AreExpected (rules_of p) w (kids_of b (heads_of p b.part fork)))

-- each child can be made
abbrev pub CanBegin : Network → PartState → Bounds → Fork → Type 0
CanBegin p part b fork = (k : ℕ) (h : Head) → slice_get (heads_of p part fork) k ≡ Some h → CanPick p part (Some h) × CanHalve b (Some h)

-- the branch of a fork is allowed, its children are those that it waits for, and each can be made
abbrev pub ForksAreExpected : Type 0
ForksAreExpected = (p : Network) (K : ℤ) (part : PartState) (b : Bounds) (turn : ℕ) (fork : Fork) → IsWithin p → PartFits p part → BoxFits p b → HasFork p part b turn fork → fork ≢ Least
    → IsExpected p (record { scale = K; part = part; bounds = b }) fork × CanBegin p part b fork
