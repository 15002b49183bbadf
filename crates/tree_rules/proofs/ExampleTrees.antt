-- The trees of the examples.
use Rattle.std.proofs.Common.{ℤ, pos, [], ◌∷◌, true, false}
use Rattle.base_types.specs.declared.states.ArcState.TheVariants.{Shut, Active, Bypass}
use Rattle.base_types.specs.declared.variables.Var.TheVariants.{Square}
use Rattle.tree_cert.specs.declared.line.Rule.TheVariants as rules
use Rattle.tree_cert.specs.declared.line.Step.{Step}
use Rattle.tree_cert.specs.declared.line.Closing.{Closing}
use Rattle.tree_cert.specs.declared.line.Closing.TheVariants.{Empty, Cut, At}
use Rattle.tree_cert.specs.declared.line.Head.TheVariants.{Take, State}
use Rattle.tree_cert.specs.Tree.{Tree, Then, Shut as ShutBy, Split, ByGroup, ByArc, Child, NoChild}
use Rattle.tree_rules.specs.Examples.{low_flow, high_flow, step}

-- both ends of the flow become `one`, and then the arc is active, in bypass or shut: in bypass the step closes the box
abbrev pub by_states : ℤ → Closing → Step → Tree
by_states one active bypass =
    Then (high_flow one) (Then (low_flow one) (Split (ByArc 0)
    (Child (State 0 Active) (ShutBy active)
    (Child (State 0 Bypass) (Then bypass (ShutBy (Empty (Square 0))))
    (Child (State 0 Shut) (ShutBy (Cut (0 ∷ [])))
    NoChild)))))

abbrev pub station_tree : ℤ → ℤ → Tree
station_tree one more = by_states one (At rules.Ratio 0) (step (Square 0) true more rules.Equal 0)

abbrev pub control_tree : Tree
control_tree = by_states (pos 1) (At rules.Fall 0) (step (Square 0) false (pos 80) rules.Equal 0)

abbrev pub group_tree : Tree
group_tree = Then (low_flow (pos 3)) (Then (high_flow (pos 3)) (Split (ByGroup 0) (Child (Take 0 0) (ShutBy (Cut (0 ∷ []))) NoChild)))

abbrev pub closed_at_once : Step → Step → Closing → Tree
closed_at_once s t c = Then s (Then t (ShutBy c))
