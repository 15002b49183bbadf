-- Five small problems with trees that pass by their rules, and trees that don't.
use Rattle.std.specs.Prelude.{ℕ, ℤ, pos, negsuc, List, [], ◌∷◌, codes, Bool, true, false}
use Rattle.gas_model.specs.declared.rows.NodeRow.{NodeRow}
use Rattle.gas_model.specs.declared.rows.ArcRow.{ArcRow}
use Rattle.gas_model.specs.declared.rows.ArcKind.{ArcKind}
use Rattle.gas_model.specs.declared.rows.ArcKind.TheVariants as kinds
use Rattle.base_types.specs.declared.states.ArcState.TheVariants.{Shut, Active, Bypass}
use Rattle.base_types.specs.declared.states.Allow.TheVariants as allow
use Rattle.base_types.specs.declared.variables.Var.{Var}
use Rattle.base_types.specs.declared.variables.Var.TheVariants.{Flow, Square}
use Rattle.gas_model.specs.Rows.{Network}
use Rattle.tree_cert.specs.declared.line.Rule.{Rule}
use Rattle.tree_cert.specs.declared.line.Rule.TheVariants as rules
use Rattle.tree_cert.specs.declared.line.Step.{Step}
use Rattle.tree_cert.specs.declared.line.Closing.{Closing}
use Rattle.tree_cert.specs.declared.line.Closing.TheVariants.{Empty, Cut, At}
use Rattle.tree_cert.specs.declared.line.Head.TheVariants.{Take, State}
use Rattle.tree_cert.specs.declared.line.Line.{Line}
use Rattle.tree_cert.specs.declared.line.Line.TheVariants as lines
use Rattle.tree_cert.specs.Tree.{Tree, Then, Shut as ShutBy}
use Rattle.tree_cert.specs.TreeRules.{Passes, PassesWhole}
use Rattle.tree_rules.specs.Branches.{rules_of, root_box}

-- a node with pressures and supplies from the first to the second of each
abbrev pub node : List ℕ → (p_min p_max b_min b_max : ℤ) → NodeRow
node id p_min p_max b_min b_max = record { id = id; p_min = p_min; p_max = p_max; b_min = b_min; b_max = b_max }

-- an arc from the first node to the second
abbrev pub arc : List ℕ → (q_min q_max : ℤ) → ArcKind → ArcRow
arc id q_min q_max kind = record { id = id; from = 0; to = 1; q_min = q_min; q_max = q_max; kind = kind }

-- two nodes and an arc, without groups
abbrev pub two_nodes : NodeRow → NodeRow → ArcRow → Network
two_nodes a b row = record { nodes = a ∷ b ∷ []; arcs = row ∷ []; groups = [] }

abbrev pub step : Var → Bool → ℤ → Rule → ℕ → Step
step var low value rule place = record { var = var; low = low; value = value; rule = rule; place = place }

-- the lower and the upper end of the first flow become C by the balance of the first node
abbrev pub low_flow : ℤ → Step
low_flow C = step (Flow 0) true C rules.Balance 0

abbrev pub high_flow : ℤ → Step
high_flow C = step (Flow 0) false C rules.Balance 0

-- both ends of the flow, one after another, and then the end of the box
abbrev pub flow_known : ℤ → Closing → Tree
flow_known C c = Then (high_flow C) (Then (low_flow C) (ShutBy c))

-- ---- a pipe that is to carry 4 with a drop of 9 at most
abbrev pub piped : Network
piped =
    two_nodes (node (codes "a") (pos 5) (pos 5) (pos 4) (pos 4)) (node (codes "b") (pos 4) (pos 9) (negsuc 3) (negsuc 3))
    (arc (codes "p") (negsuc 9) (pos 10) (kinds.Pipe (record { lo = pos 1; hi = pos 1; den = pos 1 })))

abbrev pub DropOfNineCannotCarryFour : Type 0
DropOfNineCannotCarryFour =
    PassesWhole (rules_of piped) (lines.First ∷ lines.Step (low_flow (pos 4)) ∷ lines.Step (high_flow (pos 4)) ∷ lines.Close (At rules.Pipe 0) ∷ lines.End ∷ [])

-- the first step claims more than the balance gives
abbrev pub FlowOfFiveIsNotKnown : Type 0
FlowOfFiveIsNotKnown = Passes (rules_of piped) (Then (low_flow (pos 5)) (Then (high_flow (pos 4)) (ShutBy (At rules.Pipe 0)))) (root_box (pos 1) piped) → ⊥

-- ---- a station that is to raise 4 Pa to 7, by at most one half
abbrev pub compressed : Network
compressed =
    two_nodes (node (codes "a") (pos 4) (pos 4) (pos 1) (pos 1)) (node (codes "b") (pos 7) (pos 7) (negsuc 0) (negsuc 0))
    (arc (codes "c") (pos 0) (pos 10) (kinds.Station (pos 0) (pos 100000000) (pos 3) (pos 2) (pos 100000000)))

-- the text, where a flow of 1 is `one` units and a square of 17 or next above 16 is `more`
abbrev pub station_lines : Line → (one more : ℤ) → List Line
station_lines first one more =
    first ∷ lines.Step (high_flow one) ∷ lines.Step (low_flow one) ∷ lines.Arc 0
    ∷ lines.Head (State 0 Active) ∷ lines.Close (At rules.Ratio 0)
    ∷ lines.Head (State 0 Bypass) ∷ lines.Step (step (Square 0) true more rules.Equal 0) ∷ lines.Close (Empty (Square 0))
    ∷ lines.Head (State 0 Shut) ∷ lines.Close (Cut (0 ∷ [])) ∷ lines.End ∷ []

abbrev pub RatioOfThreeHalvesCannotRaiseFourToSeven : Type 0
RatioOfThreeHalvesCannotRaiseFourToSeven = PassesWhole (rules_of compressed) (station_lines lines.First (pos 1) (pos 17))

abbrev pub TheSameInSixteenths : Type 0
TheSameInSixteenths = PassesWhole (rules_of compressed) (station_lines lines.FirstSixteenths (pos 16) (pos 257))

-- ---- a valve that its only decision shuts
abbrev pub decided : Network
decided = record {
  nodes = node (codes "a") (pos 0) (pos 9) (pos 3) (pos 3) ∷ node (codes "b") (pos 0) (pos 9) (negsuc 2) (negsuc 2) ∷ [];
  arcs = arc (codes "v") (negsuc 9) (pos 10) kinds.Valve ∷ [];
  groups = record { id = codes "g"; decisions = record { id = codes "d"; sets = (0, allow.Shut) ∷ [] } ∷ [] } ∷ [];
}

abbrev pub ShutValveCutsTheDemand : Type 0
ShutValveCutsTheDemand =
    PassesWhole (rules_of decided) (lines.First ∷ lines.Step (low_flow (pos 3)) ∷ lines.Step (high_flow (pos 3)) ∷ lines.Group 0
    ∷ lines.Head (Take 0 0) ∷ lines.Close (Cut (0 ∷ [])) ∷ lines.End ∷ [])

-- ---- a control valve that is to reduce 9 Pa to 8, by at least 2
abbrev pub controlled : Network
controlled =
    two_nodes (node (codes "a") (pos 9) (pos 9) (pos 1) (pos 1)) (node (codes "b") (pos 8) (pos 8) (negsuc 0) (negsuc 0))
    (arc (codes "c") (pos 0) (pos 10) (kinds.Control (pos 0) (pos 100000000) (pos 2) (pos 3)))

abbrev pub ReductionByTwoCannotGiveNineToEight : Type 0
ReductionByTwoCannotGiveNineToEight =
    PassesWhole (rules_of controlled) (lines.First ∷ lines.Step (high_flow (pos 1)) ∷ lines.Step (low_flow (pos 1)) ∷ lines.Arc 0
    ∷ lines.Head (State 0 Active) ∷ lines.Close (At rules.Fall 0)
    ∷ lines.Head (State 0 Bypass) ∷ lines.Step (step (Square 0) false (pos 80) rules.Equal 0) ∷ lines.Close (Empty (Square 0))
    ∷ lines.Head (State 0 Shut) ∷ lines.Close (Cut (0 ∷ [])) ∷ lines.End ∷ [])

-- ---- a loss of 2 Pa between 5 Pa and 4 to 9
abbrev pub losing : Network
losing =
    two_nodes (node (codes "a") (pos 5) (pos 5) (pos 1) (pos 1)) (node (codes "b") (pos 4) (pos 9) (negsuc 0) (negsuc 0))
    (arc (codes "r") (negsuc 9) (pos 10) (kinds.Loss (pos 2) (pos 2)))

abbrev pub LossOfTwoCannotGiveFiveToFour : Type 0
LossOfTwoCannotGiveFiveToFour =
    PassesWhole (rules_of losing) (lines.First ∷ lines.Step (high_flow (pos 1)) ∷ lines.Step (low_flow (pos 1)) ∷ lines.Close (At rules.Drop 0) ∷ lines.End ∷ [])

-- 4 Pa lies within 2 Pa of 5 Pa
abbrev pub FourIsInReachOfFive : Type 0
FourIsInReachOfFive = Passes (rules_of losing) (flow_known (pos 1) (At rules.Reach 0)) (root_box (pos 1) losing) → ⊥

-- the loss closes nothing as long as the lower end of the flow isn't known
abbrev pub LossNeedsADirection : Type 0
LossNeedsADirection = Passes (rules_of losing) (Then (high_flow (pos 1)) (ShutBy (At rules.Drop 0))) (root_box (pos 1) losing) → ⊥

-- ---- the same loss, where 8 Pa at least are wanted
abbrev pub losing_more : Network
losing_more =
    two_nodes (node (codes "a") (pos 5) (pos 5) (pos 1) (pos 1)) (node (codes "b") (pos 8) (pos 9) (negsuc 0) (negsuc 0))
    (arc (codes "r") (negsuc 9) (pos 10) (kinds.Loss (pos 2) (pos 2)))

abbrev pub EightIsOutOfReachOfFive : Type 0
EightIsOutOfReachOfFive =
    PassesWhole (rules_of losing_more) (lines.First ∷ lines.Step (high_flow (pos 1)) ∷ lines.Step (low_flow (pos 1)) ∷ lines.Close (At rules.Reach 0) ∷ lines.End ∷ [])
