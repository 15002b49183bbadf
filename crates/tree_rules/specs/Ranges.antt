-- The values that a step may give, whatever its condition says, and what a cut asks for.
use Rattle.std.specs.Prelude.{◌≡◌, ℤ, pos, negsuc, [], ◌∷◌, codes, Bool, true, false}
use Rattle.gas_model.specs.declared.rows.ArcKind.{ArcKind}
use Rattle.gas_model.specs.declared.rows.ArcKind.TheVariants as kinds
use Rattle.base_types.specs.declared.states.ArcState.TheVariants.{Active}
use Rattle.gas_model.specs.declared.rows.Ends.{Ends}
use Rattle.gas_model.specs.declared.rows.PartState.{PartState}
use Rattle.base_types.specs.declared.variables.Var.TheVariants.{Flow, Square}
use Rattle.gas_model.specs.Rows.{Network}
use Rattle.gas_model.specs.Choices.{fresh_part}
use Rattle.gas_model.specs.Boxes.{opening}
use Rattle.tree_cert.specs.declared.line.Rule.{Rule}
use Rattle.tree_cert.specs.declared.line.Rule.TheVariants as rules
use Rattle.tree_rules.specs.Rules.{PartBox, step_holds, cuts}
use Rattle.tree_rules.specs.Branches.{with_pick, with_state, root_box}
use Rattle.tree_rules.specs.Examples.{node, arc, two_nodes, step, piped, decided}
use Rattle.tree_rules.specs.Values.{ends}

-- the pipe of the first example, which is to carry 4, with other ends of its flow
abbrev pub carrying : Ends → PartBox
carrying e = record { scale = pos 1; part = fresh_part piped; bounds = record { flows = e ∷ []; squares = (opening (pos 1) piped).squares } }

abbrev pub low_becomes : Ends → ℤ → Bool
low_becomes e C = step_holds piped (carrying e) (step (Flow 0) true C rules.Balance 0)

abbrev pub high_becomes : Ends → ℤ → Bool
high_becomes e C = step_holds piped (carrying e) (step (Flow 0) false C rules.Balance 0)

-- An end moves inward, and at most one past the other end. The balance asks for 4, which is more than 0 to 1 and less than 6 to 8.
pub record StepsMoveInward : Type 0 where
  pub same : low_becomes (ends (pos 0) (pos 1)) (pos 0) ≡ false
  pub inward : low_becomes (ends (pos 0) (pos 1)) (pos 1) ≡ true
  pub one_past : low_becomes (ends (pos 0) (pos 1)) (pos 2) ≡ true
  pub further : low_becomes (ends (pos 0) (pos 1)) (pos 3) ≡ false
  pub same_high : high_becomes (ends (pos 6) (pos 8)) (pos 8) ≡ false
  pub inward_high : high_becomes (ends (pos 6) (pos 8)) (pos 7) ≡ true
  pub one_past_high : high_becomes (ends (pos 6) (pos 8)) (pos 5) ≡ true
  pub further_high : high_becomes (ends (pos 6) (pos 8)) (pos 4) ≡ false

-- an arc of a kind between 4 Pa at most and 7 Pa
abbrev pub between : ArcKind → Network
between kind =
    two_nodes (node (codes "a") (pos 0) (pos 4) (pos 1) (pos 1)) (node (codes "b") (pos 7) (pos 7) (negsuc 0) (negsuc 0)) (arc (codes "c") (pos 0) (pos 10) kind)

-- a station that raises the pressure by at most 3 Pa, a control valve that reduces it by 2 to 3 Pa, and a loss of as much
abbrev pub raising : Network
raising = between (kinds.Station (pos 0) (pos 100000000) (pos 3) (pos 2) (pos 3))

abbrev pub reducing : Network
reducing = between (kinds.Control (pos 0) (pos 100000000) (pos 2) (pos 3))

abbrev pub losing : Network
losing = between (kinds.Loss (pos 2) (pos 3))

-- the lower end of the first square, which is -5, becomes C by a rule of the arc, along which 1 to 10 flow
abbrev pub low_square : Network → PartState → Rule → ℤ → Bool
low_square p part rule C =
    step_holds p (record { scale = pos 1; part = part; bounds = record { flows = ends (pos 1) (pos 10) ∷ []; squares = ends (negsuc 4) (pos 16) ∷ ends (pos 49) (pos 49) ∷ [] } })
    (step (Square 0) true C rule 0)

-- the state in which the arc is active
abbrev pub active : Network → PartState
active p = with_state (fresh_part p) 0 Active

-- A rule with roots gives no value below 0, though its condition holds there; and no rule of an arc gives any as long as its
-- state isn't fixed.
pub record RulesKeepTheirSign : Type 0 where
  pub rise : low_square raising (active raising) rules.Rise (negsuc 0) ≡ false
  pub rise_zero : low_square raising (active raising) rules.Rise (pos 0) ≡ true
  pub fall : low_square reducing (active reducing) rules.Fall (negsuc 0) ≡ false
  pub fall_zero : low_square reducing (active reducing) rules.Fall (pos 0) ≡ true
  pub reach : low_square losing (fresh_part losing) rules.Reach (negsuc 0) ≡ false
  pub reach_zero : low_square losing (fresh_part losing) rules.Reach (pos 0) ≡ true
  pub drop : low_square losing (fresh_part losing) rules.Drop (negsuc 0) ≡ false
  pub drop_zero : low_square losing (fresh_part losing) rules.Drop (pos 0) ≡ true
  pub along : low_square losing (fresh_part losing) rules.Along (negsuc 0) ≡ true
  pub ratio : low_square raising (active raising) rules.Ratio (negsuc 0) ≡ true
  pub not_fixed : low_square raising (fresh_part raising) rules.Ratio (negsuc 0) ≡ false

-- a step or a closing names a variable, a node and an arc of the problem
pub record StepsNameTheirPlace : Type 0 where
  pub fine : step_holds piped (root_box (pos 1) piped) (step (Flow 0) true (pos 4) rules.Balance 0) ≡ true
  pub no_node : step_holds piped (root_box (pos 1) piped) (step (Flow 0) true (pos 4) rules.Balance 2) ≡ false
  pub no_arc : step_holds piped (root_box (pos 1) piped) (step (Square 1) false (pos 25) rules.Pipe 1) ≡ false
  pub no_flow : step_holds piped (root_box (pos 1) piped) (step (Flow 1) true (pos 4) rules.Balance 0) ≡ false
  pub no_square : step_holds piped (root_box (pos 1) piped) (step (Square 2) true (pos 0) rules.Pipe 0) ≡ false

abbrev pub shut : PartState
shut = with_pick (fresh_part decided) 0 0

-- A cut has at least one node, strictly ascending and of the problem; all arcs from it to other nodes are fixed as shut; and its
-- nodes can't balance together.
pub record CutsAskForAllThis : Type 0 where
  pub source : cuts decided shut (0 ∷ []) ≡ true
  pub sink : cuts decided shut (1 ∷ []) ≡ true
  pub both : cuts decided shut (0 ∷ 1 ∷ []) ≡ false
  pub none : cuts decided shut [] ≡ false
  pub twice : cuts decided shut (0 ∷ 0 ∷ []) ≡ false
  pub down : cuts decided shut (1 ∷ 0 ∷ []) ≡ false
  pub no_node : cuts decided shut (0 ∷ 2 ∷ []) ≡ false
  pub not_fixed : cuts decided (fresh_part decided) (0 ∷ []) ≡ false
