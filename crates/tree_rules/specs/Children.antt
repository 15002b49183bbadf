-- The children of branches of small problems.
use Rattle.std.specs.Prelude.{◌≡◌, ℕ, pos, negsuc, List, [], ◌∷◌, codes, Bool, true, false, Some, None, is_some}
use Rattle.base_types.specs.declared.states.ArcState.TheVariants.{Shut, Active, Bypass}
use Rattle.base_types.specs.declared.states.Allow.{Allow}
use Rattle.base_types.specs.declared.states.Allow.TheVariants as allow
use Rattle.gas_model.specs.declared.rows.Decision.{Decision}
use Rattle.base_types.specs.declared.variables.Var.TheVariants.{Flow, Square}
use Rattle.gas_model.specs.Rows.{Network}
use Rattle.gas_model.specs.Choices.{fresh_part}
use Rattle.tree_cert.specs.declared.line.Head.{Head}
use Rattle.tree_cert.specs.declared.line.Head.TheVariants.{Take, State, Half}
use Rattle.tree_rules.specs.Rules.{PartBox}
use Rattle.tree_rules.specs.Branches.{Heads, Halves, with_pick, with_state, headed, group_heads, arc_heads, after_head, root_box}
use Rattle.tree_rules.specs.Examples.{piped, compressed}

-- a decision that says this of the only arc
abbrev pub decision : List ℕ → Allow → Decision
decision id word = record { id = id; sets = (0, word) ∷ [] }

-- the station of an example, which one decision leaves on, the next shuts and the last leaves alone
abbrev pub grouped : Network
grouped = record {
  nodes = compressed.nodes;
  arcs = compressed.arcs;
  groups = record { id = codes "g"; decisions = decision (codes "on") allow.On ∷ decision (codes "off") allow.Shut ∷ record { id = codes "any"; sets = [] } ∷ [] } ∷ [];
}

-- all decisions of a group in order, once; no group that isn't there
pub record GroupsHaveTheirDecisions : Type 0 where
  pub fresh : group_heads grouped (fresh_part grouped) 0 ≡ Some (Take 0 0 ∷ Take 0 1 ∷ Take 0 2 ∷ [])
  pub picked : group_heads grouped (with_pick (fresh_part grouped) 0 1) 0 ≡ None
  pub none : group_heads grouped (fresh_part grouped) 1 ≡ None

-- The states of an arc once its group is picked, as far as the decision allows them; none where only one is left, or where
-- a state is named already.
pub record ArcsHaveTheirStates : Type 0 where
  pub no_group : arc_heads compressed (fresh_part compressed) 0 ≡ Some (State 0 Active ∷ State 0 Bypass ∷ State 0 Shut ∷ [])
  pub named : arc_heads compressed (with_state (fresh_part compressed) 0 Bypass) 0 ≡ None
  pub unpicked : arc_heads grouped (fresh_part grouped) 0 ≡ None
  pub on : arc_heads grouped (with_pick (fresh_part grouped) 0 0) 0 ≡ Some (State 0 Active ∷ State 0 Bypass ∷ [])
  pub off : arc_heads grouped (with_pick (fresh_part grouped) 0 1) 0 ≡ None
  pub any : arc_heads grouped (with_pick (fresh_part grouped) 0 2) 0 ≡ Some (State 0 Active ∷ State 0 Bypass ∷ State 0 Shut ∷ [])
  pub pipe : arc_heads piped (fresh_part piped) 0 ≡ None
  pub none : arc_heads compressed (fresh_part compressed) 1 ≡ None

-- the box of the first example, whose flow lies from -10 to 10
abbrev pub whole : PartBox
whole = root_box (pos 1) piped

abbrev pub below : Head
below = Half (Flow 0) false (pos 3)

abbrev pub above : Head
above = Half (Flow 0) true (pos 3)

-- whether the head is expected as the first half of the flow
abbrev pub begins : Head → Bool
begins h = is_some (after_head (Halves whole (Flow 0)) h)

-- two halves of one variable at one value strictly between its ends, the lower half first
pub record HalvesMeet : Type 0 where
  pub first : after_head (Halves whole (Flow 0)) below ≡ Some (headed whole below, Heads whole (above ∷ []))
  pub second : after_head (Heads whole (above ∷ [])) above ≡ Some (headed whole above, Heads whole [])
  pub gap : after_head (Heads whole (above ∷ [])) (Half (Flow 0) true (pos 4)) ≡ None
  pub overlap : after_head (Heads whole (above ∷ [])) (Half (Flow 0) true (pos 2)) ≡ None
  pub twice : after_head (Heads whole (above ∷ [])) below ≡ None
  pub upper_first : begins above ≡ false
  pub least : begins (Half (Flow 0) false (negsuc 8)) ≡ true
  pub at_lower_end : begins (Half (Flow 0) false (negsuc 9)) ≡ false
  pub most : begins (Half (Flow 0) false (pos 9)) ≡ true
  pub at_upper_end : begins (Half (Flow 0) false (pos 10)) ≡ false
  pub other_variable : begins (Half (Square 0) false (pos 3)) ≡ false
  pub no_half : begins (Take 0 0) ≡ false
