-- Branches that wait for children, as changes of the one box that is kept.
use Rattle.std.specs.Prelude.{◌≡◌, ℕ, ◌<◌, ◌≤◌, ◌-◌, ◌^◌, ℤ, pos, neg_ℤ, ◌*ℤ◌, ◌≤ℤ◌, List, [], ◌∷◌, map, Option, Some, slice_get, slice_set, length, IsTrue}
use Rattle.std.specs.List.{range_with_len, list_all}
use Rattle.gas_model.specs.declared.rows.ArcRow.{ArcRow}
use Rattle.base_types.specs.declared.states.ArcState.{ArcState}
use Rattle.gas_model.specs.declared.rows.Group.{Group}
use Rattle.gas_model.specs.declared.rows.PartState.{PartState}
use Rattle.base_types.specs.declared.variables.Var.{Var}
use Rattle.base_types.specs.declared.variables.Var.TheVariants.{Flow, Square}
use Rattle.gas_model.specs.Rows.{Network}
use Rattle.gas_model.specs.Boxes.{Bounds, with_ends, is_var}
use Rattle.gas_model.specs.Choices.{has_state}
use Rattle.tree_cert.specs.declared.line.Head.{Head}
use Rattle.tree_cert.specs.declared.line.Head.TheVariants.{Take, State, Half}
use Rattle.tree_rules.specs.Rules.{PartBox}
use Rattle.tree_rules.specs.Branches.{Wait, Heads, Halves, upper_half}
use Rattle.tree_check.specs.declared.frames.Change.{Change}
use Rattle.tree_check.specs.declared.frames.Change.TheVariants as change
use Rattle.tree_check.specs.declared.frames.Expected.{Expected}
use Rattle.tree_check.specs.declared.frames.Expected.TheVariants as expected
use Rattle.tree_check.specs.declared.frames.Frame.{Frame}
use Rattle.gas_model.specs.BoxLimits.{AreLimited}

-- the box with other bounds, or with another part state
abbrev pub with_bounds : PartBox → Bounds → PartBox
with_bounds b bounds = record { scale = b.scale; part = b.part; bounds = bounds }

abbrev pub with_part : PartBox → PartState → PartBox
with_part b part = record { scale = b.scale; part = part; bounds = b.bounds }

abbrev pub put_pick : PartState → ℕ → Option ℕ → PartState
put_pick part k pick = record { picks = slice_set part.picks k pick; states = part.states }

abbrev pub put_state : PartState → ℕ → Option ArcState → PartState
put_state part a state = record { picks = part.picks; states = slice_set part.states a state }

-- the box before a change
abbrev pub undone : PartBox → Change → PartBox
undone b (change.Moved var ends) = with_bounds b (with_ends b.bounds var ends)
undone b (change.Picked k pick) = with_part b (put_pick b.part k pick)
undone b (change.Named a state) = with_part b (put_state b.part a state)

-- the box before changes, the newest first
abbrev pub before : PartBox → List Change → PartBox
before b [] = b
before b (c ∷ cs) = before (undone b c) cs

-- what is expected at a box
abbrev pub wait_at : PartBox → Expected → Wait
wait_at b (expected.Decisions k next count) = Heads b (map (Take k) (range_with_len next (count - next)))
wait_at b (expected.States a left) = Heads b (map (State a) left)
wait_at b (expected.Halves var) = Halves b var
wait_at b (expected.UpperHalf var C) = Heads b (upper_half var C ∷ [])
wait_at b expected.Over = Heads b []

-- the branches that wait above a box, the nearest first
abbrev pub waits_at : PartBox → List Frame → List Wait
waits_at b [] = []
waits_at b (f ∷ fs) = wait_at (before b f.changes) f.expected ∷ waits_at (before b f.changes) fs

-- a change that is noted at the nearest branch
abbrev pub noted : Change → List Frame → List Frame
noted c [] = []
noted c (f ∷ fs) = record { expected = f.expected; changes = c ∷ f.changes } ∷ fs

-- a decision of the group k, or none
pub record IsPickOf (p : Network) (k : ℕ) (pick : Option ℕ) : Type 0 where
  pub group : k < length p.groups
  pub within : (g : Group) (j : ℕ) → slice_get p.groups k ≡ Some g → pick ≡ Some j → j < length g.decisions

-- a state of the kind of the arc a, or none
pub record IsStateOf (p : Network) (a : ℕ) (named : Option ArcState) : Type 0 where
  pub arc : a < length p.arcs
  pub kind : (row : ArcRow) (state : ArcState) → slice_get p.arcs a ≡ Some row → named ≡ Some state → IsTrue (has_state row.kind state)

-- a value that ends of the variable may have, in units of 1/K
abbrev pub IsLimited : ℤ → Var → ℤ → Type 0
IsLimited K (Flow a) C = (neg_ℤ (K *ℤ pos (10 ^ 12)) ≤ℤ C) × (C ≤ℤ (K *ℤ pos (10 ^ 12)))
IsLimited K (Square n) C = (pos 0 ≤ℤ C) × (C ≤ℤ (K *ℤ pos (10 ^ 16)))

-- the head is one of the problem
abbrev pub IsHeadOf : Network → ℤ → Head → Type 0
IsHeadOf p K (Take k j) = IsPickOf p k (Some j)
IsHeadOf p K (State a state) = IsStateOf p a (Some state)
IsHeadOf p K (Half var low C) = IsTrue (is_var p var) × IsLimited K var C

-- the change is one of a box of the problem
abbrev pub IsChangeOf : Network → ℤ → Change → Type 0
IsChangeOf p K (change.Moved var ends) = IsTrue (is_var p var) × AreLimited K var ends
IsChangeOf p K (change.Picked k pick) = IsPickOf p k pick
IsChangeOf p K (change.Named a state) = IsStateOf p a state

abbrev pub AreChangesOf : Network → ℤ → List Change → Type 0
AreChangesOf p K [] = Unit {0}
AreChangesOf p K (c ∷ cs) = IsChangeOf p K c × AreChangesOf p K cs

-- the decisions of a group, of which there are this many
pub record AreDecisionsOf (p : Network) (k next count : ℕ) : Type 0 where
  pub group : k < length p.groups
  pub within : (g : Group) → slice_get p.groups k ≡ Some g → count ≤ length g.decisions

-- states of the arc's kind
pub record AreStatesOf (p : Network) (a : ℕ) (left : List ArcState) : Type 0 where
  pub arc : a < length p.arcs
  pub kinds : (row : ArcRow) → slice_get p.arcs a ≡ Some row → IsTrue (list_all (has_state row.kind) left)

-- what is expected is of the problem
abbrev pub IsExpectedOf : Network → ℤ → Expected → Type 0
IsExpectedOf p K (expected.Decisions k next count) = AreDecisionsOf p k next count
IsExpectedOf p K (expected.States a left) = AreStatesOf p a left
IsExpectedOf p K (expected.Halves var) = IsTrue (is_var p var)
IsExpectedOf p K (expected.UpperHalf var C) = IsTrue (is_var p var) × IsLimited K var C
IsExpectedOf p K expected.Over = Unit {0}

abbrev pub AreFramesOf : Network → ℤ → List Frame → Type 0
AreFramesOf p K [] = Unit {0}
AreFramesOf p K (f ∷ fs) = (IsExpectedOf p K f.expected × AreChangesOf p K f.changes) × AreFramesOf p K fs
