-- The branches that are allowed at a box, and the children that they have; and all rules of a problem.
use Rattle.std.specs.Prelude.{ℕ, ◌==◌, ℤ, pos, List, [], ◌∷◌, length, map, is_some, Bool, true, false, not, ◌&&◌, if◌then◌else◌, int_lt, Option, Some, None, option_map, option_and_then, slice_get, slice_set}
use Rattle.std.specs.List.{range_with_len}
use Rattle.std.specs.Ordering.{int_eq}
use Rattle.gas_model.specs.declared.rows.ArcRow.{ArcRow}
use Rattle.base_types.specs.declared.states.ArcState.{ArcState}
use Rattle.base_types.specs.declared.states.ArcState.TheVariants.{Opened, Shut, Active, Bypass}
use Rattle.gas_model.specs.declared.rows.Ends.{Ends}
use Rattle.gas_model.specs.declared.rows.Group.{Group}
use Rattle.gas_model.specs.declared.rows.PartState.{PartState}
use Rattle.base_types.specs.declared.variables.Var.{Var}
use Rattle.base_types.specs.declared.variables.Var.TheVariants.{Flow, Square}
use Rattle.gas_model.specs.Rows.{Network}
use Rattle.gas_model.specs.Choices.{allowed_states, fresh_part}
use Rattle.gas_model.specs.Rulings.{is_free, pick_in}
use Rattle.gas_model.specs.Boxes.{ends_of, is_var, opening, tightened}
use Rattle.tree_cert.specs.declared.line.Head.{Head}
use Rattle.tree_cert.specs.declared.line.Head.TheVariants.{Take, State, Half}
use Rattle.tree_cert.specs.declared.line.Line.{Line}
use Rattle.tree_cert.specs.declared.line.Line.TheVariants as lines
use Rattle.tree_cert.specs.Tree.{Branch, ByGroup, ByArc, ByHalves}
use Rattle.tree_cert.specs.TreeRules.{TreeRules}
use Rattle.tree_rules.specs.Rules.{PartBox, after_step, closing_holds}

-- the part state in which the decision j of the group k is picked too
abbrev pub with_pick : PartState → (k j : ℕ) → PartState
with_pick part k j = record { picks = slice_set part.picks k (Some j); states = part.states }

-- the part state in which the arc a is in this state too
abbrev pub with_state : PartState → ℕ → ArcState → PartState
with_state part a state = record { picks = part.picks; states = slice_set part.states a (Some state) }

-- the box of a child with this head
abbrev pub headed : PartBox → Head → PartBox
headed b (Take k j) = record { scale = b.scale; part = with_pick b.part k j; bounds = b.bounds }
headed b (State a state) = record { scale = b.scale; part = with_state b.part a state; bounds = b.bounds }
headed b (Half var low C) = record { scale = b.scale; part = b.part; bounds = tightened b.bounds var low C }

-- what is expected after a branch, and after some of its children
pub data Wait : Type 0 where
  -- these heads in order, each with a child of the same box
  Heads : PartBox → List Head → Wait
  -- the two halves of a variable, at a value that the first of them names
  Halves : PartBox → Var → Wait

-- all decisions of the group k, in order
abbrev pub decision_heads : ℕ → Group → List Head
decision_heads k g = map (Take k) (range_with_len 0 (length g.decisions))

-- the children after `group k`, where the group isn't picked
abbrev pub group_heads : Network → PartState → ℕ → Option (List Head)
group_heads p part k = if is_some (pick_in part.picks k) then None else option_map (decision_heads k) (slice_get p.groups k)

-- the children after `arc a`
abbrev pub state_heads : Network → PartState → ℕ → ArcRow → Option (List Head)
state_heads p part a row = if is_free p part a row then Some (map (State a) (allowed_states p part a row)) else None

abbrev pub arc_heads : Network → PartState → ℕ → Option (List Head)
arc_heads p part a = option_and_then (state_heads p part a) (slice_get p.arcs a)

-- what an allowed branch waits for
abbrev pub after_branch : Network → PartBox → Branch → Option Wait
after_branch p b (ByGroup k) = option_map (Heads b) (group_heads p b.part k)
after_branch p b (ByArc a) = option_map (Heads b) (arc_heads p b.part a)
after_branch p b (ByHalves var) = if is_var p var then Some (Halves b var) else None

abbrev pub same_var : Var → Var → Bool
same_var (Flow a) (Flow i) = a == i
same_var (Square n) (Square m) = n == m
same_var v w = false

abbrev pub same_state : ArcState → ArcState → Bool
same_state Opened Opened = true
same_state Shut Shut = true
same_state Active Active = true
same_state Bypass Bypass = true
same_state s t = false

abbrev pub same_end : Bool → Bool → Bool
same_end true low = low
same_end false low = not low

abbrev pub same_head : Head → Head → Bool
same_head (Take k j) (Take g i) = (k == g) && (j == i)
same_head (State a s) (State i t) = (a == i) && same_state s t
same_head (Half v low C) (Half w end B) = same_var v w && same_end low end && int_eq C B
same_head h e = false

-- the value lies strictly between the ends
abbrev pub lies_inside : Ends → ℤ → Bool
lies_inside e C = int_lt e.lo C && int_lt C e.hi

-- the heads of the two halves of a variable at a value
abbrev pub lower_half : Var → ℤ → Head
lower_half var C = Half var false C

abbrev pub upper_half : Var → ℤ → Head
upper_half var C = Half var true C

-- The box of a child with the expected head, and what is expected after that child. The first half of a variable names a
-- value strictly between its ends, as the upper end; the second half has the same value as the lower end.
abbrev pub after_head : Wait → Head → Option (PartBox × Wait)
after_head (Heads b []) h = None
after_head (Heads b (e ∷ es)) h = if same_head h e then Some (headed b e, Heads b es) else None
after_head (Halves b var) (Half w low C) =
    if same_var w var && not low && lies_inside (ends_of b.bounds var) C
    then Some (headed b (lower_half var C), Heads b (upper_half var C ∷ []))
    else None
after_head (Halves b var) h = None

-- no more heads are expected
abbrev pub is_over : Wait → Bool
is_over (Heads b []) = true
is_over w = false

-- the box of a problem: nothing is picked and no state is named, and all variables have their bounds
abbrev pub root_box : (K : ℤ) → Network → PartBox
root_box K p = record { scale = K; part = fresh_part p; bounds = opening K p }

-- a text counts whole units or sixteenths, as its first line says
abbrev pub root_of : Network → Line → Option PartBox
root_of p lines.First = Some (root_box (pos 1) p)
root_of p lines.FirstSixteenths = Some (root_box (pos 16) p)
root_of p line = None

-- all rules of a problem
abbrev pub rules_of : Network → TreeRules
rules_of p = record {
  Box = PartBox;
  Wait = Wait;
  opening = root_of p;
  step = after_step p;
  shuts = closing_holds p;
  branch = after_branch p;
  head = after_head;
  over = is_over;
}
