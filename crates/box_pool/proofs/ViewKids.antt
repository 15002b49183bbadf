-- The children of a view: their heads, their boxes, where they come from, and their turn.
use Rattle.std.proofs.Common.{◌≡◌, ℕ, zero, suc, true, false, List, [], ◌∷◌, map, length, Option, Some, None, refl, sym, ap, ◌∙◌, ℤ}
use Rattle.std.specs.Prelude.{slice_get}
use Rattle.std.specs.List.{range_with_len}
use Rattle.std.specs.Option.{option_map_or}
use Rattle.std.proofs.lemmas.List.{length-map}
use Rattle.gas_model.specs.Rows.{Network}
use Rattle.gas_model.specs.Within.{IsWithin}
use Rattle.gas_model.specs.declared.rows.ArcRow.{ArcRow}
use Rattle.gas_model.specs.declared.rows.Group.{Group}
use Rattle.gas_model.specs.declared.rows.PartState.{PartState}
use Rattle.gas_model.specs.Choices.{allowed_states}
use Rattle.tree_cert.specs.declared.line.Head.{Head}
use Rattle.tree_cert.specs.declared.line.Head.TheVariants.{Take, State, Half}
use Rattle.tree_rules.specs.Rules.{PartBox}
use Rattle.tree_rules.specs.Branches.{headed, rules_of, decision_heads}
use Rattle.tree_pool.specs.declared.node.BranchBy.{BranchBy}
use Rattle.tree_pool.specs.declared.node.BranchBy.TheVariants as by
use Rattle.tree_pool.specs.declared.node.WorkEnd as tree
use Rattle.tree_pool.specs.Laws.{EndFits, heads_by}
use Rattle.tree_pool.proofs.Lists.{from_map}
use Rattle.box_split.specs.declared.forks.Fork.{Fork}
use Rattle.box_split.specs.declared.forks.Fork.TheVariants.{Group as GroupFork, Free, Halve, Least}
use Rattle.box_pool.specs.declared.pool.WorkEnd.{WorkEnd}
use Rattle.box_pool.specs.declared.pool.WorkEnd.TheVariants.{Shut, Split, Left}
use Rattle.box_pool.specs.declared.open_box.ParentBox.{ParentBox}
use Rattle.box_pool.specs.declared.open_box.BoxView.{BoxView}
use Rattle.box_pool.specs.Grid.{pool_scale}
use Rattle.box_pool.specs.Forks.{by_of, heads_of, next_of, state_heads}
use Rattle.box_pool.specs.Expected.{kids_of}
use Rattle.box_pool.specs.Origins.{box_of, turn_by, origin_by}
use Rattle.box_pool.specs.Pools.{CanEnd, end_as, base_of, new_origins, box_of_view}
use Rattle.box_pool.specs.PoolOf.{ClosingHolds}
use Rattle.box_pool.proofs.Forked.{forks_are_expected}

abbrev pub kids_by : Network → BoxView → WorkEnd → List (Head × PartBox)
kids_by p v (Shut c) = []
kids_by p v (Split fork) = kids_of (box_of_view v) (heads_of p v.part.value fork)
kids_by p v Left = []

abbrev pub next_by : WorkEnd → ℕ
next_by (Shut c) = 0
next_by (Split fork) = next_of fork
next_by Left = 0

-- where the children come from
abbrev pub branch_by : WorkEnd → BranchBy
branch_by (Shut c) = by.Group 0
branch_by (Split fork) = by_of fork
branch_by Left = by.Group 0

abbrev pub base_by : BoxView → WorkEnd → ParentBox
base_by v end = base_of v (branch_by end) (next_by end)

-- how the tree takes the end
abbrev pub box_end : Network → BoxView → WorkEnd → tree.WorkEnd
box_end p v end = end_as p v.part.value end

pub first_of_kids : (b : PartBox) (heads : List Head) → heads ≡ map (λ (k : Head × PartBox). k.0) (kids_of b heads)
first_of_kids b [] = refl
first_of_kids b (h ∷ heads) = ap (λ hs. h ∷ hs) (first_of_kids b heads)

-- the end holds at the box that is left, and gives these children
pub ends_there : (p : Network) (v : BoxView) (end : WorkEnd) → IsWithin p → CanEnd p v end → ClosingHolds p v end → EndFits (rules_of p) (box_of_view v) (box_end p v end) (kids_by p v end)
ends_there p v (Shut c) within can holds = (holds, refl)
ends_there p v (Split fork) within can holds =
    ((forks_are_expected p pool_scale v.part.value v.bounds.value v.turn fork within can.0.part can.0.bounds can.2 can.3).0, first_of_kids (box_of_view v) (heads_of p v.part.value fork))
ends_there p v Left within can holds = refl

pub headed_box : (v : BoxView) (end : WorkEnd) (h : Head) → headed (box_of_view v) h ≡ box_of pool_scale (origin_by (base_by v end) (Some h))
headed_box v end (Take k j) = refl
headed_box v end (State a s) = refl
headed_box v end (Half w low C) = refl

turn_in_group : (p : Network) (k i : ℕ) (h : Head) (o : Option Group) → slice_get (option_map_or (decision_heads k) o []) i ≡ Some h → turn_by 0 (Some h) ≡ 0
turn_in_group p k i h None at = absurd cc
turn_in_group p k i h (Some g) at = let z = from_map (Take k) (range_with_len 0 (length g.decisions)) i h at in let e = z.2 in rw (← e) refl

turn_in_arc : (p : Network) (part : PartState) (a i : ℕ) (h : Head) (o : Option ArcRow) → slice_get (option_map_or (state_heads p part a) o []) i ≡ Some h → turn_by 0 (Some h) ≡ 0
turn_in_arc p part a i h None at = absurd cc
turn_in_arc p part a i h (Some row) at = let z = from_map (State a) (allowed_states p part a row) i h at in let e = z.2 in rw (← e) refl

pub turn_of_head : (p : Network) (part : PartState) (fork : Fork) (i : ℕ) (h : Head) → slice_get (heads_of p part fork) i ≡ Some h → turn_by (next_of fork) (Some h) ≡ next_of fork
turn_of_head p part (GroupFork k) i h at = turn_in_group p k i h (slice_get p.groups k) at
turn_of_head p part (Free a) i h at = turn_in_arc p part a i h (slice_get p.arcs a) at
turn_of_head p part (Halve v at next) zero h is = let e : Half v false at ≡ h = cc in rw (← e) refl
turn_of_head p part (Halve v at next) (suc zero) h is = let e : Half v true at ≡ h = cc in rw (← e) refl
turn_of_head p part (Halve v at next) (suc (suc i)) h is = absurd cc
turn_of_head p part Least i h at = absurd cc

-- child k of a view: its head, and where it comes from
pub record Comes (p : Network) (v : BoxView) (end : WorkEnd) (k : ℕ) (h : Head) : Type 0 where
  pub fork : Fork
  pub is : end ≡ Split fork
  pub at : slice_get (heads_of p v.part.value fork) k ≡ Some h

pub comes : (p : Network) (v : BoxView) (end : WorkEnd) (k : ℕ) (h : Head) → slice_get (heads_by (box_end p v end)) k ≡ Some h → Comes p v end k h
comes p v (Shut c) k h at = absurd cc
comes p v (Split fork) k h at = record { fork = fork; is = refl; at = at }
comes p v Left k h at = absurd cc

pub count_kids : (p : Network) (v : BoxView) (end : WorkEnd) → length (new_origins p v end) ≡ length (kids_by p v end)
count_kids p v (Shut c) = refl
count_kids p v (Split fork) = length-map (heads_of p v.part.value fork) (λ h. Some (origin_by (base_by v (Split fork)) (Some h))) ∙ sym (length-map (heads_of p v.part.value fork) (λ (h : Head). (h, headed (box_of_view v) h)))
count_kids p v Left = refl
