-- What the lines of a tree cite, and the problems that agree with a problem at cited items.
use Rattle.std.specs.Prelude.{◌≡◌, ℕ, ℤ, pos, List, [], ◌∷◌, ◌++◌, map, Bool, true, false, not, ◌&&◌, ◌==◌, option_map, slice_get, IsTrue}
use Rattle.std.specs.List.{list_any, filter}
use Rattle.gas_model.specs.declared.rows.ArcKind.{ArcKind}
use Rattle.gas_model.specs.declared.rows.ArcKind.TheVariants.{Pipe, Short, Resist, Loss, Valve, Control, Station}
use Rattle.gas_model.specs.declared.rows.ArcRow.{ArcRow}
use Rattle.gas_model.specs.declared.rows.Drag.{Drag}
use Rattle.gas_model.specs.declared.rows.NodeRow.{NodeRow}
use Rattle.base_types.specs.declared.variables.Var.{Var}
use Rattle.base_types.specs.declared.variables.Var.TheVariants.{Flow, Square}
use Rattle.gas_model.specs.Rows.{Network}
use Rattle.gas_model.specs.Boxes.{Bounds, ends_of}
use Rattle.tree_cert.specs.declared.line.Step.{Step}
use Rattle.tree_cert.specs.declared.line.Head.{Head}
use Rattle.tree_cert.specs.declared.line.Head.TheVariants.{Take, State, Half}
use Rattle.tree_cert.specs.Tree.{Tree, Children, Then, Shut, Left, Split, NoChild, Child}
use Rattle.tree_rules.specs.Rules.{PartBox, stepped}
use Rattle.tree_rules.specs.Branches.{headed, same_var, same_end}
use Rattle.core_rules.specs.Reads.{Item, Supply, Law, End, step_reads, closing_reads}

abbrev pub same_item : Item → Item → Bool
same_item (Supply n low) (Supply m end) = (n == m) && same_end low end
same_item (Law a) (Law i) = a == i
same_item (End v low) (End w end) = same_var v w && same_end low end
same_item i j = false

abbrev pub is_among : Item → List Item → Bool
is_among i items = list_any (same_item i) items

-- of what a line reads, what no step or half above it has set
abbrev pub unset : (set read : List Item) → List Item
unset set read = filter (λ i. not (is_among i set)) read

-- the ends that are set below a head
abbrev pub head_sets : List Item → Head → List Item
head_sets set (Take k j) = set
head_sets set (State a state) = set
head_sets set (Half v low C) = End v low ∷ set

abbrev pub step_cites : Network → (set : List Item) → Step → List Item
step_cites p set s = unset set (step_reads p s.rule s.place s.var s.low)

-- What the lines of a tree cite, which passes at this box and below lines that set these ends. A passing tree has no
-- other boxes than these.
abbrev mutual
  pub tree_cites : Network → (set : List Item) → PartBox → Tree → List Item
  tree_cites p set b (Then s t) = step_cites p set s ++ tree_cites p (End s.var s.low ∷ set) (stepped b s) t
  tree_cites p set b (Shut c) = unset set (closing_reads p b c)
  tree_cites p set b Left = []
  tree_cites p set b (Split f ks) = children_cite p set b ks

  pub children_cite : Network → (set : List Item) → PartBox → Children → List Item
  children_cite p set b NoChild = []
  children_cite p set b (Child h t ks) = tree_cites p (head_sets set h) (headed b h) t ++ children_cite p set b ks

-- ---- problems without their numbers
abbrev pub no_drag : Drag
no_drag = record { lo = pos 0; hi = pos 0; den = pos 0 }

abbrev pub blank_kind : ArcKind → ArcKind
blank_kind (Pipe law) = Pipe no_drag
blank_kind Short = Short
blank_kind (Resist law) = Resist no_drag
blank_kind (Loss low high) = Loss (pos 0) (pos 0)
blank_kind Valve = Valve
blank_kind (Control in_min out_max red_min red_max) = Control (pos 0) (pos 0) (pos 0) (pos 0)
blank_kind (Station in_min out_max ratio_num ratio_den rise_max) = Station (pos 0) (pos 0) (pos 0) (pos 0) (pos 0)

abbrev pub blank_arc : ArcRow → ArcRow
blank_arc row = record { id = row.id; from = row.from; to = row.to; q_min = pos 0; q_max = pos 0; kind = blank_kind row.kind }

abbrev pub blank_node : NodeRow → NodeRow
blank_node node = record { id = node.id; p_min = pos 0; p_max = pos 0; b_min = pos 0; b_max = pos 0 }

-- the same nodes and arcs by id, order, ends and kind, and the same groups
pub record SameShape (p p2 : Network) : Type 0 where
  pub nodes : map blank_node p.nodes ≡ map blank_node p2.nodes
  pub arcs : map blank_arc p.arcs ≡ map blank_arc p2.arcs
  pub groups : p.groups ≡ p2.groups

-- ---- the numbers at an item
abbrev pub supply_of : (low : Bool) → NodeRow → ℤ
supply_of true node = node.b_min
supply_of false node = node.b_max

abbrev pub flow_bound : (low : Bool) → ArcRow → ℤ
flow_bound true row = row.q_min
flow_bound false row = row.q_max

abbrev pub pressure_bound : (low : Bool) → NodeRow → ℤ
pressure_bound true node = node.p_min
pressure_bound false node = node.p_max

abbrev pub kind_of : ArcRow → ArcKind
kind_of row = row.kind

abbrev pub SameSupply : Network → Network → ℕ → (low : Bool) → Type 0
SameSupply p p2 n low = option_map (supply_of low) (slice_get p.nodes n) ≡ option_map (supply_of low) (slice_get p2.nodes n)

abbrev pub SameLaw : Network → Network → ℕ → Type 0
SameLaw p p2 a = option_map kind_of (slice_get p.arcs a) ≡ option_map kind_of (slice_get p2.arcs a)

abbrev pub SameBound : Network → Network → Var → (low : Bool) → Type 0
SameBound p p2 (Flow a) low = option_map (flow_bound low) (slice_get p.arcs a) ≡ option_map (flow_bound low) (slice_get p2.arcs a)
SameBound p p2 (Square n) low = option_map (pressure_bound low) (slice_get p.nodes n) ≡ option_map (pressure_bound low) (slice_get p2.nodes n)

-- both problems have the same numbers at the item
abbrev pub SameAt : Network → Network → Item → Type 0
SameAt p p2 (Supply n low) = SameSupply p p2 n low
SameAt p p2 (Law a) = SameLaw p p2 a
SameAt p p2 (End v low) = SameBound p p2 v low

-- a problem of the same shape with the same numbers at each item of the core
pub record AgreesOn (p : Network) (core : List Item) (p2 : Network) : Type 0 where
  pub shape : SameShape p p2
  pub numbers : (i : Item) → IsTrue (is_among i core) → SameAt p p2 i

-- ---- boxes of two problems
abbrev pub end_at : Bounds → Var → (low : Bool) → ℤ
end_at b v true = (ends_of b v).lo
end_at b v false = (ends_of b v).hi

-- what a line reads at the item is the same in both boxes
abbrev pub ReadsSame : Network → Network → PartBox → PartBox → Item → Type 0
ReadsSame p p2 b b2 (Supply n low) = SameSupply p p2 n low
ReadsSame p p2 b b2 (Law a) = SameLaw p p2 a
ReadsSame p p2 b b2 (End v low) = end_at b.bounds v low ≡ end_at b2.bounds v low

abbrev pub Each : (Item → Type 0) → List Item → Type 0
Each P [] = Unit {0}
Each P (i ∷ items) = P i × Each P items

-- boxes of problems of one shape, with one part state and the same units
pub record Alike (p p2 : Network) (b b2 : PartBox) : Type 0 where
  pub shape : SameShape p p2
  pub scale : b.scale ≡ b2.scale
  pub part : b.part ≡ b2.part

-- what lines above have set, and what is in the core, is the same in both boxes
pub record Carried (p p2 : Network) (core set : List Item) (b b2 : PartBox) : Type 0 where
  pub alike : Alike p p2 b b2
  pub set_same : (i : Item) → IsTrue (is_among i set) → ReadsSame p p2 b b2 i
  pub core_same : (i : Item) → IsTrue (is_among i core) → ReadsSame p p2 b b2 i
