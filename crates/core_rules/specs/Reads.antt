-- What the condition of a step or of a closing reads: the ends, the supply bounds, and whether it reads the arc's law.
use Rattle.std.specs.Prelude.{ℕ, ◌+◌, ◌==◌, ℤ, List, [], ◌∷◌, ◌++◌, map, Bool, true, false, not, if◌then◌else◌, slice_get}
use Rattle.std.specs.Option.{option_map_or}
use Rattle.gas_model.specs.declared.rows.ArcRow.{ArcRow}
use Rattle.base_types.specs.declared.variables.Var.{Var}
use Rattle.base_types.specs.declared.variables.Var.TheVariants.{Flow, Square}
use Rattle.gas_model.specs.Rows.{Network}
use Rattle.gas_model.specs.declared.law_forms.LawForm.{LawForm}
use Rattle.gas_model.specs.declared.law_forms.LawForm.TheVariants.{Drags, Loses, Reduces, Raises}
use Rattle.tree_cert.specs.declared.line.Closing.{Closing}
use Rattle.tree_cert.specs.declared.line.Closing.TheVariants.{Empty, Cut, At}
use Rattle.tree_cert.specs.declared.line.Rule.{Rule}
use Rattle.tree_cert.specs.declared.line.Rule.TheVariants.{Balance, Pipe, Equal, Zero, Way, Fall, Order, Rise, Ratio, Sign, Reach, Along, Drop}
use Rattle.tree_rules.specs.declared.arc_vars.ArcEnds.{ArcEnds}
use Rattle.tree_rules.specs.declared.arc_vars.ArcVar.{ArcVar}
use Rattle.tree_rules.specs.declared.arc_vars.ArcVar.TheVariants.{OfFlow, OfFrom, OfTo}
use Rattle.tree_rules.specs.ArcRules.{drops_too_little, falls_too_little, is_beyond_reach, loses_too_little}
use Rattle.tree_rules.specs.NodeRules.{takes_too_much, brings_too_much}
use Rattle.tree_rules.specs.Rules.{PartBox, flow_lo, flow_hi, arc_ends, arc_var, fixed_form}

-- what a line can cite: the least (`low`) or greatest supply of a node, the law of an arc, or an end of a variable
pub data Item : Type 0 where
  Supply : ℕ → (low : Bool) → Item
  Law : ℕ → Item
  End : Var → (low : Bool) → Item

-- an end of a variable of an arc
pub record ArcEnd : Type 0 where
  pub of : ArcVar
  pub low : Bool

abbrev pub lower : ArcVar → ArcEnd
lower x = record { of = x; low = true }

abbrev pub upper : ArcVar → ArcEnd
upper x = record { of = x; low = false }

abbrev pub at : ArcVar → Bool → ArcEnd
at x low = record { of = x; low = low }

-- ---- steps by the law of an arc
-- the same end of the other square
abbrev pub reads_square : ArcVar → (low : Bool) → List ArcEnd
reads_square OfFlow low = []
reads_square OfFrom low = at OfTo low ∷ []
reads_square OfTo low = at OfFrom low ∷ []

-- an end of each of the other two variables
abbrev pub reads_both : ArcVar → (low : Bool) → List ArcEnd
reads_both OfFlow low = at OfFrom low ∷ at OfTo (not low) ∷ []
reads_both OfFrom low = at OfTo low ∷ at OfFlow low ∷ []
reads_both OfTo low = at OfFrom low ∷ at OfFlow (not low) ∷ []

-- the ends that a rule reads where it gives the variable its lower or upper end
abbrev pub arc_reads : Rule → ArcVar → (low : Bool) → List ArcEnd
arc_reads Pipe x low = reads_both x low
arc_reads Sign x low = reads_both x low
arc_reads Along x low = reads_both x low
arc_reads Drop x low = reads_both x low
arc_reads Equal x low = reads_square x low
arc_reads Fall x low = reads_square x low
arc_reads Order x low = reads_square x low
arc_reads Rise x low = reads_square x low
arc_reads Ratio x low = reads_square x low
arc_reads Reach x low = reads_square x low
arc_reads rule x low = []

-- the rules that read numbers of the arc's law
abbrev pub reads_law : Rule → Bool
reads_law Balance = false
reads_law Equal = false
reads_law Zero = false
reads_law Way = false
reads_law Order = false
reads_law Along = false
reads_law rule = true

abbrev pub law_items : Rule → ℕ → List Item
law_items rule a = if reads_law rule then Law a ∷ [] else []

abbrev pub var_of : ℕ → ArcRow → ArcVar → Var
var_of a row OfFlow = Flow a
var_of a row OfFrom = Square row.from
var_of a row OfTo = Square row.to

abbrev pub end_item : ℕ → ArcRow → ArcEnd → Item
end_item a row e = End (var_of a row e.of) e.low

abbrev pub var_reads : Rule → ℕ → ArcRow → (low : Bool) → ArcVar → List Item
var_reads rule a row low x = map (end_item a row) (arc_reads rule x low)

abbrev pub row_reads : Rule → ℕ → Var → (low : Bool) → ArcRow → List Item
row_reads rule a v low row = law_items rule a ++ option_map_or (var_reads rule a row low) (arc_var a row v) []

abbrev pub law_reads : Network → Rule → ℕ → Var → (low : Bool) → List Item
law_reads p rule a v low = option_map_or (row_reads rule a v low) (slice_get p.arcs a) []

-- ---- steps by the balance of a node
abbrev pub leaves : ℕ → ℕ → ArcRow → Bool
leaves n i row = row.from == n

abbrev pub enters : ℕ → ℕ → ArcRow → Bool
enters n i row = row.to == n

abbrev pub but : ℕ → (ℕ → ArcRow → Bool) → ℕ → ArcRow → Bool
but a test i row = if i == a then false else test i row

-- this end of the flow of each arc that passes the test, where arcs are numbered from i
abbrev pub flows_where : (ℕ → ArcRow → Bool) → (low : Bool) → ℕ → List ArcRow → List Item
flows_where test low i [] = []
flows_where test low i (row ∷ rows) = if test i row then End (Flow i) low ∷ flows_where test low (i + 1) rows else flows_where test low (i + 1) rows

abbrev pub flow_reads : Network → ℕ → ℕ → (low : Bool) → ArcRow → List Item
flow_reads p n a low row =
    if row.from == n then Supply n low ∷ flows_where (but a (leaves n)) (not low) 0 p.arcs ++ flows_where (enters n) low 0 p.arcs
    else if row.to == n then Supply n (not low) ∷ flows_where (leaves n) low 0 p.arcs ++ flows_where (but a (enters n)) (not low) 0 p.arcs
    else []

abbrev pub node_reads : Network → ℕ → Var → (low : Bool) → List Item
node_reads p n (Flow a) low = option_map_or (flow_reads p n a low) (slice_get p.arcs a) []
node_reads p n (Square m) low = []

-- what a step by this rule, at this place, for this end of this variable reads
abbrev pub step_reads : Network → Rule → (place : ℕ) → Var → (low : Bool) → List Item
step_reads p Balance n v low = node_reads p n v low
step_reads p rule a v low = law_reads p rule a v low

-- ---- closings: of two alternatives the first that holds counts
-- the squares' ends of a drop that is too small everywhere, and of one that is too great
abbrev pub reads_small : List ArcEnd
reads_small = upper OfFrom ∷ lower OfTo ∷ []

abbrev pub reads_great : List ArcEnd
reads_great = lower OfFrom ∷ upper OfTo ∷ []

abbrev pub closing_ends : Rule → LawForm → ℤ → ArcEnds → List ArcEnd
closing_ends Pipe (Drags law) K e = if drops_too_little law K e then lower OfFlow ∷ reads_small else upper OfFlow ∷ reads_great
closing_ends Fall (Reduces in_min out_max red_min red_max) K e = if falls_too_little red_min K e then reads_small else reads_great
closing_ends Rise (Raises in_min out_max ratio_num ratio_den rise_max) K e = reads_small
closing_ends Ratio (Raises in_min out_max ratio_num ratio_den rise_max) K e = reads_small
closing_ends Reach (Loses low_loss high_loss) K e = if is_beyond_reach high_loss K e then reads_great else reads_small
closing_ends Drop (Loses low_loss high_loss) K e = if loses_too_little low_loss K e then lower OfFlow ∷ reads_small else upper OfFlow ∷ reads_great
closing_ends rule form K e = []

abbrev pub row_closing_reads : Network → PartBox → Rule → ℕ → ArcRow → List Item
row_closing_reads p b rule a row =
    law_items rule a ++ option_map_or (λ form. map (end_item a row) (closing_ends rule form b.scale (arc_ends b.bounds a row))) (fixed_form p b.part a row) []

-- too much is taken even by the least flows, or too little even by the greatest
abbrev pub balance_reads : Network → ℕ → (much : Bool) → List Item
balance_reads p n much = Supply n (not much) ∷ flows_where (leaves n) much 0 p.arcs ++ flows_where (enters n) (not much) 0 p.arcs

abbrev pub closing_at_reads : Network → PartBox → Rule → ℕ → List Item
closing_at_reads p b Balance n =
    option_map_or (λ node. balance_reads p n (takes_too_much node b.scale (flow_lo b.bounds) (flow_hi b.bounds) n p.arcs)) (slice_get p.nodes n) []
closing_at_reads p b rule a = option_map_or (row_closing_reads p b rule a) (slice_get p.arcs a) []

abbrev pub closing_reads : Network → PartBox → Closing → List Item
closing_reads p b (Empty v) = End v true ∷ End v false ∷ []
closing_reads p b (Cut ns) = map (λ n. Supply n (brings_too_much p.nodes ns)) ns
closing_reads p b (At rule place) = closing_at_reads p b rule place
