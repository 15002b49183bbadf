-- How many children the boxes of a search can have at a depth, and how deep the box lies at which a search stops.
use Rattle.std.specs.Prelude.{ℕ, ◌+◌, ◌<◌, ◌≤◌, ◌==◌, ◌&&◌, not, nat_lt, ℤ, List, [], ◌∷◌, length, filter, Bool, if◌then◌else◌, is_some, slice_get}
use Rattle.std.specs.List.{list_all, list_any}
use Rattle.std.specs.Option.{option_map_or}
use Rattle.gas_model.specs.declared.rows.ArcRow.{ArcRow}
use Rattle.gas_model.specs.declared.rows.Decision.{Decision}
use Rattle.gas_model.specs.declared.rows.Group.{Group}
use Rattle.gas_model.specs.Rows.{Network}
use Rattle.gas_model.specs.Choices.{states_of, only, words_in, words_allow}
use Rattle.tree_pool.specs.Rows.{Row}
use Rattle.tree_rules.specs.Branches.{root_box}
use Rattle.search_order.specs.Levels.{levels}
use Rattle.box_pool.specs.Grid.{pool_scale}
use Rattle.nom_search.specs.declared.searching.Why.TheVariants.{Budget}
use Rattle.nom_search.specs.Halted.{Halted}

-- the decision has a word for the arc a
abbrev pub speaks_of : ℕ → Decision → Bool
speaks_of a d = list_any (λ s. s.0 == a) d.sets

-- the arc a is in the group: some decision of it has a word for the arc
abbrev pub is_in_group : ℕ → Group → Bool
is_in_group a g = list_any (speaks_of a) g.decisions

-- the decision fixes the state of the arc a: of the states of its kind, the words for it allow one alone
abbrev pub fixes : ℕ → ArcRow → Decision → Bool
fixes a row d = is_some (only (filter (λ state. words_allow state (words_in d a)) (states_of row.kind)))

-- the arc a is in the group, and each decision of the group fixes its state
abbrev pub is_fixed_by : ℕ → ArcRow → Group → Bool
is_fixed_by a row g = is_in_group a g && list_all (fixes a row) g.decisions

-- the arc a has more than one state, and is in no group, or some decision of its group doesn't fix its state
abbrev pub is_loose : Network → ℕ → ArcRow → Bool
is_loose p a row = nat_lt 1 (length (states_of row.kind)) && list_all (λ g. not (is_fixed_by a row g)) p.groups

-- the numbers of the loose arcs among these, which are numbered from a
abbrev pub loose_from : Network → ℕ → List ArcRow → List ℕ
loose_from p a [] = []
loose_from p a (row ∷ rows) = if is_loose p a row then a ∷ loose_from p (a + 1) rows else loose_from p (a + 1) rows

abbrev pub loose_arcs : Network → List ℕ
loose_arcs p = loose_from p 0 p.arcs

-- behind the groups, for as many depths as arcs are loose, a box can have a child for each of three states; behind these,
-- for each half of a variable
abbrev pub children_behind : Network → ℕ → ℕ
children_behind p i = if nat_lt i (length p.groups + length (loose_arcs p)) then 3 else 2

-- How many children a box at depth i can have: while there is a group i, one for each of its decisions.
abbrev pub children_at : Network → ℕ → ℕ
children_at p i = option_map_or (λ g. length g.decisions) (slice_get p.groups i) (children_behind p i)

-- the path is longer than each depth down to which the budget pays for all boxes that there can be
abbrev pub IsDeep : Network → (budget : ℕ) → List ℕ → Type 0
IsDeep p budget path = (k : ℕ) → levels (children_at p) k ≤ budget → k < length path

-- where a search stops for want of budget, the box that it names lies deep
abbrev pub StoppedSearchesAreDeep : Type 0
StoppedSearchesAreDeep =
    (p : Network) (tol : ℤ) (budget : ℕ) (rows : List Row) (text : List ℕ) (line : ℕ)
    → (h : Halted p tol (root_box pool_scale p) budget Budget rows text line) → IsDeep p budget h.halts.row.path
