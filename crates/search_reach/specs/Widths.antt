-- How often variables are halved on the way from the root of a search down to one of its boxes, and how narrow they are
-- in the box at which it stops. Widths count sixteenths.
use Rattle.std.specs.Prelude.{◌≡◌, ℕ, ◌*◌, ◌^◌, ◌≤◌, ℤ, pos, ◌-ℤ◌, ◌*ℤ◌, ◌≤ℤ◌, Bool, true, false, List, [], ◌∷◌, length, filter, Option, Some, option_and_then, slice_get, IsTrue}
use Rattle.std.specs.List.{list_any}
use Rattle.std.specs.Option.{option_map_or}
use Rattle.base_types.specs.declared.variables.Var.{Var}
use Rattle.gas_model.specs.Rows.{Network}
use Rattle.gas_model.specs.Boxes.{ends_of, width_of}
use Rattle.topo.specs.Shapes.{Layout, IsShapeOf}
use Rattle.tree_cert.specs.declared.line.Head.{Head}
use Rattle.tree_cert.specs.declared.line.Head.TheVariants.{Half}
use Rattle.tree_rules.specs.Rules.{PartBox}
use Rattle.tree_rules.specs.Branches.{same_var, root_box}
use Rattle.tree_pool.specs.Rows.{Row, row_at}
use Rattle.box_pool.specs.Grid.{pool_scale}
use Rattle.nom_search.specs.declared.searching.Why.{Why}
use Rattle.nom_search.specs.declared.searching.Why.TheVariants.{Budget, Grid}
use Rattle.nom_search.specs.Halted.{Halted, Refutes}

-- the head of a half of any variable, and of this one
abbrev pub is_half : Head → Bool
is_half (Half w low C) = true
is_half h = false

abbrev pub halves : Var → Head → Bool
halves v (Half w low C) = same_var w v
halves v h = false

-- the head of the box of this path
abbrev pub head_at : List Row → List ℕ → Option Head
head_at rows path = option_and_then (λ r. r.head) (row_at rows path)

-- the heads of the boxes on the way from the root down to the box of this path, the last one first; the root has none
abbrev pub heads_to : List Row → List ℕ → List Head
heads_to rows [] = []
heads_to rows (k ∷ path) = option_map_or (λ h. h ∷ heads_to rows path) (head_at rows (k ∷ path)) (heads_to rows path)

-- how many halvings there are on the way, of any variable and of this one
abbrev pub halvings : List Row → List ℕ → ℕ
halvings rows path = length (filter is_half (heads_to rows path))

abbrev pub halvings_of : Var → List Row → List ℕ → ℕ
halvings_of v rows path = length (filter (halves v) (heads_to rows path))

-- how wide the variable is in the box, in the units of its ends
abbrev pub width_in : PartBox → Var → ℤ
width_in b v = width_of (ends_of b.bounds v)

-- a variable that is at most 2^m wide at first was halved at most m times on the way to each box
abbrev pub HalvingsAreFewIn : Network → List Row → Type 0
HalvingsAreFewIn p rows =
    (n : ℕ) (r : Row) → slice_get rows n ≡ Some r
    → (v : Var) (m : ℕ) → width_in (root_box pool_scale p) v ≤ℤ pos (2 ^ m) → halvings_of v rows r.path ≤ m

-- so it is where the search of a problem halts, for whatever reason
abbrev pub FewHalvingsWhereHalted : Type 0
FewHalvingsWhereHalted =
    (p : Network) (tol : ℤ) (budget : ℕ) (why : Why) (rows : List Row) (text : List ℕ) (line : ℕ)
    → Halted p tol (root_box pool_scale p) budget why rows text line → HalvingsAreFewIn p rows

-- and where it refutes the problem
abbrev pub FewHalvingsWhereRefuted : Type 0
FewHalvingsWhereRefuted =
    (p : Network) (tol : ℤ) (budget : ℕ) (rows : List Row) (text : List ℕ)
    → Refutes p tol (root_box pool_scale p) budget rows text → HalvingsAreFewIn p rows

-- Of the box at the end of this path, as its steps leave it: where r times the length of the split list of its part state is
-- at most the number of halvings on the way to it, each variable of the list is so narrow there that its width less one,
-- times 2^r, is at most its width at first.
abbrev pub IsNarrowed : Network → List Row → List ℕ → PartBox → Type 0
IsNarrowed p rows path box =
    (shape : Layout) → IsShapeOf p box.part shape
    → (v : Var) → IsTrue (list_any (same_var v) shape.split_list)
    → (r : ℕ) → length shape.split_list * r ≤ halvings rows path
    → (pos (2 ^ r) *ℤ (width_in box v -ℤ pos 1)) ≤ℤ width_in (root_box pool_scale p) v

-- the box that is named is narrow, as its steps leave it
abbrev pub NamedIsNarrow : (p : Network) (tol : ℤ) (budget : ℕ) (why : Why) (rows : List Row) (text : List ℕ) (line : ℕ) → Halted p tol (root_box pool_scale p) budget why rows text line → Type 0
NamedIsNarrow p tol budget Budget rows text line h = IsNarrowed p rows h.halts.row.path h.halts.box
NamedIsNarrow p tol budget Grid rows text line h = IsNarrowed p rows h.halts.2.row.path (h.halts.0.known h.named h.halts.2.row h.halts.2.here).box

-- so it is where a search halts, for whatever reason
abbrev pub NamedBoxesAreNarrow : Type 0
NamedBoxesAreNarrow =
    (p : Network) (tol : ℤ) (budget : ℕ) (why : Why) (rows : List Row) (text : List ℕ) (line : ℕ)
    → (h : Halted p tol (root_box pool_scale p) budget why rows text line) → NamedIsNarrow p tol budget why rows text line h
