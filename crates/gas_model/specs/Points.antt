-- Points over any denominator, what they are to meet, and when a problem has none.
use Rattle.std.specs.Prelude.{ℕ, ◌+◌, ◌==◌, ◌≡◌, ◌||◌, ℤ, pos, ◌+ℤ◌, ◌-ℤ◌, ◌*ℤ◌, ◌≤ℤ◌, List, [], ◌∷◌, Bool, if◌then◌else◌, Some, slice_get, slice_index_or, IsTrue}
use Rattle.gas_model.specs.declared.rows.NodeRow.{NodeRow}
use Rattle.gas_model.specs.declared.rows.ArcRow.{ArcRow}
use Rattle.base_types.specs.declared.states.ArcState.{ArcState}
use Rattle.base_types.specs.declared.states.ArcState.TheVariants.{Opened}
use Rattle.gas_model.specs.Rows.{Network}
use Rattle.base_types.specs.Numbers.{between}
use Rattle.gas_model.specs.Curves.{square}
use Rattle.gas_model.specs.Laws.{form_of, meets_form}
use Rattle.gas_model.specs.Choices.{IsListed}

-- a flow for each arc and a square for each node, by position: whole numerators over one denominator
pub record Point : Type 0 where
  pub d : ℤ
  pub positive : pos 1 ≤ℤ d
  pub flow : ℕ → ℤ
  pub square : ℕ → ℤ

-- the arc leaves or enters the node n
abbrev pub touches : ℕ → ArcRow → Bool
touches n row = (row.from == n) || (row.to == n)

-- of arcs that are numbered from i, those that leave or enter the node n
abbrev pub arcs_from : ℕ → ℕ → List ArcRow → List ℕ
arcs_from n i [] = []
arcs_from n i (row ∷ rows) = if touches n row then i ∷ arcs_from n (i + 1) rows else arcs_from n (i + 1) rows

abbrev pub arcs_at : List ArcRow → ℕ → List ℕ
arcs_at arcs n = arcs_from n 0 arcs

-- the sum of f over the rows, which are numbered from i
abbrev pub sum_arcs : (ℕ → ArcRow → ℤ) → ℕ → List ArcRow → ℤ
sum_arcs f i [] = pos 0
sum_arcs f i (row ∷ rows) = f i row +ℤ sum_arcs f (i + 1) rows

-- x of an arc that leaves the node n, and of one that enters it
abbrev pub leaving : (ℕ → ℤ) → ℕ → ℕ → ArcRow → ℤ
leaving x n i row = if row.from == n then x i else pos 0

abbrev pub entering : (ℕ → ℤ) → ℕ → ℕ → ArcRow → ℤ
entering x n i row = if row.to == n then x i else pos 0

abbrev pub sum_out : (ℕ → ℤ) → ℕ → List ArcRow → ℤ
sum_out x n arcs = sum_arcs (leaving x n) 0 arcs

abbrev pub sum_in : (ℕ → ℤ) → ℕ → List ArcRow → ℤ
sum_in x n arcs = sum_arcs (entering x n) 0 arcs

-- f of all arcs but the arc a
abbrev pub other : ℕ → (ℕ → ArcRow → ℤ) → ℕ → ArcRow → ℤ
other a f i row = if i == a then pos 0 else f i row

-- the sum of x over the arcs that leave the node n, and over those that enter it, without the arc a
abbrev pub sum_other_out : ℕ → (ℕ → ℤ) → ℕ → List ArcRow → ℤ
sum_other_out a x n arcs = sum_arcs (other a (leaving x n)) 0 arcs

abbrev pub sum_other_in : ℕ → (ℕ → ℤ) → ℕ → List ArcRow → ℤ
sum_other_in a x n arcs = sum_arcs (other a (entering x n)) 0 arcs

-- what leaves the node n less what enters it
abbrev pub net_flow : (ℕ → ℤ) → ℕ → List ArcRow → ℤ
net_flow x n arcs = sum_out x n arcs -ℤ sum_in x n arcs

-- the flows x, over the denominator d, keep the supply of the node n
abbrev pub balances : NodeRow → ℤ → (ℕ → ℤ) → ℕ → List ArcRow → Bool
balances node d x n arcs = between (d *ℤ node.b_min) (net_flow x n arcs) (d *ℤ node.b_max)

-- a flow and a square over the denominator d keep their bounds
abbrev pub keeps_flow : ArcRow → (d q : ℤ) → Bool
keeps_flow row d q = between (d *ℤ row.q_min) q (d *ℤ row.q_max)

abbrev pub keeps_square : NodeRow → (d s : ℤ) → Bool
keeps_square node d s = between (d *ℤ square node.p_min) s (d *ℤ square node.p_max)

abbrev pub state_at : List ArcState → ℕ → ArcState
state_at states a = slice_index_or states a Opened

abbrev pub meets_arc : ArcRow → ArcState → (d : ℤ) → (flow : ℤ) → (squares : ℕ → ℤ) → Bool
meets_arc row state d flow squares = meets_form (form_of row.kind state) d flow (squares row.from) (squares row.to)

-- in these states all laws, balances and bounds hold at the point
pub record Meets (p : Network) (states : List ArcState) (x : Point) : Type 0 where
  pub flows : (a : ℕ) (row : ArcRow) → slice_get p.arcs a ≡ Some row → IsTrue (keeps_flow row x.d (x.flow a))
  pub squares : (n : ℕ) (node : NodeRow) → slice_get p.nodes n ≡ Some node → IsTrue (keeps_square node x.d (x.square n))
  pub balances : (n : ℕ) (node : NodeRow) → slice_get p.nodes n ≡ Some node → IsTrue (balances node x.d x.flow n p.arcs)
  pub laws : (a : ℕ) (row : ArcRow) → slice_get p.arcs a ≡ Some row → IsTrue (meets_arc row (state_at states a) x.d (x.flow a) x.square)

-- no listed choices and no point, over any denominator, meet the problem
abbrev pub IsInfeasible : Network → Type 0
IsInfeasible p = (picks : List ℕ) (states : List ArcState) (x : Point) → IsListed p picks states → Meets p states x → ⊥
