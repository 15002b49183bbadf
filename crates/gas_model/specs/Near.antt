-- Settings in whole numbers that carry the problem within a tolerance.
use Rattle.std.specs.Prelude.{ℕ, ◌≡◌, ◌↔◌, ℤ, pos, List, length, Some, slice_get, slice_index_or, true, IsTrue, Bool}
use Rattle.std.specs.List.{list_all}
use Rattle.gas_model.specs.declared.rows.NodeRow.{NodeRow}
use Rattle.gas_model.specs.declared.rows.ArcRow.{ArcRow}
use Rattle.base_types.specs.declared.states.ArcState.{ArcState}
use Rattle.gas_model.specs.declared.rows.Setting.{Setting}
use Rattle.base_types.specs.Numbers.{is_flow, is_square}
use Rattle.gas_model.specs.Rows.{Network}
use Rattle.gas_model.specs.Choices.{ArePicks, IsListed}
use Rattle.gas_model.specs.Laws.{form_of, nears_form}
use Rattle.gas_model.specs.Points.{Point, Meets, balances, keeps_flow, keeps_square, state_at}

abbrev pub number_at : List ℤ → ℕ → ℤ
number_at numbers i = slice_index_or numbers i (pos 0)

-- a setting for the problem: its lists have the problem's lengths, its picks are in range, its numbers within the limits
pub record SettingFits (p : Network) (s : Setting) : Type 0 where
  pub picks : ArePicks p.groups s.picks
  pub states : length s.states ≡ length p.arcs
  pub flows : length s.flows ≡ length p.arcs
  pub squares : length s.squares ≡ length p.nodes
  pub flows_within : list_all is_flow s.flows ≡ true
  pub squares_within : list_all is_square s.squares ≡ true

abbrev pub nears_arc : ArcRow → ArcState → (tol flow : ℤ) → (squares : ℕ → ℤ) → Bool
nears_arc row state tol flow squares = nears_form (form_of row.kind state) tol flow (squares row.from) (squares row.to)

-- a flow for each arc, and a square for each node
pub record HasNumbers (p : Network) (s : Setting) : Type 0 where
  pub flows : length s.flows ≡ length p.arcs
  pub squares : length s.squares ≡ length p.nodes

-- The choices are listed, each arc has a flow and each node a square, each flow and square keeps its bounds and each node balances exactly,
-- and each law holds within the tolerance.
pub record IsNear (p : Network) (tol : ℤ) (s : Setting) : Type 0 where
  pub listed : IsListed p s.picks s.states
  pub numbers : HasNumbers p s
  pub flows : (a : ℕ) (row : ArcRow) → slice_get p.arcs a ≡ Some row → IsTrue (keeps_flow row (pos 1) (number_at s.flows a))
  pub squares : (n : ℕ) (node : NodeRow) → slice_get p.nodes n ≡ Some node → IsTrue (keeps_square node (pos 1) (number_at s.squares n))
  pub balances : (n : ℕ) (node : NodeRow) → slice_get p.nodes n ≡ Some node → IsTrue (balances node (pos 1) (number_at s.flows) n p.arcs)
  pub laws : (a : ℕ) (row : ArcRow) → slice_get p.arcs a ≡ Some row → IsTrue (nears_arc row (state_at s.states a) tol (number_at s.flows a) (number_at s.squares))

-- the setting as a point over the denominator 1
abbrev pub point_of : Setting → Point
point_of s = record { d = pos 1; positive = record { le = tt }; flow = number_at s.flows; square = number_at s.squares }

-- its choices are listed, each arc has a flow and each node a square, and in its states all laws, balances and bounds hold exactly
pub record MeetsExactly (p : Network) (s : Setting) : Type 0 where
  pub listed : IsListed p s.picks s.states
  pub numbers : HasNumbers p s
  pub meets : Meets p s.states (point_of s)

-- without a tolerance a setting is near exactly where it meets the problem over the denominator 1
abbrev pub NearWithoutTolerance : Type 0
NearWithoutTolerance = (p : Network) (s : Setting) → IsNear p (pos 0) s ↔ MeetsExactly p s
