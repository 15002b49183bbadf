-- The setting that is tried in a box, as equations.
use Rattle.std.specs.Prelude.{◌≡◌, ◌≢◌, ℕ, ◌<◌, ◌*◌, ◌==◌, List, length, slice_index_or, if◌then◌else◌, ℤ, pos, ◌+ℤ◌, ◌-ℤ◌, int_lt, ◌≤ℤ◌}
use Rattle.integer_laws.specs.Sizes.{IsWithin}
use Rattle.gas_model.specs.declared.rows.ArcRow.{ArcRow}
use Rattle.gas_model.specs.declared.rows.Ends.{Ends}
use Rattle.gas_model.specs.Boxes.{no_ends}
use Rattle.gas_model.specs.Near.{number_at}
use Rattle.gas_model.specs.Points.{net_flow}
use Rattle.topo.specs.Graphs.{Graph, graph_of}
use Rattle.topo.specs.Walks.{Step, step_at, far_of}

-- the value between the ends that is nearest to x
abbrev pub nearest : Ends → ℤ → ℤ
nearest e x = if int_lt x e.lo then e.lo else if int_lt e.hi x then e.hi else x

abbrev pub box_at : List Ends → ℕ → Ends
box_at boxes i = slice_index_or boxes i no_ends

-- the flows, but the arc a has none
abbrev pub but : ℕ → (ℕ → ℤ) → ℕ → ℤ
but a q i = if i == a then pos 0 else q i

-- the flow of the arc a by which its end v takes up the rest of the supply
abbrev pub taking_up : Graph → ℕ → ℕ → ℤ → ℤ
taking_up g a v rest = if g.from a == v then rest else pos 0 -ℤ rest

-- the flow of the arc a that balances its end v at the supply
abbrev pub balancing : List ArcRow → ℤ → (ℕ → ℤ) → ℕ → ℕ → ℤ
balancing arcs supply q a v = taking_up (graph_of arcs) a v (supply -ℤ net_flow (but a q) v arcs)

-- each tree arc has the value of its box that is nearest to the flow which balances its far node
abbrev pub HasTreeFlows : List ArcRow → (ℕ → Ends) → (ℕ → ℤ) → List Step → (ℕ → ℤ) → Type 0
HasTreeFlows arcs box supply walk q =
    (i : ℕ) → i < length walk → let a = (step_at walk i).0 in let v = far_of (graph_of arcs) (step_at walk i) in
    q a ≡ nearest (box a) (balancing arcs (supply v) q a v)

-- the arcs that are no step of the walk keep their flows
abbrev pub KeepsOthers : List Step → (ℕ → ℤ) → (ℕ → ℤ) → Type 0
KeepsOthers walk q r = (a : ℕ) → ((i : ℕ) → i < length walk → a ≢ (step_at walk i).0) → r a ≡ q a

-- what each node still needs: its supply less what its arcs carry off
abbrev pub AreNeeds : List ArcRow → (ℕ → ℤ) → (ℕ → ℤ) → List ℤ → Type 0
AreNeeds arcs supply q need = (v : ℕ) → v < length need → number_at need v ≡ supply v -ℤ net_flow q v arcs

-- each number is at most so many times 10^12
abbrev pub AreSmall : ℕ → List ℤ → Type 0
AreSmall m numbers = (i : ℕ) → i < length numbers → IsWithin (m * 1000000000000) (number_at numbers i)

-- the ends are within 10^12, and the lower one isn't above the upper one
pub record AreFlowBoxes (boxes : List Ends) : Type 0 where
  pub low : (a : ℕ) → a < length boxes → IsWithin 1000000000000 (box_at boxes a).lo
  pub high : (a : ℕ) → a < length boxes → IsWithin 1000000000000 (box_at boxes a).hi
  pub order : (a : ℕ) → a < length boxes → (box_at boxes a).lo ≤ℤ (box_at boxes a).hi

-- the ends of the arcs are different nodes
pub record AreGraphEnds (arcs : List ArcRow) (nodes : ℕ) : Type 0 where
  pub from : (a : ℕ) → a < length arcs → (graph_of arcs).from a < nodes
  pub to : (a : ℕ) → a < length arcs → (graph_of arcs).to a < nodes
  pub apart : (a : ℕ) → a < length arcs → (graph_of arcs).from a ≢ (graph_of arcs).to a
