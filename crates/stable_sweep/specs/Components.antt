-- The components of a network in a part state, and the closings that settling tries.
use Rattle.std.specs.Prelude.{ℕ, ◌<◌, List, length, IsTrue}
use Rattle.gas_model.specs.declared.rows.PartState.{PartState}
use Rattle.gas_model.specs.Rows.{Network}
use Rattle.topo.specs.Graphs.{graph_of, IsRoot, Lists}
use Rattle.topo.specs.States.{is_there}
use Rattle.tree_cert.specs.declared.line.Closing.{Closing}
use Rattle.tree_cert.specs.declared.line.Closing.TheVariants.{Cut}
use Rattle.tree_rules.specs.Rules.{PartBox, cuts, closing_holds}

-- the node is one of the component with this root
pub record IsNodeOf (p : Network) (part : PartState) (root n : ℕ) : Type 0 where
  pub is_node : n < length p.nodes
  pub has_root : IsRoot (graph_of p.arcs) (is_there p part) n root

-- all nodes of the component with this root, in ascending order
pub record IsComponent (p : Network) (part : PartState) (root : ℕ) (ns : List ℕ) : Type 0 where
  pub own : IsNodeOf p part root root
  pub nodes : Lists ns (IsNodeOf p part root)

-- of cuts, those of whole components are tried alone
abbrev pub IsTried : Network → PartState → Closing → Type 0
IsTried p part (Cut ns) = (root : ℕ) × IsComponent p part root ns
IsTried p part c = Unit {0}

-- the closing is one that is tried, and holds
pub record Holds (p : Network) (b : PartBox) (c : Closing) : Type 0 where
  pub tried : IsTried p b.part c
  pub holds : IsTrue (closing_holds p b c)

-- no component is a cut, or this is the first that is, in the order of roots
pub record NoneCuts (p : Network) (part : PartState) : Type 0 where
  pub none : (root : ℕ) (ns : List ℕ) → IsComponent p part root ns → IsTrue (cuts p part ns) → ⊥

pub record Cuts (p : Network) (part : PartState) (ns : List ℕ) : Type 0 where
  pub root : ℕ
  pub component : IsComponent p part root ns
  pub first : (earlier : ℕ) (ms : List ℕ) → earlier < root → IsComponent p part earlier ms → IsTrue (cuts p part ms) → ⊥
  pub cuts : IsTrue (cuts p part ns)
