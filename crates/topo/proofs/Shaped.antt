-- What the parts of a shape make together.
use Rattle.std.proofs.Common.{◌≡◌, ℕ, ◌<◌, ◌==◌, sym, ap, ◌∙◌, List, length, get_or, subst, Bool}
use Rattle.std.specs.Prelude.{Option}
use Rattle.base_types.specs.declared.states.ArcState.{ArcState}
use Rattle.gas_model.specs.declared.rows.PartState.{PartState}
use Rattle.gas_model.specs.Rows.{Network}
use Rattle.gas_model.specs.Within.{IsWithin}
use Rattle.gas_model.specs.Incidence.{KeepsArcsAt}
use Rattle.topo.specs.declared.forest.Role.{Role}
use Rattle.topo.specs.Graphs.{Graph, graph_of}
use Rattle.topo.specs.States.{is_kept, is_there, state_in, fixed_at}
use Rattle.topo.specs.Roles.{AreRoles, has_tree_role, has_chord_role}
use Rattle.topo.specs.Walks.{those, AreWalks}
use Rattle.topo.specs.Split.{ends_of_active, split_of}
use Rattle.topo.specs.Shapes.{Layout, AreRoots, IsLaidOut, IsShapeOf}
use Rattle.topo.proofs.PassingNumbers.{arcs_at-those}
use Rattle.topo.proofs.Ends.{within_ends}
use Rattle.topo.proofs.FixedStates.{states_are, kept_there}
use Rattle.topo.proofs.Laid.{laid_out}

-- all that the code says of the parts
pub record Parts (p : Network) (states : List (Option ArcState)) (found : List Role) (s : Layout) : Type 0 where
  pub roles : AreRoles (graph_of p.arcs) (is_kept states) found
  pub root_of : AreRoots (graph_of p.arcs) (is_kept states) (length p.nodes) s.root_of
  pub roots : s.roots ≡ those (λ n. get_or s.root_of n 0 == n) (length s.root_of)
  pub chords : s.chords ≡ those (has_chord_role found) (length found)
  pub walk : AreWalks (graph_of p.arcs) (has_tree_role found) s.roots (length s.roots) s.walk
  pub at_node : KeepsArcsAt s.at_node (length p.nodes) p.arcs
  pub split_list : s.split_list ≡ split_of s.chords s.roots (ends_of_active p.arcs (state_in states))

pub shaped : (p : Network) (part : PartState) (states : List (Option ArcState)) (roles : List Role) (s : Layout) → IsWithin p → length states ≡ length p.arcs → ((a : ℕ) → a < length p.arcs → state_in states a ≡ fixed_at p part a) → Parts p states roles s → IsShapeOf p part s
shaped p part states roles s w e f x =
    let g : Graph = graph_of p.arcs in
    let same : state_in states ≡ fixed_at p part = states_are p part states e f in
    let keep : is_kept states ≡ is_there p part = kept_there p part states same in
    let walk = subst (λ (rs : List ℕ). AreWalks g (has_tree_role roles) rs (length rs) s.walk) x.roots x.walk in
    let made = laid_out g (is_kept states) (length p.nodes) s.root_of roles s.walk s.at_node s.split_list (arcs_at-those p.arcs) (within_ends p w) x.roles x.root_of walk in
    let with_roots = subst (λ (rs : List ℕ). IsLaidOut g (is_kept states) (length p.nodes) (record { roots = rs; root_of = s.root_of; chords = those (has_chord_role roles) (length roles); walk = s.walk; at_node = s.at_node; split_list = s.split_list })) (sym x.roots) made in
    let with_chords = subst (λ (cs : List ℕ). IsLaidOut g (is_kept states) (length p.nodes) (record { roots = s.roots; root_of = s.root_of; chords = cs; walk = s.walk; at_node = s.at_node; split_list = s.split_list })) (sym x.chords) with_roots in
    record {
      laid_out = subst (λ (k : ℕ → Bool). IsLaidOut g k (length p.nodes) s) keep with_chords;
      at_node = x.at_node;
      split_list = x.split_list ∙ ap (λ (t : ℕ → Option ArcState). split_of s.chords s.roots (ends_of_active p.arcs t)) same;
    }
