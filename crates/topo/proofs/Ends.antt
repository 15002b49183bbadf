-- The ends of arcs are nodes.
use Rattle.std.proofs.Common.{◌≡◌, ℕ, ◌<◌, ◌==◌, sym, ap, arith, List, length, get_or, map, subst}
use Rattle.std.specs.Prelude.{Option}
use Rattle.std.proofs.lemmas.List.{get_or-map, length-map}
use Rattle.std.proofs.lemmas.Option.{slice_get-get_or}
use Rattle.gas_model.specs.declared.rows.ArcRow.{ArcRow}
use Rattle.base_types.specs.declared.states.ArcState.{ArcState}
use Rattle.gas_model.specs.Rows.{Network}
use Rattle.gas_model.specs.Within.{IsWithin}
use Rattle.topo.specs.Graphs.{graph_of, no_arc}
use Rattle.topo.specs.Roles.{EndsBelow}
use Rattle.topo.specs.States.{is_active}
use Rattle.topo.specs.Split.{ends_of_active}
use Rattle.topo.specs.Walks.{those}
use Rattle.topo.proofs.PassingNumbers.{those_below}

-- those that active arcs lead to
pub active_below : (nodes : ℕ) (arcs : List ArcRow) (state : ℕ → Option ArcState) (i : ℕ) → EndsBelow arcs nodes → i < length (ends_of_active arcs state) → get_or (ends_of_active arcs state) i 0 < nodes
active_below nodes arcs state i ends h =
    let active : List ℕ = those (λ a. is_active (state a)) (length arcs) in
    let lt : i < length active = subst (λ (n : ℕ). i < n) (length-map active (graph_of arcs).to) h in
    let is : get_or (map (graph_of arcs).to active) i 0 ≡ (graph_of arcs).to (get_or active i 0) = get_or-map (graph_of arcs).to active i 0 0 lt in
    subst (λ (n : ℕ). n < nodes) (sym is) (ends (get_or active i 0) (those_below (λ a. is_active (state a)) (length arcs) i lt)).1

pub within_ends : (p : Network) → IsWithin p → EndsBelow p.arcs (length p.nodes)
within_ends p w a h =
    let here = slice_get-get_or p.arcs a no_arc h in
    (w.from a (get_or p.arcs a no_arc) here, w.to a (get_or p.arcs a no_arc) here)

-- roots are nodes
pub roots_below : (xs root_of : List ℕ) (n i : ℕ) → xs ≡ those (λ k. get_or root_of k 0 == k) (length root_of) → length root_of ≡ n → i < length xs → get_or xs i 0 < n
roots_below xs root_of n i e l h =
    let lt = those_below (λ k. get_or root_of k 0 == k) (length root_of) i (subst (λ (ys : List ℕ). i < length ys) e h) in
    let is : get_or xs i 0 ≡ get_or (those (λ k. get_or root_of k 0 == k) (length root_of)) i 0 = ap (λ (ys : List ℕ). get_or ys i 0) e in
    omega arith
