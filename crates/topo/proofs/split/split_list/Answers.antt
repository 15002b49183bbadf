use Rattle.std.proofs.Common.{ℕ, ◌<◌, List, length, slice_index, sym, ◌∙◌, subst}
use Rattle.topo.specs.States.{state_in}
use Rattle.topo.proofs.Ends.{active_below}
use Rattle.topo.proofs.split.split_list.Goals as goal

pub firsts-requires-clause-ends : goal.firsts-requires-clause-ends
firsts-requires-clause-ends c i h =
    let is = c.as_slice.ensures.value ∙ c.in_ok-ends.ensures in
    let lt = active_below c.args.nodes c.args.arcs.now (state_in c.args.states.now) i c.requires.ends (subst (λ (xs : List ℕ). i < length xs) is h) in
    subst (λ (xs : List ℕ). slice_index xs i < c.args.nodes) (sym is) lt
