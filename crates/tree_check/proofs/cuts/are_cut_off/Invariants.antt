use Rattle.std.proofs.Common.{◌≡◌, drop}
use Rattle.std.specs.List.{list_all}
use Rattle.tree_check.specs.Cuts.{is_cut_off}
use Rattle.tree_check.proofs.CutArcs.{passes_at_nodes}
use Rattle.tree_check.proofs.cuts.are_cut_off.Given as goal

abbrev pub invariant-loop-node : goal.invariant-loop-node
invariant-loop-node l =
    list_all (passes_at_nodes (is_cut_off l.p l.b.part l.nodes) l.p.arcs) l.nodes ≡ list_all (passes_at_nodes (is_cut_off l.p l.b.part l.nodes) l.p.arcs) (drop l.node-index l.nodes)
