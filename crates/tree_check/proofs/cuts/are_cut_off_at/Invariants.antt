use Rattle.std.proofs.Common.{◌≡◌, drop}
use Rattle.std.specs.List.{list_all}
use Rattle.tree_check.specs.Cuts.{passes_at, is_cut_off}
use Rattle.tree_check.proofs.cuts.are_cut_off_at.Given as goal

abbrev pub invariant-loop-arc : goal.invariant-loop-arc
invariant-loop-arc l =
    list_all (passes_at (is_cut_off l.p l.b.part l.nodes) l.p.arcs) l.arc-items ≡ list_all (passes_at (is_cut_off l.p l.b.part l.nodes) l.p.arcs) (drop l.arc-index l.arc-items)
