use Rattle.std.proofs.Common.{◌∙◌, sym, length}
use Rattle.tree_rules.specs.NodeRules.{all_arcs, are_cut_nodes, is_unbalanced}
use Rattle.tree_check.specs.Cuts.{ascends, all_inside, is_cut_off}
use Rattle.tree_check.proofs.CutNodes.{are_cut_nodes_is, full_cut}
use Rattle.tree_check.proofs.cuts.cuts.Goals as goal

pub returns-then-are_cut_off : goal.returns-then-are_cut_off
returns-then-are_cut_off c =
    let nodes = c.args.p.now.nodes in
    let ns = c.args.nodes.now in
    let all = rw c.nodes.ensures.rows at c.all_inside.ensures in
    c.is_unbalanced.ensures ∙ full_cut (ascends ns) (all_inside (length nodes) ns) (all_arcs (is_cut_off c.args.p.now c.args.b.now.part ns) 0 c.args.p.now.arcs) (is_unbalanced nodes ns) (are_cut_nodes nodes ns)
    (are_cut_nodes_is nodes ns) (sym c.ascend.ensures ∙ c.if-not-ascend.false) (sym all ∙ c.if-not-all_inside.false) (sym c.are_cut_off.ensures ∙ c.if-are_cut_off.true)
