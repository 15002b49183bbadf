use Rattle.std.proofs.Common.{◌≡◌, ◌∙◌, ap, sym, ℕ, List, Bool, not}
use Rattle.std.specs.Prelude.{◌||◌}
use Rattle.std.specs.List.{list_all}
use Rattle.gas_model.specs.Choices.{fixed_state}
use Rattle.gas_model.specs.declared.rows.PartState.{PartState}
use Rattle.gas_model.specs.Rows.{Network}
use Rattle.tree_rules.specs.NodeRules.{all_arcs}
use Rattle.gas_model.specs.Laws.{is_shut}
use Rattle.tree_check.specs.Cuts.{is_cut_off}
use Rattle.tree_check.proofs.CutNodes.{inside_more}
use Rattle.tree_check.proofs.CutArcs.{passes_at_nodes, at_nodes_alone, all_stops, all_end}
use Rattle.tree_check.proofs.cuts.are_cut_off.Goals as goal

-- the arcs at the nodes decide, since no other joins them to others
alone : (p : Network) (part : PartState) (ns : List ℕ) → list_all (passes_at_nodes (is_cut_off p part ns) p.arcs) ns ≡ all_arcs (is_cut_off p part ns) 0 p.arcs
alone p part ns =
    at_nodes_alone (is_cut_off p part ns) p.arcs ns (λ a row e off. ap (λ (b : Bool). not b || is_shut (fixed_state p part a row)) off)

pub marked-marks-requires : goal.marked-marks-requires
marked-marks-requires c = inside_more _ 2000 c.args.nodes.now c.requires.fits.within.few_nodes c.requires.inside

pub returns-then-not-are_cut_off_at : goal.returns-then-not-are_cut_off_at
returns-then-not-are_cut_off_at c =
    let ns = c.args.nodes.now in
    let test = is_cut_off c.args.p.now c.args.b.now.part ns in
    sym (sym (alone c.args.p.now c.args.b.now.part ns) ∙ c.loop-node.invariant
    ∙ all_stops (passes_at_nodes test c.args.p.now.arcs) ns c.loop-node.node-index 0 c.loop-node-test.true (sym c.are_cut_off_at.ensures ∙ c.if-not-are_cut_off_at.true))

pub returns : goal.returns
returns c =
    let ns = c.args.nodes.now in
    let test = is_cut_off c.args.p.now c.args.b.now.part ns in
    sym (sym (alone c.args.p.now c.args.b.now.part ns) ∙ c.loop-node.invariant
    ∙ all_end (passes_at_nodes test c.args.p.now.arcs) ns c.loop-node.node-index c.loop-node-test.false)
