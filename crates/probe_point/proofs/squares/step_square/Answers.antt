use Rattle.std.proofs.Common.{◌∙◌, sym, subst, IsTrue}
use Rattle.std.proofs.lemmas.List.{get_or_default}
use Rattle.gas_model.specs.declared.rows.ArcRow.{ArcRow}
use Rattle.gas_model.specs.Limits.{is_kind_within}
use Rattle.topo.specs.Graphs.{no_arc}
use Rattle.probe_point.proofs.squares.step_square.Goals as goal

pub far_square-requires-clause-kind : goal.far_square-requires-clause-kind
far_square-requires-clause-kind c =
    let is = c.index-arcs-arc.is ∙ get_or_default c.args.arcs.now c.args.arc c.index-arcs-arc.result no_arc c.requires.arc in
    subst (λ (row : ArcRow). IsTrue (is_kind_within row.kind)) (sym is) (c.requires.kinds c.args.arc c.requires.arc)
