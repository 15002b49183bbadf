use Rattle.std.proofs.Common.{◌≡◌, sym, subst, refl, Some, length}
use Rattle.std.specs.Prelude.{slice_get}
use Rattle.std.proofs.lemmas.Option.{slice_get_read}
use Rattle.gas_model.specs.declared.rows.ArcRow.{ArcRow}
use Rattle.tree_rules.specs.Rules.{fixed_form}
use Rattle.tight_steps.specs.Moves.{part_box}
use Rattle.flow_propagate.proofs.ArcFlows.{unfixed_none}
use Rattle.flow_propagate.proofs.arcs.best_at_arc.Goals as goal

pub fixed_form-requires-clause-row : goal.fixed_form-requires-clause-row
fixed_form-requires-clause-row c = slice_get_read c.args.p.now.arcs (length c.args.p.now.arcs) c.args.arc c.index-arcs-arc.result refl c.requires.arc (rw c.arcs.ensures.rows at c.index-arcs-arc.is)

pub returns-in_err-form : goal.returns-in_err-form
returns-in_err-form c =
    let own = c.index-arcs-arc.result in
    let here : slice_get c.args.p.now.arcs c.args.arc ≡ Some own = slice_get_read c.args.p.now.arcs (length c.args.p.now.arcs) c.args.arc own refl c.requires.arc (rw c.arcs.ensures.rows at c.index-arcs-arc.is) in
    rw c.from_residual.ensures (unfixed_none c.args.p.now (part_box c.args.b.now.scale c.args.state.now c.args.b.now.bounds) c.args.arc own here (sym c.in_err-form.ensures.form))

pub returns : goal.returns
returns c =
    let own = c.index-arcs-arc.result in
    let here : slice_get c.args.p.now.arcs c.args.arc ≡ Some own = slice_get_read c.args.p.now.arcs (length c.args.p.now.arcs) c.args.arc own refl c.requires.arc (rw c.arcs.ensures.rows at c.index-arcs-arc.is) in
    c.best_by_form.ensures c.args.state.now (λ row at. subst (λ (r : ArcRow). fixed_form c.args.p.now c.args.state.now c.args.arc r ≡ Some c.in_ok-form.form) (let same : own ≡ row = cc (here, at) in same) (sym c.in_ok-form.ensures.form))
