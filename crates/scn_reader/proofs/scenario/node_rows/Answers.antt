use Rattle.std.proofs.Common.{sym, codes}
use Rattle.std.proofs.lemmas.Result.{err_from_is_err_and}
use Rattle.element_fields.specs.Lookup.{children_named}
use Rattle.element_fields.proofs.Rows.{named_are, begins, ends, fails, goes_on}
use Rattle.scn_reader.specs.Scenario.{node_in}
use Rattle.scn_reader.proofs.scenario.node_rows.Goals as goal

pub loop-e-init : goal.loop-e-init
loop-e-init c = rw c.new-rows.ensures (begins node_in (children_named c.args.depth (codes "node")) c.args.below.now)

pub returns-in_err-row : goal.returns-in_err-row
returns-in_err-row c =
    let p = err_from_is_err_and c.from_residual.result c.from_residual.ensures.1 in
    rw (p.1, p.2) (fails node_in (named_are c.args.depth (codes "node")) c.loop-e.rows c.loop-e.rest.now c.args.below.now c.loop-e.invariant (c.in-Some.e.now, c.in-Some.after.now) (sym c.in-Some.ensures.exact) c.in_err-row.field-0.0 c.in_err-row.ensures)

pub loop-e-preserved : goal.loop-e-preserved
loop-e-preserved c =
    rw c.in_ok-push.ensures.ok (goes_on node_in (named_are c.args.depth (codes "node")) c.loop-e.rows c.loop-e.rest.now c.args.below.now c.loop-e.invariant (c.in-Some.e.now, c.in-Some.after.now) (sym c.in-Some.ensures.exact) c.in_ok-row.row c.in_ok-row.ensures)

pub returns : goal.returns
returns c = ends node_in (named_are c.args.depth (codes "node")) c.loop-e.rows c.loop-e.rest.now c.args.below.now c.loop-e.invariant (sym c.in_default.ensures.exact)
