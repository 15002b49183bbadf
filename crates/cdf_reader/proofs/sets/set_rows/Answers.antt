use Rattle.std.proofs.Common.{sym}
use Rattle.std.proofs.lemmas.Result.{err_from_is_err_and}
use Rattle.element_fields.specs.Names.{label}
use Rattle.element_fields.specs.Lookup.{children}
use Rattle.element_fields.proofs.Rows.{children_are, begins, ends, fails, goes_on}
use Rattle.cdf_reader.specs.Sets.{set_in}
use Rattle.cdf_reader.proofs.sets.set_rows.Goals as goal

pub loop-e-init : goal.loop-e-init
loop-e-init c = rw c.new-rows.ensures (begins (set_in (label c.args.parent.now)) (children c.args.parent.now.depth) c.args.below.now)

pub returns-in_err-row : goal.returns-in_err-row
returns-in_err-row c =
    let p = err_from_is_err_and c.from_residual.result c.from_residual.ensures.1 in
    rw (p.1, p.2) (fails (set_in (label c.args.parent.now)) (children_are c.args.parent.now.depth) c.loop-e.rows c.loop-e.rest.now c.args.below.now c.loop-e.invariant (c.in-Some.e.now, c.in-Some.after.now) (sym c.in-Some.ensures.exact) c.in_err-row.field-0.0 (rw c.label-called.ensures at c.in_err-row.ensures))

pub loop-e-preserved : goal.loop-e-preserved
loop-e-preserved c =
    rw c.in_ok-push.ensures.ok (goes_on (set_in (label c.args.parent.now)) (children_are c.args.parent.now.depth) c.loop-e.rows c.loop-e.rest.now c.args.below.now c.loop-e.invariant (c.in-Some.e.now, c.in-Some.after.now) (sym c.in-Some.ensures.exact) c.in_ok-row.row (rw c.label-called.ensures at c.in_ok-row.ensures))

pub returns : goal.returns
returns c = ends (set_in (label c.args.parent.now)) (children_are c.args.parent.now.depth) c.loop-e.rows c.loop-e.rest.now c.args.below.now c.loop-e.invariant (sym c.in_default.ensures.exact)
