use Rattle.std.proofs.Common.{sym}
use Rattle.std.proofs.lemmas.Result.{err_from_is_err_and}
use Rattle.element_fields.specs.Lookup.{Placed, children}
use Rattle.element_fields.specs.Names.{label}
use Rattle.element_fields.proofs.Rows.{children_are}
use Rattle.element_fields.proofs.Folds.{starts, stops, breaks, takes_on}
use Rattle.scn_reader.specs.declared.bounds.NodeBounds.{NodeBounds}
use Rattle.scn_reader.specs.Bounds.{with_child, widest}
use Rattle.scn_reader.proofs.bounds.node_bounds.Goals as goal

pub loop-q-init : goal.loop-q-init
loop-q-init c = rw c.widest-bounds.ensures (starts (λ s c'. with_child (label c.args.e.now) s c'.0) (children c.args.e.now.depth) widest c.args.below.now)

pub returns-in_err-tighter : goal.returns-in_err-tighter
returns-in_err-tighter c =
    let p = err_from_is_err_and c.from_residual.result c.from_residual.ensures.1 in
    rw (p.1, p.2) (breaks (λ (s : NodeBounds) (c' : Placed). with_child (label c.args.e.now) s c'.0) (children_are c.args.e.now.depth) widest c.loop-q.bounds c.loop-q.rest.now c.args.below.now c.loop-q.invariant (c.in-Some.q.now, c.in-Some.after.now) (sym c.in-Some.ensures.exact) c.in_err-tighter.field-0.0 (rw c.label-called.ensures at c.in_err-tighter.ensures))

pub loop-q-preserved : goal.loop-q-preserved
loop-q-preserved c =
    takes_on (λ (s : NodeBounds) (c' : Placed). with_child (label c.args.e.now) s c'.0) (children_are c.args.e.now.depth) widest c.loop-q.bounds c.loop-q.rest.now c.args.below.now c.loop-q.invariant (c.in-Some.q.now, c.in-Some.after.now) (sym c.in-Some.ensures.exact) c.in_ok-tighter.tighter (rw c.label-called.ensures at c.in_ok-tighter.ensures)

pub returns : goal.returns
returns c = stops (λ (s : NodeBounds) (c' : Placed). with_child (label c.args.e.now) s c'.0) (children_are c.args.e.now.depth) widest c.loop-q.bounds c.loop-q.rest.now c.args.below.now c.loop-q.invariant (sym c.in_default.ensures.exact)
