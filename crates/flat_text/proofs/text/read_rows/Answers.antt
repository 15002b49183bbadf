use Rattle.std.proofs.Common.{arith, ◌∷◌, ap, ◌∙◌, sym, length, length-append, Ok}
use Rattle.std.proofs.lemmas.Result.{err_from_is_err_and}
use Rattle.flat_text.specs.Line.{may_stand}
use Rattle.flat_text.proofs.Passing.{may_be_added, fails, goes_on, ends, goes_past, no_end}
use Rattle.flat_text.proofs.text.read_rows.Goals as goal

pub returns-in_err-item : goal.returns-in_err-item
returns-in_err-item c =
    let p = err_from_is_err_and c.from_residual.result c.from_residual.ensures.1 in
    rw (p.1, p.2) (fails c.loop-text.draft c.loop-text.line c.loop-text.rest.now c.in-Some.text.now c.in-Some.after.now _ c.in-Some.ensures c.loop-text.invariant.so_far c.part.result c.part.ensures c.in_err-item.field-0.0 c.in_err-item.ensures)

pub add-requires : goal.add-requires
add-requires c =
    let placed_is = c.in_ok-item.ensures in
    ap (λ p. may_stand p c.in-Some-2.item) (sym c.part.ensures) ∙ may_be_added c.loop-text.line c.part.result c.in-Some.text.now c.in-Some-2.item (rw c.in-Some-2.is at placed_is)

pub returns-in_err-nothing_after-in-None : goal.returns-in_err-nothing_after-in-None
returns-in_err-nothing_after-in-None c =
    let placed_is = c.in_ok-item.ensures in
    let p = err_from_is_err_and c.from_residual-in_err-nothing_after-in-None.result c.from_residual-in_err-nothing_after-in-None.ensures.1 in
    rw (p.1, p.2) (goes_past c.loop-text.draft c.loop-text.line c.loop-text.rest.now c.in-Some.text.now c.in-Some.after.now _ c.in-Some.ensures c.loop-text.invariant.so_far c.part.result c.part.ensures c.in_err-nothing_after-in-None.field-0.0
    (rw c.in-None.is at placed_is) c.in_err-nothing_after-in-None.ensures)

pub returns-in-None : goal.returns-in-None
returns-in-None c =
    let placed_is = c.in_ok-item.ensures in
    ends c.loop-text.draft c.loop-text.line c.loop-text.rest.now c.in-Some.text.now c.in-Some.after.now _ c.in-Some.ensures c.loop-text.invariant.so_far c.part.result c.part.ensures
    (rw c.in-None.is at placed_is) c.in_ok-nothing_after-in-None.ensures ∙ ap (λ r. Ok r) (sym c.in_ok-rows-in-None.ensures)

pub loop-text-preserved : goal.loop-text-preserved
loop-text-preserved c =
    let placed_is = c.in_ok-item.ensures in
    let len = ap length c.in-Some.ensures.0 in
    record {
      so_far = goes_on c.loop-text.draft c.loop-text.line c.loop-text.rest.now c.in-Some.text.now c.in-Some.after.now _ c.in-Some.ensures c.loop-text.invariant.so_far c.part.result c.part.ensures
          c.in-Some-2.item c.in_ok-draft-in-Some-2.draft (rw c.in-Some-2.is at placed_is) c.in_ok-draft-in-Some-2.ensures;
      room = omega (arith, len, length-append c.in-Some.text.now (10 ∷ c.in-Some.after.now), c.loop-text.invariant.room);
    }

pub returns : goal.returns
returns c = no_end c.loop-text.draft c.loop-text.line c.loop-text.rest.now _ c.in_default.ensures c.loop-text.invariant.so_far
