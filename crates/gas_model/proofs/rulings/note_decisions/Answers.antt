use Rattle.std.proofs.Common.{◌≡◌, ◌<◌, arith, length, refl, sym}
use Rattle.std.proofs.lemmas.List.{length-map}
use Rattle.std.proofs.lemmas.Option.{slice_get_read}
use Rattle.gas_model.proofs.Ruled.{decisions_turn}
use Rattle.gas_model.proofs.rulings.note_decisions.Goals as goal

pub note_sets-requires : goal.note_sets-requires
note_sets-requires c =
    let below : c.loop-j.j < length c.args.decisions.now = omega (arith, c.loop-j-test.true) in
    let same : length c.args.lists.now.items ≡ length c.loop-j.lists.items = (let count = c.loop-j.invariant.count in
    let then_long = length-map c.args.lists.now.items (λ v. v.items) in
    let now_long = length-map c.loop-j.lists.items (λ v. v.items) in
    omega (arith, count, then_long, now_long)) in
    rw (c.as_slice.ensures, sym same) (c.requires.arcs c.loop-j.j c.index-decisions-j.result (slice_get_read c.args.decisions.now (length c.args.decisions.now) c.loop-j.j c.index-decisions-j.result refl below c.index-decisions-j.is))

pub loop-j-preserved : goal.loop-j-preserved
loop-j-preserved c =
    decisions_turn c.args.group c.loop-j.j c.args.decisions.now c.index-decisions-j.result _ _ _ (omega (arith, c.loop-j-test.true)) c.index-decisions-j.is c.loop-j.invariant (rw c.as_slice.ensures at c.in_ok-note_sets.ensures)
