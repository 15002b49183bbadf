use Rattle.std.proofs.Common.{◌<◌, arith, length, get_or}
use Rattle.std.proofs.lemmas.List.{length-map, get_or_default}
use Rattle.std.proofs.lemmas.Option.{slice_get-get_or}
use Rattle.base_types.specs.declared.states.Allow.TheVariants.{Opened}
use Rattle.gas_model.proofs.Ruled.{sets_turn}
use Rattle.gas_model.proofs.rulings.note_sets.Goals as goal

pub note-requires : goal.note-requires
note-requires c =
    let below : c.loop-arc.arc-index < length c.args.sets.now = omega (arith, c.loop-arc-test.true) in
    let named = c.requires c.loop-arc.arc-index (get_or c.args.sets.now c.loop-arc.arc-index (0, Opened)) (slice_get-get_or c.args.sets.now c.loop-arc.arc-index (0, Opened) below) in
    let count = c.loop-arc.invariant.count in
    let then_long = length-map c.args.lists.now.items (λ v. v.items) in
    let now_long = length-map c.loop-arc.lists.items (λ v. v.items) in
    omega (arith, named, count, then_long, now_long)

pub loop-arc-preserved : goal.loop-arc-preserved
loop-arc-preserved c =
    let below : c.loop-arc.arc-index < length c.args.sets.now = omega (arith, c.loop-arc-test.true) in
    let s = get_or c.args.sets.now c.loop-arc.arc-index (0, Opened) in
    sets_turn c.args.group c.args.decision c.loop-arc.arc-index c.args.sets.now s _ _ _ below (get_or_default c.args.sets.now c.loop-arc.arc-index (0, Opened) s below) c.loop-arc.invariant c.in_ok-note.ensures
