use Rattle.std.proofs.Common.{arith, [], ap, ◌∷◌, ◌++◌, ◌∙◌}
use Rattle.std.proofs.lemmas.Result.{err_from_is_err_and}
use Rattle.gas_model.specs.Rows.{text_ids, group_of, decided_in}
use Rattle.gas_model.proofs.Decided.{gathered_turn}
use Rattle.gas_model.proofs.GroupTurns.{IsTurn, told_here, clean_here, made_more}
use Rattle.gas_model.proofs.grouping.place_groups.Goals as goal

pub returns-in_err-add_group-clause-err : goal.returns-in_err-add_group-clause-err
returns-in_err-add_group-clause-err c =
    let v = c.loop-group.invariant in
    let t : IsTurn c.args.arcs.now c.args.groups.now c.loop-group.group-index c.group-item.result c.loop-group.earlier c.loop-group.decided =
    record { before = omega (arith, c.loop-group-test.true); here = c.group-item.is; earlier = v.earlier; decided = v.decided; so_far = v.so_far } in
    let p = err_from_is_err_and c.from_residual.result c.from_residual.ensures.1 in
    rw (p.1, p.2) (told_here _ _ _ _ _ _ _ t c.in_err-add_group.ensures.err)

pub loop-group-preserved : goal.loop-group-preserved
loop-group-preserved c =
    let v = c.loop-group.invariant in
    let t : IsTurn c.args.arcs.now c.args.groups.now c.loop-group.group-index c.group-item.result c.loop-group.earlier c.loop-group.decided =
    record { before = omega (arith, c.loop-group-test.true); here = c.group-item.is; earlier = v.earlier; decided = v.decided; so_far = v.so_far } in
    record {
      placed = made_more (group_of (text_ids c.args.arcs.now)) c.args.groups.now c.loop-group.group-index c.group-item.result c.loop-group.placed c.push.new.self t.before t.here v.placed
          (c.in_ok-push.ensures.ok ∙ ap (λ g. c.loop-group.placed ++ g ∷ []) c.in_ok-add_group.ensures.group);
      earlier = made_more (λ g. g.id) c.args.groups.now c.loop-group.group-index c.group-item.result c.loop-group.earlier c.add_group.new.earlier t.before t.here v.earlier c.in_ok-add_group.ensures.earlier;
      decided = gathered_turn decided_in [] c.loop-group.decided c.note_group.new.decided c.args.groups.now c.loop-group.group-index c.group-item.result t.before t.here v.decided c.in_ok-note_group.ensures;
      so_far = clean_here _ _ _ _ _ _ t c.in_ok-add_group.ensures.clean;
    }
