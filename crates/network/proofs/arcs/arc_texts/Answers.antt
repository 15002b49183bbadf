use Rattle.std.proofs.Common.{arith, ap, sym, ◌∙◌, ◌+◌, ◌++◌, ◌∷◌, [], drop}
use Rattle.std.specs.Option.{option_or}
use Rattle.gas_model.proofs.GroupTurns.{made_more}
use Rattle.network.specs.Faults.{first_fault}
use Rattle.network.specs.Table.{arc_text, arc_fault}
use Rattle.network.specs.Tables.{look_row}
use Rattle.network.proofs.Kept.{drop_item}
use Rattle.network.proofs.arcs.arc_texts.Goals as goal

pub loop-arc-preserved : goal.loop-arc-preserved
loop-arc-preserved c =
    let table = look_row c.args.table.now in
    let arcs = c.args.arcs.now in
    let i = c.loop-arc.arc-index in
    record {
      texts = made_more (arc_text table) arcs i c.arc-item.result c.loop-arc.texts c.push.new.self (omega (arith, c.loop-arc-test.true)) c.arc-item.is c.loop-arc.invariant.texts
          (c.in_ok-push.ensures.ok ∙ ap (λ t. c.loop-arc.texts ++ t ∷ []) c.in_ok-arc_text.ensures.text);
      so_far = ap (λ o. option_or o (first_fault (arc_fault table) (drop (i + 1) arcs))) (sym c.in_ok-arc_text.ensures.clean)
          ∙ ap (first_fault (arc_fault table)) (sym (drop_item arcs i c.arc-item.result (omega (arith, c.loop-arc-test.true)) c.arc-item.is)) ∙ c.loop-arc.invariant.so_far;
    }
