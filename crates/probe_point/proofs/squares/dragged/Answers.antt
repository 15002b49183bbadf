use Rattle.std.proofs.Common.{rules, sym, ap, ◌∙◌, ℤ, ◌+ℤ◌, FitsSigned, to_z-of_z}
use Rattle.std.specs.Int.{w128}
use Rattle.probe_point.specs.Squares.{leads_out}
use Rattle.probe_point.proofs.Picks.{pick_no}
use Rattle.probe_point.proofs.squares.dragged.Goals as goal

pub returns-else-leads_out : goal.returns-else-leads_out
returns-else-leads_out c =
    let x = c.ranges.x in
    let d : FitsSigned w128 c.middle_drop-drop.result = search rules in
    let s : FitsSigned w128 (c.args.x +ℤ c.middle_drop-drop.result) = search rules in
    let q = c.ranges.q in
    let out = simp to_z-of_z at c.leads_out.ensures in
    let drop = simp to_z-of_z at c.middle_drop-drop.ensures.value in
    simp to_z-of_z (ap (λ (y : ℤ). c.args.x +ℤ y) drop ∙ sym (pick_no (leads_out c.args.at_from c.args.q) _ _ (sym out ∙ c.if-leads_out.false)))
