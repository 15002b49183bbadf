use Rattle.std.proofs.Common.{pos, rules, ◌∙◌, sym, FitsSigned, to_z-of_z}
use Rattle.std.specs.Int.{w128}
use Rattle.std.specs.Ordering.{int_eq}
use Rattle.probe_point.specs.Squares.{leads_out}
use Rattle.probe_point.proofs.Picks.{pick_yes, pick_no}
use Rattle.probe_point.proofs.squares.rooted.Goals as goal

pub returns-then-leads_out : goal.returns-then-leads_out
returns-then-leads_out c =
    let q = c.ranges.q in
    let x = c.ranges.x in
    let low = c.ranges.low in
    let r = c.ranges.r in
    let f : FitsSigned w128 c.behind_loss.result = search rules in
    let zero = simp to_z-of_z at c.is_zero.ensures in
    let out = simp to_z-of_z at c.leads_out.ensures in
    let value = simp to_z-of_z at c.behind_loss.ensures in
    simp to_z-of_z (value ∙ sym (pick_no (int_eq c.args.q (pos 0)) _ _ (sym zero ∙ c.if-is_zero.false) ∙ pick_yes (leads_out c.args.at_from c.args.q) _ _ (sym out ∙ c.if-leads_out.true)))

pub returns-else-leads_out : goal.returns-else-leads_out
returns-else-leads_out c =
    let q = c.ranges.q in
    let x = c.ranges.x in
    let low = c.ranges.low in
    let r = c.ranges.r in
    let f : FitsSigned w128 c.before_loss.result = search rules in
    let zero = simp to_z-of_z at c.is_zero.ensures in
    let out = simp to_z-of_z at c.leads_out.ensures in
    let value = simp to_z-of_z at c.before_loss.ensures in
    simp to_z-of_z (value ∙ sym (pick_no (int_eq c.args.q (pos 0)) _ _ (sym zero ∙ c.if-is_zero.false) ∙ pick_no (leads_out c.args.at_from c.args.q) _ _ (sym out ∙ c.if-leads_out.false)))
