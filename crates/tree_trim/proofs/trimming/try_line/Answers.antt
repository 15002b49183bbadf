use Rattle.std.proofs.Common.{◌∙◌, refl, sym}
use Rattle.tree_rules.specs.Branches.{rules_of}
use Rattle.tree_trim.proofs.Marking.{goes_out, stays_in, stays_as}
use Rattle.tree_trim.proofs.trimming.try_line.Goals as goal

pub returns-then-not-branch : goal.returns-then-not-branch
returns-then-not-branch c =
    let lines = c.args.lines.now in
    let marks = c.args.left_out.now in
    stays_in (rules_of c.args.p.now) lines c.args.i c.index-lines-i.result marks c.put-then-not-branch.new.self c.requires.place c.index-lines-i.is
    (λ passes. let t = c.in_ok-pass.ensures.1 (rw (c.as_slice.ensures, c.put.ensures) passes) in let no = c.if-not-branch.true in cc)
    (rw c.put.ensures at c.put-then-not-branch.ensures)

pub returns-else-not-branch : goal.returns-else-not-branch
returns-else-not-branch c =
    let lines = c.args.lines.now in
    let marks = c.args.left_out.now in
    goes_out (rules_of c.args.p.now) lines c.args.i c.index-lines-i.result marks c.put.new.self c.requires.place c.index-lines-i.is
    (sym c.is_step.ensures ∙ c.if-is_step.true)
    (rw (c.as_slice.ensures, c.put.ensures) at (c.in_ok-pass.ensures.0 c.if-not-branch.false))
    c.put.ensures

pub returns-else-is_step : goal.returns-else-is_step
returns-else-is_step c =
    stays_as (rules_of c.args.p.now) c.args.lines.now c.args.i c.index-lines-i.result c.args.left_out.now c.args.left_out.now c.requires.place c.index-lines-i.is
    (sym c.is_step.ensures ∙ c.if-is_step.false) c.requires.there refl
