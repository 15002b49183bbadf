use Rattle.std.proofs.lemmas.Result.{err_from_is_err_and}
use Rattle.gas_model.specs.declared.Bytes.{Bytes}
use Rattle.gas_model.specs.declared.List.{List}
use Rattle.tree_cert.specs.declared.line.Line.{Line}
use Rattle.refuting_tree.proofs.Telling.{fault_tells, whole_tells}
use Rattle.trim_rules.proofs.Trims.{trimmed_texts_pass, trimmed_texts_need_their_steps}
use Rattle.tree_trim.proofs.KeptLines.{ordered_lines}
use Rattle.tree_trim.proofs.Marking.{trim_is}
use Rattle.tree_trim.proofs.trimming.trim.Goals as goal

pub returns-in_err-lines-clause-said : goal.returns-in_err-lines-clause-said
returns-in_err-lines-clause-said c =
    let p = err_from_is_err_and c.from_residual.result c.from_residual.ensures.1 in
    rw (p.1, p.2) (λ f is. fault_tells (List Line) Bytes f c.in_err-lines.field-0.0 (c.in_err-lines.ensures.said f is))

pub left_out-requires : goal.left_out-requires
left_out-requires c = rw c.as_slice.ensures (ordered_lines c.in_ok-lines.lines c.in_ok-lines.ensures.lines.spelled)

pub kept_text-requires-clause-ordered : goal.kept_text-requires-clause-ordered
kept_text-requires-clause-ordered c = rw c.as_slice-2.ensures (ordered_lines c.in_ok-lines.lines c.in_ok-lines.ensures.lines.spelled)

pub returns-clause-passes : goal.returns-clause-passes
returns-clause-passes c =
    let t = trim_is c.args.p.now c.args.text.now c.in_ok-kept_text.field-0 c.in_ok-lines.lines c.in_ok-left_out.left_out c.in_ok-lines.ensures.lines (rw c.as_slice.ensures at c.in_ok-left_out.ensures) (rw (c.as_slice-2.ensures, c.as_slice-3.ensures) at c.in_ok-kept_text.ensures) in
    (trimmed_texts_pass c.args.p.now c.args.text.now c.in_ok-kept_text.field-0 c.in_ok-lines.ensures.says t).0

pub returns-clause-part : goal.returns-clause-part
returns-clause-part c =
    let t = trim_is c.args.p.now c.args.text.now c.in_ok-kept_text.field-0 c.in_ok-lines.lines c.in_ok-left_out.left_out c.in_ok-lines.ensures.lines (rw c.as_slice.ensures at c.in_ok-left_out.ensures) (rw (c.as_slice-2.ensures, c.as_slice-3.ensures) at c.in_ok-kept_text.ensures) in
    (trimmed_texts_pass c.args.p.now c.args.text.now c.in_ok-kept_text.field-0 c.in_ok-lines.ensures.says t).1

pub returns-clause-needs : goal.returns-clause-needs
returns-clause-needs c =
    let t = trim_is c.args.p.now c.args.text.now c.in_ok-kept_text.field-0 c.in_ok-lines.lines c.in_ok-left_out.left_out c.in_ok-lines.ensures.lines (rw c.as_slice.ensures at c.in_ok-left_out.ensures) (rw (c.as_slice-2.ensures, c.as_slice-3.ensures) at c.in_ok-kept_text.ensures) in
    trimmed_texts_need_their_steps c.args.p.now c.args.text.now c.in_ok-kept_text.field-0 c.within.ensures c.in_ok-lines.ensures.says t

pub returns-clause-said : goal.returns-clause-said
returns-clause-said c = λ f is. whole_tells (List Line) Bytes f c.in_ok-lines.lines c.in_ok-kept_text.field-0 (c.in_ok-lines.ensures.said f is)
