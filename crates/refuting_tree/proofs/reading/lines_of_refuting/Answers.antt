use Rattle.std.proofs.lemmas.Result.{err_from_is_err_and}
use Rattle.gas_model.specs.declared.List.{List}
use Rattle.tree_cert.specs.declared.line.Line.{Line}
use Rattle.refuting_tree.proofs.Telling.{fault_tells, whole_tells}
use Rattle.refuting_tree.proofs.reading.lines_of_refuting.Goals as goal

pub returns-in_err-check-clause-said : goal.returns-in_err-check-clause-said
returns-in_err-check-clause-said c =
    let p = err_from_is_err_and c.from_residual.result c.from_residual.ensures.1 in
    rw (p.1, p.2) (λ f is. fault_tells (Unit {0}) (List Line) f c.in_err-check.field-0.0 (c.in_err-check.ensures.said f is))

pub returns-clause-said : goal.returns-clause-said
returns-clause-said c = λ f is. whole_tells (Unit {0}) (List Line) f c.in_ok-check.field-0 c.in_ok-read_lines.field-0 (c.in_ok-check.ensures.said f is)
