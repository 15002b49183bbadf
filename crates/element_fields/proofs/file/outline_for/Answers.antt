use Rattle.element_fields.proofs.FileReads.{elements_ok, elements_fail}
use Rattle.element_fields.proofs.file.outline_for.Goals as goal

pub returns-in_err-read_outline : goal.returns-in_err-read_outline
returns-in_err-read_outline c = elements_fail c.from_residual.result c.args.bytes.now c.in_err-read_outline.field-0.0 c.from_residual.ensures.1 c.in_err-read_outline.ensures.exact

pub returns : goal.returns
returns c = elements_ok c.args.bytes.now _ c.in_ok-read_outline.ensures.exact
