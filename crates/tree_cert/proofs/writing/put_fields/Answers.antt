use Rattle.std.proofs.Common.{◌∷◌, arith}
use Rattle.tree_cert.specs.Writing.{field_text}
use Rattle.tree_cert.proofs.Fronts.{err_adds, front_at}
use Rattle.tree_cert.proofs.writing.put_fields.Goals as goal

pub returns-in_err-put_spaced-clause-text : goal.returns-in_err-put_spaced-clause-text
returns-in_err-put_spaced-clause-text c =
    err_adds _ _ _ _ c.from_residual.ensures.0
    (front_at (λ field. 32 ∷ field_text field) c.args.fields.now c.loop-field.field-index _ c.args.out.now c.loop-field.out c.put_spaced.new.out (omega arith) c.loop-field.invariant.text c.in_err-put_spaced.ensures.text)
