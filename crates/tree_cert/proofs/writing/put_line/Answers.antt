use Rattle.std.proofs.Common.{◌∷◌, ◌++◌, [], ap, ◌∙◌}
use Rattle.tree_cert.specs.Writing.{fields_text}
use Rattle.tree_cert.proofs.Fronts.{err_adds, front_after, front_of_first}
use Rattle.tree_cert.proofs.writing.put_line.Goals as goal

pub returns-in_err-put_fields-clause-text : goal.returns-in_err-put_fields-clause-text
returns-in_err-put_fields-clause-text c =
    let fields = fields_text c.args.fields.now in
    err_adds _ _ _ _ c.from_residual-in_err-put_fields.ensures.0
    (front_after c.args.out.now c.append.new.self c.put_fields.new.out c.args.word.now (fields ++ 10 ∷ [])
    (c.in_ok-append.ensures.ok ∙ ap (λ w. c.args.out.now ++ w) c.as_bytes.ensures.value)
    (front_of_first c.append.new.self c.put_fields.new.out fields (10 ∷ []) c.in_err-put_fields.ensures.text))
