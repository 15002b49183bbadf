use Rattle.std.proofs.Common.{◌≡◌, ◌++◌, map, take}
use Rattle.flat_text.specs.Spelling.{spaced}
use Rattle.flat_text.proofs.writing.put_fields.Given as goal

abbrev pub invariant-loop-field : goal.invariant-loop-field
invariant-loop-field l = l.out ≡ l.initial.out ++ spaced (map (λ field. field.now) (take l.field-index l.fields))
