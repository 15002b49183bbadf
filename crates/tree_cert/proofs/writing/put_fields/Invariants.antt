use Rattle.std.proofs.Common.{◌≡◌, ◌++◌, true, take}
use Rattle.std.specs.List.{list_all}
use Rattle.tree_cert.specs.Writing.{fields_text, fits_field}
use Rattle.tree_cert.proofs.writing.put_fields.Given as goal

abbrev pub invariant-loop-field : goal.invariant-loop-field
invariant-loop-field l =
    record {
      text : l.out ≡ l.fn.out ++ fields_text (take l.field-index l.fields);
      fits : list_all fits_field (take l.field-index l.fields) ≡ true;
    }
