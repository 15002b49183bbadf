-- The attributes that name things, and what a fault calls an element.
use Rattle.std.specs.Prelude.{ℕ, ◌&&◌, ◌==◌, not, List, Bool, if◌then◌else◌, Option, Some, None, Result, Ok, Err, codes}
use Rattle.std.specs.List.{list_any}
use Rattle.base_types.specs.Ids.{is_id}
use Rattle.tag_outline.specs.declared.outline.Element.{Element}
use Rattle.file_faults.specs.declared.outline.FileFault.{FileFault}
use Rattle.file_faults.specs.declared.outline.FileFault.TheVariants as fault
use Rattle.element_fields.specs.Answers.{◌>>=◌, found_or}
use Rattle.element_fields.specs.Lookup.{value_of}

-- an id without `&`
abbrev pub is_good : List ℕ → Bool
is_good id = is_id id && not (list_any (λ b. b == 38) id)

abbrev pub or_word : List ℕ → Option (List ℕ) → List ℕ
or_word word None = word
or_word word (Some id) = if is_good id then id else word

-- its id, or its word where that is absent or bad
abbrev pub label : Element → List ℕ
label e = or_word e.name (value_of (codes "id") e.attributes)

-- an attribute that names a thing
unfoldable pub id_in : List ℕ → Element → Result (List ℕ) FileFault
id_in name e = do
  id ← found_or (fault.Missing (label e) name) (value_of name e.attributes)
  if is_good id then Ok id else Err (fault.BadValue (label e) name)
