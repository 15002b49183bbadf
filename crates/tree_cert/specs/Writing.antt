-- What writing adds, and the fields that are written.
use Rattle.std.specs.Prelude.{◌≡◌, ℕ, Bool, true, List, ◌∷◌, ◌++◌, Result, Ok, Err}
use Rattle.line_text.specs.Numerals.{numeral, signed_numeral}
use Rattle.std.specs.List.{flat_map}
use Rattle.base_types.specs.declared.collections.NoMemory.{NoMemory}
use Rattle.line_text.specs.Long.{fits_position, fits_long}
use Rattle.tree_cert.specs.declared.writing.Field.{Field}
use Rattle.tree_cert.specs.declared.writing.Field.TheVariants.{Position, Number, Variable, Named, InState, AtEnd}
use Rattle.tree_cert.specs.Spelling.{var_text, rule_text, end_text, fits_var}
use Rattle.base_types.specs.StateWords.{state_word}

-- a front of the piece was added at the end
abbrev pub AddsFront : (before after piece : List ℕ) → Type 0
AddsFront before after piece = (front : List ℕ) × (rest : List ℕ) × (after ≡ before ++ front) × (front ++ rest ≡ piece)

-- all of the piece was added, or after want of memory a front of it
abbrev pub Adds : Result (Unit {0}) NoMemory → (before after piece : List ℕ) → Type 0
Adds (Ok u) before after piece = after ≡ before ++ piece
Adds (Err e) before after piece = AddsFront before after piece

abbrev pub field_text : Field → List ℕ
field_text (Position n) = numeral n
field_text (Number z) = signed_numeral z
field_text (Variable x) = var_text x
field_text (Named rule) = rule_text rule
field_text (InState state) = state_word state
field_text (AtEnd low) = end_text low

-- the fields, each after one space
abbrev pub fields_text : List Field → List ℕ
fields_text fields = flat_map (λ field. 32 ∷ field_text field) fields

abbrev pub fits_field : Field → Bool
fits_field (Position n) = fits_position n
fits_field (Number z) = fits_long z
fits_field (Variable x) = fits_var x
fits_field field = true
