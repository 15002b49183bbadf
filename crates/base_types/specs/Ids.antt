-- Which texts are ids.
use Rattle.std.specs.Prelude.{ℕ, ◌&&◌, ◌==◌, not, nat_le, List, length, Bool}
use Rattle.std.specs.List.{list_all}
use Rattle.std.specs.Str.{is_utf8}

-- 1 to 200 bytes, none below 0x21 and none 0x7F
abbrev pub is_id_byte : ℕ → Bool
is_id_byte b = nat_le 0x21 b && not (b == 0x7F)

abbrev pub has_id_form : List ℕ → Bool
has_id_form id = not (length id == 0) && nat_le (length id) 200 && list_all is_id_byte id

-- an id is UTF-8, and has this form
abbrev pub is_id : List ℕ → Bool
is_id id = has_id_form id && is_utf8 id
