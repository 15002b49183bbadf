-- a text is UTF-8 by its type
use Rattle.std.proofs.Common.{◌≡◌, ◌&&◌, Bool, true, false, refl, sym, ◌∙◌}
use Rattle.std.specs.Str.{is_utf8}
use Rattle.std.proofs.lemmas.Str.{is_utf8-from_IsUtf8}
use Rattle.base_types.specs.Ids.{has_id_form}
use Rattle.base_types.proofs.ids.is_id.Goals as goal

with_true : (a b : Bool) → b ≡ true → a ≡ (a && b)
with_true true b e = sym e
with_true false b e = refl

pub returns : goal.returns
returns c = c.has_id_form.ensures ∙ with_true (has_id_form c.args.text.now) (is_utf8 c.args.text.now) (is_utf8-from_IsUtf8 c.args.text.now c.utf8.text)
