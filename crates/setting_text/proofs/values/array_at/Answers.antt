use Rattle.std.proofs.Common.{refl}
use Rattle.setting_text.proofs.Lists.{listed_view}
use Rattle.setting_text.proofs.values.array_at.Goals as goal

pub returns-in-Some : goal.returns-in-Some
returns-in-Some c = rw (← c.in-Some.ensures, c.as_slice.ensures.value, listed_view c.in-Some.list.now.items) refl
