use Rattle.setting_text.proofs.Lists.{count_at}
use Rattle.setting_text.proofs.values.has_members.Goals as goal

pub returns-in-Some : goal.returns-in-Some
returns-in-Some c = rw c.len.ensures.len (count_at c.args.count _ c.in-Some.members.now.entries c.in-Some.ensures)
