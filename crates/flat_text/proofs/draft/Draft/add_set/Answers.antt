use Rattle.flat_text.proofs.Drafts.{set_adds}
use Rattle.flat_text.proofs.draft.Draft.add_set.Goals as goal

pub returns : goal.returns
returns c = set_adds c.args.self c.args.set c.in_ok-tail.tail c.requires c.in_ok-tail.ensures
