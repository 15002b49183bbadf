use Rattle.flat_text.proofs.Drafts.{decision_adds}
use Rattle.flat_text.proofs.draft.Draft.add_decision.Goals as goal

pub returns : goal.returns
returns c = decision_adds c.args.self c.args.id c.in_ok-tail.tail c.requires c.in_ok-tail.ensures
