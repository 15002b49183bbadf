use Rattle.tree_cert.proofs.Walks.{walks_are_texts}
use Rattle.tree_cert.proofs.laws.walks_are_texts.Goals as goal

pub returns : goal.returns
returns g c = walks_are_texts g.R.Rules.rules
