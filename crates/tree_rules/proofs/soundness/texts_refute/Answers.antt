use Rattle.tree_rules.proofs.TreeSound.{texts_refute}
use Rattle.tree_rules.proofs.soundness.texts_refute.Goals as goal

pub returns : goal.returns
returns c = texts_refute
