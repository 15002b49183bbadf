use Rattle.core_rules.proofs.TreeCores.{cores_refute_boxes}
use Rattle.core_rules.proofs.laws.cores_refute_boxes.Goals as goal

pub returns : goal.returns
returns c = cores_refute_boxes
