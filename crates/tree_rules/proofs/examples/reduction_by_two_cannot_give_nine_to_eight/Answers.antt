use Rattle.std.proofs.Common.{refl}
use Rattle.tree_cert.specs.declared.line.Line.TheVariants.{First}
use Rattle.tree_rules.proofs.ExampleTrees.{control_tree}
use Rattle.tree_rules.proofs.examples.reduction_by_two_cannot_give_nine_to_eight.Goals as goal

pub returns : goal.returns
returns c = (control_tree, record { first = First; passes = (refl, (refl, (refl, (refl, (refl, (refl, refl)))))); lines = refl }, (tt, (tt, (tt, tt))))
