use Rattle.std.proofs.Common.{refl}
use Rattle.tree_cert.specs.declared.line.Line.TheVariants.{First}
use Rattle.tree_rules.proofs.ExampleTrees.{group_tree}
use Rattle.tree_rules.proofs.examples.shut_valve_cuts_the_demand.Goals as goal

pub returns : goal.returns
returns c = (group_tree, record { first = First; passes = (refl, (refl, refl)); lines = refl }, (tt, tt))
