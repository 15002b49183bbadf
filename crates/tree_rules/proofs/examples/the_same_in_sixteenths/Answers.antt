use Rattle.std.proofs.Common.{refl, pos}
use Rattle.tree_cert.specs.declared.line.Line.TheVariants.{FirstSixteenths}
use Rattle.tree_rules.proofs.ExampleTrees.{station_tree}
use Rattle.tree_rules.proofs.examples.the_same_in_sixteenths.Goals as goal

pub returns : goal.returns
returns c = (station_tree (pos 16) (pos 257), record { first = FirstSixteenths; passes = (refl, (refl, (refl, (refl, (refl, (refl, refl)))))); lines = refl }, (tt, (tt, (tt, tt))))
