use Rattle.std.proofs.Common.{refl, pos}
use Rattle.tree_cert.specs.declared.line.Line.TheVariants.{First}
use Rattle.tree_rules.proofs.ExampleTrees.{station_tree}
use Rattle.tree_rules.proofs.examples.ratio_of_three_halves_cannot_raise_four_to_seven.Goals as goal

pub returns : goal.returns
returns c = (station_tree (pos 1) (pos 17), record { first = First; passes = (refl, (refl, (refl, (refl, (refl, (refl, refl)))))); lines = refl }, (tt, (tt, (tt, tt))))
