use Rattle.std.proofs.Common.{refl, pos}
use Rattle.tree_cert.specs.declared.line.Rule.TheVariants as rules
use Rattle.tree_cert.specs.declared.line.Closing.TheVariants.{At}
use Rattle.tree_cert.specs.declared.line.Line.TheVariants.{First}
use Rattle.tree_rules.specs.Examples.{low_flow, high_flow}
use Rattle.tree_rules.proofs.ExampleTrees.{closed_at_once}
use Rattle.tree_rules.proofs.examples.drop_of_nine_cannot_carry_four.Goals as goal

pub returns : goal.returns
returns c = (closed_at_once (low_flow (pos 4)) (high_flow (pos 4)) (At rules.Pipe 0), record { first = First; passes = refl; lines = refl }, tt)
