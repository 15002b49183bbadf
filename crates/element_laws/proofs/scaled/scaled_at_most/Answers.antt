use Rattle.std.proofs.Common.{to_z-of_z, ◌∙◌, rules, FitsSigned}
use Rattle.std.specs.Int.{w128}
use Rattle.element_laws.proofs.ScaledFits.{wide_fits, at_most_at}
use Rattle.element_laws.proofs.scaled.scaled_at_most.Goals as goal

pub returns : goal.returns
returns c =
    let w : FitsSigned w128 c.root_times.result = search rules in
    let y = wide_fits c.args.y c.requires.y in
    let x = wide_fits c.args.x c.requires.x in
    let square = simp (to_z-of_z, c.ranges.scale, c.ranges.d) at c.root_times.ensures.square in
    (simp (to_z-of_z, w, y, x) at c.at_most.ensures) ∙ at_most_at c.args.scale c.args.y c.args.x c.args.d c.root_times.result square
