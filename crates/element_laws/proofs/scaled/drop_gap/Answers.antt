use Rattle.std.proofs.Common.{to_z-of_z}
use Rattle.element_laws.proofs.ScaledFits.{gap_fits}
use Rattle.element_laws.proofs.scaled.drop_gap.Goals as goal

pub overflow_mul-result-2 : goal.overflow_mul-result-2
overflow_mul-result-2 c =
    let f = gap_fits c.args.law.now c.args.scale c.args.high c.args.low c.requires.law c.requires.scale c.requires.high c.requires.low in
    simp (to_z-of_z, c.ranges.scale, f.small, f.wide, f.high, f.low, f.scaled, f.apart) f.product

pub returns : goal.returns
returns c =
    let f = gap_fits c.args.law.now c.args.scale c.args.high c.args.low c.requires.law c.requires.scale c.requires.high c.requires.low in
    simp (to_z-of_z, c.ranges.scale, f.small, f.wide, f.high, f.low, f.scaled, f.apart, f.product)
