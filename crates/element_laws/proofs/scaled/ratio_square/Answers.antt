use Rattle.std.proofs.Common.{to_z-of_z}
use Rattle.element_laws.proofs.ScaledFits.{ratio_fits}
use Rattle.element_laws.proofs.scaled.ratio_square.Goals as goal

pub overflow_mul-result-2 : goal.overflow_mul-result-2
overflow_mul-result-2 c =
    let f = ratio_fits c.args.part c.args.s c.requires.part c.requires.s in
    simp (to_z-of_z, f.small, f.wide, f.s, f.squared) f.product

pub returns : goal.returns
returns c =
    let f = ratio_fits c.args.part c.args.s c.requires.part c.requires.s in
    simp (to_z-of_z, f.small, f.wide, f.s, f.squared, f.product)
