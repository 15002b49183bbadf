use Rattle.std.proofs.Common.{to_z-of_z}
use Rattle.element_laws.proofs.Connectives.{and_second}
use Rattle.element_laws.proofs.FallFits.{fall_fits}
use Rattle.element_laws.proofs.falls.is_close.Goals as goal

pub returns-then-x-y : goal.returns-then-x-y
returns-then-x-y c =
    let less = (fall_fits c.args.y c.args.x c.requires.y c.requires.x).less in
    let more = (fall_fits c.args.x c.args.y c.requires.x c.requires.y).less in
    let test = simp (to_z-of_z, c.ranges.x, c.ranges.y, c.ranges.tol, less) at c.if-x-y.true in
    simp (to_z-of_z, c.ranges.x, c.ranges.y, c.ranges.tol, more) (and_second _ _ test)
