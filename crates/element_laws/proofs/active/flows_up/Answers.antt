use Rattle.std.proofs.Common.{◌∙◌, to_z-of_z}
use Rattle.element_laws.proofs.Connectives.{and_second}
use Rattle.element_laws.proofs.active.flows_up.Goals as goal

pub returns-then-q-ge0 : goal.returns-then-q-ge0
returns-then-q-ge0 c =
    let says = simp (to_z-of_z, c.ranges.num, c.ranges.den, c.ranges.rise_max, c.ranges.u, c.ranges.v) at c.rises_within.ensures in
    let test = simp (to_z-of_z, c.ranges.q) at c.if-q-ge0.true in
    says ∙ and_second _ _ test
