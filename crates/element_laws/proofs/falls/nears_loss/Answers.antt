use Rattle.std.proofs.Common.{◌∙◌, to_z-of_z}
use Rattle.element_laws.proofs.Connectives.{chosen_first, chosen_second}
use Rattle.element_laws.proofs.falls.nears_loss.Goals as goal

pub returns-then-q-gt0 : goal.returns-then-q-gt0
returns-then-q-gt0 c =
    let r = c.ranges in
    let says = simp (to_z-of_z, r.low, r.high, r.tol, r.u, r.v) at c.nears_fall.ensures in
    let forward = simp (to_z-of_z, r.q) at c.if-q-gt0.true in
    says ∙ chosen_first _ _ _ forward

pub returns-then-q-lt0 : goal.returns-then-q-lt0
returns-then-q-lt0 c =
    let r = c.ranges in
    let says = simp (to_z-of_z, r.low, r.high, r.tol, r.u, r.v) at c.nears_fall-then-q-lt0.ensures in
    let forward = simp (to_z-of_z, r.q) at c.if-q-gt0.false in
    let back = simp (to_z-of_z, r.q) at c.if-q-lt0.true in
    says ∙ chosen_first _ _ _ back ∙ chosen_second _ _ _ forward
