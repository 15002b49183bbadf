use Rattle.std.proofs.Common.{inl, inr, to_z-of_z, FitsSigned, w64, rules}
use Rattle.element_laws.proofs.arcs.nears_opened.Goals as goal

pub returns-in-Loss : goal.returns-in-Loss
returns-in-Loss c =
    let k = c.in-Loss in
    let low : FitsSigned w64 k.low = search rules in
    let high : FitsSigned w64 k.high = search rules in
    let says = simp (to_z-of_z, low, high, c.ranges.tol, c.ranges.q, c.ranges.u, c.ranges.v) at c.nears_loss.ensures in
    rw k.is says

pub returns-in-Pipe : goal.returns-in-Pipe
returns-in-Pipe c =
    let says = rw c.level.ensures at (simp (to_z-of_z, c.ranges.tol, c.ranges.q, c.ranges.u, c.ranges.v) at c.nears_resistance.ensures) in
    elim c.in-Pipe.is [ inl pipe ↦ rw pipe says | inr resistor ↦ rw resistor says ]
