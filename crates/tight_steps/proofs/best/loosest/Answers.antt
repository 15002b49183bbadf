use Rattle.std.proofs.Common.{◌≤ℤ◌, FitsSigned, to_z-of_z, rules}
use Rattle.std.specs.Int.{w128}
use Rattle.tight_steps.proofs.Bests.{ends_fit, ordered_from, gain_fits, loosest_low, loosest_high}
use Rattle.tight_steps.proofs.best.loosest.Goals as goal

pub returns-then-low : goal.returns-then-low
returns-then-low c =
    let e = c.args.e in
    let g = c.least_gain-gain.result in
    let f = ends_fit e c.requires in
    let fits : FitsSigned w128 g = search rules in
    let gain = c.least_gain-gain.ensures in
    let moved = (gain_fits e g c.requires gain.one gain.size).up_by in
    let open_still = simp (to_z-of_z, f.lo, f.hi, f.width) at c.if-width-lt0.false in
    let eighth = simp (to_z-of_z, f.lo, f.hi, f.width) at gain.eighth in
    let least = simp (to_z-of_z, f.lo, f.hi, f.width) at gain.least in
    let ordered : e.lo ≤ℤ e.hi = ordered_from e open_still in
    simp (to_z-of_z, f.lo, f.hi, fits, moved) (rw c.if-low.true (loosest_low e g ordered gain.one eighth least))

pub returns-else-low : goal.returns-else-low
returns-else-low c =
    let e = c.args.e in
    let g = c.least_gain-gain.result in
    let f = ends_fit e c.requires in
    let fits : FitsSigned w128 g = search rules in
    let gain = c.least_gain-gain.ensures in
    let moved = (gain_fits e g c.requires gain.one gain.size).down_by in
    let open_still = simp (to_z-of_z, f.lo, f.hi, f.width) at c.if-width-lt0.false in
    let eighth = simp (to_z-of_z, f.lo, f.hi, f.width) at gain.eighth in
    let least = simp (to_z-of_z, f.lo, f.hi, f.width) at gain.least in
    let ordered : e.lo ≤ℤ e.hi = ordered_from e open_still in
    simp (to_z-of_z, f.lo, f.hi, fits, moved) (rw c.if-low.false (loosest_high e g ordered gain.one eighth least))
