use Rattle.std.proofs.Common.{rules, FitsSigned, w64, to_z-of_z}
use Rattle.nom_range.proofs.Narrowing.{refutes_draws}
use Rattle.nom_range.proofs.ranging.range.Goals as goal

pub returns-in-Refuted : goal.returns-in-Refuted
returns-in-Refuted c =
    let low : FitsSigned w64 c.args.low = search rules in
    let within = simp (to_z-of_z, low) at c.in_ok-setting.ensures.within in
    let found = rw c.in-Refuted.is at (simp (to_z-of_z, low) at c.in_ok-setting.ensures.found) in
    refutes_draws c.args.p.now c.args.node c.args.low c.args.low c.in-Refuted.tree within found
