use Rattle.std.proofs.Common.{rules, FitsSigned, w64, to_z-of_z}
use Rattle.nom_range.specs.Ranges.{IsMiddle}
use Rattle.nom_range.proofs.Narrowing.{ends_left, lowers}
use Rattle.nom_range.proofs.ranging.Question.turn.Goals as goal

pub returns-in-Refuted : goal.returns-in-Refuted
returns-in-Refuted c =
    let asked = c.args.self.now in
    let known = c.args.known in
    let carried : FitsSigned w64 known.carried = search rules in
    let first : FitsSigned w64 known.refused.first = search rules in
    let high : FitsSigned w64 asked.high = search rules in
    let mid : FitsSigned w64 c.middle-mid.result = search rules in
    let middle : IsMiddle known.carried known.refused.first c.middle-mid.result = record { apart = c.requires.apart; half = simp (to_z-of_z, carried, first) at c.middle-mid.ensures } in
    let within = simp (to_z-of_z, mid, high) at c.in_ok-setting.ensures.within in
    let found = rw c.in-Refuted.is at (simp (to_z-of_z, mid, high) at c.in_ok-setting.ensures.found) in
    let lowered = simp (to_z-of_z, mid) at c.lowered.ensures in
    rw lowered (lowers asked.p.now asked.node asked.low asked.high asked.tol asked.boxes asked.there asked.from asked.to known c.requires.bracket c.middle-mid.result middle c.in-Refuted.tree within found)

pub returns-in-Left : goal.returns-in-Left
returns-in-Left c =
    let asked = c.args.self.now in
    let known = c.args.known in
    let carried : FitsSigned w64 known.carried = search rules in
    let first : FitsSigned w64 known.refused.first = search rules in
    let high : FitsSigned w64 asked.high = search rules in
    let mid : FitsSigned w64 c.middle-mid.result = search rules in
    let middle : IsMiddle known.carried known.refused.first c.middle-mid.result = record { apart = c.requires.apart; half = simp (to_z-of_z, carried, first) at c.middle-mid.ensures } in
    let found = rw c.in-Left.is at (simp (to_z-of_z, mid, high) at c.in_ok-setting.ensures.found) in
    let ended = simp (to_z-of_z, mid) at c.ended.ensures in
    rw ended (ends_left asked.p.now asked.node asked.low asked.high asked.tol asked.boxes asked.there asked.from asked.to known c.requires.bracket c.middle-mid.result middle c.in-Left.why c.in-Left.tree c.in-Left.line found)
