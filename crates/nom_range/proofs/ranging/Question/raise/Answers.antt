use Rattle.std.proofs.Common.{rules, arith, ◌≤ℤ◌, ◌<ℤ◌, FitsSigned, w64, to_z-of_z}
use Rattle.std.proofs.lemmas.Int.{ints}
use Rattle.nom_range.specs.Draws.{draw}
use Rattle.nom_range.proofs.Narrowing.{ends_overlap, raises}
use Rattle.nom_range.proofs.ranging.Question.raise.Goals as goal

pub returns-then-draw-known : goal.returns-then-draw-known
returns-then-draw-known c =
    let asked = c.args.self.now in
    let fits : FitsSigned w64 c.draw_at-draw.result = search rules in
    let first : FitsSigned w64 c.args.known.refused.first = search rules in
    let is = c.draw_at-draw.ensures in
    let below : draw asked.p.now asked.node c.args.setting <ℤ c.args.known.refused.first = rw (← is) (grind (arith, ints)) in
    let raised = rw is at (simp (to_z-of_z, fits) at c.raised.ensures) in
    rw raised (raises asked.p.now asked.node asked.low asked.high asked.tol asked.boxes asked.there asked.from asked.to c.args.known c.requires.bracket c.args.mid c.requires.middle c.args.setting c.requires.found below)

pub returns-else-draw-known : goal.returns-else-draw-known
returns-else-draw-known c =
    let asked = c.args.self.now in
    let fits : FitsSigned w64 c.draw_at-draw.result = search rules in
    let first : FitsSigned w64 c.args.known.refused.first = search rules in
    let mid : FitsSigned w64 c.args.mid = search rules in
    let is = c.draw_at-draw.ensures in
    let draws : c.args.known.refused.first ≤ℤ draw asked.p.now asked.node c.args.setting = rw (← is) (grind (arith, ints)) in
    let ended = simp (to_z-of_z, mid) at c.ended.ensures in
    rw ended (ends_overlap asked.p.now asked.node asked.low asked.high asked.tol asked.boxes asked.there asked.from asked.to c.args.known c.requires.bracket c.args.mid c.requires.middle c.args.setting c.requires.found draws)
