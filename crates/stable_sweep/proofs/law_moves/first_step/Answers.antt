use Rattle.tree_rules.proofs.CutSound.{get_some}
use Rattle.stable_sweep.proofs.LawMoves.{arc_step}
use Rattle.stable_sweep.proofs.law_moves.first_step.Goals as goal

pub returns-in-AtArc : goal.returns-in-AtArc
returns-in-AtArc g c =
    let r = get_some c.args.p.now.arcs c.in-AtArc.arc (rw c.in-AtArc.is at c.requires.law) in
    rw c.in-AtArc.is (arc_step _ _ _ _ _ (rw c.in-AtArc.is at c.in_default.ensures) (c.best_square.ensures r.0 r.1))
