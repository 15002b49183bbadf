-- A law stays quiet where a variable changes that it doesn't mention.
use Rattle.tight_steps.specs.declared.law.Law.TheVariants.{AtNode, AtArc}
use Rattle.tight_steps.specs.Frame.{OtherLawsStayQuiet}
use Rattle.tight_steps.proofs.OtherArcs.{arc_no_move, arc_no_closing}
use Rattle.tight_steps.proofs.OtherNodes.{node_no_move, node_no_closing}

pub other_laws_stay_quiet : OtherLawsStayQuiet
other_laws_stay_quiet p b (AtNode n) w low C h quiet = record {
  open_still = node_no_closing p b n w low C h quiet.open_still;
  no_move = node_no_move p b n w low C h quiet.no_move;
}
other_laws_stay_quiet p b (AtArc a) w low C h quiet = record {
  open_still = arc_no_closing p b a w low C h quiet.open_still;
  no_move = arc_no_move p b a w low C h quiet.no_move;
}
