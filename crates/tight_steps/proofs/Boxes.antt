-- A box after a step: it still has all ends, and they keep their limits.
use Rattle.std.proofs.Common.{◌≡◌, ◌∙◌}
use Rattle.std.proofs.lemmas.List.{length-set}
use Rattle.base_types.specs.declared.variables.Var.TheVariants.{Flow, Square}
use Rattle.gas_model.specs.Boxes.{ends_of, with_end}
use Rattle.box_ends.proofs.HeldEnds.{end_moved}
use Rattle.tight_steps.specs.Frame.{BoxesStillFit, EndsStayLimited}

pub boxes_still_fit : BoxesStillFit
boxes_still_fit p b (Flow a) low C h = record { flows = length-set b.flows a (with_end low C (ends_of b (Flow a))) ∙ h.flows; squares = h.squares }
boxes_still_fit p b (Square n) low C h = record { flows = h.flows; squares = length-set b.squares n (with_end low C (ends_of b (Square n))) ∙ h.squares }

pub ends_stay_limited : EndsStayLimited
ends_stay_limited K b var low C l t = end_moved K var low C (ends_of b var) l t
