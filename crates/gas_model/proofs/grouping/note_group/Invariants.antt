use Rattle.std.proofs.Common.{◌≡◌, ◌++◌, take, map}
use Rattle.std.specs.List.{flat_map}
use Rattle.gas_model.specs.Rows.{set_key}
use Rattle.base_types.specs.Names.{SameNames}
use Rattle.gas_model.proofs.grouping.note_group.Given as goal

abbrev pub invariant-loop-decision : goal.invariant-loop-decision
invariant-loop-decision l = record {
  decisions : l.decisions ≡ l.group.decisions;
  noted : SameNames l.decided (l.fn.decided ++ flat_map (λ d. map set_key d.sets) (take l.decision-index l.decisions));
}
