use Rattle.std.proofs.Common.{◌≡◌, [], take, drop, map}
use Rattle.gas_model.specs.Rows.{text_ids, decision_key, decision_of, decision_fault, first_offence}
use Rattle.gas_model.proofs.grouping.place_decisions.Given as goal

abbrev pub invariant-loop-decision : goal.invariant-loop-decision
invariant-loop-decision l = record {
  decisions : l.decisions ≡ l.group.decisions;
  placed : l.placed ≡ map (decision_of (text_ids l.arcs)) (take l.decision-index l.decisions);
  earlier : l.earlier ≡ map decision_key (take l.decision-index l.decisions);
  so_far : first_offence decision_key (decision_fault l.arcs l.group.id l.decided) l.earlier (drop l.decision-index l.decisions)
      ≡ first_offence decision_key (decision_fault l.arcs l.group.id l.decided) [] l.decisions;
}
