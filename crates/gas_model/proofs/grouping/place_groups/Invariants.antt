use Rattle.std.proofs.Common.{◌≡◌, take, drop, map}
use Rattle.gas_model.specs.Rows.{text_ids, group_of, group_ids, group_fault, groups_fault, decided_by, first_offence}
use Rattle.base_types.specs.Names.{SameNames}
use Rattle.gas_model.proofs.grouping.place_groups.Given as goal

abbrev pub invariant-loop-group : goal.invariant-loop-group
invariant-loop-group l = record {
  placed : l.placed ≡ map (group_of (text_ids l.arcs)) (take l.group-index l.groups);
  earlier : l.earlier ≡ group_ids (take l.group-index l.groups);
  decided : SameNames l.decided (decided_by (take l.group-index l.groups));
  so_far : first_offence (λ g. g) (group_fault l.arcs) (take l.group-index l.groups) (drop l.group-index l.groups) ≡ groups_fault l.arcs l.groups;
}
