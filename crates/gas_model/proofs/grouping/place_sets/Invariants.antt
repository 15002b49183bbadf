use Rattle.std.proofs.Common.{◌≡◌, [], take, drop, map}
use Rattle.gas_model.specs.Rows.{text_ids, set_key, set_of, set_fault, first_offence}
use Rattle.gas_model.proofs.grouping.place_sets.Given as goal

abbrev pub invariant-loop-set : goal.invariant-loop-set
invariant-loop-set l = record {
  placed : l.placed ≡ map (set_of (text_ids l.arcs)) (take l.set-index l.sets);
  earlier : l.earlier ≡ map set_key (take l.set-index l.sets);
  so_far : first_offence set_key (set_fault l.arcs l.group l.decided) l.earlier (drop l.set-index l.sets)
      ≡ first_offence set_key (set_fault l.arcs l.group l.decided) [] l.sets;
}
