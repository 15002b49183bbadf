use Rattle.std.proofs.Common.{◌++◌, take, map}
use Rattle.gas_model.specs.Rows.{set_key}
use Rattle.base_types.specs.Names.{SameNames}
use Rattle.gas_model.proofs.grouping.note_sets.Given as goal

abbrev pub invariant-loop-set : goal.invariant-loop-set
invariant-loop-set l = SameNames l.decided (l.fn.decided ++ map set_key (take l.set-index l.sets))
