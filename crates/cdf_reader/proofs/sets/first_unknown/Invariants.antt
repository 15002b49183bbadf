use Rattle.std.proofs.Common.{◌≡◌, drop}
use Rattle.cdf_reader.specs.Sets.{first_unknown}
use Rattle.cdf_reader.proofs.sets.first_unknown.Given as goal

abbrev pub invariant-loop-a : goal.invariant-loop-a
invariant-loop-a l = first_unknown (drop l.a-index l.attributes) ≡ first_unknown l.attributes
