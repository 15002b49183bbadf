use Rattle.std.proofs.Common.{◌≡◌}
use Rattle.std.specs.Prelude.{replicate}
use Rattle.base_types.proofs.collections.List.filled.Given as goal

abbrev pub invariant-loop : goal.invariant-loop
invariant-loop g l = l.list ≡ replicate l.counter l.item
