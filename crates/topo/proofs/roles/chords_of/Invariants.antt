use Rattle.std.proofs.Common.{◌≡◌}
use Rattle.topo.specs.Roles.{has_chord_role}
use Rattle.topo.specs.Walks.{those}
use Rattle.topo.proofs.roles.chords_of.Given as goal

abbrev pub invariant-loop-a : goal.invariant-loop-a
invariant-loop-a l = l.chords.items ≡ those (has_chord_role l.roles) l.a
