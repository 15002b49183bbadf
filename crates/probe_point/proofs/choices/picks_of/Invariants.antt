use Rattle.std.proofs.Common.{◌≡◌, ℕ, map, take}
use Rattle.std.specs.Prelude.{Option, unwrap_or}
use Rattle.probe_point.proofs.choices.picks_of.Given as goal

abbrev pub invariant-loop-pick : goal.invariant-loop-pick
invariant-loop-pick l = l.picks ≡ map (λ (pick : Option ℕ). unwrap_or pick 0) (take l.pick-index l.fn.part.picks)
