-- On a desk that never fails no count rises.
use Rattle.std.proofs.Common.{◌≡◌, ◌⊎◌, inl, inr, ℕ, List, [], ◌∷◌, arith}
use Rattle.std.specs.Prelude.{Option, None, Some}
use Rattle.gas_desk.specs.Outside.{Rose}
use Rattle.gas_desk.specs.Never.{never_failing}
use Rattle.gas_desk.specs.declared.never.NeverFails.{NeverFails}
use Rattle.command_core.specs.declared.status.Status.{Status}
use Rattle.command_core.specs.declared.status.Status.TheVariants as ends
use Rattle.command_core.specs.Gates.{Gate, AnyRose, ReadRose}
use Rattle.command_core.specs.Meanings.{Meaning, Excused}

never_rises : Rose 0 0 → ⊥
never_rises h = omega (arith, h)

never_read : (name : Option (List ℕ)) (a b : NeverFails) → ReadRose name (never_failing a) (never_failing b) → ⊥
never_read None a b h = h
never_read (Some name) a b h = never_rises h

pub never_any : (gates : List Gate) (a b : NeverFails) → AnyRose gates (never_failing a) (never_failing b) → ⊥
never_any [] a b h = h
never_any (gate ∷ gates) a b h = elim h [ inl here ↦ never_read gate.name a b here | inr later ↦ never_any gates a b later ]

pub never_written : (a b : NeverFails) → Rose (never_failing a).write_faults (never_failing b).write_faults → ⊥
never_written a b h = never_rises h

-- so that want of memory alone excuses
pub unexcused : {P : Type 0} (m : Meaning) (a b : NeverFails) (status : Status) → P ⊎ Excused m (never_failing a) (never_failing b) status → P ⊎ (status ≡ ends.NoMemory)
unexcused m a b status (inl p) = inl p
unexcused m a b status (inr (inl e)) = inr e
unexcused m a b status (inr (inr (inl h))) = absurd (never_any m.gates a b h.1)
unexcused m a b status (inr (inr (inr h))) = absurd (never_written a b h.1)
