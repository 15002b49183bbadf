-- The calls of a desk, and how their failures are counted.
use Rattle.std.specs.Prelude.{◌≡◌, ℕ, Bool, true, false, not, ◌&&◌, List, Result, Ok, Err, if◌then◌else◌}
use Rattle.std.specs.Result.{result_map_both}
use Rattle.gas_desk.specs.Outside.{Outside, one_more}
use Rattle.gas_desk.specs.declared.desk.DeskStop.{DeskStop}
use Rattle.gas_desk.specs.declared.desk.DeskStop.TheVariants.{Failed, NoMemory}

-- a call of a desk, with the name of the file that it starts
pub data Call : Type 0 where
  starts_read : List ℕ → Call
  reads : Call
  starts_write : List ℕ → Call
  writes : Call
  finishes : Call
  says : Call

-- whether a failure of this call counts as one of reading
abbrev pub is_reading : Call → Bool
is_reading (starts_read name) = true
is_reading reads = true
is_reading (starts_write name) = false
is_reading writes = false
is_reading finishes = false
is_reading says = false

-- how a call ended that moves no bytes
abbrev pub moving_none : {T : Type 0} → Result T DeskStop → Result ℕ DeskStop
moving_none result = result_map_both (λ _. 0) (λ stop. stop) result

-- whether a call ended with `Failed`
abbrev pub has_failed : {T : Type 0} → Result T DeskStop → Bool
has_failed (Ok moved) = false
has_failed (Err Failed) = true
has_failed (Err NoMemory) = false

-- the count of the call has risen by one exactly where the call failed, and no other count has moved
pub record CountsFailure (call : Call) (before now : Outside) (outcome : Result ℕ DeskStop) : Type 0 where
  pub reads : (n : List ℕ) → now.read_faults n
      ≡ (if has_failed outcome && is_reading call then one_more (before.read_faults n) else before.read_faults n)
  pub writes : now.write_faults
      ≡ (if has_failed outcome && not (is_reading call) then one_more before.write_faults else before.write_faults)
