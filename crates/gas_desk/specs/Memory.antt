-- A desk in memory, as what stands outside, and which of its calls fail.
use Rattle.std.specs.Prelude.{◌≡◌, ℕ, ◌≤◌, Bool, false, ◌==◌, ◌||◌, nat_le, List, [], None, is_none, Result, IfOk}
use Rattle.std.specs.List.{list_any}
use Rattle.gas_desk.specs.Outside.{Outside, one_more}
use Rattle.gas_desk.specs.Call.{Call, starts_read, reads, writes, has_failed, CountsFailure}
use Rattle.gas_desk.specs.Shelf.{held, on_shelf}
use Rattle.gas_desk.specs.declared.desk.DeskStop.{DeskStop}
use Rattle.gas_desk.specs.declared.memory.Failing.{Failing}
use Rattle.gas_desk.specs.declared.memory.Failing.TheVariants.{Stated, From}
use Rattle.gas_desk.specs.declared.memory.MemDesk.{MemDesk}

-- what a desk in memory tells
abbrev pub in_memory : MemDesk → Outside
in_memory d = record (on_shelf d.shelf) { read_faults = λ _. d.read_faults; write_faults = d.write_faults }

-- the number of its next call
abbrev pub call_number : MemDesk → ℕ
call_number d = d.calls

-- which of its calls fail
abbrev pub failing : MemDesk → Failing
failing d = d.failing

-- how many bytes one call reads at most
abbrev pub most_read : MemDesk → ℕ
most_read d = d.read_most

-- how many bytes one call writes at most
abbrev pub most_written : MemDesk → ℕ
most_written d = d.write_most

-- whether the call with this number fails
abbrev pub fails_at : Failing → ℕ → Bool
fails_at (Stated calls) n = list_any (λ call. call == n) calls
fails_at (From first) n = nat_le first n

-- whether the next call fails by its number
abbrev pub fails_now : MemDesk → Bool
fails_now d = fails_at (failing d) (call_number d)

-- whether this call fails: by its number, or since it starts to read a name that isn't held
abbrev pub is_to_fail : Call → MemDesk → Bool
is_to_fail (starts_read name) d = fails_now d || is_none ((in_memory d).files name)
is_to_fail call d = fails_now d

-- how many bytes this call moves at most
abbrev pub most_moved : Call → MemDesk → ℕ
most_moved reads d = most_read d
most_moved writes d = most_written d
most_moved call d = 0

-- what a desk in memory does at a call, beyond what each desk does
pub record TakesTurn (call : Call) (old new : MemDesk) (outcome : Result ℕ DeskStop) : Type 0 where
  -- the call fails exactly where it is to fail, and is counted exactly there
  pub exact : has_failed outcome ≡ is_to_fail call old
  pub counted : CountsFailure call (in_memory old) (in_memory new) outcome
  -- the calls are numbered one after another
  pub numbered : call_number new ≡ one_more (call_number old)
  -- no more bytes are moved than stated
  pub most : IfOk outcome (λ moved. moved ≤ most_moved call old)
  -- what was stated at first stays
  pub same_fails : failing new ≡ failing old
  pub same_read : most_read new ≡ most_read old
  pub same_written : most_written new ≡ most_written old

-- a desk in memory at its beginning, with these files, calls that fail, and sizes
pub record Begins (given : List (List ℕ × List ℕ)) (which : Failing) (reads writes : ℕ) (desk : MemDesk) : Type 0 where
  pub files : (in_memory desk).files ≡ held given
  pub said : (in_memory desk).said ≡ []
  pub reading : (in_memory desk).reading ≡ None
  pub writing : (in_memory desk).writing ≡ false
  pub finished : (n : List ℕ) → (in_memory desk).finished n ≡ false
  pub read_faults : (n : List ℕ) → (in_memory desk).read_faults n ≡ 0
  pub write_faults : (in_memory desk).write_faults ≡ 0
  pub number : call_number desk ≡ 0
  pub fails : failing desk ≡ which
  pub read_most : most_read desk ≡ reads
  pub write_most : most_written desk ≡ writes
