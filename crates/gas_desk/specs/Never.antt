-- A desk that never fails, as what stands outside.
use Rattle.std.specs.Prelude.{◌≡◌, ℕ, false, List, [], Some, unwrap_or, Result}
use Rattle.gas_desk.specs.Outside.{Outside, Rose}
use Rattle.gas_desk.specs.Call.{Call, has_failed}
use Rattle.gas_desk.specs.Shelf.{on_shelf}
use Rattle.gas_desk.specs.declared.desk.DeskStop.{DeskStop}
use Rattle.gas_desk.specs.declared.never.NeverFails.{NeverFails}

-- a name that isn't held reads as an empty file, and all counts are 0
abbrev pub never_failing : NeverFails → Outside
never_failing d = record (on_shelf d.shelf) { files = λ name. Some (unwrap_or ((on_shelf d.shelf).files name) []) }

-- a call doesn't fail, and no count rises
pub record DoesNotFail (call : Call) (old new : NeverFails) (outcome : Result ℕ DeskStop) : Type 0 where
  pub never : has_failed outcome ≡ false
  pub reads : (n : List ℕ) → Rose ((never_failing old).read_faults n) ((never_failing new).read_faults n) → ⊥
  pub writes : Rose (never_failing old).write_faults (never_failing new).write_faults → ⊥
