use Rattle.std.proofs.Common.{◌≡◌, drop}
use Rattle.gas_desk.specs.Shelf.{held, kept_files}
use Rattle.gas_desk.proofs.shelf.held_in_kept.Given as goal

abbrev pub invariant-loop-kept : goal.invariant-loop-kept
invariant-loop-kept l = held (kept_files l.files) l.name ≡ held (kept_files (drop l.kept-index l.files)) l.name
