use Rattle.std.proofs.Common.{◌≡◌, rules}
use Rattle.tree_cert.specs.declared.fault.TreeFault.TheVariants as fault
use Rattle.tree_verdicts.proofs.ReadBack.{part_never_whole, part_only_memory}
use Rattle.tree_verdicts.proofs.read_back.check_part.Goals as goal

pub unreachable-requires : goal.unreachable-requires
unreachable-requires c = part_never_whole c.args.p.now c.args.open_text.now c.requires.0 c.requires.1 (rw c.in-Ok-Refutes.field-0-is at c.in-Ok-Refutes.ensures.each)

pub unreachable-requires-in-Err : goal.unreachable-requires-in-Err
unreachable-requires-in-Err c =
    let e : c.in-Err.field-0 ≡ fault.NoMemory = part_only_memory c.args.p.now c.args.open_text.now c.requires.0 c.in-Err.field-0 c.requires.1 c.in-Err.ensures.each in
    search rules
