use Rattle.std.proofs.Common.{◌≡◌, rules}
use Rattle.tree_cert.specs.declared.fault.TreeFault.TheVariants as fault
use Rattle.tree_verdicts.proofs.ReadBack.{whole_never_part, whole_only_memory}
use Rattle.tree_verdicts.proofs.read_back.check_whole.Goals as goal

pub unreachable-requires : goal.unreachable-requires
unreachable-requires c = whole_never_part c.args.p.now c.args.text.now c.in-Ok-Partial.field-0-0 c.requires (rw c.in-Ok-Partial.field-0-is at c.in-Ok-Partial.ensures.each)

pub unreachable-requires-in-Err : goal.unreachable-requires-in-Err
unreachable-requires-in-Err c =
    let e : c.in-Err.field-0 ≡ fault.NoMemory = whole_only_memory c.args.p.now c.args.text.now c.in-Err.field-0 c.requires c.in-Err.ensures.each in
    search rules
