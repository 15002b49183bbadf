use Rattle.std.proofs.Common.{rules}
use Rattle.topo.proofs.Firsts.{firsts_known, firsts_new}
use Rattle.topo.proofs.split.note.Goals as goal

pub returns-in_ok-push : goal.returns-in_ok-push
returns-in_ok-push c nodes s = rw c.in_ok-push.ensures.items (firsts_new _ c.args.node nodes _ c.args.has.now c.requires (search rules) s)

pub returns-else-not-has-node : goal.returns-else-not-has-node
returns-else-not-has-node c nodes s = firsts_known _ c.args.node nodes _ c.args.has.now c.requires (search rules) s
