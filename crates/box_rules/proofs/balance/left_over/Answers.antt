use Rattle.std.proofs.Common.{to_z-of_z}
use Rattle.box_rules.proofs.NodeFlows.{left_fits}
use Rattle.box_rules.proofs.balance.left_over.Goals as goal

pub overflow_add-result : goal.overflow_add-result
overflow_add-result c =
    let f = left_fits c.args.x c.args.y c.args.q c.requires.x c.requires.y c.requires.q in
    simp (to_z-of_z, f.first, f.second, f.third, f.apart) f.left

pub returns : goal.returns
returns c =
    let f = left_fits c.args.x c.args.y c.args.q c.requires.x c.requires.y c.requires.q in
    simp (to_z-of_z, f.first, f.second, f.third, f.apart, f.left)
