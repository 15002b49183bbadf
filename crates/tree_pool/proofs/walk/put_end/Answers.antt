use Rattle.tree_pool.specs.Nodes.{standing_of}
use Rattle.tree_pool.proofs.Texts.{writes_one, end_ordered}
use Rattle.tree_pool.proofs.walk.put_end.Goals as goal

pub write_line-requires : goal.write_line-requires
write_line-requires c = rw c.in_ok-line.ensures (end_ordered (standing_of c.args.standing.now) c.requires)

pub returns : goal.returns
returns c = rw (← c.in_ok-line.ensures) (writes_one _ _ _ c.in_ok-write_line.ensures.ok c.in_ok-write_line.ensures.spelled)
