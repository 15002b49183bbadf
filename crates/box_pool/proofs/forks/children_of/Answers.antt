use Rattle.std.proofs.Common.{subst, sym}
use Rattle.box_pool.specs.Forks.{AreChildren}
use Rattle.box_pool.proofs.forks.children_of.Goals as goal

pub returns-in_ok-group_children-in-Group-clause-children : goal.returns-in_ok-group_children-in-Group-clause-children
returns-in_ok-group_children-in-Group-clause-children c =
    subst (λ fork. AreChildren c.args.p.now c.args.part.now fork c.in_ok-group_children-in-Group.field-0) (sym c.in-Group.is) (c.in_ok-group_children-in-Group.ensures c.args.part.now)
