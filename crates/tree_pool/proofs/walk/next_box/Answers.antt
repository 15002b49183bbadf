use Rattle.tree_pool.proofs.NextBoxes.{next_down, next_on}
use Rattle.tree_pool.proofs.walk.next_box.Goals as goal

pub returns-in-Some : goal.returns-in-Some
returns-in-Some c =
    next_down c.args.places.now c.args.nodes.now c.requires.rows c.args.n c.in-Some.first c.index-nodes-n.result c.requires.within c.index-nodes-n.is (rw c.in-Some.is at c.first_child.ensures)

pub returns-in-None : goal.returns-in-None
returns-in-None c =
    next_on c.args.places.now c.args.nodes.now c.requires.rows c.args.n c.after_box.result c.index-nodes-n.result c.requires.within c.index-nodes-n.is (rw c.in-None.is at c.first_child.ensures) c.after_box.ensures
