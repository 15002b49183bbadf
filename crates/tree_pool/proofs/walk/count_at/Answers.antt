use Rattle.std.proofs.Common.{◌≡◌, Option, sym, subst}
use Rattle.tree_cert.specs.TreeRules.{Holds}
use Rattle.tree_pool.specs.declared.node.Node.{Node}
use Rattle.tree_pool.specs.Nodes.{children_count, standing_of}
use Rattle.tree_pool.proofs.NextBoxes.{node_at}
use Rattle.tree_pool.proofs.walk.count_at.Goals as goal

pub returns : goal.returns
returns c =
    subst (λ (o : Option Node). Holds o (λ x. c.count_children.result ≡ children_count (standing_of x.standing))) (sym (node_at c.args.nodes.now c.args.n c.index-nodes-n.result c.requires c.index-nodes-n.is)) c.count_children.ensures
