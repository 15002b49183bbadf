use Rattle.tree_rules.specs.Branches.{rules_of}
use Rattle.tree_pool.proofs.Single.{show_one_tree, whole_where_none_open}
use Rattle.tree_pool.proofs.Ruled.{shown_pass}
use Rattle.box_pool.proofs.laws.pools_show_one_tree.Goals as goal

pub returns : goal.returns
returns c = λ p root pool is. (show_one_tree pool.rows is.paths, shown_pass (rules_of p) root pool.rows is.boxes is.paths is.of_root, whole_where_none_open pool.rows is.paths)
