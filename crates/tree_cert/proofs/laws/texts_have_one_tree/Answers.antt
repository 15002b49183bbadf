use Rattle.tree_cert.proofs.OneTree.{boxes_have_one_tree, texts_have_one_tree}
use Rattle.tree_cert.proofs.laws.texts_have_one_tree.Goals as goal

pub returns-clause-at_any_box : goal.returns-clause-at_any_box
returns-clause-at_any_box g c = boxes_have_one_tree g.R.Rules.rules

pub returns-clause-at_the_opening : goal.returns-clause-at_the_opening
returns-clause-at_the_opening g c = texts_have_one_tree g.R.Rules.rules
