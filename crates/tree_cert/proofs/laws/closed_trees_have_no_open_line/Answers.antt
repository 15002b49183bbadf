use Rattle.tree_cert.proofs.Opens.{closed_trees_have_no_open_line}
use Rattle.tree_cert.proofs.laws.closed_trees_have_no_open_line.Goals as goal

pub returns : goal.returns
returns c = closed_trees_have_no_open_line
