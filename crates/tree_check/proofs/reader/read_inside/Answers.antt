use Rattle.tree_cert.specs.Tree.{ByGroup, ByArc, ByHalves}
use Rattle.tree_check.proofs.reader.read_inside.Goals as goal

pub returns-in-Group-clause-said : goal.returns-in-Group-clause-said
returns-in-Group-clause-said c = rw c.in-Group.is (c.read_branch.ensures.said (ByGroup c.in-Group.group) c.after_group-expected.ensures.after)

pub returns-in_ok-expected-in-Arc-clause-said : goal.returns-in_ok-expected-in-Arc-clause-said
returns-in_ok-expected-in-Arc-clause-said c = rw c.in-Arc.is (c.read_branch-in-Arc.ensures.said (ByArc c.in-Arc.arc) c.in_ok-expected-in-Arc.ensures.after)

pub returns-in-Halve-clause-said : goal.returns-in-Halve-clause-said
returns-in-Halve-clause-said c = rw c.in-Halve.is (c.read_branch-in-Halve.ensures.said (ByHalves c.in-Halve.var) c.after_halve-expected.ensures.after)
