use Rattle.tree_cert.specs.Place.{Ended}
use Rattle.tree_check.proofs.reader.read.Goals as goal

pub returns-in-Ended-clause-said : goal.returns-in-Ended-clause-said
returns-in-Ended-clause-said c = rw c.in-Ended.is (c.read_ended.ensures c.args.p.now Ended)
