use Rattle.tree_cert.proofs.TextLines.{answer_means, answer_given}
use Rattle.tree_cert.proofs.reading.read_line.Goals as goal

pub returns-clause-means : goal.returns-clause-means
returns-clause-means c = answer_means c.args.bytes.now c.line_in.result c.line_in.ensures

pub returns-clause-spelled : goal.returns-clause-spelled
returns-clause-spelled c = answer_given c.args.bytes.now c.line_in.result c.line_in.ensures
