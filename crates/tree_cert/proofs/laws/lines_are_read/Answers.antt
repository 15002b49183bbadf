use Rattle.tree_cert.proofs.TextLines.{lines_are_read}
use Rattle.tree_cert.proofs.laws.lines_are_read.Goals as goal

pub returns : goal.returns
returns c = lines_are_read
