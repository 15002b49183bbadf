use Rattle.tree_cert.proofs.Judged.{judged_is_finding}
use Rattle.tree_cert.proofs.TextLines.{lines_are_read}
use Rattle.tree_cert.proofs.laws.findings_exist.Goals as goal

pub returns : goal.returns
returns g c = λ bytes. (_, judged_is_finding g.R.Rules.rules lines_are_read bytes)
