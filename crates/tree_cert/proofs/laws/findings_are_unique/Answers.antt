use Rattle.std.proofs.Common.{sym, ◌∙◌}
use Rattle.tree_cert.proofs.Judged.{finding_is_judged}
use Rattle.tree_cert.proofs.TextLines.{lines_are_read}
use Rattle.tree_cert.proofs.laws.findings_are_unique.Goals as goal

pub returns : goal.returns
returns g c = λ bytes f h a b. sym (finding_is_judged g.R.Rules.rules lines_are_read bytes f a) ∙ finding_is_judged g.R.Rules.rules lines_are_read bytes h b
