-- A text is found to be one thing alone.
use Rattle.std.proofs.Common.{◌≡◌, ℕ, List, sym, ◌∙◌}
use Rattle.tree_cert.specs.TreeRules.{TreeRules}
use Rattle.tree_cert.specs.Texts.{Finding, IsFinding}
use Rattle.tree_cert.proofs.Judged.{finding_is_judged}
use Rattle.tree_cert.proofs.TextLines.{lines_are_read}

pub one_finding : (g : TreeRules) (text : List ℕ) (f h : Finding) → IsFinding g text f → IsFinding g text h → f ≡ h
one_finding g text f h a b = sym (finding_is_judged g lines_are_read text f a) ∙ finding_is_judged g lines_are_read text h b
