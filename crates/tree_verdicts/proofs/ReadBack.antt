-- What the checker answers of a text of which it is known what it is found to be.
use Rattle.std.proofs.Common.{◌≡◌, ℕ, List, Result, Ok, Err, refl}
use Rattle.gas_model.specs.Rows.{Network}
use Rattle.tree_cert.specs.Texts.{Finding, Refutes, Partial, IsFinding, PassesWholeText, PassesPartText}
use Rattle.tree_cert.specs.declared.fault.TreeFault.{TreeFault}
use Rattle.tree_cert.specs.declared.fault.TreeFault.TheVariants as fault
use Rattle.tree_check.specs.Verdicts.{IsAnswered, IsAnswerTo, answer_to}
use Rattle.tree_check.specs.declared.verdict.Verdict.{Verdict}
use Rattle.tree_check.specs.declared.verdict.Verdict.TheVariants as verdict
use Rattle.tree_rules.specs.Branches.{rules_of}

-- the one fault of a text that passes, if only in part, is that memory ran out
whole_fault : (e : TreeFault) → IsAnswerTo Refutes (Err e) → e ≡ fault.NoMemory
whole_fault (fault.NotTree line) h = absurd (cc)
whole_fault (fault.WideNumber line) h = absurd (cc)
whole_fault (fault.BadStep line) h = absurd (cc)
whole_fault (fault.WrongBranch line) h = absurd (cc)
whole_fault (fault.WrongEnd line) h = absurd (cc)
whole_fault fault.NoMemory h = refl

part_fault : (first : ℕ) (e : TreeFault) → IsAnswerTo (Partial first) (Err e) → e ≡ fault.NoMemory
part_fault first (fault.NotTree line) h = absurd (cc)
part_fault first (fault.WideNumber line) h = absurd (cc)
part_fault first (fault.BadStep line) h = absurd (cc)
part_fault first (fault.WrongBranch line) h = absurd (cc)
part_fault first (fault.WrongEnd line) h = absurd (cc)
part_fault first fault.NoMemory h = refl

pub whole_only_memory : (p : Network) (text : List ℕ) (e : TreeFault) → PassesWholeText (rules_of p) text → IsAnswered p text (Err e) → e ≡ fault.NoMemory
whole_only_memory p text e passes h = whole_fault e (h Refutes passes)

pub whole_never_part : (p : Network) (text : List ℕ) (line : ℕ) → PassesWholeText (rules_of p) text → IsAnswered p text (Ok (verdict.Partial line)) → ⊥
whole_never_part p text line passes h = let e : Ok (verdict.Partial line) ≡ answer_to Refutes = h Refutes passes in cc

pub part_only_memory : (p : Network) (text : List ℕ) (first : ℕ) (e : TreeFault) → PassesPartText (rules_of p) text first → IsAnswered p text (Err e) → e ≡ fault.NoMemory
part_only_memory p text first e passes h = part_fault first e (h (Partial first) passes)

pub part_never_whole : (p : Network) (text : List ℕ) (first : ℕ) → PassesPartText (rules_of p) text first → IsAnswered p text (Ok verdict.Refutes) → ⊥
part_never_whole p text first passes h = let e : Ok verdict.Refutes ≡ answer_to (Partial first) = h (Partial first) passes in cc
