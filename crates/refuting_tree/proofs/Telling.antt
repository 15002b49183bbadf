-- What the checker answers is what is told.
use Rattle.std.proofs.Common.{◌≡◌, ℕ, List, Ok, Err}
use Rattle.gas_model.specs.Rows.{Network}
use Rattle.tree_cert.specs.declared.fault.FaultKind.TheVariants as kind
use Rattle.tree_cert.specs.Texts.{Finding, Refutes, Partial, Fails}
use Rattle.tree_check.specs.declared.verdict.Verdict.TheVariants as verdict
use Rattle.tree_check.specs.Verdicts.{IsAnswered, answer_to}
use Rattle.refuting_tree.specs.declared.fault.RefutingFault.{RefutingFault}
use Rattle.refuting_tree.specs.declared.fault.RefutingFault.TheVariants.{Tree, LeftOpen, NoMemory}
use Rattle.refuting_tree.specs.Refusals.{Tells, IsSaid}

whole : (f : Finding) → Ok verdict.Refutes ≡ answer_to f → Tells {A = Unit {0}} f (Ok tt)
whole Refutes e = tt
whole (Partial line) e = absurd cc
whole (Fails line kind.NotTree) e = absurd cc
whole (Fails line kind.WideNumber) e = absurd cc
whole (Fails line kind.BadStep) e = absurd cc
whole (Fails line kind.WrongBranch) e = absurd cc
whole (Fails line kind.WrongEnd) e = absurd cc

part : (first : ℕ) (f : Finding) → Ok (verdict.Partial first) ≡ answer_to f → Tells {A = Unit {0}} f (Err (LeftOpen first))
part first Refutes e = absurd cc
part first (Partial line) e = let same : first ≡ line = cc in cc
part first (Fails line kind.NotTree) e = absurd cc
part first (Fails line kind.WideNumber) e = absurd cc
part first (Fails line kind.BadStep) e = absurd cc
part first (Fails line kind.WrongBranch) e = absurd cc
part first (Fails line kind.WrongEnd) e = absurd cc

-- what is told of a text doesn't hang on what is answered of one that refutes
pub fault_tells : (A B : Type 0) (f : Finding) (e : RefutingFault) → Tells {A = A} f (Err e) → Tells {A = B} f (Err e)
fault_tells A B f NoMemory h = tt
fault_tells A B Refutes (Tree e) h = h
fault_tells A B Refutes (LeftOpen line) h = h
fault_tells A B (Partial line) (Tree e) h = h
fault_tells A B (Partial line) (LeftOpen n) h = h
fault_tells A B (Fails line kind) (Tree e) h = h
fault_tells A B (Fails line kind) (LeftOpen n) h = h

pub whole_tells : (A B : Type 0) (f : Finding) (x : A) (y : B) → Tells f (Ok x) → Tells f (Ok y)
whole_tells A B Refutes x y h = tt
whole_tells A B (Partial line) x y h = h
whole_tells A B (Fails line kind) x y h = h

pub whole_said : (p : Network) (text : List ℕ) → IsAnswered p text (Ok verdict.Refutes) → IsSaid {A = Unit {0}} p text (Ok tt)
whole_said p text h f is = whole f (h f is)

pub part_said : (p : Network) (text : List ℕ) (first : ℕ) → IsAnswered p text (Ok (verdict.Partial first)) → IsSaid {A = Unit {0}} p text (Err (LeftOpen first))
part_said p text first h f is = part first f (h f is)
