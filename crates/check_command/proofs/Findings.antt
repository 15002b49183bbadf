-- That one answer alone comes of a tree.
use Rattle.std.proofs.Common.{◌≡◌, ℕ, List, refl, sym, ap, ◌∙◌}
use Rattle.gas_model.specs.Rows.{Network}
use Rattle.tree_cert.specs.declared.fault.FaultKind.TheVariants as kind
use Rattle.tree_cert.specs.Texts.{Finding, Refutes, Partial, Fails, IsFinding, PassesWholeText}
use Rattle.tree_verdicts.proofs.OneFinding.{one_finding}
use Rattle.tree_rules.specs.Branches.{rules_of}
use Rattle.tree_cert.specs.declared.fault.TreeFault.TheVariants as fault
use Rattle.command_core.specs.declared.status.NotFault.{NotFault}
use Rattle.command_core.specs.declared.status.NotFault.TheVariants.{Tree, Left}
use Rattle.check_command.specs.Meaning.{IsNoRefutation}

-- the finding that a fault tells
told : NotFault → Finding
told (Left n) = Partial n
told (Tree (fault.NotTree n)) = Fails n kind.NotTree
told (Tree (fault.WideNumber n)) = Fails n kind.WideNumber
told (Tree (fault.BadStep n)) = Fails n kind.BadStep
told (Tree (fault.WrongBranch n)) = Fails n kind.WrongBranch
told (Tree (fault.WrongEnd n)) = Fails n kind.WrongEnd
told (Tree fault.NoMemory) = Refutes

-- the fault that tells a finding
fault_of : Finding → NotFault
fault_of Refutes = Tree fault.NoMemory
fault_of (Partial n) = Left n
fault_of (Fails n kind.NotTree) = Tree (fault.NotTree n)
fault_of (Fails n kind.WideNumber) = Tree (fault.WideNumber n)
fault_of (Fails n kind.BadStep) = Tree (fault.BadStep n)
fault_of (Fails n kind.WrongBranch) = Tree (fault.WrongBranch n)
fault_of (Fails n kind.WrongEnd) = Tree (fault.WrongEnd n)

fault_told : (e : NotFault) → fault_of (told e) ≡ e
unfolding fault_of told
fault_told (Left n) = refl
fault_told (Tree (fault.NotTree n)) = refl
fault_told (Tree (fault.WideNumber n)) = refl
fault_told (Tree (fault.BadStep n)) = refl
fault_told (Tree (fault.WrongBranch n)) = refl
fault_told (Tree (fault.WrongEnd n)) = refl
fault_told (Tree fault.NoMemory) = refl

is_told : (p : Network) (text : List ℕ) (e : NotFault) → IsNoRefutation p text e → IsFinding (rules_of p) text (told e)
unfolding told
is_told p text (Left n) h = h
is_told p text (Tree (fault.NotTree n)) h = h
is_told p text (Tree (fault.WideNumber n)) h = h
is_told p text (Tree (fault.BadStep n)) h = h
is_told p text (Tree (fault.WrongBranch n)) h = h
is_told p text (Tree (fault.WrongEnd n)) h = h
is_told p text (Tree fault.NoMemory) h = elim h [ ]

-- a text that refutes has no fault
pub not_both : (p : Network) (text : List ℕ) (e : NotFault) → PassesWholeText (rules_of p) text → IsNoRefutation p text e → ⊥
not_both p text (Left n) h i = let e = one_finding (rules_of p) text Refutes (Partial n) h i in cc
not_both p text (Tree (fault.NotTree n)) h i = let e = one_finding (rules_of p) text Refutes (Fails n kind.NotTree) h i in cc
not_both p text (Tree (fault.WideNumber n)) h i = let e = one_finding (rules_of p) text Refutes (Fails n kind.WideNumber) h i in cc
not_both p text (Tree (fault.BadStep n)) h i = let e = one_finding (rules_of p) text Refutes (Fails n kind.BadStep) h i in cc
not_both p text (Tree (fault.WrongBranch n)) h i = let e = one_finding (rules_of p) text Refutes (Fails n kind.WrongBranch) h i in cc
not_both p text (Tree (fault.WrongEnd n)) h i = let e = one_finding (rules_of p) text Refutes (Fails n kind.WrongEnd) h i in cc
not_both p text (Tree fault.NoMemory) h i = i

-- and one fault otherwise
pub one_fault : (p : Network) (text : List ℕ) (e f : NotFault) → IsNoRefutation p text e → IsNoRefutation p text f → e ≡ f
one_fault p text e f h i =
    sym (fault_told e) ∙ ap fault_of (one_finding (rules_of p) text (told e) (told f) (is_told p text e h) (is_told p text f i)) ∙ fault_told f
