-- What an answer says of a text that is to refute a problem.
use Rattle.std.specs.Prelude.{◌≡◌, ℕ, List, Result, Ok, Err}
use Rattle.gas_model.specs.Rows.{Network}
use Rattle.tree_cert.specs.declared.fault.FaultKind.{FaultKind}
use Rattle.tree_cert.specs.declared.fault.TreeFault.TheVariants as tree_fault
use Rattle.tree_cert.specs.Texts.{Finding, Refutes, Partial, Fails, IsFinding, PassesPartText, PassesWholeText}
use Rattle.tree_check.specs.Verdicts.{Answers, answer_to}
use Rattle.tree_rules.specs.Branches.{rules_of}
use Rattle.refuting_tree.specs.declared.fault.RefutingFault.{RefutingFault}
use Rattle.refuting_tree.specs.declared.fault.RefutingFault.TheVariants.{Tree, LeftOpen, NoMemory}

-- why a text is no refutation: this line is its first at fault, or it passes, but its first open box ends in this line
abbrev pub IsRefusal : Network → List ℕ → RefutingFault → Type 0
IsRefusal p text (Tree tree_fault.NoMemory) = ⊥
IsRefusal p text (Tree fault) = Answers p text (Err fault)
IsRefusal p text (LeftOpen line) = PassesPartText (rules_of p) text line
IsRefusal p text NoMemory = Unit {0}

-- an answer, whatever it is, comes of a text that refutes
abbrev pub Says : {A : Type 0} → Network → List ℕ → Result A RefutingFault → Type 0
Says p text (Ok x) = PassesWholeText (rules_of p) text
Says p text (Err fault) = IsRefusal p text fault

-- the checker's fault
abbrev pub IsTreeFault : ℕ → FaultKind → RefutingFault → Type 0
IsTreeFault line kind (Tree fault) = Err fault ≡ answer_to (Fails line kind)
IsTreeFault line kind fault = ⊥

-- what a text is found to be is answered, unless memory runs out
abbrev pub Tells : {A : Type 0} → Finding → Result A RefutingFault → Type 0
Tells f (Err NoMemory) = Unit {0}
Tells Refutes (Ok x) = Unit {0}
Tells Refutes (Err fault) = ⊥
Tells (Partial line) (Ok x) = ⊥
Tells (Partial line) (Err fault) = fault ≡ LeftOpen line
Tells (Fails line kind) (Ok x) = ⊥
Tells (Fails line kind) (Err fault) = IsTreeFault line kind fault

abbrev pub IsSaid : {A : Type 0} → Network → List ℕ → Result A RefutingFault → Type 0
IsSaid p text result = (f : Finding) → IsFinding (rules_of p) text f → Tells f result
