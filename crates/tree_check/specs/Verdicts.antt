-- What a checker answers of a text.
use Rattle.std.specs.Prelude.{◌≡◌, ℕ, List, Option, Some, None, IfSome, Result, Ok, Err}
use Rattle.gas_model.specs.Rows.{Network}
use Rattle.tree_cert.specs.declared.fault.FaultKind.TheVariants as kind
use Rattle.tree_cert.specs.Texts.{Finding, Refutes, Partial, Fails, IsFinding}
use Rattle.tree_rules.specs.Branches.{rules_of}
use Rattle.tree_cert.specs.declared.line.Line.{Line}
use Rattle.tree_cert.specs.declared.line.Line.TheVariants as lines
use Rattle.tree_check.specs.declared.reader.Stop.{Stop}
use Rattle.tree_check.specs.declared.reader.Stop.TheVariants as stops
use Rattle.tree_check.specs.declared.verdict.Verdict.{Verdict}
use Rattle.tree_check.specs.declared.verdict.Verdict.TheVariants as verdict
use Rattle.tree_cert.specs.declared.fault.TreeFault.{TreeFault}
use Rattle.tree_cert.specs.declared.fault.TreeFault.TheVariants as fault

-- what an answer says of the text, if it isn't a want of memory
abbrev pub finding_of : Result Verdict TreeFault → Option Finding
finding_of (Ok verdict.Refutes) = Some Refutes
finding_of (Ok (verdict.Partial line)) = Some (Partial line)
finding_of (Err (fault.NotTree line)) = Some (Fails line kind.NotTree)
finding_of (Err (fault.WideNumber line)) = Some (Fails line kind.WideNumber)
finding_of (Err (fault.BadStep line)) = Some (Fails line kind.BadStep)
finding_of (Err (fault.WrongBranch line)) = Some (Fails line kind.WrongBranch)
finding_of (Err (fault.WrongEnd line)) = Some (Fails line kind.WrongEnd)
finding_of (Err fault.NoMemory) = None

-- the answer that says so
abbrev pub answer_to : Finding → Result Verdict TreeFault
answer_to Refutes = Ok verdict.Refutes
answer_to (Partial line) = Ok (verdict.Partial line)
answer_to (Fails line kind.NotTree) = Err (fault.NotTree line)
answer_to (Fails line kind.WideNumber) = Err (fault.WideNumber line)
answer_to (Fails line kind.BadStep) = Err (fault.BadStep line)
answer_to (Fails line kind.WrongBranch) = Err (fault.WrongBranch line)
answer_to (Fails line kind.WrongEnd) = Err (fault.WrongEnd line)

-- the answer says so, unless memory ran out
abbrev pub IsAnswerTo : Finding → Result Verdict TreeFault → Type 0
IsAnswerTo f (Err fault.NoMemory) = Unit {0}
IsAnswerTo f result = result ≡ answer_to f

-- what a stop at a line says
abbrev pub stopped : Stop → ℕ → Option Finding
stopped stops.NoMemory line = None
stopped (stops.Offends kind) line = Some (Fails line kind)

-- what a tree that passes shows, with this first open line
abbrev pub passing : Option ℕ → Finding
passing None = Refutes
passing (Some line) = Partial line

-- the first open line, where this line comes next
abbrev pub or_open : Option ℕ → ℕ → Line → Option ℕ
or_open (Some first) number line = Some first
or_open None number lines.LeftOpen = Some number
or_open None number line = None

-- The answer is what the text is found to be by the rules of the problem, which is one thing alone; a want of memory says
-- nothing.
abbrev pub Answers : Network → List ℕ → Result Verdict TreeFault → Type 0
Answers p text result = IfSome (finding_of result) (IsFinding (rules_of p) text)

-- whatever the text is found to be is answered
abbrev pub IsAnswered : Network → List ℕ → Result Verdict TreeFault → Type 0
IsAnswered p text result = (f : Finding) → IsFinding (rules_of p) text f → IsAnswerTo f result
