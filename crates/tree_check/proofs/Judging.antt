-- What the loop over the lines of a text keeps, and what its answers say of the text.
use Rattle.std.proofs.Common.{◌≡◌, ◌≢◌, ℕ, ◌+◌, List, [], ◌∷◌, map, Option, Some, None, Result, Ok, Err, refl, sym, ap, subst, ◌∙◌}
use Rattle.std.specs.Prelude.{IfSome}
use Rattle.gas_model.specs.Rows.{Network}
use Rattle.gas_model.specs.Points.{IsInfeasible}
use Rattle.gas_model.specs.Within.{IsWithin}
use Rattle.tree_cert.specs.declared.fault.FaultKind.{FaultKind}
use Rattle.tree_cert.specs.declared.fault.FaultKind.TheVariants.{WrongEnd}
use Rattle.tree_cert.specs.declared.fault.FaultKind.TheVariants as kinds
use Rattle.tree_cert.specs.declared.fault.LineFault.{LineFault}
use Rattle.tree_cert.specs.declared.line.Line.{Line}
use Rattle.tree_cert.specs.declared.line.Line.TheVariants as lines
use Rattle.tree_cert.specs.TreeRules.{TreeRules}
use Rattle.tree_cert.specs.Place.{Place, Start, Ended, read_end}
use Rattle.tree_cert.specs.Reading.{line_of}
use Rattle.tree_cert.specs.Texts.{Read, told, next, pieces, lines_in, Finding, Refutes, Partial, Fails, IsFinding}
use Rattle.tree_cert.proofs.Judged.{or_else, read_open, open_at, passes_with, judge_next, judge, judge_all, judged_is_finding, finding_is_judged}
use Rattle.tree_cert.proofs.TextLines.{lines_are_read}
use Rattle.tree_rules.specs.Branches.{Wait, rules_of}
use Rattle.tree_rules.proofs.TreeSound.{texts_refute}
use Rattle.tree_check.specs.declared.reader.Mark.{Mark}
use Rattle.tree_check.specs.declared.reader.Mark.TheVariants as marks
use Rattle.tree_check.specs.declared.reader.Reader.{Reader}
use Rattle.tree_check.specs.Reading.{expecting, place_by, place_of}
use Rattle.tree_check.specs.Undo.{waits_at}
use Rattle.tree_check.specs.declared.reader.Stop.{Stop}
use Rattle.tree_check.specs.declared.reader.Stop.TheVariants as stops
use Rattle.tree_check.specs.declared.verdict.Verdict.{Verdict}
use Rattle.tree_check.specs.declared.verdict.Verdict.TheVariants as verdict
use Rattle.tree_cert.specs.declared.fault.TreeFault.{TreeFault}
use Rattle.tree_cert.specs.declared.fault.TreeFault.TheVariants as faults
use Rattle.tree_check.specs.Verdicts.{finding_of, answer_to, stopped, passing, or_open, Answers, IsAnswered}

pub lines_cut : (bytes piece rest : List ℕ) → pieces bytes ≡ piece ∷ pieces rest → lines_in bytes ≡ told (line_of piece) ∷ lines_in rest
lines_cut bytes piece rest e = ap (map (λ x. told (line_of x))) e

pub lines_none : (bytes : List ℕ) → bytes ≡ [] → lines_in bytes ≡ []
lines_none bytes e = ap lines_in e

pub first_line : (g : TreeRules) (text : List ℕ) (r : Read) (rs : List Read) (q : Place g) → lines_in text ≡ r ∷ rs → next g Start r ≡ Ok q → judge_all g (lines_in text) ≡ judge g q 2 None rs
first_line g text r rs q e f = ap (judge_all g) e ∙ ap (λ s. judge_next g 1 s (λ (x : Place g). judge g x 2 None rs)) f

pub first_stop : (g : TreeRules) (text : List ℕ) (r : Read) (rs : List Read) (fault : FaultKind) → lines_in text ≡ r ∷ rs → next g Start r ≡ Err fault → judge_all g (lines_in text) ≡ Fails 1 fault
first_stop g text r rs fault e f = ap (judge_all g) e ∙ ap (λ s. judge_next g 1 s (λ (x : Place g). judge g x 2 None rs)) f

or_none : (o : Option ℕ) → or_else o None ≡ o
or_none None = refl
or_none (Some n) = refl

open_is : (o : Option ℕ) (n : ℕ) (l : Line) → or_else o (open_at n l) ≡ or_open o n l
open_is (Some first) n l = refl
open_is None n lines.First = refl
open_is None n lines.FirstSixteenths = refl
open_is None n (lines.Step s) = refl
open_is None n (lines.Close c) = refl
open_is None n lines.LeftOpen = refl
open_is None n (lines.Group k) = refl
open_is None n (lines.Arc a) = refl
open_is None n (lines.Halve x) = refl
open_is None n (lines.Head h) = refl
open_is None n lines.End = refl

pub line_more : (g : TreeRules) (p q : Place g) (n : ℕ) (o : Option ℕ) (read : Result Line LineFault) (line : Line) (bytes : List ℕ) (rs : List Read)
    → lines_in bytes ≡ told read ∷ rs → read ≡ Ok line → next g p (told read) ≡ Ok q → judge g p n o (lines_in bytes) ≡ judge g q (n + 1) (or_open o n line) rs
line_more g p q n o read line bytes rs e l f =
    ap (judge g p n o) e ∙ ap (λ s. judge_next g n s (λ (x : Place g). judge g x (n + 1) (or_else o (read_open n (told read))) rs)) f
    ∙ ap (λ (r : Result Line LineFault). judge g q (n + 1) (or_else o (read_open n (told r))) rs) l
    ∙ ap (λ (k : Option ℕ). judge g q (n + 1) k rs) (open_is o n line)

pub line_stop : (g : TreeRules) (p : Place g) (n : ℕ) (o : Option ℕ) (r : Read) (bytes : List ℕ) (rs : List Read) (fault : FaultKind)
    → lines_in bytes ≡ r ∷ rs → next g p r ≡ Err fault → judge g p n o (lines_in bytes) ≡ Fails n fault
line_stop g p n o r bytes rs fault e f =
    ap (judge g p n o) e ∙ ap (λ s. judge_next g n s (λ (x : Place g). judge g x (n + 1) (or_else o (read_open n r)) rs)) f

passing_is : (o : Option ℕ) → passes_with o ≡ passing o
passing_is None = refl
passing_is (Some n) = refl

pub text_ends : (g : TreeRules) (p : Place g) (n : ℕ) (o : Option ℕ) (bytes : List ℕ) → lines_in bytes ≡ [] → p ≡ Ended → judge g p n o (lines_in bytes) ≡ passing o
text_ends g p n o bytes e f = ap (judge g p n o) e ∙ ap (λ (q : Place g). judge g q n o []) f ∙ passing_is o

pub text_breaks : (g : TreeRules) (p : Place g) (n : ℕ) (o : Option ℕ) (bytes : List ℕ) → lines_in bytes ≡ [] → read_end g p ≡ Err WrongEnd → judge g p n o (lines_in bytes) ≡ Fails n WrongEnd
text_breaks g p n o bytes e f = ap (judge g p n o) e ∙ ap (λ s. judge_next g n s (λ (x : Place g). passes_with o)) f

pub answered : (p : Network) (text : List ℕ) (result : Result Verdict TreeFault) (f : Finding) → finding_of result ≡ Some f → judge_all (rules_of p) (lines_in text) ≡ f → Answers p text result
answered p text result f e j =
    let found : IsFinding (rules_of p) text f = subst (IsFinding (rules_of p) text) j (judged_is_finding (rules_of p) lines_are_read text) in
    subst (λ (o : Option Finding). IfSome o (IsFinding (rules_of p) text)) (sym e) found

-- a stop at a line says nothing, or what the text is found to be
pub answered_stop : (p : Network) (text : List ℕ) (t : TreeFault) (stop : Stop) (n : ℕ) → finding_of (Err t) ≡ stopped stop n → ((fault : FaultKind) → stop ≡ stops.Offends fault → judge_all (rules_of p) (lines_in text) ≡ Fails n fault) → Answers p text (Err t)
answered_stop p text t stops.NoMemory n e j = subst (λ (o : Option Finding). IfSome o (IsFinding (rules_of p) text)) (sym e) tt
answered_stop p text t (stops.Offends fault) n e j = answered p text (Err t) (Fails n fault) e (j fault refl)

-- what a text is found to be is one thing alone
same_finding : (p : Network) (text : List ℕ) (f h : Finding) → IsFinding (rules_of p) text f → IsFinding (rules_of p) text h → f ≡ h
same_finding p text f h a b = sym (finding_is_judged (rules_of p) lines_are_read text f a) ∙ finding_is_judged (rules_of p) lines_are_read text h b

-- so it is what the answer says
pub each_finding : (p : Network) (text : List ℕ) (result : Result Verdict TreeFault) → Answers p text result → IsAnswered p text result
each_finding p text (Ok verdict.Refutes) a f is = ap answer_to (same_finding p text Refutes f a is)
each_finding p text (Ok (verdict.Partial n)) a f is = ap answer_to (same_finding p text (Partial n) f a is)
each_finding p text (Err (faults.NotTree n)) a f is = ap answer_to (same_finding p text (Fails n kinds.NotTree) f a is)
each_finding p text (Err (faults.WideNumber n)) a f is = ap answer_to (same_finding p text (Fails n kinds.WideNumber) f a is)
each_finding p text (Err (faults.BadStep n)) a f is = ap answer_to (same_finding p text (Fails n kinds.BadStep) f a is)
each_finding p text (Err (faults.WrongBranch n)) a f is = ap answer_to (same_finding p text (Fails n kinds.WrongBranch) f a is)
each_finding p text (Err (faults.WrongEnd n)) a f is = ap answer_to (same_finding p text (Fails n kinds.WrongEnd) f a is)
each_finding p text (Err faults.NoMemory) a f is = tt

pub refuted : (p : Network) (text : List ℕ) (result : Result Verdict TreeFault) → IsWithin p → Answers p text result → result ≡ Ok verdict.Refutes → IsInfeasible p
refuted p text result w a e =
    let passes : IsFinding (rules_of p) text Refutes = subst (λ (r : Result Verdict TreeFault). Answers p text r) e a in
    texts_refute p passes.lines w passes.passes

-- a text that ends before `end`
pub not_ended : (p : Network) (r : Reader) → r.mark ≢ marks.Ended → read_end (rules_of p) (place_of p r) ≡ Err WrongEnd
not_ended p r h = by r.mark h
  where
    expecting_no_end : (ws : List Wait) → read_end (rules_of p) (expecting p ws) ≡ Err WrongEnd
    expecting_no_end [] = refl
    expecting_no_end (w ∷ ws) = refl

    by : (m : Mark) → m ≢ marks.Ended → read_end (rules_of p) (place_by p m r.here r.frames) ≡ Err WrongEnd
    by marks.Inside h = refl
    by marks.Expecting h = expecting_no_end (waits_at r.here r.frames)
    by marks.Whole h = refl
    by marks.Ended h = absurd (h refl)

pub ended : (p : Network) (r : Reader) → r.mark ≡ marks.Ended → place_of p r ≡ Ended
ended p r e = ap (λ (m : Mark). place_by p m r.here r.frames) e
