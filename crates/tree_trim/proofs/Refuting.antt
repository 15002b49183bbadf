-- Whether a text passes, by what the checker answers.
use Rattle.std.proofs.Common.{◌≡◌, ◌≢◌, ◌↔◌, ℕ, List, Bool, true, false, IsTrue, Result, Ok, Err, IfOk, refl, sym, subst}
use Rattle.gas_model.specs.Rows.{Network}
use Rattle.tree_cert.specs.declared.fault.TreeFault.{TreeFault}
use Rattle.tree_cert.specs.declared.fault.TreeFault.TheVariants as fault
use Rattle.tree_cert.specs.declared.line.Line.{Line}
use Rattle.tree_cert.specs.Spelling.{AreLines}
use Rattle.tree_cert.specs.Texts.{Refutes, PassesWholeText}
use Rattle.tree_cert.specs.TreeRules.{TreeRules, PassesWhole}
use Rattle.tree_check.specs.Verdicts.{IsAnswered, IsAnswerTo, answer_to}
use Rattle.tree_check.specs.declared.verdict.Verdict.TheVariants as verdict
use Rattle.tree_rules.specs.Branches.{rules_of}
use Rattle.trim_rules.proofs.Trims.{one_list}

memory_alone : (e : TreeFault) → IsAnswerTo Refutes (Err e) → e ≡ fault.NoMemory
memory_alone (fault.NotTree line) h = absurd (cc)
memory_alone (fault.WideNumber line) h = absurd (cc)
memory_alone (fault.BadStep line) h = absurd (cc)
memory_alone (fault.WrongBranch line) h = absurd (cc)
memory_alone (fault.WrongEnd line) h = absurd (cc)
memory_alone fault.NoMemory h = refl

pub passing_is : (p : Network) (text : List ℕ) → PassesWholeText (rules_of p) text → IsTrue true ↔ PassesWholeText (rules_of p) text
passing_is p text h = (λ t. h, λ k. refl)

pub partial_is_not : (p : Network) (text : List ℕ) (line : ℕ) → IsAnswered p text (Ok (verdict.Partial line)) → IsTrue false ↔ PassesWholeText (rules_of p) text
partial_is_not p text line h = (λ t. absurd cc, λ k. absurd (let e : Ok (verdict.Partial line) ≡ answer_to Refutes = h Refutes k in cc))

faulty_is_not : (p : Network) (text : List ℕ) (e : TreeFault) (goes : Bool) → goes ≡ false → e ≢ fault.NoMemory → IsAnswered p text (Err e) → IsTrue goes ↔ PassesWholeText (rules_of p) text
faulty_is_not p text e goes not n h = subst (λ b. IsTrue b ↔ PassesWholeText (rules_of p) text) (sym not) (λ t. absurd cc, λ k. absurd (n (memory_alone e (h Refutes k))))

pub fails_is_not : {E : Type 0} (p : Network) (text : List ℕ) (e : TreeFault) (r : Result Bool E) → IfOk r (λ goes. (goes ≡ false) × (e ≢ fault.NoMemory)) → IsAnswered p text (Err e) → IfOk r (λ goes. IsTrue goes ↔ PassesWholeText (rules_of p) text)
fails_is_not p text e (Ok goes) k h = faulty_is_not p text e goes k.0 k.1 h
fails_is_not p text e (Err d) k h = tt

-- so of the lines of the text
lines_too : (g : TreeRules) (text : List ℕ) (ls : List Line) (goes : Bool) → AreLines text ls → IsTrue goes ↔ PassesWholeText g text → IsTrue goes ↔ PassesWhole g ls
lines_too g text ls goes a h = (λ t. lines_pass (h.0 t), λ k. h.1 (record { lines = ls; text = a; passes = k }))
  where
    lines_pass : PassesWholeText g text → PassesWhole g ls
    lines_pass w = subst (PassesWhole g) (one_list text w.lines ls w.text a) w.passes

pub lines_so : {E : Type 0} (g : TreeRules) (text : List ℕ) (ls : List Line) (r : Result Bool E) → AreLines text ls → IfOk r (λ goes. IsTrue goes ↔ PassesWholeText g text) → IfOk r (λ goes. IsTrue goes ↔ PassesWhole g ls)
lines_so g text ls (Ok goes) a h = lines_too g text ls goes a h
lines_so g text ls (Err d) a h = tt
