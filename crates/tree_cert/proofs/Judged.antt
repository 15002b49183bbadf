-- A text is judged line by line, and what is so found is the one finding of the text.
use Rattle.std.proofs.Common.{◌≡◌, ◌⊎◌, inl, inr, ℕ, zero, suc, ◌+◌, ◌≤◌, List, [], ◌∷◌, length, map, take, slice_get, Option, Some, None, Result, Ok, Err, refl, sym, ap, subst, ◌∙◌, arith}
use Rattle.tree_cert.specs.declared.fault.FaultKind.{FaultKind}
use Rattle.tree_cert.specs.declared.fault.FaultKind.TheVariants.{WrongEnd}
use Rattle.tree_cert.specs.declared.line.Line.{Line}
use Rattle.tree_cert.specs.declared.line.Line.TheVariants as lines
use Rattle.tree_cert.specs.Tree.{Tree}
use Rattle.tree_cert.specs.TreeRules.{TreeRules, IsTextOf}
use Rattle.tree_cert.specs.Spelling.{AreLines}
use Rattle.tree_cert.specs.Place.{Place, Start, Inside, Expecting, Whole, Ended, read, read_end}
use Rattle.tree_cert.specs.Texts.{Read, lines_in, next, next_or_end, walk, open_from, first_open, Finding, Refutes, Partial, Fails, IsFinding}
use Rattle.tree_cert.specs.Laws.{LinesAreRead}
use Rattle.tree_cert.proofs.Options.{bind_ok}
use Rattle.tree_cert.proofs.Walks.{tree_of_walk, walk_text}
use Rattle.tree_cert.proofs.Opens.{closed_trees_have_no_open_line}

-- the first of these that is there
abbrev pub or_else : Option ℕ → Option ℕ → Option ℕ
or_else None o = o
or_else (Some n) o = Some n

-- line n, if it leaves a box open
abbrev pub open_at : ℕ → Line → Option ℕ
open_at n lines.LeftOpen = Some n
open_at n l = None

-- the same of a line as it is read
abbrev pub read_open : ℕ → Read → Option ℕ
read_open n (Ok l) = open_at n l
read_open n (Err fault) = None

-- what is found of the text of a tree that passes, whose first open line is this
abbrev pub passes_with : Option ℕ → Finding
passes_with None = Refutes
passes_with (Some n) = Partial n

-- line n led to this, and what comes after it
abbrev pub judge_next : (g : TreeRules) → ℕ → Result (Place g) FaultKind → (Place g → Finding) → Finding
judge_next g n (Err fault) rest = Fails n fault
judge_next g n (Ok q) rest = rest q

-- What is found of lines at a place, of which the first has number n, where this is the first open line before it.
abbrev pub judge : (g : TreeRules) → Place g → ℕ → Option ℕ → List Read → Finding
judge g p n o [] = judge_next g n (read_end g p) (λ _. passes_with o)
judge g p n o (r ∷ rs) = judge_next g n (next g p r) (λ q. judge g q (n + 1) (or_else o (read_open n r)) rs)

-- what is found of all lines of a text
abbrev pub judge_all : (g : TreeRules) → List Read → Finding
judge_all g [] = Fails 1 WrongEnd
judge_all g (r ∷ rs) = judge_next g 1 (next g Start r) (λ q. judge g q 2 None rs)

-- where no text begins with an open box, its first line may count as the others do
pub judged_alike : (g : TreeRules) (rs : List Read) → g.opening lines.LeftOpen ≡ None → judge g Start 1 None rs ≡ judge_all g rs
judged_alike g [] e = refl
judged_alike g (Err fault ∷ rs) e = refl
judged_alike g (Ok lines.LeftOpen ∷ rs) e = rw e refl
judged_alike g (Ok lines.First ∷ rs) e = refl
judged_alike g (Ok lines.FirstSixteenths ∷ rs) e = refl
judged_alike g (Ok (lines.Step s) ∷ rs) e = refl
judged_alike g (Ok (lines.Close c) ∷ rs) e = refl
judged_alike g (Ok (lines.Group k) ∷ rs) e = refl
judged_alike g (Ok (lines.Arc a) ∷ rs) e = refl
judged_alike g (Ok (lines.Halve x) ∷ rs) e = refl
judged_alike g (Ok (lines.Head h) ∷ rs) e = refl
judged_alike g (Ok lines.End ∷ rs) e = refl

or_else_more : (o p q : Option ℕ) → or_else (or_else o p) q ≡ or_else o (or_else p q)
or_else_more None p q = refl
or_else_more (Some n) p q = refl

open_step : (n : ℕ) (l : Line) (ls : List Line) → open_from n (l ∷ ls) ≡ or_else (open_at n l) (open_from (n + 1) ls)
open_step n lines.LeftOpen ls = refl
open_step n lines.First ls = refl
open_step n lines.FirstSixteenths ls = refl
open_step n (lines.Step s) ls = refl
open_step n (lines.Close c) ls = refl
open_step n (lines.Group k) ls = refl
open_step n (lines.Arc a) ls = refl
open_step n (lines.Halve x) ls = refl
open_step n (lines.Head h) ls = refl
open_step n lines.End ls = refl

module _ (g : TreeRules) where
  -- the lines are walked to the end
  pub record WalksOut (p : Place g) (n : ℕ) (o : Option ℕ) (rs : List Read) (f : Finding) : Type 0 where
    pub lines : List Line
    pub are : rs ≡ map Ok lines
    pub walked : walk g p (map Ok lines) ≡ Ok Ended
    pub found : f ≡ passes_with (or_else o (open_from n lines))

  -- line n + before can't be walked
  pub record FallsAt (p : Place g) (n : ℕ) (rs : List Read) (f : Finding) : Type 0 where
    pub before : ℕ
    pub fault : FaultKind
    pub count : before ≤ length rs
    pub place : Place g
    pub walked : walk g p (take before rs) ≡ Ok place
    pub offends : next_or_end g place (slice_get rs before) ≡ Err fault
    pub found : f ≡ Fails (n + before) fault

  abbrev pub IsJudged : Place g → ℕ → Option ℕ → List Read → Finding → Type 0
  IsJudged p n o rs f = WalksOut p n o rs f ⊎ FallsAt p n rs f

  at_end : (p : Place g) (n : ℕ) (o : Option ℕ) → IsJudged p n o [] (judge g p n o [])
  at_end Ended n o = inl (record { lines = []; are = refl; walked = refl; found = ap passes_with (by o) })
    where
      by : (o : Option ℕ) → o ≡ or_else o None
      by None = refl
      by (Some k) = refl
  at_end Start n o = inr (record { before = 0; fault = WrongEnd; count = omega arith; place = Start; walked = refl; offends = refl; found = ap (λ k. Fails k WrongEnd) (omega arith) })
  at_end (Inside b ws) n o = inr (record { before = 0; fault = WrongEnd; count = omega arith; place = Inside b ws; walked = refl; offends = refl; found = ap (λ k. Fails k WrongEnd) (omega arith) })
  at_end (Expecting w ws) n o = inr (record { before = 0; fault = WrongEnd; count = omega arith; place = Expecting w ws; walked = refl; offends = refl; found = ap (λ k. Fails k WrongEnd) (omega arith) })
  at_end Whole n o = inr (record { before = 0; fault = WrongEnd; count = omega arith; place = Whole; walked = refl; offends = refl; found = ap (λ k. Fails k WrongEnd) (omega arith) })

  -- one line more, which leads from p to q, in front of the others
  falls_more : (p q : Place g) (n : ℕ) (r : Read) (rs : List Read) (f : Finding) → next g p r ≡ Ok q → FallsAt q (n + 1) rs f → FallsAt p n (r ∷ rs) f
  falls_more p q n r rs f e h = record {
    before = suc h.before;
    fault = h.fault;
    count = omega (arith, h.count);
    place = h.place;
    walked = rw e h.walked;
    offends = h.offends;
    found = h.found ∙ ap (λ k. Fails k h.fault) (omega arith);
  }

  line_more : (p q : Place g) (n : ℕ) (o : Option ℕ) (r : Read) (rs : List Read) (f : Finding) → next g p r ≡ Ok q → IsJudged q (n + 1) (or_else o (read_open n r)) rs f → IsJudged p n o (r ∷ rs) f
  line_more p q n o (Ok l) rs f e (inl w) = inl (record {
    lines = l ∷ w.lines;
    are = ap (λ (k : List Read). Ok l ∷ k) w.are;
    walked = rw e w.walked;
    found = w.found ∙ ap passes_with (or_else_more o (open_at n l) (open_from (n + 1) w.lines) ∙ ap (or_else o) (sym (open_step n l w.lines)));
  })
  line_more p q n o (Err fault) rs f e (inl w) = absurd cc
  line_more p q n o r rs f e (inr h) = inr (falls_more p q n r rs f e h)

  pub judge_is : (rs : List Read) (p : Place g) (n : ℕ) (o : Option ℕ) → IsJudged p n o rs (judge g p n o rs)
  judge_is [] p n o = at_end p n o
  judge_is (r ∷ rs) p n o = by (λ q. judge_is rs q (n + 1) (or_else o (read_open n r))) (next g p r) refl
    where
      by : ((q : Place g) → IsJudged q (n + 1) (or_else o (read_open n r)) rs (judge g q (n + 1) (or_else o (read_open n r)) rs))
          → (s : Result (Place g) FaultKind) → next g p r ≡ s → IsJudged p n o (r ∷ rs) (judge_next g n s (λ q. judge g q (n + 1) (or_else o (read_open n r)) rs))
      by others (Err fault) e = inr (record { before = 0; fault = fault; count = omega arith; place = p; walked = refl; offends = e; found = ap (λ k. Fails k fault) (omega arith) })
      by others (Ok q) e = line_more p q n o r rs _ e (others q)

  -- ---- all of a text

  pub record TextWalksOut (rs : List Read) (f : Finding) : Type 0 where
    pub lines : List Line
    pub are : rs ≡ map Ok lines
    pub walked : walk g Start (map Ok lines) ≡ Ok Ended
    pub found : f ≡ passes_with (first_open lines)

  text_more : (q : Place g) (r : Read) (rs : List Read) (f : Finding) → next g Start r ≡ Ok q → IsJudged q 2 None rs f → TextWalksOut (r ∷ rs) f ⊎ FallsAt Start 1 (r ∷ rs) f
  text_more q (Ok l) rs f e (inl w) = inl (record { lines = l ∷ w.lines; are = ap (λ (k : List Read). Ok l ∷ k) w.are; walked = rw e w.walked; found = w.found })
  text_more q (Err fault) rs f e (inl w) = absurd cc
  text_more q r rs f e (inr h) = inr (falls_more Start q 1 r rs f e h)

  text_is : (rs : List Read) → TextWalksOut rs (judge_all g rs) ⊎ FallsAt Start 1 rs (judge_all g rs)
  text_is [] = inr (record { before = 0; fault = WrongEnd; count = omega arith; place = Start; walked = refl; offends = refl; found = refl })
  text_is (r ∷ rs) = by (next g Start r) refl
    where
      by : (s : Result (Place g) FaultKind) → next g Start r ≡ s → TextWalksOut (r ∷ rs) (judge_next g 1 s (λ q. judge g q 2 None rs)) ⊎ FallsAt Start 1 (r ∷ rs) (judge_next g 1 s (λ q. judge g q 2 None rs))
      by (Err fault) e = inr (record { before = 0; fault = fault; count = omega arith; place = Start; walked = refl; offends = e; found = ap (λ k. Fails k fault) (omega arith) })
      by (Ok q) e = text_more q r rs _ e (judge_is rs q 2 None)

  passing : (bytes : List ℕ) (ls : List Line) (t : Tree) (o : Option ℕ) → AreLines bytes ls → IsTextOf g ls t → first_open ls ≡ o → IsFinding g bytes (passes_with o)
  passing bytes ls t None text is e =
      record { lines = ls; text = text; passes = (t, is, (closed_trees_have_no_open_line is.first t).1 (ap first_open (sym is.lines) ∙ e)) }
  passing bytes ls t (Some n) text is e = record { lines = ls; text = text; tree = t; passes = is; opened = e }

  -- what is judged is a finding
  pub judged_is_finding : LinesAreRead → (bytes : List ℕ) → IsFinding g bytes (judge_all g (lines_in bytes))
  judged_is_finding read bytes =
      elim (text_is (lines_in bytes)) [
        | inl w ↦ (let t = tree_of_walk g w.lines w.walked in
            subst (IsFinding g bytes) (sym w.found) (passing bytes w.lines t.0 (first_open w.lines) ((read bytes w.lines).1 w.are) t.1 refl))
        | inr h ↦ subst (IsFinding g bytes) (sym h.found)
            (record { before = h.before; number = omega arith; count = h.count; place = h.place; walked = h.walked; offends = h.offends })
      ]

  -- ---- and the only one

  or_none : (o : Option ℕ) → o ≡ or_else o None
  or_none None = refl
  or_none (Some k) = refl

  judge_walked : (ls : List Line) (p : Place g) (n : ℕ) (o : Option ℕ) → walk g p (map Ok ls) ≡ Ok Ended → judge g p n o (map Ok ls) ≡ passes_with (or_else o (open_from n ls))
  judge_walked [] Ended n o e = ap passes_with (or_none o)
  judge_walked [] Start n o e = absurd cc
  judge_walked [] (Inside b ws) n o e = absurd cc
  judge_walked [] (Expecting w ws) n o e = absurd cc
  judge_walked [] Whole n o e = absurd cc
  judge_walked (l ∷ ls) p n o e =
      let r = bind_ok (read g p l) (λ q. walk g q (map Ok ls)) Ended e in
      rw r.1 (judge_walked ls r.0 (n + 1) (or_else o (open_at n l)) r.2
      ∙ ap passes_with (or_else_more o (open_at n l) (open_from (n + 1) ls) ∙ ap (or_else o) (sym (open_step n l ls))))

  text_walked : (ls : List Line) → walk g Start (map Ok ls) ≡ Ok Ended → judge_all g (map Ok ls) ≡ passes_with (first_open ls)
  text_walked [] e = absurd cc
  text_walked (l ∷ ls) e =
      let r = bind_ok (read g Start l) (λ q. walk g q (map Ok ls)) Ended e in
      rw r.1 (judge_walked ls r.0 2 None r.2)

  judge_fails : (k : ℕ) (rs : List Read) (p : Place g) (n : ℕ) (o : Option ℕ) (q : Place g) (fault : FaultKind) → walk g p (take k rs) ≡ Ok q → next_or_end g q (slice_get rs k) ≡ Err fault → k ≤ length rs
      → judge g p n o rs ≡ Fails (n + k) fault
  judge_fails zero [] p n o q fault w e le =
      let same : p ≡ q = cc in
      let here : read_end g p ≡ Err fault = rw same e in
      rw here (ap (λ m. Fails m fault) (omega arith))
  judge_fails zero (r ∷ rs) p n o q fault w e le =
      let same : p ≡ q = cc in
      let here : next g p r ≡ Err fault = rw same e in
      rw here (ap (λ m. Fails m fault) (omega arith))
  judge_fails (suc k) [] p n o q fault w e le = absurd (omega arith)
  judge_fails (suc k) (r ∷ rs) p n o q fault w e le =
      let b = bind_ok (next g p r) (λ q. walk g q (take k rs)) q w in
      rw b.1 (judge_fails k rs b.0 (n + 1) (or_else o (read_open n r)) q fault b.2 e (omega arith) ∙ ap (λ m. Fails m fault) (omega arith))

  text_fails : (k : ℕ) (rs : List Read) (q : Place g) (fault : FaultKind) → walk g Start (take k rs) ≡ Ok q → next_or_end g q (slice_get rs k) ≡ Err fault → k ≤ length rs → judge_all g rs ≡ Fails (1 + k) fault
  text_fails zero [] q fault w e le =
      let same : Start ≡ q = cc in
      let here : read_end g Start ≡ Err fault = subst (λ (k : Place g). read_end g k ≡ Err fault) (sym same) e in
      let is : WrongEnd ≡ fault = cc in
      rw is (ap (λ m. Fails m fault) (omega arith))
  text_fails zero (r ∷ rs) q fault w e le =
      let same : Start ≡ q = cc in
      let here : next g Start r ≡ Err fault = subst (λ (k : Place g). next g k r ≡ Err fault) (sym same) e in
      rw here (ap (λ m. Fails m fault) (omega arith))
  text_fails (suc k) [] q fault w e le = absurd (omega arith)
  text_fails (suc k) (r ∷ rs) q fault w e le =
      let b = bind_ok (next g Start r) (λ q. walk g q (take k rs)) q w in
      rw b.1 (judge_fails k rs b.0 2 None q fault b.2 e (omega arith) ∙ ap (λ m. Fails m fault) (omega arith))

  text_passes : LinesAreRead → (bytes : List ℕ) (ls : List Line) (t : Tree) → AreLines bytes ls → IsTextOf g ls t → judge_all g (lines_in bytes) ≡ passes_with (first_open ls)
  text_passes read bytes ls t text is = ap (judge_all g) ((read bytes ls).0 text) ∙ text_walked ls (walk_text g ls t is)

  -- a finding is what is judged
  pub finding_is_judged : LinesAreRead → (bytes : List ℕ) (f : Finding) → IsFinding g bytes f → judge_all g (lines_in bytes) ≡ f
  finding_is_judged read bytes Refutes h =
      let is = h.passes.1 in
      let none : first_open h.lines ≡ None = ap first_open is.lines ∙ (closed_trees_have_no_open_line is.first h.passes.0).0 h.passes.2 in
      text_passes read bytes h.lines h.passes.0 h.text is ∙ ap passes_with none
  finding_is_judged read bytes (Partial n) h = text_passes read bytes h.lines h.tree h.text h.passes ∙ ap passes_with h.opened
  finding_is_judged read bytes (Fails n fault) h =
      text_fails h.before (lines_in bytes) h.place fault h.walked h.offends h.count ∙ ap (λ m. Fails m fault) (let e = h.number in omega (arith, e))
