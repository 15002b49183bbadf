-- Lines get their marks from the last to the first.
use Rattle.std.proofs.Common.{◌≡◌, ℕ, zero, suc, ◌+◌, ◌<◌, ◌≤◌, inl, inr, Bool, true, false, cond, List, [], ◌∷◌, ◌++◌, length, take, drop, get_or, replicate, slice_get, slice_set, Some, refl, sym, ap, ◌∙◌, subst, arith}
use Rattle.gas_model.specs.Rows.{Network}
use Rattle.tree_cert.specs.declared.line.Line.{Line}
use Rattle.tree_cert.specs.declared.line.Line.TheVariants as lines
use Rattle.tree_cert.specs.declared.line.Step.{Step}
use Rattle.tree_cert.specs.Spelling.{AreLines}
use Rattle.tree_cert.specs.TreeRules.{TreeRules, PassesWhole}
use Rattle.tree_rules.specs.Branches.{rules_of}
use Rattle.trim_rules.specs.Trimming.{IsKept, IsTrimmed, IsTrimOf}
use Rattle.tree_trim.specs.Kept.{kept_of, is_step, LeavesOut, Decides}

-- marks of which the first k are none
set_at : (k : ℕ) (done : List Bool) (x : Bool) → slice_set (replicate (suc k) false ++ done) k x ≡ replicate k false ++ (x ∷ done)
set_at zero done x = refl
set_at (suc k) done x = ap (λ z. false ∷ z) (set_at k done x)

kept_front : (k : ℕ) (ls : List Line) (marks : List Bool) → k ≤ length ls → kept_of ls (replicate k false ++ marks) ≡ take k ls ++ kept_of (drop k ls) marks
kept_front zero ls marks h = refl
kept_front (suc k) [] marks h = absurd (omega arith)
kept_front (suc k) (l ∷ ls) marks h = ap (λ z. l ∷ z) (kept_front k ls marks (omega arith))

split_at : (k : ℕ) (ls : List Line) (l : Line) → slice_get ls k ≡ Some l → (take (suc k) ls ≡ take k ls ++ l ∷ []) × (drop k ls ≡ l ∷ drop (suc k) ls)
split_at zero [] l e = absurd cc
split_at zero (x ∷ ls) l e = let same : x ≡ l = cc in (ap (λ z. z ∷ []) same, ap (λ z. z ∷ ls) same)
split_at (suc k) [] l e = absurd cc
split_at (suc k) (x ∷ ls) l e = let r = split_at k ls l e in (ap (λ z. x ∷ z) r.0, r.1)

-- the marks from a line on are those that it and the lines behind it get
pub record Tried (g : TreeRules) (ls : List Line) (i : ℕ) (marks : List Bool) : Type 0 where
  pub within : i ≤ length ls
  pub done : List Bool
  pub is : marks ≡ replicate i false ++ done
  pub count : i + length done ≡ length ls
  pub trimmed : IsTrimmed g (take i ls) (drop i ls) (kept_of (drop i ls) done)

take_full : (ls : List Line) → take (length ls) ls ≡ ls
take_full [] = refl
take_full (l ∷ ls) = ap (λ z. l ∷ z) (take_full ls)

drop_full : (ls : List Line) → drop (length ls) ls ≡ []
drop_full [] = refl
drop_full (l ∷ ls) = drop_full ls

append_none : (xs : List Bool) → xs ≡ xs ++ []
append_none [] = refl
append_none (x ∷ xs) = ap (λ z. x ∷ z) (append_none xs)

pub none_tried : (g : TreeRules) (ls : List Line) (i : ℕ) (marks : List Bool) → i ≡ length ls → marks ≡ replicate (length ls) false → Tried g ls i marks
none_tried g ls i marks e m = record {
  within = omega arith;
  done = [];
  is = m ∙ ap (λ n. replicate n false) (sym e) ∙ append_none (replicate i false);
  count = omega arith;
  trimmed = subst (λ k. IsTrimmed g (take k ls) (drop k ls) (kept_of (drop k ls) [])) (sym e) (subst (λ z. IsTrimmed g (take (length ls) ls) z (kept_of z [])) (sym (drop_full ls)) refl);
}

-- ---- one line
kept_is : (g : TreeRules) (front : List Line) (l : Line) (rest : List Line) (out : Bool) → (out ≡ true → (s : Step) × (l ≡ lines.Step s) × PassesWhole g (front ++ rest)) → (out ≡ false → (s : Step) → l ≡ lines.Step s → PassesWhole g (front ++ rest) → ⊥)
    → IsKept g front l rest (cond out rest (l ∷ rest))
kept_is g front l rest true goes stays =
    let h = goes refl in
    subst (λ (x : Line). IsKept g front x rest rest) (sym h.1) (inl (h.2, refl))
kept_is g front (lines.Step s) rest false goes stays = inr (stays refl s refl, refl)
kept_is g front lines.First rest false goes stays = refl
kept_is g front lines.FirstSixteenths rest false goes stays = refl
kept_is g front (lines.Close c) rest false goes stays = refl
kept_is g front lines.LeftOpen rest false goes stays = refl
kept_is g front (lines.Group k) rest false goes stays = refl
kept_is g front (lines.Arc a) rest false goes stays = refl
kept_is g front (lines.Halve v) rest false goes stays = refl
kept_is g front (lines.Head d) rest false goes stays = refl
kept_is g front lines.End rest false goes stays = refl

some_line : (ls : List Line) (k : ℕ) → k < length ls → (l : Line) × (slice_get ls k ≡ Some l)
some_line [] k h = absurd (omega arith)
some_line (l ∷ ls) zero h = (l, refl)
some_line (l ∷ ls) (suc k) h = some_line ls k (omega arith)

length_front : (k : ℕ) (done : List Bool) → length (replicate k false ++ done) ≡ k + length done
length_front zero done = omega arith
length_front (suc k) done = omega (arith, length_front k done)

one_same : (ls : List Line) (k : ℕ) (l : Line) (s : Step) → slice_get ls k ≡ Some l → slice_get ls k ≡ Some (lines.Step s) → l ≡ lines.Step s
one_same ls k l s a b = let e : Some l ≡ Some (lines.Step s) = sym a ∙ b in cc

pub one_tried : (g : TreeRules) (ls : List Line) (k : ℕ) (before after : List Bool) → Tried g ls (suc k) before → LeavesOut g ls k before after → Tried g ls k after
one_tried g ls k before after t (out, e, mark) =
    let found = some_line ls k (omega (arith, t.within)) in
    let l = found.0 in
    let parts = split_at k ls l found.1 in
    let front = take k ls in
    let behind = drop (suc k) ls in
    let rest = kept_of behind t.done in
    let set_true : slice_set before k true ≡ replicate k false ++ (true ∷ t.done) = ap (λ z. slice_set z k true) t.is ∙ set_at k t.done true in
    let without : kept_of ls (slice_set before k true) ≡ front ++ rest =
    ap (kept_of ls) set_true ∙ kept_front k ls (true ∷ t.done) (omega (arith, t.within)) ∙ ap (λ z. front ++ kept_of z (true ∷ t.done)) parts.1 in
    let inner : IsTrimmed g (front ++ l ∷ []) behind rest = subst (λ z. IsTrimmed g z behind rest) parts.0 t.trimmed in
    let here : IsKept g front l rest (cond out rest (l ∷ rest)) =
    kept_is g front l rest out
    (λ o. let h = mark.goes o in (h.0, one_same ls k l h.0 found.1 h.1, subst (PassesWhole g) without h.2))
    (λ o s is passes. mark.stays o s (found.1 ∙ ap Some is) (subst (PassesWhole g) (sym without) passes)) in
    record {
      within = omega (arith, t.within);
      done = out ∷ t.done;
      is = e ∙ ap (λ z. slice_set z k out) t.is ∙ set_at k t.done out;
      count = omega (arith, t.count);
      trimmed = subst (λ z. IsTrimmed g front z (kept_of z (out ∷ t.done))) (sym parts.1) (rest, inner, here);
    }

pub all_tried : (g : TreeRules) (ls : List Line) (i : ℕ) (marks : List Bool) → Tried g ls i marks → i ≡ 0 → Decides g ls marks
all_tried g ls i marks t e =
    let is : marks ≡ t.done = t.is ∙ ap (λ n. replicate n false ++ t.done) e in
    record {
      count = ap length is ∙ omega (arith, t.count);
      trimmed = subst (λ m. IsTrimmed g [] ls (kept_of ls m)) (sym is) (subst (λ k. IsTrimmed g (take k ls) (drop k ls) (kept_of (drop k ls) t.done)) e t.trimmed);
    }

-- the line that is tried has no mark yet
front_at : (k : ℕ) (done : List Bool) → get_or (replicate (suc k) false ++ done) k false ≡ false
front_at zero done = refl
front_at (suc k) done = front_at k done

pub no_mark : (g : TreeRules) (ls : List Line) (k : ℕ) (marks : List Bool) → Tried g ls (suc k) marks → get_or marks k false ≡ false
no_mark g ls k marks t = ap (λ z. get_or z k false) t.is ∙ front_at k t.done

pub mark_count : (g : TreeRules) (ls : List Line) (i : ℕ) (marks : List Bool) → Tried g ls i marks → length marks ≡ length ls
mark_count g ls i marks t = ap length t.is ∙ length_front i t.done ∙ t.count

-- ---- the mark of a line
is_step_of : (l : Line) → is_step l ≡ true → (s : Step) × (l ≡ lines.Step s)
is_step_of (lines.Step s) e = (s, refl)
is_step_of lines.First e = absurd cc
is_step_of lines.FirstSixteenths e = absurd cc
is_step_of (lines.Close c) e = absurd cc
is_step_of lines.LeftOpen e = absurd cc
is_step_of (lines.Group k) e = absurd cc
is_step_of (lines.Arc a) e = absurd cc
is_step_of (lines.Halve v) e = absurd cc
is_step_of (lines.Head d) e = absurd cc
is_step_of lines.End e = absurd cc

there : (ls : List Line) (i : ℕ) (l : Line) → i < length ls → l ≡ get_or ls i l → slice_get ls i ≡ Some l
there [] i l h e = absurd (omega arith)
there (x ∷ ls) zero l h e = ap Some (sym e)
there (x ∷ ls) (suc i) l h e = there ls i l (omega arith) e

as_before : (marks : List Bool) (i : ℕ) → get_or marks i false ≡ false → marks ≡ slice_set marks i false
as_before [] i e = refl
as_before (m ∷ marks) zero e = ap (λ (x : Bool). x ∷ marks) e
as_before (m ∷ marks) (suc i) e = ap (λ (z : List Bool). m ∷ z) (as_before marks i e)

set_again : (marks : List Bool) (i : ℕ) (x y : Bool) → slice_set (slice_set marks i x) i y ≡ slice_set marks i y
set_again [] i x y = refl
set_again (m ∷ marks) zero x y = refl
set_again (m ∷ marks) (suc i) x y = ap (λ (z : List Bool). m ∷ z) (set_again marks i x y)

module _ (g : TreeRules) (ls : List Line) (i : ℕ) (l : Line) (marks after : List Bool) (h : i < length ls) (at : l ≡ get_or ls i l) where
  -- a step of no need
  pub goes_out : is_step l ≡ true → PassesWhole g (kept_of ls (slice_set marks i true)) → after ≡ slice_set marks i true → LeavesOut g ls i marks after
  goes_out e passes is =
      let s = is_step_of l e in
      (true, is, record { goes = λ t. (s.0, there ls i l h at ∙ ap Some s.1, passes); stays = λ t. absurd cc })

  -- a step that is needed
  pub stays_in : (PassesWhole g (kept_of ls (slice_set marks i true)) → ⊥) → after ≡ slice_set (slice_set marks i true) i false → LeavesOut g ls i marks after
  stays_in fails is = (false, is ∙ set_again marks i true false, record { goes = λ t. absurd cc; stays = λ t s e. fails })

  -- no step
  pub stays_as : is_step l ≡ false → get_or marks i false ≡ false → after ≡ marks → LeavesOut g ls i marks after
  stays_as e none is =
      (false, is ∙ as_before marks i none, record { goes = λ t. absurd cc; stays = λ t s k. absurd (let same : Some l ≡ Some (lines.Step s) = sym (there ls i l h at) ∙ k in let step : l ≡ lines.Step s = cc in let f : is_step l ≡ true = ap is_step step in cc) })

-- ---- the text of the lines that are kept
pub trim_is : (p : Network) (text out : List ℕ) (ls : List Line) (marks : List Bool) → AreLines text ls → Decides (rules_of p) ls marks → AreLines out (kept_of ls marks) → IsTrimOf (rules_of p) text out
trim_is p text out ls marks a d w = record { lines = ls; are_lines = a; kept = kept_of ls marks; are_kept = w; is_trimmed = d.trimmed }
