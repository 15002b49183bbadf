-- The lines that are kept of a text that passes pass, are some of its lines, and none of their steps can go.
use Rattle.std.proofs.Common.{◌≡◌, ◌⊎◌, ℕ, ◌+◌, inl, inr, refl, sym, ap, ◌∙◌, subst, Bool, true, false, List, [], ◌∷◌, ◌++◌, map, append_assoc, Option, Some, None, Ok}
use Rattle.gas_model.specs.Rows.{Network}
use Rattle.gas_model.specs.Within.{IsWithin}
use Rattle.tree_cert.specs.declared.line.Line.{Line}
use Rattle.tree_cert.specs.declared.line.Line.TheVariants as lines
use Rattle.tree_cert.specs.declared.line.Step.{Step}
use Rattle.tree_cert.specs.Tree.{box_lines}
use Rattle.tree_cert.specs.TreeRules.{TreeRules, Holds, Passes, PassesWhole}
use Rattle.tree_cert.specs.Place.{Place, Start, Ended, read}
use Rattle.tree_cert.specs.Spelling.{AreLines}
use Rattle.tree_cert.specs.Texts.{◌>>=◌, Read, walk, open_from, first_open, PassesWholeText}
use Rattle.tree_cert.proofs.Options.{bind_ok}
use Rattle.tree_cert.proofs.Opens.{closed_trees_have_no_open_line}
use Rattle.tree_cert.proofs.TextLines.{lines_are_read}
use Rattle.tree_cert.proofs.Walks.{walk_text, tree_of_walk}
use Rattle.tree_rules.specs.Branches.{rules_of}
use Rattle.trim_rules.specs.Trimming.{IsKept, IsTrimmed, AreSomeOf}
use Rattle.trim_rules.specs.Theorems.{TrimmedTextsPass, TrimmedTextsNeedTheirSteps}
use Rattle.trim_rules.proofs.PlaceTighter.{PlacesWithin, read_both, read_inner, read_between}

-- ---- lines one behind the other
snoc : (front : List Line) (l : Line) (rest : List Line) → (front ++ l ∷ []) ++ rest ≡ front ++ l ∷ rest
snoc front l rest = append_assoc front (l ∷ []) rest

-- no line leaves a box open
abbrev is_open : Line → Bool
is_open lines.LeftOpen = true
is_open l = false

abbrev NoOpen : List Line → Type 0
NoOpen [] = Unit {0}
NoOpen (l ∷ ls) = (is_open l ≡ false) × NoOpen ls

no_open : (n : ℕ) (ls : List Line) → open_from n ls ≡ None → NoOpen ls
no_open n [] e = tt
no_open n (lines.LeftOpen ∷ ls) e = absurd cc
no_open n (lines.First ∷ ls) e = (refl, no_open (n + 1) ls e)
no_open n (lines.FirstSixteenths ∷ ls) e = (refl, no_open (n + 1) ls e)
no_open n (lines.Step s ∷ ls) e = (refl, no_open (n + 1) ls e)
no_open n (lines.Close c ∷ ls) e = (refl, no_open (n + 1) ls e)
no_open n (lines.Group k ∷ ls) e = (refl, no_open (n + 1) ls e)
no_open n (lines.Arc a ∷ ls) e = (refl, no_open (n + 1) ls e)
no_open n (lines.Halve v ∷ ls) e = (refl, no_open (n + 1) ls e)
no_open n (lines.Head h ∷ ls) e = (refl, no_open (n + 1) ls e)
no_open n (lines.End ∷ ls) e = (refl, no_open (n + 1) ls e)

none_open : (n : ℕ) (ls : List Line) → NoOpen ls → open_from n ls ≡ None
none_open n [] h = refl
none_open n (lines.LeftOpen ∷ ls) h = absurd (let e = h.0 in cc)
none_open n (lines.First ∷ ls) h = none_open (n + 1) ls h.1
none_open n (lines.FirstSixteenths ∷ ls) h = none_open (n + 1) ls h.1
none_open n (lines.Step s ∷ ls) h = none_open (n + 1) ls h.1
none_open n (lines.Close c ∷ ls) h = none_open (n + 1) ls h.1
none_open n (lines.Group k ∷ ls) h = none_open (n + 1) ls h.1
none_open n (lines.Arc a ∷ ls) h = none_open (n + 1) ls h.1
none_open n (lines.Halve v ∷ ls) h = none_open (n + 1) ls h.1
none_open n (lines.Head d ∷ ls) h = none_open (n + 1) ls h.1
none_open n (lines.End ∷ ls) h = none_open (n + 1) ls h.1

open_parts : (xs ys : List Line) → NoOpen (xs ++ ys) → NoOpen xs × NoOpen ys
open_parts [] ys h = (tt, h)
open_parts (x ∷ xs) ys h = let r = open_parts xs ys h.1 in ((h.0, r.0), r.1)

open_joined : (xs ys : List Line) → NoOpen xs → NoOpen ys → NoOpen (xs ++ ys)
open_joined [] ys h k = k
open_joined (x ∷ xs) ys h k = (h.0, open_joined xs ys h.1 k)

-- ---- what passes is walked to the end and leaves no box open
module _ (g : TreeRules) (none : g.opening lines.LeftOpen ≡ None) where
  pub record Walks (ls : List Line) : Type 0 where
    pub walked : walk g Start (map Ok ls) ≡ Ok Ended
    pub shut : NoOpen ls

  none_held : (P : g.Box → Type 0) (o : Option g.Box) → o ≡ None → Holds o P → ⊥
  none_held P None e h = h
  none_held P (Some b) e h = absurd cc

  first_shut : (l : Line) (P : g.Box → Type 0) → Holds (g.opening l) P → is_open l ≡ false
  first_shut lines.LeftOpen P h = absurd (none_held P (g.opening lines.LeftOpen) none h)
  first_shut lines.First P h = refl
  first_shut lines.FirstSixteenths P h = refl
  first_shut (lines.Step s) P h = refl
  first_shut (lines.Close c) P h = refl
  first_shut (lines.Group k) P h = refl
  first_shut (lines.Arc a) P h = refl
  first_shut (lines.Halve v) P h = refl
  first_shut (lines.Head d) P h = refl
  first_shut lines.End P h = refl

  passes_walks : (ls : List Line) → PassesWhole g ls → Walks ls
  passes_walks ls (t, text, closed) = record {
    walked = walk_text g ls t text;
    shut = subst NoOpen (sym text.lines) (first_shut text.first (Passes g t) text.passes, no_open 2 (box_lines t ++ lines.End ∷ []) ((closed_trees_have_no_open_line text.first t).0 closed));
  }

  all_shut : (ls : List Line) → NoOpen ls → first_open ls ≡ None
  all_shut [] h = refl
  all_shut (l ∷ ls) h = none_open 2 ls h.1

  walks_passes : (ls : List Line) → Walks ls → PassesWhole g ls
  walks_passes ls h =
      let t = tree_of_walk g ls h.walked in
      (t.0, t.1, (closed_trees_have_no_open_line t.1.first t.0).1 (sym (ap first_open t.1.lines) ∙ all_shut ls h.shut))

  -- a walk in two parts
  walk_parts : (a : Place g) (xs ys : List Line) (e : Place g) → walk g a (map Ok (xs ++ ys)) ≡ Ok e → (m : Place g) × (walk g a (map Ok xs) ≡ Ok m) × (walk g m (map Ok ys) ≡ Ok e)
  walk_parts a [] ys e h = (a, refl, h)
  walk_parts a (x ∷ xs) ys e h =
      let r = bind_ok (read g a x) (λ q. walk g q (map Ok (xs ++ ys))) e h in
      let s = walk_parts r.0 xs ys e r.2 in
      (s.0, ap (λ z. z >>= λ q. walk g q (map Ok xs)) r.1 ∙ s.1, s.2)

  walk_joined : (a : Place g) (xs ys : List Line) (m e : Place g) → walk g a (map Ok xs) ≡ Ok m → walk g m (map Ok ys) ≡ Ok e → walk g a (map Ok (xs ++ ys)) ≡ Ok e
  walk_joined a [] ys m e h k = let s : a ≡ m = cc in subst (λ (z : Place g). walk g z (map Ok ys) ≡ Ok e) (sym s) k
  walk_joined a (x ∷ xs) ys m e h k =
      let r = bind_ok (read g a x) (λ q. walk g q (map Ok xs)) m h in
      ap (λ z. z >>= λ q. walk g q (map Ok (xs ++ ys))) r.1 ∙ walk_joined r.0 xs ys m e r.2 k

  -- ---- what is kept of a line: it is a step that goes, or it stays, and if it is a step the text wouldn't pass without it
  pub record Goes (front : List Line) (l : Line) (rest kept : List Line) : Type 0 where
    pub step : Step
    pub is : l ≡ lines.Step step
    pub passes : PassesWhole g (front ++ rest)
    pub kept_is : kept ≡ rest

  pub record Stays (front : List Line) (l : Line) (rest kept : List Line) : Type 0 where
    pub kept_is : kept ≡ l ∷ rest
    pub needed : (s : Step) → l ≡ lines.Step s → PassesWhole g (front ++ rest) → ⊥

  says : (front : List Line) (l : Line) (rest kept : List Line) → IsKept g front l rest kept → Goes front l rest kept ⊎ Stays front l rest kept
  says front (lines.Step s) rest kept (inl out) = inl (record { step = s; is = refl; passes = out.0; kept_is = out.1 })
  says front (lines.Step s) rest kept (inr stays) = inr (record { kept_is = stays.1; needed = λ x e. stays.0 })
  says front lines.First rest kept e = inr (record { kept_is = e; needed = λ x i. absurd cc })
  says front lines.FirstSixteenths rest kept e = inr (record { kept_is = e; needed = λ x i. absurd cc })
  says front (lines.Close c) rest kept e = inr (record { kept_is = e; needed = λ x i. absurd cc })
  says front lines.LeftOpen rest kept e = inr (record { kept_is = e; needed = λ x i. absurd cc })
  says front (lines.Group k) rest kept e = inr (record { kept_is = e; needed = λ x i. absurd cc })
  says front (lines.Arc a) rest kept e = inr (record { kept_is = e; needed = λ x i. absurd cc })
  says front (lines.Halve v) rest kept e = inr (record { kept_is = e; needed = λ x i. absurd cc })
  says front (lines.Head d) rest kept e = inr (record { kept_is = e; needed = λ x i. absurd cc })
  says front lines.End rest kept e = inr (record { kept_is = e; needed = λ x i. absurd cc })

  -- ---- the kept lines pass
  kept_passes : (front : List Line) (l : Line) (rest kept : List Line) → PassesWhole g (front ++ l ∷ rest) → IsKept g front l rest kept → PassesWhole g (front ++ kept)
  kept_passes front l rest kept h k =
      elim (says front l rest kept k) [
        | inl goes ↦ subst (λ ls. PassesWhole g (front ++ ls)) (sym goes.kept_is) goes.passes
        | inr stays ↦ subst (λ ls. PassesWhole g (front ++ ls)) (sym stays.kept_is) h
      ]

  before_line : (front : List Line) (l : Line) (ls rest : List Line) → PassesWhole g (front ++ l ∷ ls) → (PassesWhole g ((front ++ l ∷ []) ++ ls) → PassesWhole g ((front ++ l ∷ []) ++ rest)) → PassesWhole g (front ++ l ∷ rest)
  before_line front l ls rest h f = subst (PassesWhole g) (snoc front l rest) (f (subst (PassesWhole g) (sym (snoc front l ls)) h))

  trimmed_passes : (front ls kept : List Line) → PassesWhole g (front ++ ls) → IsTrimmed g front ls kept → PassesWhole g (front ++ kept)
  trimmed_passes front [] kept h t = subst (λ z. PassesWhole g (front ++ z)) (sym t) h
  trimmed_passes front (l ∷ ls) kept h t = kept_passes front l t.0 kept (before_line front l ls t.0 h (λ k. trimmed_passes (front ++ l ∷ []) ls t.0 k t.1)) t.2

  -- ---- they are some of the lines
  trimmed_some : (front ls kept : List Line) → IsTrimmed g front ls kept → AreSomeOf kept ls
  trimmed_some front [] kept t = t
  trimmed_some front (l ∷ ls) kept t =
      let inner = trimmed_some (front ++ l ∷ []) ls t.0 t.1 in
      elim (says front l t.0 kept t.2) [
        | inl goes ↦ inl (subst (λ z. AreSomeOf z ls) (sym goes.kept_is) inner)
        | inr stays ↦ inr (t.0, stays.kept_is, inner)
      ]

-- ---- a front of a text with some of its steps left out
abbrev Drops : (front part : List Line) → Type 0
Drops [] part = part ≡ []
Drops (l ∷ ls) part = ((rest : List Line) × (part ≡ l ∷ rest) × Drops ls rest) ⊎ ((s : Step) × (l ≡ lines.Step s) × Drops ls part)

drops_kept : (front part : List Line) (l : Line) → Drops front part → Drops (front ++ l ∷ []) (part ++ l ∷ [])
drops_kept [] part l d = inl ([], ap (λ z. z ++ l ∷ []) d, refl)
drops_kept (x ∷ xs) part l (inl (rest, e, d)) = inl (rest ++ l ∷ [], ap (λ z. z ++ l ∷ []) e, drops_kept xs rest l d)
drops_kept (x ∷ xs) part l (inr (s, e, d)) = inr (s, e, drops_kept xs part l d)

drops_step : (front part : List Line) (s : Step) → Drops front part → Drops (front ++ lines.Step s ∷ []) part
drops_step [] part s d = inr (s, refl, d)
drops_step (x ∷ xs) part s (inl (rest, e, d)) = inl (rest, e, drops_step xs rest s d)
drops_step (x ∷ xs) part s (inr (t, e, d)) = inr (t, e, drops_step xs part s d)

module _ (p : Network) (within : IsWithin p) where
  abbrev R : TreeRules
  R = rules_of p

  walk_drops : (front part : List Line) (A B M N : Place R) → PlacesWithin p A B → Drops front part → walk R A (map Ok part) ≡ Ok M → walk R B (map Ok front) ≡ Ok N → PlacesWithin p M N
  walk_drops [] part A B M N h d e i =
      let m : A ≡ M = let k : walk R A [] ≡ Ok M = subst (λ z. walk R A (map Ok z) ≡ Ok M) d e in cc in
      let n : B ≡ N = cc in
      subst (λ (z : Place R). PlacesWithin p M z) n (subst (λ (z : Place R). PlacesWithin p z B) m h)
  walk_drops (l ∷ ls) part A B M N h (inl (rest, same, d)) e i =
      let k : walk R A (map Ok (l ∷ rest)) ≡ Ok M = subst (λ z. walk R A (map Ok z) ≡ Ok M) same e in
      let a = bind_ok (read R A l) (λ q. walk R q (map Ok rest)) M k in
      let b = bind_ok (read R B l) (λ q. walk R q (map Ok ls)) N i in
      walk_drops ls rest a.0 b.0 M N (read_both p A B l a.0 b.0 h a.1 b.1) d a.2 b.2
  walk_drops (l ∷ ls) part A B M N h (inr (s, same, d)) e i =
      let b = bind_ok (read R B l) (λ q. walk R q (map Ok ls)) N i in
      walk_drops ls part A b.0 M N (read_inner p A B s b.0 h (subst (λ z. read R B z ≡ Ok b.0) same b.1)) d e b.2

  ended_alone : (B : Place R) → PlacesWithin p Ended B → B ≡ Ended
  ended_alone Ended h = refl
  ended_alone B h = absurd h

  walk_between : (ls : List Line) (A B C : Place R) → PlacesWithin p A B → PlacesWithin p B C → walk R A (map Ok ls) ≡ Ok Ended → walk R C (map Ok ls) ≡ Ok Ended → walk R B (map Ok ls) ≡ Ok Ended
  walk_between [] A B C h g e i =
      let m : A ≡ Ended = cc in
      ap Ok (ended_alone B (subst (λ (z : Place R). PlacesWithin p z B) m h))
  walk_between (l ∷ ls) A B C h g e i =
      let a = bind_ok (read R A l) (λ q. walk R q (map Ok ls)) Ended e in
      let c = bind_ok (read R C l) (λ q. walk R q (map Ok ls)) Ended i in
      let b = read_between p within A B C l a.0 c.0 h g a.1 c.1 in
      let rest = walk_between ls a.0 b.0 c.0 (read_both p A B l a.0 b.0 h a.1 b.1) (read_both p B C l b.0 c.0 g b.1 c.1) a.2 c.2 in
      ap (λ z. z >>= λ q. walk R q (map Ok ls)) b.1 ∙ rest

  itself : (A : Place R) (front : List Line) → walk R Start (map Ok front) ≡ Ok A → PlacesWithin p A A
  itself A front e = walk_drops front front Start Start A A tt (drops_none front) e e
    where
      drops_none : (ls : List Line) → Drops ls ls
      drops_none [] = refl
      drops_none (x ∷ xs) = inl (xs, refl, drops_none xs)

  -- Where the rest passes behind a front with some steps less, and behind the front and a step more, it passes behind the front.
  sandwich : (front part rest : List Line) (s : Step) → Drops front part → PassesWhole R (part ++ rest) → PassesWhole R (front ++ lines.Step s ∷ rest) → PassesWhole R (front ++ rest)
  sandwich front part rest s d loose tight =
      let x = passes_walks R refl (part ++ rest) loose in
      let y = passes_walks R refl (front ++ lines.Step s ∷ rest) tight in
      let a = walk_parts R refl Start part rest Ended x.walked in
      let b = walk_parts R refl Start front (lines.Step s ∷ rest) Ended y.walked in
      let c = bind_ok (read R b.0 (lines.Step s)) (λ q. walk R q (map Ok rest)) Ended b.2 in
      let more : PlacesWithin p b.0 c.0 = read_inner p b.0 b.0 s c.0 (itself b.0 front b.1) c.1 in
      let opens = open_parts front (lines.Step s ∷ rest) y.shut in
      walks_passes R refl (front ++ rest) (record {
        walked = walk_joined R refl Start front rest b.0 Ended b.1 (walk_between rest a.0 b.0 c.0 (walk_drops front part Start Start a.0 b.0 tt d a.1 b.1) more a.2 c.2);
        shut = open_joined front rest opens.0 opens.1.1;
      })

  nothing_there : (before after : List Line) (s : Step) → [] ≡ before ++ lines.Step s ∷ after → ⊥
  nothing_there [] after s e = cc
  nothing_there (b ∷ before) after s e = cc

  needed_here : (front part rest : List Line) (l : Line) (s : Step) (before after : List Line) → (PassesWhole R (front ++ l ∷ rest)) → ((t : Step) → l ≡ lines.Step t → PassesWhole R (front ++ rest) → ⊥) → Drops front part
      → ((b : List Line) → rest ≡ b ++ lines.Step s ∷ after → PassesWhole R ((part ++ l ∷ []) ++ (b ++ after)) → ⊥)
      → l ∷ rest ≡ before ++ lines.Step s ∷ after → PassesWhole R (part ++ (before ++ after)) → ⊥
  needed_here front part rest l s [] after h needed d below e passes =
      let is : l ≡ lines.Step s = cc in
      let same : rest ≡ after = cc in
      needed s is (sandwich front part rest s d (subst (λ z. PassesWhole R (part ++ z)) (sym same) passes) (subst (λ z. PassesWhole R (front ++ z ∷ rest)) is h))
  needed_here front part rest l s (b ∷ before) after h needed d below e passes =
      let same : l ≡ b = cc in
      let more : rest ≡ before ++ lines.Step s ∷ after = cc in
      below before more (subst (PassesWhole R) (sym (snoc part l (before ++ after))) (subst (λ z. PassesWhole R (part ++ z ∷ (before ++ after))) (sym same) passes))

  needs_each : (front ls kept part : List Line) → PassesWhole R (front ++ ls) → IsTrimmed R front ls kept → Drops front part
      → (before after : List Line) (s : Step) → kept ≡ before ++ lines.Step s ∷ after → PassesWhole R (part ++ (before ++ after)) → ⊥
  needs_each front [] kept part h t d before after s e passes = nothing_there before after s (sym t ∙ e)
  needs_each front (l ∷ ls) kept part h t d before after s e passes =
      let longer : PassesWhole R ((front ++ l ∷ []) ++ ls) = subst (PassesWhole R) (sym (snoc front l ls)) h in
      let here = before_line R refl front l ls t.0 h (λ k. trimmed_passes R refl (front ++ l ∷ []) ls t.0 k t.1) in
      elim (says R refl front l t.0 kept t.2) [
        | inl goes ↦ needs_each (front ++ l ∷ []) ls t.0 part longer t.1 (subst (λ (z : Line). Drops (front ++ z ∷ []) part) (sym goes.is) (drops_step front part goes.step d)) before after s (sym goes.kept_is ∙ e) passes
        | inr stays ↦
            needed_here front part t.0 l s before after here stays.needed d
            (λ b i k. needs_each (front ++ l ∷ []) ls t.0 (part ++ l ∷ []) longer t.1 (drops_kept front part l d) b after s i k)
            (sym stays.kept_is ∙ e) passes
      ]

-- ---- texts
heads : (x y : Line) (r s : List Read) → Ok x ∷ r ≡ Ok y ∷ s → (x ≡ y) × (r ≡ s)
heads x y r s e = (cc, cc)

same_items : (xs ys : List Line) → map {B = Read} Ok xs ≡ map Ok ys → xs ≡ ys
same_items [] [] e = refl
same_items [] (y ∷ ys) e = absurd cc
same_items (x ∷ xs) [] e = absurd cc
same_items (x ∷ xs) (y ∷ ys) e =
    let parts = heads x y (map Ok xs) (map Ok ys) e in
    let first = parts.0 in
    let rest = same_items xs ys parts.1 in
    cc

-- the lines of a text are these alone
pub one_list : (bytes : List ℕ) (ls ms : List Line) → AreLines bytes ls → AreLines bytes ms → ls ≡ ms
one_list bytes ls ms a b = same_items ls ms (sym ((lines_are_read bytes ls).0 a) ∙ (lines_are_read bytes ms).0 b)

lines_pass : (g : TreeRules) (text : List ℕ) (ls : List Line) → PassesWholeText g text → AreLines text ls → PassesWhole g ls
lines_pass g text ls whole a = subst (PassesWhole g) (one_list text whole.lines ls whole.text a) whole.passes

pub trimmed_texts_pass : TrimmedTextsPass
trimmed_texts_pass p text trimmed whole t = (
  record {
    lines = t.kept;
    text = t.are_kept;
    passes = trimmed_passes (rules_of p) refl [] t.lines t.kept (lines_pass (rules_of p) text t.lines whole t.are_lines) t.is_trimmed;
  },
  record {
    lines = t.lines;
    are_lines = t.are_lines;
    kept = t.kept;
    are_kept = t.are_kept;
    are_some = trimmed_some (rules_of p) refl [] t.lines t.kept t.is_trimmed;
  },
)

pub trimmed_texts_need_their_steps : TrimmedTextsNeedTheirSteps
trimmed_texts_need_their_steps p text trimmed w whole t before after s a passes =
    needs_each p w [] t.lines t.kept [] (lines_pass (rules_of p) text t.lines whole t.are_lines) t.is_trimmed refl before after s (one_list trimmed t.kept (before ++ lines.Step s ∷ after) t.are_kept a) passes
