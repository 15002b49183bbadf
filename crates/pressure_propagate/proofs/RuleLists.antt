-- The rules of a law stand in order, and it has no other rule that moves a square or closes a box.
use Rattle.std.proofs.Common.{◌≡◌, ◌⊎◌, inl, inr, ℕ, zero, suc, ◌+◌, ◌<◌, refl, sym, ap, ◌∙◌, subst, arith, ℤ, Bool, true, false, ◌&&◌, List, [], ◌∷◌, length, get_or}
use Rattle.std.specs.Prelude.{nat_lt}
use Rattle.std.specs.List.{list_all}
use Rattle.std.proofs.lemmas.Bool.{and_parts}
use Rattle.std.proofs.lemmas.Bool.Decides.{eqb_tells, nat_tests}
use Rattle.gas_model.specs.declared.law_forms.LawForm.{LawForm}
use Rattle.gas_model.specs.declared.law_forms.LawForm.TheVariants.{Drags, Equals, Shuts, Loses, Reduces, Raises, Never}
use Rattle.tree_cert.specs.declared.line.Rule.{Rule}
use Rattle.tree_cert.specs.declared.line.Rule.TheVariants.{Balance, Pipe, Equal, Zero, Way, Inner, Fall, Order, Rise, Ratio, Sign, Reach, Along, Drop}
use Rattle.tree_rules.specs.declared.arc_vars.ArcEnds.{ArcEnds}
use Rattle.tree_rules.specs.ArcRules.{zero_step, way_step, sign_step, arc_step, arc_closing}
use Rattle.tight_steps.specs.Moves.{rule_number}
use Rattle.pressure_propagate.specs.SquareRules.{square_rules, closing_rules, square_at}

-- ---- lists of rules
pub record StandsIn (rules : List Rule) (rule : Rule) : Type 0 where
  pub at : ℕ
  pub within : at < length rules
  pub is : get_or rules at Balance ≡ rule

-- each rule comes before those that follow it
abbrev pub ascend : List Rule → Bool
ascend [] = true
ascend (rule ∷ rules) = list_all (λ other. nat_lt (rule_number rule) (rule_number other)) rules && ascend rules

at_from : (test : Rule → Bool) (rules : List Rule) (k : ℕ) → list_all test rules ≡ true → k < length rules → test (get_or rules k Balance) ≡ true
at_from test [] k t l = absurd (omega arith)
at_from test (rule ∷ rules) zero t l = (and_parts (test rule) (list_all test rules) t).0
at_from test (rule ∷ rules) (suc k) t l = at_from test rules k (and_parts (test rule) (list_all test rules) t).1 (omega arith)

below : (a b : ℕ) → nat_lt a b ≡ true → a < b
below a b h = grind (arith, nat_tests)

-- a rule that comes earlier stands earlier
pub earlier : (rules : List Rule) (j k : ℕ) → ascend rules ≡ true → j < length rules → k < length rules → rule_number (get_or rules j Balance) < rule_number (get_or rules k Balance) → j < k
earlier [] j k a l m n = absurd (omega arith)
earlier (rule ∷ rules) zero zero a l m n = absurd (omega (arith, n))
earlier (rule ∷ rules) zero (suc k) a l m n = omega arith
earlier (rule ∷ rules) (suc j) zero a l m n =
    let h = at_from (λ other. nat_lt (rule_number rule) (rule_number other)) rules j (and_parts (list_all (λ other. nat_lt (rule_number rule) (rule_number other)) rules) (ascend rules) a).0 (omega arith) in
    let back : rule_number rule < rule_number (get_or rules j Balance) = below (rule_number rule) (rule_number (get_or rules j Balance)) h in
    absurd (omega (arith, back, n))
earlier (rule ∷ rules) (suc j) (suc k) a l m n =
    let h = earlier rules j k (and_parts (list_all (λ other. nat_lt (rule_number rule) (rule_number other)) rules) (ascend rules) a).1 (omega arith) (omega arith) n in
    omega (arith, h)

-- ---- the first k rules of a list
pub record AreDone (P : Rule → Type 0) (rules : List Rule) (k : ℕ) : Type 0 where
  pub done : (j : ℕ) → j < k → P (get_or rules j Balance)

pub none_yet : (P : Rule → Type 0) (rules : List Rule) → AreDone P rules 0
none_yet P rules = record { done = λ j l. absurd (omega arith) }

pub one_more : (P : Rule → Type 0) (rules : List Rule) (k : ℕ) → AreDone P rules k → P (get_or rules k Balance) → AreDone P rules (k + 1)
one_more P rules k h p = record {
  done = λ j l.
      elim (eqb_tells j k) [
        | inl same ↦ subst (λ (i : ℕ). P (get_or rules i Balance)) (sym same.1) p
        | inr apart ↦ h.done j (omega (arith, apart.1))
      ];
}

pub all_done : (P : Rule → Type 0) (rules : List Rule) (k : ℕ) → length rules ≡ k → AreDone P rules k → (rule : Rule) → StandsIn rules rule → P rule
all_done P rules k e h rule s = subst P s.is (h.done s.at (omega (arith, s.within, e)))

pub done_before : (P : Rule → Type 0) (rules : List Rule) (k : ℕ) (found : Rule) → ascend rules ≡ true → k < length rules → get_or rules k Balance ≡ found → AreDone P rules k
    → (rule : Rule) → StandsIn rules rule → rule_number rule < rule_number found → P rule
done_before P rules k found a l e h rule s n =
    let there : rule_number (get_or rules s.at Balance) < rule_number (get_or rules k Balance) = omega (arith, n, ap rule_number s.is, ap rule_number e) in
    subst P s.is (h.done s.at (earlier rules s.at k a s.within l there))

-- ---- the rules that move squares
pub squares_ascend : (form : LawForm) → ascend (square_rules form) ≡ true
squares_ascend (Drags law) = refl
squares_ascend Equals = refl
squares_ascend Shuts = refl
squares_ascend (Loses l h) = refl
squares_ascend (Reduces a b l h) = refl
squares_ascend (Raises a b n d r) = refl
squares_ascend Never = refl

abbrev pub MovesNoSquare : Rule → LawForm → Type 0
MovesNoSquare rule form = (K : ℤ) (e : ArcEnds) (from low : Bool) (C : ℤ) → arc_step rule form K e (square_at from) low C ≡ false

pub zero_none : (from low : Bool) (C : ℤ) → zero_step (square_at from) low C ≡ false
zero_none true low C = refl
zero_none false low C = refl

pub way_none : (from low : Bool) (C : ℤ) → way_step (square_at from) low C ≡ false
way_none true low C = refl
way_none false low C = refl

pub sign_none : (l K : ℤ) (e : ArcEnds) (from low : Bool) (C : ℤ) → sign_step l K e (square_at from) low C ≡ false
sign_none l K e true low C = refl
sign_none l K e false low C = refl

pub moves_or_not : (rule : Rule) (form : LawForm) → StandsIn (square_rules form) rule ⊎ MovesNoSquare rule form
moves_or_not Pipe (Drags law) = inl (record { at = 0; within = omega arith; is = refl })
moves_or_not Equal Equals = inl (record { at = 0; within = omega arith; is = refl })
moves_or_not Reach (Loses l h) = inl (record { at = 0; within = omega arith; is = refl })
moves_or_not Along (Loses l h) = inl (record { at = 1; within = omega arith; is = refl })
moves_or_not Drop (Loses l h) = inl (record { at = 2; within = omega arith; is = refl })
moves_or_not Inner (Reduces a b l h) = inl (record { at = 0; within = omega arith; is = refl })
moves_or_not Fall (Reduces a b l h) = inl (record { at = 1; within = omega arith; is = refl })
moves_or_not Inner (Raises a b n d r) = inl (record { at = 0; within = omega arith; is = refl })
moves_or_not Order (Raises a b n d r) = inl (record { at = 1; within = omega arith; is = refl })
moves_or_not Rise (Raises a b n d r) = inl (record { at = 2; within = omega arith; is = refl })
moves_or_not Ratio (Raises a b n d r) = inl (record { at = 3; within = omega arith; is = refl })
moves_or_not Zero Shuts = inr (λ K e from low C. zero_none from low C)
moves_or_not Way (Reduces a b l h) = inr (λ K e from low C. way_none from low C)
moves_or_not Way (Raises a b n d r) = inr (λ K e from low C. way_none from low C)
moves_or_not Sign (Loses l h) = inr (λ K e from low C. sign_none l K e from low C)
moves_or_not rule form = inr (λ K e from low C. refl)

-- ---- the rules that close boxes
pub closings_ascend : (form : LawForm) → ascend (closing_rules form) ≡ true
closings_ascend (Drags law) = refl
closings_ascend Equals = refl
closings_ascend Shuts = refl
closings_ascend (Loses l h) = refl
closings_ascend (Reduces a b l h) = refl
closings_ascend (Raises a b n d r) = refl
closings_ascend Never = refl

abbrev pub ClosesNone : Rule → LawForm → Type 0
ClosesNone rule form = (K : ℤ) (e : ArcEnds) → arc_closing rule form K e ≡ false

pub closes_or_not : (rule : Rule) (form : LawForm) → StandsIn (closing_rules form) rule ⊎ ClosesNone rule form
closes_or_not Pipe (Drags law) = inl (record { at = 0; within = omega arith; is = refl })
closes_or_not Reach (Loses l h) = inl (record { at = 0; within = omega arith; is = refl })
closes_or_not Drop (Loses l h) = inl (record { at = 1; within = omega arith; is = refl })
closes_or_not Fall (Reduces a b l h) = inl (record { at = 0; within = omega arith; is = refl })
closes_or_not Rise (Raises a b n d r) = inl (record { at = 0; within = omega arith; is = refl })
closes_or_not Ratio (Raises a b n d r) = inl (record { at = 1; within = omega arith; is = refl })
closes_or_not rule form = inr (λ K e. refl)
