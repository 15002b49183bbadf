-- Choices by a test.
use Rattle.std.proofs.Common.{◌≡◌, inl, inr, refl, sym, ◌∙◌, subst, arith, Bool, true, false, IsTrue, ℤ, ◌≤ℤ◌, ◌<ℤ◌}
use Rattle.std.specs.Prelude.{if◌then◌else◌, int_lt}
use Rattle.integer_laws.proofs.Ring.{linear, le_or_lt}
use Rattle.gas_model.specs.declared.rows.Ends.{Ends}
use Rattle.base_types.specs.Numbers.{is_square}
use Rattle.probe_point.specs.Probes.{nearest}

pub pick_yes : (b : Bool) (x y : ℤ) → b ≡ true → (if b then x else y) ≡ x
pick_yes b x y e = rw e refl

pub pick_no : (b : Bool) (x y : ℤ) → b ≡ false → (if b then x else y) ≡ y
pick_no b x y e = rw e refl

-- the nearest value between squares is one
pub nearest_square : (e : Ends) (x : ℤ) → IsTrue (is_square e.lo) → IsTrue (is_square e.hi) → e.lo ≤ℤ e.hi → IsTrue (is_square (nearest e x))
nearest_square e x l h o = elim (le_or_lt e.lo x) [
  | inl a ↦ elim (le_or_lt x e.hi) [
    | inl b ↦ subst (λ (z : ℤ). IsTrue (is_square z)) (sym (pick_no (int_lt x e.lo) _ _ (not_lt e.lo x a) ∙ pick_no (int_lt e.hi x) _ _ (not_lt x e.hi b))) (amid e.lo e.hi x l h a b)
    | inr b ↦ subst (λ (z : ℤ). IsTrue (is_square z)) (sym (pick_no (int_lt x e.lo) _ _ (not_lt e.lo x a) ∙ pick_yes (int_lt e.hi x) _ _ (is_lt e.hi x b))) h
  ]
  | inr a ↦ subst (λ (z : ℤ). IsTrue (is_square z)) (sym (pick_yes (int_lt x e.lo) _ _ (is_lt x e.lo a))) l
]
  where
    not_lt : (a b : ℤ) → a ≤ℤ b → int_lt b a ≡ false
    not_lt a b h = grind (arith, linear)

    is_lt : (a b : ℤ) → a <ℤ b → int_lt a b ≡ true
    is_lt a b h = grind (arith, linear)

    amid : (lo hi x : ℤ) → IsTrue (is_square lo) → IsTrue (is_square hi) → lo ≤ℤ x → x ≤ℤ hi → IsTrue (is_square x)
    amid lo hi x l h a b = grind (arith, linear)
