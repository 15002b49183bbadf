-- Each child that a branch waits for has the box of its own head.
use Rattle.std.proofs.Common.{◌≡◌, ℕ, zero, suc, refl, sym, ap, subst, ◌∙◌, ℤ, Bool, true, false, not, ◌&&◌, List, [], ◌∷◌, Some, IsTrue}
use Rattle.std.specs.Prelude.{slice_get}
use Rattle.std.proofs.lemmas.Bool.{and_parts}
use Rattle.base_types.specs.declared.variables.Var.{Var}
use Rattle.gas_model.specs.Rows.{Network}
use Rattle.gas_model.specs.Boxes.{ends_of, is_var}
use Rattle.tree_cert.specs.declared.line.Head.{Head}
use Rattle.tree_cert.specs.declared.line.Head.TheVariants.{Take, State, Half}
use Rattle.tree_cert.specs.Tree.{Branch, ByGroup, ByArc, ByHalves}
use Rattle.tree_cert.proofs.Options.{holds_some}
use Rattle.tree_rules.specs.Rules.{PartBox}
use Rattle.tree_rules.specs.Branches.{Wait, Heads, Halves, headed, group_heads, arc_heads, after_branch, same_var, same_head, lies_inside, lower_half, upper_half, after_head, rules_of}
use Rattle.tree_rules.proofs.SameHeads.{heads_are_told_apart}
use Rattle.tree_rules.proofs.StepSound.{map_is}
use Rattle.tree_rules.proofs.TreeSound.{if_some}
use Rattle.tree_pool.specs.Rules.{AreExpected}
use Rattle.box_split.proofs.Others.{var_of}

-- what is waited for is of this box
abbrev IsOfBox : PartBox → Wait → Type 0
IsOfBox c (Heads b hs) = b ≡ c
IsOfBox c (Halves b v) = b ≡ c

-- the child has the box of its head, and what is waited for next is of the same box
abbrev IsNext : PartBox → Head → PartBox × Wait → Type 0
IsNext c h next = (next.0 ≡ headed c h) × IsOfBox c next.1

lower_is : (v w : Var) (low : Bool) (C : ℤ) → IsTrue (same_var w v) → IsTrue (not low) → lower_half v C ≡ Half w low C
lower_is v w true C same not_low = absurd cc
lower_is v w false C same not_low = let e = var_of w v same in cc

head_gives : (c : PartBox) (w : Wait) (h : Head) (next : PartBox × Wait) → after_head w h ≡ Some next → IsOfBox c w → IsNext c h next
head_gives c (Heads b []) h next e is = absurd cc
head_gives c (Heads b (f ∷ fs)) h next e is =
    let t = if_some (same_head h f) (headed b f, Heads b fs) next e in
    let same : h ≡ f = (heads_are_told_apart h f).0 t.0 in
    subst (IsNext c h) t.1 (ap (λ (x : PartBox). headed x f) is ∙ ap (headed c) (sym same), is)
head_gives c (Halves b v) (Half w low C) next e is =
    let made : PartBox × Wait = (headed b (lower_half v C), Heads b (upper_half v C ∷ [])) in
    let t = if_some (same_var w v && not low && lies_inside (ends_of b.bounds v) C) made next e in
    let u = and_parts (same_var w v) (not low) (and_parts (same_var w v && not low) (lies_inside (ends_of b.bounds v) C) t.0).0 in
    subst (IsNext c (Half w low C)) t.1 (ap (λ (x : PartBox). headed x (lower_half v C)) is ∙ ap (headed c) (lower_is v w low C u.0 u.1), is)
head_gives c (Halves b v) (Take k j) next e is = absurd cc
head_gives c (Halves b v) (State a t) next e is = absurd cc

kids_are : (p : Network) (c : PartBox) (w : Wait) (kids : List (Head × PartBox)) → IsOfBox c w → AreExpected (rules_of p) w kids → (k : ℕ) (kid : Head × PartBox) → slice_get kids k ≡ Some kid → kid.1 ≡ headed c kid.0
kids_are p c w [] is expected k kid at = absurd cc
kids_are p c w (x ∷ xs) is expected zero kid at =
    let z = holds_some (after_head w x.0) (λ next. (next.0 ≡ x.1) × AreExpected (rules_of p) next.1 xs) expected.1 in
    let next = head_gives c w x.0 z.0 z.1 is in
    let same : x ≡ kid = cc in
    subst (λ (y : Head × PartBox). y.1 ≡ headed c y.0) same (sym z.2.0 ∙ next.0)
kids_are p c w (x ∷ xs) is expected (suc k) kid at =
    let z = holds_some (after_head w x.0) (λ next. (next.0 ≡ x.1) × AreExpected (rules_of p) next.1 xs) expected.1 in
    let next = head_gives c w x.0 z.0 z.1 is in
    kids_are p c z.0.1 xs next.1 z.2.1 k kid at

branch_of_box : (p : Network) (c : PartBox) (f : Branch) (w : Wait) → after_branch p c f ≡ Some w → IsOfBox c w
branch_of_box p c (ByGroup k) w e = let found = map_is (Heads c) (group_heads p c.part k) w e in subst (IsOfBox c) found.2 refl
branch_of_box p c (ByArc a) w e = let found = map_is (Heads c) (arc_heads p c.part a) w e in subst (IsOfBox c) found.2 refl
branch_of_box p c (ByHalves v) w e = let t = if_some (is_var p v) (Halves c v) w e in subst (IsOfBox c) t.1 refl

pub kids_headed : (p : Network) (c : PartBox) (f : Branch) (w : Wait) (kids : List (Head × PartBox)) → after_branch p c f ≡ Some w → AreExpected (rules_of p) w kids
    → (k : ℕ) (kid : Head × PartBox) → slice_get kids k ≡ Some kid → kid.1 ≡ headed c kid.0
kids_headed p c f w kids is expected k kid at = kids_are p c w kids (branch_of_box p c f w is) expected k kid at
