-- The test of heads passes the same head and no other.
use Rattle.std.proofs.Common.{◌≡◌, ℕ, refl, ap, sym, ◌∙◌, arith, Bool, true, false, ◌&&◌, ◌==◌, IsTrue, eq-eqb}
use Rattle.std.specs.Ordering.{int_eq}
use Rattle.std.proofs.lemmas.Bool.Decides.{nat_tests, Decides-int_eq}
use Rattle.std.proofs.lemmas.Bool.{and_parts, and_from}
use Rattle.base_types.specs.declared.states.ArcState.{ArcState}
use Rattle.base_types.specs.declared.states.ArcState.TheVariants.{Opened, Shut, Active, Bypass}
use Rattle.base_types.specs.declared.variables.Var.{Var}
use Rattle.base_types.specs.declared.variables.Var.TheVariants.{Flow, Square}
use Rattle.tree_cert.specs.declared.line.Head.{Head}
use Rattle.tree_cert.specs.declared.line.Head.TheVariants.{Take, State, Half}
use Rattle.tree_rules.specs.Branches.{same_var, same_state, same_end, same_head}
use Rattle.tree_rules.specs.Theorems.{HeadsAreToldApart}
use Rattle.tree_rules.proofs.UnitSound.{eq_says}
use Rattle.tree_rules.proofs.SameVars.{var_is, var_self}

same_place : (i a : ℕ) → IsTrue (i == a) → i ≡ a
same_place i a t = grind (arith, nat_tests)

state_says : (s t : ArcState) → IsTrue (same_state s t) → s ≡ t
state_says Opened Opened h = refl
state_says Shut Shut h = refl
state_says Active Active h = refl
state_says Bypass Bypass h = refl
state_says s t h = absurd cc

state_self : (s : ArcState) → IsTrue (same_state s s)
state_self Opened = refl
state_self Shut = refl
state_self Active = refl
state_self Bypass = refl

end_says : (low end : Bool) → IsTrue (same_end low end) → low ≡ end
end_says true true h = refl
end_says false false h = refl
end_says true false h = absurd cc
end_says false true h = absurd cc

end_self : (low : Bool) → IsTrue (same_end low low)
end_self true = refl
end_self false = refl

head_says : (h e : Head) → IsTrue (same_head h e) → h ≡ e
head_says (Take k j) (Take g i) t =
    let b = and_parts (k == g) (j == i) t in
    let p = same_place k g b.0 in
    let q = same_place j i b.1 in
    cc
head_says (State a s) (State i r) t =
    let b = and_parts (a == i) (same_state s r) t in
    let p = same_place a i b.0 in
    let q = state_says s r b.1 in
    cc
head_says (Half v low C) (Half w end B) t =
    let b = and_parts (same_var v w && same_end low end) (int_eq C B) t in
    let c = and_parts (same_var v w) (same_end low end) b.0 in
    let p = var_is v w c.0 in
    let q = end_says low end c.1 in
    let r = eq_says C B b.1 in
    cc
head_says h e t = absurd cc

head_self : (h : Head) → IsTrue (same_head h h)
head_self (Take k j) = and_from (k == k) (j == j) (eq-eqb k k refl) (eq-eqb j j refl)
head_self (State a s) = and_from (a == a) (same_state s s) (eq-eqb a a refl) (state_self s)
head_self (Half v low C) = and_from (same_var v v && same_end low low) (int_eq C C) (and_from (same_var v v) (same_end low low) (var_self v) (end_self low)) ((Decides-int_eq C C).1 refl)

pub heads_are_told_apart : HeadsAreToldApart
heads_are_told_apart h e = (head_says h e, λ same. ap (same_head h) (sym same) ∙ head_self h)
