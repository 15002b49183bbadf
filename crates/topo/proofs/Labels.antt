-- Labels of joined nodes: arc by arc, the nodes of two labels get the lesser one.
use Rattle.std.proofs.Common.{◌≡◌, ◌≢◌, ℕ, zero, suc, ◌<◌, ◌≤◌, ◌==◌, ◌⊎◌, inl, inr, refl, sym, ap, ◌∙◌, arith, Bool, true, false, cond, min, max, IsTrue, subst}
use Rattle.std.proofs.lemmas.Bool.{cases_eq}
use Rattle.std.proofs.lemmas.Bool.Decides.{nat_tests}
use Rattle.topo.specs.Graphs.{Graph, Links, Joined, stay, along, before, IsRoot}
use Rattle.topo.specs.Forests.{merged}

-- the labels after the first k arcs
abbrev pub labels : Graph → (ℕ → Bool) → ℕ → ℕ → ℕ
labels g keep zero x = x
labels g keep (suc k) x = cond (keep k) (merged (labels g keep k) (g.from k) (g.to k) x) (labels g keep k x)

pub then_along : (g : Graph) (keep : ℕ → Bool) (m n o : ℕ) → Joined g keep m n → Joined g keep n o → Joined g keep m o
then_along g keep m n o j stay = j
then_along g keep m n o j (along k a h t l) = along (then_along g keep m n _ j k) a h t l

turn : (g : Graph) (a m n : ℕ) → Links g a m n → Links g a n m
turn g a m n (inl e) = inr e
turn g a m n (inr e) = inl e

pub back : (g : Graph) (keep : ℕ → Bool) (m n : ℕ) → Joined g keep m n → Joined g keep n m
back g keep m n stay = stay
back g keep m n (along {n = p} j a h t l) = then_along g keep n p m (along stay a h t (turn g a p n l)) (back g keep m p j)

pub wider : (g : Graph) (keep more : ℕ → Bool) (m n : ℕ) → ((a : ℕ) → IsTrue (keep a) → IsTrue (more a)) → Joined g keep m n → Joined g more m n
wider g keep more m n f stay = stay
wider g keep more m n f (along j a h t l) = along (wider g keep more m _ f j) a h (f a t) l

-- what is the same at both ends of each kept arc is the same along walks
pub same_along : (g : Graph) (keep : ℕ → Bool) (f : ℕ → ℕ) → ((a : ℕ) → a < g.arcs → IsTrue (keep a) → f (g.from a) ≡ f (g.to a)) → (m n : ℕ) → Joined g keep m n → f m ≡ f n
same_along g keep f s m n stay = refl
same_along g keep f s m n (along {n = p} j a h t (inl e)) = same_along g keep f s m p j ∙ ap f (sym e.0) ∙ s a h t ∙ ap f e.1
same_along g keep f s m n (along {n = p} j a h t (inr e)) = same_along g keep f s m p j ∙ ap f (sym e.1) ∙ sym (s a h t) ∙ ap f e.0

-- ---- labels
merged_le : (label : ℕ → ℕ) (m n x : ℕ) → merged label m n x ≤ label x
merged_le label m n x = grind (arith, nat_tests)

merged_same : (label : ℕ → ℕ) (m n x y : ℕ) → label x ≡ label y → merged label m n x ≡ merged label m n y
merged_same label m n x y e = ap (λ (k : ℕ). cond (k == max (label m) (label n)) (min (label m) (label n)) k) e

merged_ends : (label : ℕ → ℕ) (m n : ℕ) → merged label m n m ≡ merged label m n n
merged_ends label m n = grind (arith, nat_tests)

-- equal labels were equal, or are those of m and n
join_from : (p q a b : ℕ) → cond (a == max p q) (min p q) a ≡ cond (b == max p q) (min p q) b → (a ≡ b) ⊎ (((a ≡ p) × (q ≡ b)) ⊎ ((a ≡ q) × (p ≡ b)))
join_from p q a b e = grind (arith, nat_tests)

merged_fixed : (label : ℕ → ℕ) (m n x : ℕ) → ((y : ℕ) → label (label y) ≡ label y) → merged label m n (merged label m n x) ≡ merged label m n x
merged_fixed label m n x fixed = grind (arith, nat_tests, fixed x, fixed m, fixed n)

and_more : (k a : ℕ) (keep : ℕ → Bool) → IsTrue (before k keep a) → IsTrue (before (suc k) keep a)
and_more k a keep t = grind (arith, nat_tests)

at_last : (k : ℕ) (keep : ℕ → Bool) → keep k ≡ true → IsTrue (before (suc k) keep k)
at_last k keep e = grind (arith, nat_tests)

kept_of : (k a : ℕ) (keep : ℕ → Bool) → IsTrue (before k keep a) → keep a ≡ true
kept_of k a keep t = grind (arith, nat_tests)

less_last : (k a : ℕ) (keep : ℕ → Bool) → IsTrue (before (suc k) keep a) → a ≢ k → IsTrue (before k keep a)
less_last k a keep t e = grind (arith, nat_tests)

pub labels_le : (g : Graph) (keep : ℕ → Bool) (k x : ℕ) → labels g keep k x ≤ x
labels_le g keep zero x = omega arith
labels_le g keep (suc k) x = let h = labels_le g keep k x in let h2 = merged_le (labels g keep k) (g.from k) (g.to k) x in elim (keep k) as (λ b. cond b (merged (labels g keep k) (g.from k) (g.to k) x) (labels g keep k x) ≤ x) [ true ↦ omega (arith, h, h2) | false ↦ h ]

pub labels_fixed : (g : Graph) (keep : ℕ → Bool) (k x : ℕ) → labels g keep k (labels g keep k x) ≡ labels g keep k x
labels_fixed g keep zero x = refl
labels_fixed g keep (suc k) x =
    let l : ℕ → ℕ = labels g keep k in
    let m : ℕ → ℕ = merged l (g.from k) (g.to k) in
    elim (keep k) as (λ b. cond b (m (cond b (m x) (l x))) (l (cond b (m x) (l x))) ≡ cond b (m x) (l x)) [
      | true ↦ merged_fixed l (g.from k) (g.to k) x (labels_fixed g keep k)
      | false ↦ labels_fixed g keep k x
    ]

-- each kept arc has one label at both ends
pub labels_ends : (g : Graph) (keep : ℕ → Bool) (k a : ℕ) → IsTrue (before k keep a) → labels g keep k (g.from a) ≡ labels g keep k (g.to a)
labels_ends g keep zero a t = absurd (grind (arith, nat_tests))
labels_ends g keep (suc k) a t =
    let l : ℕ → ℕ = labels g keep k in
    let m : ℕ → ℕ = merged l (g.from k) (g.to k) in
    let here : keep k ≡ true → cond (keep k) (m (g.from k)) (l (g.from k)) ≡ cond (keep k) (m (g.to k)) (l (g.to k)) = λ e. rw e (merged_ends l (g.from k) (g.to k)) in
    let below : l (g.from a) ≡ l (g.to a) → cond (keep k) (m (g.from a)) (l (g.from a)) ≡ cond (keep k) (m (g.to a)) (l (g.to a)) = λ e. elim (keep k) as (λ b. cond b (m (g.from a)) (l (g.from a)) ≡ cond b (m (g.to a)) (l (g.to a))) [ true ↦ merged_same l (g.from k) (g.to k) (g.from a) (g.to a) e | false ↦ e ] in
    elim (cases_eq a k) [
      | inl e ↦ rw e (here (rw e at (kept_of (suc k) a keep t)))
      | inr e ↦ below (labels_ends g keep k a (less_last k a keep t e))
    ]

pub labels_join : (g : Graph) (keep : ℕ → Bool) (k x y : ℕ) → k ≤ g.arcs → labels g keep k x ≡ labels g keep k y → Joined g (before k keep) x y
labels_join g keep zero x y h e = subst (λ (z : ℕ). Joined g (before 0 keep) x z) e stay
labels_join g keep (suc k) x y h e =
    let l : ℕ → ℕ = labels g keep k in
    let m : ℕ → ℕ = merged l (g.from k) (g.to k) in
    let up : (p q : ℕ) → l p ≡ l q → Joined g (before (suc k) keep) p q = λ p q e1. wider g (before k keep) (before (suc k) keep) p q (λ a. and_more k a keep) (labels_join g keep k p q (omega arith) e1) in
    let cases : (b : Bool) → keep k ≡ b → cond b (m x) (l x) ≡ cond b (m y) (l y) → Joined g (before (suc k) keep) x y = λ b. elim b as (λ b. keep k ≡ b → cond b (m x) (l x) ≡ cond b (m y) (l y) → Joined g (before (suc k) keep) x y) [
      | true ↦ λ t e1. elim (join_from (l (g.from k)) (l (g.to k)) (l x) (l y) e1) [
        | inl e2 ↦ up x y e2
        | inr c ↦ elim c [
          | inl e2 ↦ then_along g _ x (g.to k) y (along (up x (g.from k) e2.0) k h (at_last k keep t) (inl (refl, refl))) (up (g.to k) y e2.1)
          | inr e2 ↦ then_along g _ x (g.from k) y (along (up x (g.to k) e2.0) k h (at_last k keep t) (inr (refl, refl))) (up (g.from k) y e2.1)
        ]
      ]
      | false ↦ λ t e1. up x y e1
    ] in
    cases (keep k) refl e

-- equal labels are walks
pub join_labels : (g : Graph) (keep : ℕ → Bool) (k x y : ℕ) → Joined g (before k keep) x y → labels g keep k x ≡ labels g keep k y
join_labels g keep k x y j = same_along g (before k keep) (labels g keep k) (λ a h t. labels_ends g keep k a t) x y j

all_before : (g : Graph) (keep : ℕ → Bool) (x y : ℕ) → Joined g (before g.arcs keep) x y → Joined g keep x y
all_before g keep x y j = wider g (before g.arcs keep) keep x y (λ a t. grind (arith, nat_tests)) j

pub from_all : (g : Graph) (keep : ℕ → Bool) (x y : ℕ) → Joined g keep x y → Joined g (before g.arcs keep) x y
from_all g keep x y stay = stay
from_all g keep x y (along j a h t l) = along (from_all g keep x _ j) a h (grind (arith, nat_tests)) l

pub root_is : (g : Graph) (keep : ℕ → Bool) (n : ℕ) → IsRoot g keep n (labels g keep g.arcs n)
root_is g keep n = record {
  joined = all_before g keep n _ (labels_join g keep g.arcs n _ (omega arith) (sym (labels_fixed g keep g.arcs n)));
  first = λ m j. let e = join_labels g keep g.arcs n m (from_all g keep n m j) in let h = labels_le g keep g.arcs m in omega arith;
}
