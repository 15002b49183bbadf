-- Tree arcs join what all arcs join, and without one of them its ends are apart.
use Rattle.std.proofs.Common.{◌≡◌, ℕ, zero, suc, ◌<◌, ◌==◌, ◌&&◌, ◌⊎◌, inl, inr, refl, sym, arith, Bool, true, false, not, IsTrue, subst}
use Rattle.std.proofs.lemmas.Bool.{cases_eq}
use Rattle.std.proofs.lemmas.Bool.Decides.{nat_tests}
use Rattle.topo.specs.Graphs.{Graph, Links, Joined, stay, along, before}
use Rattle.topo.specs.Roles.{Spans}
use Rattle.topo.proofs.Labels.{then_along, back, wider, from_all}

abbrev pub without : ℕ → (ℕ → Bool) → ℕ → Bool
without a keep i = not (i == a) && keep i

-- a walk over arcs whose ends are joined is a walk
pub through : (g : Graph) (keep more : ℕ → Bool) (m n : ℕ) → ((a : ℕ) → a < g.arcs → IsTrue (keep a) → Joined g more (g.from a) (g.to a)) → Joined g keep m n → Joined g more m n
through g keep more m n f stay = stay
through g keep more m n f (along {n = p} j a h t (inl e)) = then_along g more m p n (through g keep more m p f j) (subst (λ (x : ℕ). Joined g more x n) e.0 (subst (Joined g more (g.from a)) e.1 (f a h t)))
through g keep more m n f (along {n = p} j a h t (inr e)) = then_along g more m p n (through g keep more m p f j) (subst (λ (x : ℕ). Joined g more x n) e.1 (subst (Joined g more (g.to a)) e.0 (back g more _ _ (f a h t))))

ends_by_tree : (g : Graph) (keep tree : ℕ → Bool) → Spans g keep tree → (k a : ℕ) → a < k → a < g.arcs → IsTrue (keep a) → Joined g tree (g.from a) (g.to a)
ends_by_tree g keep tree s zero a h ha t = absurd (omega arith)
ends_by_tree g keep tree s (suc k) a h ha t =
    let cases : (b : Bool) → tree a ≡ b → Joined g tree (g.from a) (g.to a) = λ b. elim b as (λ b. tree a ≡ b → Joined g tree (g.from a) (g.to a)) [
      | true ↦ λ e. along stay a ha (grind (arith, nat_tests)) (inl (refl, refl))
      | false ↦ λ e. through g (before a keep) tree (g.from a) (g.to a) (λ i hi ti. ends_by_tree g keep tree s k i (grind (arith, nat_tests)) hi (grind (arith, nat_tests))) (s.chord a ha t e)
    ] in cases (tree a) refl

-- tree arcs join what the kept arcs join
pub by_tree : (g : Graph) (keep tree : ℕ → Bool) (m n : ℕ) → Spans g keep tree → Joined g keep m n → Joined g tree m n
by_tree g keep tree m n s j = through g keep tree m n (λ a h t. ends_by_tree g keep tree s g.arcs a h h t) j

-- what one more arc joins
pub record Across (g : Graph) (keep more : ℕ → Bool) (c x y : ℕ) : Type 0 where
  pub known : c < g.arcs
  pub kept : IsTrue (more c)
  pub sides : (Joined g keep x (g.from c) × Joined g keep (g.to c) y) ⊎ (Joined g keep x (g.to c) × Joined g keep (g.from c) y)

on : (g : Graph) (keep more : ℕ → Bool) (c x y z a : ℕ) → a < g.arcs → IsTrue (keep a) → Links g a y z → Joined g keep x y ⊎ Across g keep more c x y → Joined g keep x z ⊎ Across g keep more c x z
on g keep more c x y z a h t l (inl j) = inl (along j a h t l)
on g keep more c x y z a h t l (inr s) = inr (record {
  known = s.known;
  kept = s.kept;
  sides = elim s.sides [ inl p ↦ inl (p.0, along p.1 a h t l) | inr p ↦ inr (p.0, along p.1 a h t l) ];
})

over : (g : Graph) (keep more : ℕ → Bool) (c x y z : ℕ) → c < g.arcs → IsTrue (more c) → Links g c y z → Joined g keep x y ⊎ Across g keep more c x y → Joined g keep x z ⊎ Across g keep more c x z
over g keep more c x y z h t (inl e) (inl j) = inr (record { known = h; kept = t; sides = inl (subst (Joined g keep x) (sym e.0) j, subst (Joined g keep (g.to c)) e.1 stay) })
over g keep more c x y z h t (inr e) (inl j) = inr (record { known = h; kept = t; sides = inr (subst (Joined g keep x) (sym e.1) j, subst (Joined g keep (g.from c)) e.0 stay) })
over g keep more c x y z h t (inl e) (inr s) = elim s.sides [
  | inl p ↦ inr (record { known = h; kept = t; sides = inl (p.0, subst (Joined g keep (g.to c)) e.1 stay) })
  | inr p ↦ inl (subst (Joined g keep x) e.1 p.0)
]
over g keep more c x y z h t (inr e) (inr s) = elim s.sides [
  | inl p ↦ inl (subst (Joined g keep x) e.0 p.0)
  | inr p ↦ inr (record { known = h; kept = t; sides = inr (p.0, subst (Joined g keep (g.from c)) e.0 stay) })
]

pub split : (g : Graph) (keep more : ℕ → Bool) (c m n : ℕ) → ((a : ℕ) → IsTrue (more a) → (a ≡ c) ⊎ IsTrue (keep a)) → Joined g more m n → Joined g keep m n ⊎ Across g keep more c m n
split g keep more c m n f stay = inl stay
split g keep more c m n f (along {n = p} j a h t l) =
    let i = split g keep more c m p f j in
    elim (f a t) [
      | inl e ↦ over g keep more c m p n (subst (λ (k : ℕ). k < g.arcs) e h) (subst (λ (k : ℕ). IsTrue (more k)) e t) (subst (λ (k : ℕ). Links g k p n) e l) i
      | inr u ↦ on g keep more c m p n a h u l i
    ]

no_cycle_below : (g : Graph) (keep tree : ℕ → Bool) → Spans g keep tree → (k a : ℕ) → a < k → a < g.arcs → IsTrue (tree a) → Joined g (before k (without a tree)) (g.from a) (g.to a) → ⊥
no_cycle_below g keep tree s zero a h ha t j = omega arith
no_cycle_below g keep tree s (suc k) a h ha t j = elim (cases_eq a k) [
  | inl e ↦ s.apart a ha t (wider g _ (before a keep) _ _ (λ i ti. grind (arith, nat_tests, s.sub i)) j)
  | inr e ↦ elim (split g (before k (without a tree)) (before (suc k) (without a tree)) k _ _ (λ i ti. grind (arith, nat_tests)) j) [
    | inl j1 ↦ no_cycle_below g keep tree s k a (omega arith) ha t j1
    | inr c ↦
        let tk : IsTrue (tree k) = let t0 = c.kept in grind (arith, nat_tests) in
        let ka : IsTrue (before k keep a) = let t0 = s.sub a t in grind (arith, nat_tests) in
        let w : (x y : ℕ) → Joined g (before k (without a tree)) x y → Joined g (before k keep) x y = λ x y. wider g (before k (without a tree)) (before k keep) x y (λ i ti. grind (arith, nat_tests, s.sub i)) in
        s.apart k c.known tk (elim c.sides [
          | inl p ↦ then_along g _ _ (g.to a) _ (along (back g _ _ _ (w _ _ p.0)) a ha ka (inl (refl, refl))) (back g _ _ _ (w _ _ p.1))
          | inr p ↦ then_along g _ _ (g.from a) _ (along (w _ _ p.1) a ha ka (inr (refl, refl))) (w _ _ p.0)
        ])
  ]
]

-- without it the ends of a tree arc are apart
pub no_cycle : (g : Graph) (keep tree : ℕ → Bool) (a : ℕ) → Spans g keep tree → a < g.arcs → IsTrue (tree a) → Joined g (without a tree) (g.from a) (g.to a) → ⊥
no_cycle g keep tree a s h t j = no_cycle_below g keep tree s g.arcs a h h t (from_all g (without a tree) _ _ j)
