-- A walk that grows: each node is taken once.
use Rattle.std.proofs.Common.{◌≡◌, ◌≢◌, ℕ, zero, suc, ◌<◌, ◌≤◌, ◌==◌, ◌⊎◌, inl, inr, refl, sym, ap, ◌∙◌, arith, Bool, not, IsTrue, subst, List, [], ◌∷◌, ◌++◌, length}
use Rattle.std.proofs.lemmas.Bool.{cases_eq}
use Rattle.std.proofs.lemmas.Bool.Decides.{nat_tests}
use Rattle.std.proofs.lemmas.List.{get_or_push, get_or_append_left, length_push}
use Rattle.topo.specs.Graphs.{Graph, is_at, Links, Joined, stay, along}
use Rattle.topo.specs.Walks.{far, is_by, Step, step_at as at, node, by, Grown}
use Rattle.topo.specs.Roles.{Spans}
use Rattle.topo.proofs.Labels.{then_along, back}
use Rattle.topo.proofs.Acyclic.{without, no_cycle}

pub links_far : (g : Graph) (a n : ℕ) → IsTrue (is_at g n a) → Links g a n (far g a n)
links_far g a n h = elim (cases_eq (g.from a) n) [
  | inl e ↦ let t : g.to a ≡ far g a n = grind (arith, nat_tests) in inl (e, t)
  | inr e ↦
      let f : g.from a ≡ far g a n = grind (arith, nat_tests) in
      let t : g.to a ≡ n = grind (arith, nat_tests) in
      inr (f, t)
]

-- an arc whose ends are m and o, at n, where n isn't m, has its end o at n
pub other_end : (g : Graph) (a m n : ℕ) → IsTrue (is_at g m a) → IsTrue (is_at g n a) → m ≢ n → far g a m ≡ n
other_end g a m n hm hn e = grind (arith, nat_tests)

cases_lt : (a b : ℕ) → a ≢ b → (a < b) ⊎ (b < a)
cases_lt a b e = grind arith

node_push : (g : Graph) (root : ℕ) (w : List Step) (e : Step) (k : ℕ) → k ≤ length w → node g root (w ++ e ∷ []) k ≡ node g root w k
node_push g root w e zero h = refl
node_push g root w e (suc j) h = ap (λ (s : Step). far g s.0 s.1) (get_or_append_left w (e ∷ []) (0, 0) j h)

node_last : (g : Graph) (root : ℕ) (w : List Step) (e : Step) → node g root (w ++ e ∷ []) (suc (length w)) ≡ far g e.0 e.1
node_last g root w e = ap (λ (s : Step). far g s.0 s.1) (get_or_push w e (0, 0) (length w) refl)

module _ (g : Graph) (keep tree : ℕ → Bool) (spans : Spans g keep tree) (root : ℕ) where
  -- each node is joined to the root by arcs of the walk, none of which is b
  joined_from_below : (w : List Step) (p b : ℕ) → Grown g tree root w p → ((j : ℕ) → j < length w → (at w j).0 ≢ b) → (m k : ℕ) → k < m → k ≤ length w → Joined g (without b tree) root (node g root w k)
  joined_from_below w p b s ne zero k h hk = absurd (omega arith)
  joined_from_below w p b s ne (suc m) zero h hk = stay
  joined_from_below w p b s ne (suc m) (suc j) h hk =
      let n = s.near j hk in
      let t = s.kept j hk in
      let i = joined_from_below w p b s ne m n.0 (let h1 = n.1 in omega arith) (let h1 = n.1 in omega arith) in
      let ok : IsTrue (without b tree (at w j).0) = let e = ne j hk in let t1 = t.1 in grind (arith, nat_tests) in
      along (subst (Joined g (without b tree) root) (sym n.3) i) (at w j).0 t.0 ok (links_far g (at w j).0 (at w j).1 t.2)

  -- a tree arc at the p-th node that hasn't been taken leads to a new node
  new_node : (w : List Step) (p b : ℕ) → Grown g tree root w (suc p) → p ≤ length w → b < g.arcs → IsTrue (tree b) → IsTrue (is_at g (node g root w p) b) → IsTrue (not (is_by (by w p) b)) → ((j : ℕ) → j < length w → (at w j).0 ≡ b → (at w j).1 ≢ node g root w p) → (k : ℕ) → k ≤ length w → node g root w k ≢ far g b (node g root w p)
  new_node w p b s hp hb tb at_b not_by fresh k hk e =
      let none : (j : ℕ) → j < length w → (at w j).0 ≢ b = λ j hj e1.
      let n = s.near j hj in
      let t = s.kept j hj in
      let at_j : IsTrue (is_at g (at w j).1 b) = subst (λ (a : ℕ). IsTrue (is_at g (at w j).1 a)) e1 t.2 in
      elim (cases_eq (at w j).1 (node g root w p)) [
        | inl e2 ↦ fresh j hj e1 e2
        | inr e2 ↦
            let here : node g root w (suc j) ≡ node g root w p = ap (λ (a : ℕ). far g a (at w j).1) e1 ∙ other_end g b (at w j).1 (node g root w p) at_j at_b e2 in
            elim (cases_eq p (suc j)) [
              | inl e3 ↦ let q : IsTrue (not (b == (at w j).0)) = subst (λ (q : ℕ). IsTrue (not (is_by (by w q) b))) e3 not_by in absurd (grind (arith, nat_tests))
              | inr e3 ↦ elim (cases_lt p (suc j) e3) [ inl lt ↦ s.apart p (suc j) lt (omega arith) (sym here) | inr lt ↦ s.apart (suc j) p lt hp here ]
            ]
      ] in
      let to_p : Joined g (without b tree) root (node g root w p) = joined_from_below w (suc p) b s none (suc p) p (omega arith) hp in
      let to_k : Joined g (without b tree) root (node g root w k) = joined_from_below w (suc p) b s none (suc k) k (omega arith) hk in
      let across : Joined g (without b tree) (node g root w p) (far g b (node g root w p)) = subst (Joined g (without b tree) (node g root w p)) e (then_along g _ _ _ _ (back g _ _ _ to_p) to_k) in
      no_cycle g keep tree b spans hb tb (elim (links_far g b (node g root w p) at_b) [
        | inl l ↦ subst (λ (x : ℕ). Joined g (without b tree) x (g.to b)) (sym l.0) (subst (Joined g (without b tree) (node g root w p)) (sym l.1) across)
        | inr l ↦ back g _ _ _ (subst (λ (x : ℕ). Joined g (without b tree) x (g.from b)) (sym l.1) (subst (Joined g (without b tree) (node g root w p)) (sym l.0) across))
      ])

  pub grown_push : (w : List Step) (p b : ℕ) → Grown g tree root w (suc p) → p ≤ length w → b < g.arcs → IsTrue (tree b) → IsTrue (is_at g (node g root w p) b) → IsTrue (not (is_by (by w p) b)) → ((j : ℕ) → j < length w → (at w j).0 ≡ b → (at w j).1 ≢ node g root w p) → Grown g tree root (w ++ (b, node g root w p) ∷ []) (suc p)
  grown_push w p b s hp hb tb at_b not_by fresh =
      let e : Step = (b, node g root w p) in
      let long : length (w ++ e ∷ []) ≡ suc (length w) = length_push w e ∙ omega arith in
      let old : (j : ℕ) → j < length w → at (w ++ e ∷ []) j ≡ at w j = λ j hj. get_or_append_left w (e ∷ []) (0, 0) j hj in
      let last : at (w ++ e ∷ []) (length w) ≡ e = get_or_push w e (0, 0) (length w) refl in
      record {
        near = λ j hj. elim (cases_eq j (length w)) [
          | inl e1 ↦ (p, omega arith, omega arith, ap (λ (i : ℕ). (at (w ++ e ∷ []) i).1) e1 ∙ ap (λ (x : Step). x.1) last ∙ sym (node_push g root w e p hp))
          | inr e1 ↦ let n = s.near j (omega arith) in (n.0, n.1, n.2, ap (λ (x : Step). x.1) (old j (omega arith)) ∙ n.3 ∙ sym (node_push g root w e n.0 (let h = n.1 in omega arith)))
        ];
        kept = λ j hj. elim (cases_eq j (length w)) [
          | inl e1 ↦ subst (λ (x : Step). (x.0 < g.arcs) × IsTrue (tree x.0) × IsTrue (is_at g x.1 x.0)) (sym (ap (at (w ++ e ∷ [])) e1 ∙ last)) (hb, tb, at_b)
          | inr e1 ↦ subst (λ (x : Step). (x.0 < g.arcs) × IsTrue (tree x.0) × IsTrue (is_at g x.1 x.0)) (sym (old j (omega arith))) (s.kept j (omega arith))
        ];
        apart = λ j k hj hk eq. elim (cases_eq k (suc (length w))) [
          | inl e1 ↦ new_node w p b s hp hb tb at_b not_by fresh j (omega arith) (sym (node_push g root w e j (omega arith)) ∙ eq ∙ ap (node g root (w ++ e ∷ [])) e1 ∙ node_last g root w e)
          | inr e1 ↦ s.apart j k hj (omega arith) (sym (node_push g root w e j (omega arith)) ∙ eq ∙ node_push g root w e k (omega arith))
        ];
      }
