-- One node of the walk gone on from, and how long a walk can be.
use Rattle.std.proofs.Common.{◌≡◌, ◌≢◌, ℕ, zero, suc, ◌<◌, ◌≤◌, ◌==◌, ◌&&◌, inl, inr, refl, sym, ap, ◌∙◌, arith, Bool, true, false, not, IsTrue, subst, List, [], ◌∷◌, ◌++◌, length, map, cond}
use Rattle.std.specs.Prelude.{Option, Some}
use Rattle.std.specs.List.{filter}
use Rattle.std.proofs.lemmas.Bool.{cases_eq, and_parts}
use Rattle.std.proofs.lemmas.Bool.Decides.{nat_tests}
use Rattle.std.proofs.lemmas.List.{get_or_push, get_or_append_left, length_push, append_assoc, append-nil, map-append}
use Rattle.std.proofs.lemmas.List.Elements.{filter-append}
use Rattle.topo.specs.Graphs.{Graph, is_at}
use Rattle.topo.specs.Walks.{those, far, is_by, onward, Step, step_at as at, node, by, Grown}
use Rattle.topo.specs.Roles.{Spans}
use Rattle.topo.proofs.Growth.{grown_push}

node_append : (g : Graph) (root : ℕ) (w xs : List Step) (k : ℕ) → k ≤ length w → node g root (w ++ xs) k ≡ node g root w k
node_append g root w xs zero h = refl
node_append g root w xs (suc j) h = ap (λ (s : Step). far g s.0 s.1) (get_or_append_left w xs (0, 0) j h)

by_append : (w xs : List Step) (k : ℕ) → k ≤ length w → by (w ++ xs) k ≡ by w k
by_append w xs zero h = refl
by_append w xs (suc j) h = ap (λ (s : Step). Some s.0) (get_or_append_left w xs (0, 0) j h)

pigeons_apart : (n fm fj fk : ℕ) → fj ≢ fm → fk ≢ fm → fj ≢ fk → cond (fj == n) fm fj ≢ cond (fk == n) fm fk
pigeons_apart n fm fj fk d1 d2 d3 e = grind (arith, nat_tests)

node_below : (g : Graph) (tree : ℕ → Bool) (root nodes p : ℕ) (w : List Step) → root < nodes → ((a : ℕ) → a < g.arcs → (g.from a < nodes) × (g.to a < nodes)) → Grown g tree root w p → (k : ℕ) → k < suc (length w) → node g root w k < nodes
node_below g tree root nodes p w hr ends s zero h = hr
node_below g tree root nodes p w hr ends s (suc j) h = let e = ends (at w j).0 (s.kept j (omega arith)).0 in let e0 = e.0 in let e1 = e.1 in grind (arith, nat_tests)

-- the steps that were found among the first k arcs
found : (n : ℕ) (p q : ℕ → Bool) → ℕ → List Step
found n p q k = map (λ a. (a, n)) (filter p (those q k))

found_more : (n : ℕ) (p q : ℕ → Bool) (k : ℕ) → found n p q (suc k) ≡ found n p q k ++ cond (q k && p k) ((k, n) ∷ []) []
unfolding found
found_more n p q k =
    let f : ℕ → Step = λ a. (a, n) in
    let e : found n p q (suc k) ≡ map f (filter p (those q k)) ++ map f (filter p (cond (q k) (k ∷ []) [])) = ap (map f) (filter-append p (those q k) (cond (q k) (k ∷ []) [])) ∙ map-append f _ _ in
    e ∙ ap (λ (xs : List Step). map f (filter p (those q k)) ++ xs) (elim (q k) as (λ b. map f (filter p (cond b (k ∷ []) [])) ≡ cond (b && p k) ((k, n) ∷ []) []) [
      | true ↦ elim (p k) as (λ b. map f (cond b (k ∷ []) []) ≡ cond b ((k, n) ∷ []) []) [ true ↦ refl | false ↦ refl ]
      | false ↦ refl
    ])

-- the walk after the steps that were found among the first k arcs at its p-th node, n
record Round (g : Graph) (tree : ℕ → Bool) (root n : ℕ) (now : List Step) (p k : ℕ) (by_p : Option ℕ) : Type 0 where
  grown : Grown g tree root now (suc p)
  fresh : (j : ℕ) → j < length now → (at now j).1 ≡ n → (at now j).0 < k
  long : p ≤ length now
  same : node g root now p ≡ n
  by : by now p ≡ by_p

module _ (g : Graph) (keep tree : ℕ → Bool) (spans : Spans g keep tree) (root n p : ℕ) (by_p : Option ℕ) where
  round_push : (now : List Step) (k : ℕ) → k < g.arcs → IsTrue (is_at g n k) → IsTrue (tree k) → IsTrue (not (is_by by_p k)) → Round g tree root n now p k by_p → Round g tree root n (now ++ (k, n) ∷ []) p (suc k) by_p
  round_push now k hk at_k tk not_by r =
      let e : Step = (k, n) in
      let grown : Grown g tree root (now ++ (k, node g root now p) ∷ []) (suc p) = grown_push g keep tree spans root now p k r.grown r.long hk tk (subst (λ (x : ℕ). IsTrue (is_at g x k)) (sym r.same) at_k) (subst (λ (x : Option ℕ). IsTrue (not (is_by x k))) (sym r.by) not_by) (λ j hj e1 e2. let lt = r.fresh j hj (e2 ∙ r.same) in omega arith) in
      record {
        grown = subst (λ (x : ℕ). Grown g tree root (now ++ (k, x) ∷ []) (suc p)) r.same grown;
        fresh = λ j hj e1. elim (cases_eq j (length now)) [
          | inl e2 ↦ let e3 : (at (now ++ e ∷ []) j).0 ≡ k = ap (λ (i : ℕ). (at (now ++ e ∷ []) i).0) e2 ∙ ap (λ (x : Step). x.0) (get_or_push now e (0, 0) (length now) refl) in omega arith
          | inr e2 ↦
              let lt : j < length now = let l = length_push now e in omega arith in
              let old : at (now ++ e ∷ []) j ≡ at now j = get_or_append_left now (e ∷ []) (0, 0) j lt in
              let less = r.fresh j lt (ap (λ (x : Step). x.1) (sym old) ∙ e1) in
              let e3 : (at (now ++ e ∷ []) j).0 ≡ (at now j).0 = ap (λ (x : Step). x.0) old in omega arith
        ];
        long = let l = length_push now e in let h = r.long in omega arith;
        same = node_append g root now (e ∷ []) p r.long ∙ r.same;
        by = by_append now (e ∷ []) p r.long ∙ r.by;
      }

  round_skip : (now : List Step) (k : ℕ) → Round g tree root n now p k by_p → Round g tree root n now p (suc k) by_p
  round_skip now k r = record { grown = r.grown; fresh = λ j hj e. let lt = r.fresh j hj e in omega arith; long = r.long; same = r.same; by = r.by }

  rounds : (w : List Step) (k : ℕ) → k ≤ g.arcs → Round g tree root n w p 0 by_p → Round g tree root n (w ++ found n (λ a. tree a && not (is_by by_p a)) (is_at g n) k) p k by_p
  unfolding found
  rounds w zero h r = subst (λ (ys : List Step). Round g tree root n ys p 0 by_p) (sym (append-nil w)) r
  rounds w (suc k) h r =
      let pass : ℕ → Bool = λ a. tree a && not (is_by by_p a) in
      let before : Round g tree root n (w ++ found n pass (is_at g n) k) p k by_p = rounds w k (omega arith) r in
      let same : (w ++ found n pass (is_at g n) k) ++ cond (is_at g n k && pass k) ((k, n) ∷ []) [] ≡ w ++ found n pass (is_at g n) (suc k) = append_assoc w _ _ ∙ ap (λ (xs : List Step). w ++ xs) (sym (found_more n pass (is_at g n) k)) in
      let cases : (b : Bool) → (is_at g n k && pass k) ≡ b → Round g tree root n ((w ++ found n pass (is_at g n) k) ++ cond b ((k, n) ∷ []) []) p (suc k) by_p = λ b. elim b as (λ b. (is_at g n k && pass k) ≡ b → Round g tree root n ((w ++ found n pass (is_at g n) k) ++ cond b ((k, n) ∷ []) []) p (suc k) by_p) [
        | true ↦ λ e. let here = and_parts (is_at g n k) _ e in let on = and_parts (tree k) _ here.1 in round_push _ k h here.0 on.0 on.1 before
        | false ↦ λ e. subst (λ (ys : List Step). Round g tree root n ys p (suc k) by_p) (sym (append-nil _)) (round_skip _ k before)
      ] in
      subst (λ (ys : List Step). Round g tree root n ys p (suc k) by_p) same (cases _ refl)

-- one more node gone on from
pub grown_on : (g : Graph) (keep tree : ℕ → Bool) (spans : Spans g keep tree) (root p : ℕ) (w : List Step) → p ≤ length w → Grown g tree root w p → Grown g tree root (w ++ onward g tree (node g root w p) (by w p)) (suc p)
unfolding found
grown_on g keep tree spans root p w hp s = subst (λ (xs : List ℕ). Grown g tree root (w ++ map (λ a. (a, node g root w p)) (filter (λ a. tree a && not (is_by (by w p) a)) xs)) (suc p)) (sym (spans.listed (node g root w p))) (rounds g keep tree spans root (node g root w p) p (by w p) w g.arcs (omega arith) (record {
  grown = record { near = λ j hj. let n = s.near j hj in (n.0, n.1, (let h = n.2 in omega arith), n.3); kept = s.kept; apart = s.apart };
  fresh = λ j hj e. absurd (let n = s.near j hj in s.apart n.0 p n.2 hp (sym n.3 ∙ e));
  long = hp;
  same = refl;
  by = refl;
})).grown

pub grown_none : (g : Graph) (tree : ℕ → Bool) (root : ℕ) → Grown g tree root [] 0
grown_none g tree root = record { near = λ j h. absurd (omega arith); kept = λ j h. absurd (omega arith); apart = λ j k h hk e. omega arith }

-- ---- how long it can be
pigeons : (n m : ℕ) (f : ℕ → ℕ) → ((k : ℕ) → k < m → f k < n) → ((j k : ℕ) → j < k → k < m → f j ≢ f k) → m ≤ n
pigeons n zero f b d = omega arith
pigeons zero (suc m) f b d = absurd (let h = b 0 (omega arith) in omega arith)
pigeons (suc n) (suc m) f b d =
    let h = pigeons n m (λ k. cond (f k == n) (f m) (f k))
    (λ k hk. let b1 = b k (omega arith) in let b2 = b m (omega arith) in let d1 = d k m hk (omega arith) in grind (arith, nat_tests))
    (λ j k hj hk. let d1 = d j m (omega arith) (omega arith) in let d2 = d k m hk (omega arith) in let d3 = d j k hj (omega arith) in pigeons_apart n (f m) (f j) (f k) d1 d2 d3) in
    omega arith

pub grown_short : (g : Graph) (tree : ℕ → Bool) (root nodes p : ℕ) (w : List Step) → root < nodes → ((a : ℕ) → a < g.arcs → (g.from a < nodes) × (g.to a < nodes)) → Grown g tree root w p → length w < nodes
grown_short g tree root nodes p w hr ends s = pigeons nodes (suc (length w)) (node g root w) (node_below g tree root nodes p w hr ends s) (λ j k hj hk. s.apart j k hj (omega arith))
