-- The walk from one root, node by node.
use Rattle.std.proofs.Common.{◌≡◌, ℕ, suc, ◌<◌, ◌≤◌, ◌+◌, ◌==◌, sym, ap, ◌∙◌, arith, Bool, true, false, subst, List, [], ◌∷◌, ◌++◌, length, get_or, map, cond, take, length-append, add-one}
use Rattle.std.specs.Prelude.{Option, Some, None}
use Rattle.std.specs.List.{flat_map}
use Rattle.std.proofs.lemmas.List.{length-map, take_all, get_or-map, append_assoc, append-nil, map-append, take_more, take-append-le, get_or-append-add}
use Rattle.std.proofs.lemmas.List.Concat.{flat_map-append}
use Rattle.topo.specs.Graphs.{Graph, is_at}
use Rattle.topo.specs.Walks.{those, far, onward, taken, IsWalkFrom, Step, step_at as at, node, by, Grown}
use Rattle.topo.specs.Roles.{Spans}
use Rattle.topo.proofs.PassingNumbers.{those_below}
use Rattle.topo.proofs.Rounds.{grown_on, grown_none, grown_short}

-- old is the walk before this root, and now the walk after p nodes beyond the root
pub record Walked (g : Graph) (tree : ℕ → Bool) (root : ℕ) (old now : List Step) (i : ℕ) : Type 0 where
  pub w : List Step
  pub p : ℕ
  pub all : now ≡ old ++ w
  pub place : i ≡ length old + p
  pub within : p ≤ length w
  pub grown : Grown g tree root w (suc p)
  pub is : w ≡ flat_map (λ v. onward g tree v.0 v.1) (take (suc p) (taken g root w))

pub walked_root : (g : Graph) (keep tree : ℕ → Bool) (root : ℕ) (old now : List Step) → Spans g keep tree → now ≡ old ++ onward g tree root None → Walked g tree root old now (length old)
walked_root g keep tree root old now s e = record {
  w = onward g tree root None;
  p = 0;
  all = e;
  place = omega arith;
  within = omega arith;
  grown = grown_on g keep tree s root 0 [] (omega arith) (grown_none g tree root);
  is = sym (append-nil (onward g tree root None));
}

taken_step : (g : Graph) (tree : ℕ → Bool) (root p : ℕ) (w xs : List Step) → p < length w → w ≡ flat_map (λ v. onward g tree v.0 v.1) (take (suc p) (taken g root w)) → w ++ onward g tree (node g root w (suc p)) (by w (suc p)) ≡ flat_map (λ v. onward g tree v.0 v.1) (take (suc (suc p)) (taken g root (w ++ xs)))
taken_step g tree root p w xs h e =
    let r : Step → ℕ × Option ℕ = λ s. (far g s.0 s.1, Some s.0) in
    let F : ℕ × Option ℕ → List Step = λ v. onward g tree v.0 v.1 in
    let x : ℕ × Option ℕ = r (at w p) in
    let long : length (map r w) ≡ length w = length-map w r in
    let e1 : take (suc p) (map r (w ++ xs)) ≡ take p (map r w) ++ x ∷ [] = ap (take (suc p)) (map-append r w xs) ∙ take-append-le (suc p) (map r w) (map r xs) (omega arith) ∙ rw add-one at (take_more (map r w) p x (omega arith)) ∙ ap (λ (y : ℕ × Option ℕ). take p (map r w) ++ y ∷ []) (get_or-map r w p (0, 0) x h) in
    let e2 : flat_map F ((root, None) ∷ (take p (map r w) ++ x ∷ [])) ≡ flat_map F ((root, None) ∷ take p (map r w)) ++ (F x ++ []) = flat_map-append F ((root, None) ∷ take p (map r w)) (x ∷ []) in
    let e3 : w ++ F x ≡ flat_map F ((root, None) ∷ take p (map r w)) ++ (F x ++ []) = ap (λ (y : List Step). y ++ F x) e ∙ ap (λ (y : List Step). flat_map F ((root, None) ∷ take p (map r w)) ++ y) (sym (append-nil (F x))) in
    e3 ∙ sym e2 ∙ ap (λ (y : List (ℕ × Option ℕ)). flat_map F ((root, None) ∷ y)) (sym e1)

-- the arc and the near node at place i
pub walked_at : (g : Graph) (tree : ℕ → Bool) (root : ℕ) (old now : List Step) (i : ℕ) (s : Walked g tree root old now i) → i < length now → (s.p < length s.w) × (at now i ≡ at s.w s.p)
walked_at g tree root old now i s h =
    let l : length now ≡ length old + length s.w = ap length s.all ∙ length-append old s.w in
    let pl = s.place in
    (omega arith, ap (λ (xs : List Step). at xs i) s.all ∙ ap (at (old ++ s.w)) s.place ∙ get_or-append-add old s.w s.p (0, 0))

pub walked_step : (g : Graph) (keep tree : ℕ → Bool) (root : ℕ) (old now new : List Step) (i : ℕ) → Spans g keep tree → Walked g tree root old now i → i < length now → new ≡ now ++ onward g tree (far g (at now i).0 (at now i).1) (Some (at now i).0) → Walked g tree root old new (i + 1)
walked_step g keep tree root old now new i sp s h e =
    let here = walked_at g tree root old now i s h in
    let xs : List Step = onward g tree (node g root s.w (suc s.p)) (by s.w (suc s.p)) in
    let e1 : onward g tree (far g (at now i).0 (at now i).1) (Some (at now i).0) ≡ xs = ap (λ (x : Step). onward g tree (far g x.0 x.1) (Some x.0)) here.1 in
    let lt = here.0 in
    record {
      w = s.w ++ xs;
      p = suc s.p;
      all = e ∙ ap (λ (y : List Step). now ++ y) e1 ∙ ap (λ (y : List Step). y ++ xs) s.all ∙ append_assoc old s.w xs;
      place = let pl = s.place in omega arith;
      within = let l = length-append s.w xs in omega arith;
      grown = grown_on g keep tree sp root (suc s.p) s.w lt s.grown;
      is = taken_step g tree root s.p s.w xs lt s.is;
    }

pub walked_short : (g : Graph) (tree : ℕ → Bool) (root nodes : ℕ) (old now : List Step) (i : ℕ) → root < nodes → ((a : ℕ) → a < g.arcs → (g.from a < nodes) × (g.to a < nodes)) → Walked g tree root old now i → i < length old + nodes
walked_short g tree root nodes old now i hr ends s = let h = grown_short g tree root nodes (suc s.p) s.w hr ends s.grown in let pl = s.place in let wi = s.within in omega arith

pub walked_all : (g : Graph) (tree : ℕ → Bool) (root : ℕ) (old now : List Step) (i : ℕ) → Walked g tree root old now i → length now ≤ i → (w : List Step) × (now ≡ old ++ w) × IsWalkFrom g tree root w
walked_all g tree root old now i s h =
    let l : length now ≡ length old + length s.w = ap length s.all ∙ length-append old s.w in
    let pl = s.place in
    let wi = s.within in
    let e : length (taken g root s.w) ≤ suc s.p = let r : Step → ℕ × Option ℕ = λ e. (far g e.0 e.1, Some e.0) in let m : length (map r s.w) ≡ length s.w = length-map s.w r in omega arith in
    let end : s.p ≡ length s.w = omega arith in (
      s.w,
      s.all,
      record {
        goes_on = s.is ∙ ap (flat_map (λ v. onward g tree v.0 v.1)) (take_all (suc s.p) (taken g root s.w) e);
        grown = subst (λ (q : ℕ). Grown g tree root s.w (suc q)) end s.grown;
      },
    )

pub walked_arc : (g : Graph) (tree : ℕ → Bool) (root : ℕ) (old now : List Step) (i : ℕ) → Walked g tree root old now i → i < length now → (at now i).0 < g.arcs
walked_arc g tree root old now i s h = let here = walked_at g tree root old now i s h in subst (λ (x : Step). x.0 < g.arcs) (sym here.1) (s.grown.kept s.p here.0).0

pub far_below : (g : Graph) (nodes a near : ℕ) → ((a : ℕ) → a < g.arcs → (g.from a < nodes) × (g.to a < nodes)) → a < g.arcs → far g a near < nodes
far_below g nodes a near ends h = let e = ends a h in elim (g.from a == near) as (λ b. cond b (g.to a) (g.from a) < nodes) [ true ↦ e.1 | false ↦ e.0 ]

-- what is listed at a node are arcs
pub arcs_below : (g : Graph) (n k : ℕ) (xs : List ℕ) → ((n : ℕ) → g.at n ≡ those (is_at g n) g.arcs) → xs ≡ g.at n → k < length xs → get_or xs k 0 < g.arcs
arcs_below g n k xs listed e h =
    let is : xs ≡ those (is_at g n) g.arcs = e ∙ listed n in
    subst (λ (ys : List ℕ). get_or ys k 0 < g.arcs) (sym is) (those_below (is_at g n) g.arcs k (subst (λ (ys : List ℕ). k < length ys) is h))
