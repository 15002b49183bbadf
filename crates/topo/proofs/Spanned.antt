-- The roles make a spanning forest, and the walks are put together.
use Rattle.std.proofs.Common.{◌≡◌, ℕ, ◌<◌, ◌≤◌, ◌+◌, ◌⊎◌, inl, inr, refl, sym, ap, ◌∙◌, arith, Bool, true, false, IsTrue, List, [], ◌∷◌, ◌++◌, subst, add-one}
use Rattle.std.specs.Prelude.{slice_index_or}
use Rattle.std.specs.List.{flat_map}
use Rattle.std.proofs.lemmas.Bool.{cases_eq}
use Rattle.std.proofs.lemmas.List.{append-nil, get_or_push, get_or_append_left, length_push, get_or_past}
use Rattle.std.proofs.lemmas.List.Concat.{flat_map-append}
use Rattle.topo.specs.declared.forest.Role.{Role}
use Rattle.topo.specs.declared.forest.Role.TheVariants.{Away, Tree, Chord}
use Rattle.topo.specs.Graphs.{Graph, is_at, Joined, before}
use Rattle.topo.specs.Roles.{IsRole, AreRoles, Spans, has_tree_role, is_role_tree}
use Rattle.topo.specs.Walks.{those, Step, IsWalkFrom, AreWalks}

tree_kept : (g : Graph) (keep : ℕ → Bool) (a : ℕ) (r : Role) → IsRole g keep a r → is_role_tree r ≡ true → IsTrue (keep a)
tree_kept g keep a Tree h t = h.0
tree_kept g keep a Away h t = cc
tree_kept g keep a Chord h t = cc

tree_apart : (g : Graph) (keep : ℕ → Bool) (a : ℕ) (r : Role) → IsRole g keep a r → is_role_tree r ≡ true → Joined g (before a keep) (g.from a) (g.to a) → ⊥
tree_apart g keep a Tree h t j = h.1 j
tree_apart g keep a Away h t j = cc
tree_apart g keep a Chord h t j = cc

not_tree : (g : Graph) (keep : ℕ → Bool) (a : ℕ) (r : Role) → IsRole g keep a r → IsTrue (keep a) → is_role_tree r ≡ false → Joined g (before a keep) (g.from a) (g.to a)
not_tree g keep a Tree h k t = cc
not_tree g keep a Away h k t = cc
not_tree g keep a Chord h k t = h.1

clash : false ≡ true → ⊥
clash e = cc

lt_or_ge : (a n : ℕ) → (a < n) ⊎ (n ≤ a)
lt_or_ge a n = grind arith

pub spans : (g : Graph) (keep : ℕ → Bool) (roles : List Role) → ((n : ℕ) → g.at n ≡ those (is_at g n) g.arcs) → AreRoles g keep roles → Spans g keep (has_tree_role roles)
spans g keep roles listed r = record {
  listed = listed;
  sub = λ a t. elim (lt_or_ge a g.arcs) [
    | inl h ↦ tree_kept g keep a (slice_index_or roles a Away) (r.each a h) t
    | inr h ↦ absurd (let c = r.count in let p : slice_index_or roles a Away ≡ Away = get_or_past roles a Away (omega arith) in clash (ap is_role_tree (sym p) ∙ t))
  ];
  apart = λ a h t j. tree_apart g keep a (slice_index_or roles a Away) (r.each a h) t j;
  chord = λ a h k t. not_tree g keep a (slice_index_or roles a Away) (r.each a h) k t;
}

pub walked_none : (g : Graph) (tree : ℕ → Bool) (roots : List ℕ) → AreWalks g tree roots 0 []
walked_none g tree roots = record { parts = []; all = refl; count = refl; each = λ i h. absurd (omega arith) }

pub walked_one : (g : Graph) (tree : ℕ → Bool) (roots : List ℕ) (walk new : List Step) (n : ℕ) → AreWalks g tree roots n walk → (w : List Step) × (new ≡ walk ++ w) × IsWalkFrom g tree (slice_index_or roots n 0) w → AreWalks g tree roots (n + 1) new
walked_one g tree roots walk new n s p = rw add-one (record {
  parts = s.parts ++ p.0 ∷ [];
  all = p.1 ∙ ap (λ (xs : List Step). xs ++ p.0) s.all ∙ sym (flat_map-append (λ (w : List Step). w) s.parts (p.0 ∷ []) ∙ ap (λ (xs : List Step). flat_map (λ w. w) s.parts ++ xs) (append-nil p.0));
  count = let l = length_push s.parts p.0 in let c = s.count in omega arith;
  each = λ i h. elim (cases_eq i n) [
    | inl e ↦ subst (λ (k : ℕ). IsWalkFrom g tree (slice_index_or roots k 0) (slice_index_or (s.parts ++ p.0 ∷ []) k [])) (sym e) (subst (IsWalkFrom g tree (slice_index_or roots n 0)) (sym (get_or_push s.parts p.0 [] n s.count)) p.2)
    | inr e ↦ subst (IsWalkFrom g tree (slice_index_or roots i 0)) (sym (get_or_append_left s.parts (p.0 ∷ []) [] i (let c = s.count in omega arith))) (s.each i (omega arith))
  ];
})
