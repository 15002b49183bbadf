-- Roots, chords and walk together are the layout of the graph.
use Rattle.std.proofs.Common.{◌≡◌, ◌≢◌, ℕ, ◌<◌, ◌≤◌, ◌==◌, ◌&&◌, inl, inr, refl, sym, ap, ◌∙◌, arith, Bool, true, false, not, IsTrue, subst, List, [], length, get_or, map}
use Rattle.std.specs.Prelude.{slice_index_or, nat_lt}
use Rattle.std.specs.List.{list_any}
use Rattle.std.proofs.Math.Path.{fun_ext}
use Rattle.std.proofs.lemmas.Bool.{cases_lt}
use Rattle.std.proofs.lemmas.Bool.Decides.{nat_tests}
use Rattle.std.proofs.lemmas.List.{length-map, get_or-map, get_or_past}
use Rattle.base_types.specs.declared.variables.Var.{Var}
use Rattle.topo.specs.declared.forest.Role.{Role}
use Rattle.topo.specs.declared.forest.Role.TheVariants.{Away, Tree, Chord}
use Rattle.topo.specs.Graphs.{Graph, is_at, Joined, stay, IsRoot, IsChord, IsTreeArc, Lists, HasOnce}
use Rattle.topo.specs.Roles.{IsRole, AreRoles, Spans, is_role_tree, is_role_chord, has_tree_role, has_chord_role}
use Rattle.topo.specs.Walks.{those, far, far_of, Step, step_at as at, is_tree, GoesOn, AreWalks}
use Rattle.topo.specs.Shapes.{AreRoots, IsOwnRoot, IsOtherNode, IsLaidOut}
use Rattle.topo.proofs.PassingNumbers.{those_list, any_those}
use Rattle.topo.proofs.Labels.{then_along, back, wider}
use Rattle.topo.proofs.Acyclic.{by_tree}
use Rattle.topo.proofs.Spanned.{spans}
use Rattle.topo.proofs.RootWalks.{Several, several, far_joined}

-- a node has one root
pub one_root : (g : Graph) (keep : ℕ → Bool) (n r q : ℕ) → IsRoot g keep n r → IsRoot g keep n q → r ≡ q
one_root g keep n r q a b = let h = a.first q b.joined in let k = b.first r a.joined in omega arith

-- a root is its own root
pub own_root : (g : Graph) (keep : ℕ → Bool) (n r : ℕ) → IsRoot g keep n r → IsRoot g keep r r
own_root g keep n r a = record { joined = stay; first = λ m j. a.first m (then_along g keep n r m a.joined j) }

-- joined nodes that are their own roots are one
joined_roots : (g : Graph) (keep : ℕ → Bool) (r q : ℕ) → IsRoot g keep r r → IsRoot g keep q q → Joined g keep r q → r ≡ q
joined_roots g keep r q a b j = let h = a.first q j in let k = b.first r (back g keep r q j) in omega arith

equal_test : (a b : ℕ) → a ≡ b → (a == b) ≡ true
equal_test a b e = grind (arith, nat_tests)

test_equal : (a b : ℕ) → (a == b) ≡ true → a ≡ b
test_equal a b e = grind (arith, nat_tests)

pub roots_listed : (g : Graph) (keep : ℕ → Bool) (nodes : ℕ) (root_of : List ℕ) → AreRoots g keep nodes root_of → Lists (those (λ n. get_or root_of n 0 == n) (length root_of)) (IsOwnRoot g keep nodes)
roots_listed g keep nodes root_of r =
    let c = r.count in
    those_list (λ n. get_or root_of n 0 == n) (length root_of) (IsOwnRoot g keep nodes)
    (λ a h t. record { is_node = omega arith; root = subst (IsRoot g keep a) (test_equal _ _ t) (r.each a (omega arith)) })
    (λ a o. let h = o.is_node in (omega arith, equal_test _ _ (one_root g keep a _ _ (r.each a o.is_node) o.root)))

chord_of : (g : Graph) (keep : ℕ → Bool) (a : ℕ) (r : Role) → a < g.arcs → IsRole g keep a r → is_role_chord r ≡ true → IsChord g keep a
chord_of g keep a Chord h i t = record { is_arc = h; kept = i.0; joined = i.1 }
chord_of g keep a Away h i t = cc
chord_of g keep a Tree h i t = cc

clash : (b : Bool) → b ≡ false → IsTrue b → ⊥
clash b e t = cc

role_of_chord : (g : Graph) (keep : ℕ → Bool) (a : ℕ) (r : Role) → IsRole g keep a r → IsChord g keep a → is_role_chord r ≡ true
role_of_chord g keep a Chord i c = refl
role_of_chord g keep a Away i c = absurd (clash (keep a) i c.kept)
role_of_chord g keep a Tree i c = absurd (i.1 c.joined)

pub chords_listed : (g : Graph) (keep : ℕ → Bool) (roles : List Role) → AreRoles g keep roles → Lists (those (has_chord_role roles) (length roles)) (IsChord g keep)
chords_listed g keep roles r =
    let c = r.count in
    those_list (has_chord_role roles) (length roles) (IsChord g keep)
    (λ a h t. chord_of g keep a (slice_index_or roles a Away) (omega arith) (r.each a (omega arith)) t)
    (λ a o. let h = o.is_arc in (omega arith, role_of_chord g keep a (slice_index_or roles a Away) (r.each a o.is_arc) o))

-- an arc has the role of a tree arc where it is kept and no chord
role_tests : (g : Graph) (keep : ℕ → Bool) (a : ℕ) (r : Role) → IsRole g keep a r → is_role_tree r ≡ (keep a && not (is_role_chord r))
role_tests g keep a Away i = rw i refl
role_tests g keep a Tree i = rw i.0 refl
role_tests g keep a Chord i = rw i.0 refl

tests_in : (l k : Bool) (m : Bool) → l ≡ true → ((l && k) && not (l && m)) ≡ (k && not m)
tests_in l k m e = rw e refl

tests_out : (l k : Bool) (m : Bool) → l ≡ false → ((l && k) && not (l && m)) ≡ false
tests_out l k m e = rw e refl

lt_true : (a n : ℕ) → a < n → nat_lt a n ≡ true
lt_true a n h = grind (arith, nat_tests)

lt_false : (a n : ℕ) → n ≤ a → nat_lt a n ≡ false
lt_false a n h = grind (arith, nat_tests)

pub tree_is : (g : Graph) (keep : ℕ → Bool) (roles : List Role) → AreRoles g keep roles → has_tree_role roles ≡ is_tree g keep (those (has_chord_role roles) (length roles))
tree_is g keep roles r = fun_ext (λ (a : ℕ).
    let listed : list_any (λ c. c == a) (those (has_chord_role roles) (length roles)) ≡ (nat_lt a g.arcs && has_chord_role roles a) = any_those (has_chord_role roles) (length roles) a ∙ ap (λ (n : ℕ). nat_lt a n && has_chord_role roles a) r.count in
    let is : is_tree g keep (those (has_chord_role roles) (length roles)) a ≡ ((nat_lt a g.arcs && keep a) && not (nat_lt a g.arcs && has_chord_role roles a)) = ap (λ (b : Bool). (nat_lt a g.arcs && keep a) && not b) listed in
    elim (cases_lt a g.arcs) [
      | inl h ↦ role_tests g keep a (slice_index_or roles a Away) (r.each a h) ∙ sym (is ∙ tests_in (nat_lt a g.arcs) (keep a) (has_chord_role roles a) (lt_true a g.arcs h))
      | inr h ↦ (let c = r.count in ap is_role_tree (get_or_past roles a Away (omega arith))) ∙ sym (is ∙ tests_out (nat_lt a g.arcs) (keep a) (has_chord_role roles a) (lt_false a g.arcs h))
    ])

once_map : (f : Step → ℕ) (walk : List Step) (P : ℕ → Type 0) → ((i j : ℕ) → i < j → j < length walk → f (at walk i) ≢ f (at walk j)) → ((i : ℕ) → i < length walk → P (f (at walk i))) → ((a : ℕ) → P a → (i : ℕ) × (i < length walk) × (f (at walk i) ≡ a)) → HasOnce (map f walk) P
once_map f walk P apart sound complete =
    let long : length (map f walk) ≡ length walk = length-map walk f in
    let is : (i : ℕ) → i < length walk → get_or (map f walk) i 0 ≡ f (at walk i) = λ i h. get_or-map f walk i (0, 0) 0 h in
    record {
      distinct = λ i j h hj e. apart i j h (omega arith) (sym (is i (omega arith)) ∙ e ∙ is j (omega arith));
      sound = λ i h. subst P (sym (is i (omega arith))) (sound i (omega arith));
      complete = λ a p. let c = complete a p in (c.0, (let lt = c.1 in omega arith), is c.0 c.1 ∙ c.2);
    }

far_end : (g : Graph) (a n : ℕ) → IsTrue (is_at g n a) → is_at g (far g a n) a ≡ true
far_end g a n t = grind (arith, nat_tests)

off_end : (g : Graph) (a n b : ℕ) → IsTrue (is_at g n a) → is_at g (far g a n) b ≡ false → b ≢ a
off_end g a n b t f e = let h = far_end g a n t in let h2 : is_at g (far g a n) a ≡ false = subst (λ (c : ℕ). is_at g (far g a n) c ≡ false) e f in absurd (two (is_at g (far g a n) a) h h2)
  where
    two : (b : Bool) → b ≡ true → b ≡ false → ⊥
    two b e f = cc

from_end : (g : Graph) (a : ℕ) → is_at g (g.from a) a ≡ true
from_end g a = grind (arith, nat_tests)

far_below : (g : Graph) (nodes a near : ℕ) → ((a : ℕ) → a < g.arcs → (g.from a < nodes) × (g.to a < nodes)) → a < g.arcs → far g a near < nodes
far_below g nodes a near ends h = let e = ends a h in let e0 = e.0 in let e1 = e.1 in grind (arith, nat_tests)

true_if : (b : Bool) → (b ≡ false → ⊥) → b ≡ true
true_if true h = refl
true_if false h = absurd (h refl)

pub laid_out : (g : Graph) (keep : ℕ → Bool) (nodes : ℕ) (root_of : List ℕ) (roles : List Role) (walk : List Step) (at_node : List (List ℕ)) (split_list : List Var)
    → ((n : ℕ) → g.at n ≡ those (is_at g n) g.arcs) → ((a : ℕ) → a < g.arcs → (g.from a < nodes) × (g.to a < nodes)) → AreRoles g keep roles → AreRoots g keep nodes root_of
    → AreWalks g (has_tree_role roles) (those (λ n. get_or root_of n 0 == n) (length root_of)) (length (those (λ n. get_or root_of n 0 == n) (length root_of))) walk
    → IsLaidOut g keep nodes (record { roots = those (λ n. get_or root_of n 0 == n) (length root_of); root_of = root_of; chords = those (has_chord_role roles) (length roles); walk = walk; at_node = at_node; split_list = split_list })
laid_out g keep nodes root_of roles walk at_node split_list listed ends r o w =
    let roots : List ℕ = those (λ n. get_or root_of n 0 == n) (length root_of) in
    let tree : ℕ → Bool = has_tree_role roles in
    let sp : Spans g keep tree = spans g keep roles listed r in
    let own : Lists roots (IsOwnRoot g keep nodes) = roots_listed g keep nodes root_of o in
    let to_keep : (m n : ℕ) → Joined g tree m n → Joined g keep m n = λ m n j. wider g tree keep m n sp.sub j in
    let apart : (i j : ℕ) → i < j → j < length roots → Joined g tree (get_or roots i 0) (get_or roots j 0) → ⊥ = λ i j h hj jn.
    let e = joined_roots g keep _ _ (own.sound i (omega arith)).root (own.sound j hj).root (to_keep _ _ jn) in
    let lt = own.ascending i j h hj in omega arith
    in
    let s : Several g tree roots (length roots) walk = several g keep tree roots (length roots) walk sp apart w in
    let root_place : (n : ℕ) → n < nodes → (i : ℕ) × (i < length roots) × Joined g tree (get_or roots i 0) n = λ n h.
    let rt = o.each n h in
    let low = rt.first n stay in
    let p = own.complete (get_or root_of n 0) (record { is_node = omega arith; root = own_root g keep n _ rt }) in
    (p.0, p.1, by_tree g keep tree _ n sp (subst (λ (x : ℕ). Joined g keep x n) (sym p.2) (back g keep n _ rt.joined)))
    in
    record {
      root_of = o;
      roots = own;
      chords = chords_listed g keep roles r;
      walk = record {
        parts = w.parts;
        all = w.all;
        count = w.count;
        each = λ i h. subst (λ (t : ℕ → Bool). GoesOn g t (get_or roots i 0) (get_or w.parts i [])) (tree_is g keep roles r) (w.each i h).goes_on;
        in_order = s.order;
      };
      walked_arcs = once_map (λ e. e.0) walk (IsTreeArc g keep)
          (λ i j h hj e. off_end g (at walk j).0 (at walk j).1 (at walk i).0 (s.order.near j hj) (s.order.onward i j h hj) e)
          (λ i h. record { is_arc = s.order.arc i h; kept = sp.sub _ (s.kept i h); apart = sp.apart _ (s.order.arc i h) (s.kept i h) })
          (λ a t.
          let yes : tree a ≡ true = true_if (tree a) (λ e. t.apart (sp.chord a t.is_arc t.kept e)) in
          let p = root_place (g.from a) (ends a t.is_arc).0 in
          s.arcs p.0 a (g.from a) p.1 t.is_arc yes (from_end g a) p.2);
      walked_nodes = once_map (far_of g) walk (IsOtherNode g keep nodes) s.once
          (λ i h. record {
            is_node = far_below g nodes (at walk i).0 (at walk i).1 ends (s.order.arc i h);
            other = λ rt. let p = far_joined g tree roots (length roots) walk s i h in s.fresh p.0 i p.1 h (sym (joined_roots g keep _ _ (own.sound p.0 p.1).root rt (to_keep _ _ p.2)));
          })
          (λ n t.
          let p = root_place n t.is_node in
          s.nodes p.0 n p.1 p.2 (λ e. t.other (subst (λ (x : ℕ). IsRoot g keep x x) (sym e) (own.sound p.0 p.1).root)));
    }
