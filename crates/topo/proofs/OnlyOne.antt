-- A network has one shape in a part state.
use Rattle.std.proofs.Common.{◌≡◌, ◌≢◌, ℕ, zero, suc, ◌<◌, ◌≤◌, ◌+◌, ◌-◌, ◌⊎◌, inl, inr, refl, sym, ap, ◌∙◌, arith, Bool, false, IsTrue, subst, List, [], ◌∷◌, ◌++◌, length, get_or, map, take, drop, add-one, length-append}
use Rattle.std.specs.Prelude.{Option, Some, None, filter, ◌&&◌, not}
use Rattle.std.specs.List.{flat_map}
use Rattle.std.proofs.lemmas.Bool.{cases_eq, cases_lt}
use Rattle.std.proofs.lemmas.List.{ext_get_or, get_or-map, length-drop, get_or_append_left, get_or-append-add, get_or-drop, take-append-drop, take_more, take_all, map-append, length-map}
use Rattle.std.proofs.lemmas.List.Concat.{flat_map-append}
use Rattle.std.proofs.lemmas.Bool.Decides.{nat_tests}
use Rattle.gas_model.specs.declared.rows.PartState.{PartState}
use Rattle.gas_model.specs.Rows.{Network}
use Rattle.topo.specs.Graphs.{Graph, graph_of, is_at, Joined, stay, before, IsChord, IsTreeArc, Lists}
use Rattle.topo.specs.States.{is_there}
use Rattle.topo.specs.Walks.{far, far_of, is_by, Step, step_at as at, onward, is_tree, GoesOn, InOrder, IsWalk}
use Rattle.topo.specs.Split.{active_ends, split_of}
use Rattle.topo.specs.Shapes.{Layout, AreRoots, IsOwnRoot, IsLaidOut, IsShapeOf}
use Rattle.topo.proofs.Reached.{Has, place}
use Rattle.topo.proofs.Laid.{one_root}

-- ascending lists of the same numbers are one
same_places : (xs ys : List ℕ) (P : ℕ → Type 0) → Lists xs P → Lists ys P → (n i : ℕ) → i < n → i < length xs → (i < length ys) × (get_or xs i 0 ≡ get_or ys i 0)
same_places xs ys P a b zero i h hi = absurd (omega arith)
same_places xs ys P a b (suc n) i h hi =
    let j = b.complete (get_or xs i 0) (a.sound i hi) in
    let before : (k : ℕ) → k < i → get_or xs k 0 ≡ get_or ys k 0 = λ k hk. (same_places xs ys P a b n k (omega arith) (omega arith)).1 in
    elim (cases_lt j.0 i) [
      | inl lt ↦ absurd (let e = before j.0 lt in let less = a.ascending j.0 i lt hi in let ej = j.2 in omega arith)
      | inr ge ↦ elim (cases_eq j.0 i) [
        | inl e ↦ (subst (λ (k : ℕ). k < length ys) e j.1, sym (subst (λ (k : ℕ). get_or ys k 0 ≡ get_or xs i 0) e j.2))
        | inr ne ↦
            let hy : i < length ys = let lt = j.1 in omega arith in
            let k = a.complete (get_or ys i 0) (b.sound i hy) in
            let less : get_or ys i 0 < get_or ys j.0 0 = b.ascending i j.0 (omega arith) j.1 in
            let back : k.0 < i = elim (cases_lt k.0 i) [
              | inl lt ↦ lt
              | inr ge2 ↦ elim (cases_eq k.0 i) [
                | inl e ↦ absurd (let e1 : get_or xs i 0 ≡ get_or ys i 0 = subst (λ (m : ℕ). get_or xs m 0 ≡ get_or ys i 0) e k.2 in let ej = j.2 in omega arith)
                | inr ne2 ↦ absurd (let more = a.ascending i k.0 (omega arith) k.1 in let ek = k.2 in let ej = j.2 in omega arith)
              ]
            ] in
            absurd (let e = before k.0 back in let ek = k.2 in let more = b.ascending k.0 i back hy in omega arith)
      ]
    ]

pub one_list : (xs ys : List ℕ) (P : ℕ → Type 0) → Lists xs P → Lists ys P → xs ≡ ys
one_list xs ys P a b =
    let long : length xs ≡ length ys = elim (cases_lt (length xs) (length ys)) [
      | inl lt ↦ absurd (let h = (same_places ys xs P b a (suc (length xs)) (length xs) (omega arith) lt).0 in omega arith)
      | inr ge ↦ elim (cases_lt (length ys) (length xs)) [
        | inl lt ↦ absurd (let h = (same_places xs ys P a b (suc (length ys)) (length ys) (omega arith) lt).0 in omega arith)
        | inr ge2 ↦ omega arith
      ]
    ] in
    ext_get_or 0 xs ys long (λ i h. (same_places xs ys P a b (suc i) i (omega arith) h).1)

-- what a flat list has, one of the lists has
flat_has : {X Y : Type 0} (f : X → List Y) (xs : List X) (y : Y) → Has (flat_map f xs) y → (x : X) × Has xs x × Has (f x) y
flat_has f [] y h = absurd h
flat_has f (z ∷ xs) y h = elim (has_either (f z) (flat_map f xs) y h) [
  | inl k ↦ (z, inl refl, k)
  | inr k ↦ let r = flat_has f xs y k in (r.0, inr r.1, r.2)
]
  where
    has_either : {Y : Type 0} (zs bs : List Y) (y : Y) → Has (zs ++ bs) y → Has zs y ⊎ Has bs y
    has_either [] bs y h = inr h
    has_either (a ∷ zs) bs y (inl e) = inl (inl e)
    has_either (a ∷ zs) bs y (inr h) = elim (has_either zs bs y h) [ inl k ↦ inl (inr k) | inr k ↦ inr k ]

map_has : {X Y : Type 0} (f : X → Y) (xs : List X) (y : Y) → Has (map f xs) y → (x : X) × Has xs x × (f x ≡ y)
map_has f [] y h = absurd h
map_has f (z ∷ xs) y (inl e) = (z, inl refl, e)
map_has f (z ∷ xs) y (inr h) = let r = map_has f xs y h in (r.0, inr r.1, r.2)

has_at : {X : Type 0} (xs : List X) (i : ℕ) (d : X) → i < length xs → Has xs (get_or xs i d)
has_at [] i d h = absurd (omega arith)
has_at (x ∷ xs) zero d h = inl refl
has_at (x ∷ xs) (suc i) d h = inr (has_at xs i d (omega arith))

abbrev led : Graph → Step → ℕ × Option ℕ
led g s = (far_of g s, Some s.0)

abbrev gone : Graph → (ℕ → Bool) → ℕ × Option ℕ → List Step
gone g tree v = onward g tree v.0 v.1

-- the steps onward from the root and from the first p steps
abbrev begun : Graph → (ℕ → Bool) → ℕ → ℕ → List Step → List Step
begun g tree root p w = flat_map (gone g tree) ((root, None) ∷ map (led g) (take p w))

abbrev rest : Graph → (ℕ → Bool) → ℕ → List Step → List Step
rest g tree p w = flat_map (gone g tree) (map (led g) (drop p w))

-- a walk is what it begins with, and the rest
parted : (g : Graph) (tree : ℕ → Bool) (root p : ℕ) (w : List Step) → GoesOn g tree root w → w ≡ begun g tree root p w ++ rest g tree p w
parted g tree root p w e =
    let cut : map (led g) w ≡ map (led g) (take p w) ++ map (led g) (drop p w) = ap (map (led g)) (sym (take-append-drop p w)) ∙ map-append (led g) (take p w) (drop p w) in
    e ∙ ap (λ (xs : List (ℕ × Option ℕ)). flat_map (gone g tree) ((root, None) ∷ xs)) cut ∙ flat_map-append (gone g tree) ((root, None) ∷ map (led g) (take p w)) (map (led g) (drop p w))

-- what the far ends of a walk's steps are
pub record Ordered (g : Graph) (w : List Step) : Type 0 where
  pub order : InOrder g w
  pub apart : (i : ℕ) → i < length w → far_of g (at w i) ≢ (at w i).1

test_clash : (b : Bool) → IsTrue b → b ≡ false → ⊥
test_clash b t f = cc

-- the steps before the p-th are enough to lead to it
begun_long : (g : Graph) (tree : ℕ → Bool) (root p : ℕ) (w : List Step) → Ordered g w → GoesOn g tree root w → p < length w → p < length (begun g tree root p w)
begun_long g tree root p w o e h = elim (cases_lt p (length (begun g tree root p w))) [
  | inl lt ↦ lt
  | inr ge ↦
      let b : List Step = begun g tree root p w in
      let r : List Step = rest g tree p w in
      let k : ℕ = p - length b in
      let is : w ≡ b ++ r = parted g tree root p w e in
      let long : length w ≡ length b + length r = ap length is ∙ length-append b r in
      let here : at w p ≡ at r k = ap (λ (xs : List Step). at xs p) is ∙ ap (at (b ++ r)) {x = p} {y = length b + k} (omega arith) ∙ get_or-append-add b r k (0, 0) in
      let one = flat_has (gone g tree) (map (led g) (drop p w)) (at r k) (has_at r k (0, 0) (omega arith)) in
      let from = map_has (led g) (drop p w) one.0 one.1 in
      let spot = place (drop p w) from.0 (0, 0) from.1 in
      let i : ℕ = p + spot.0 in
      let x_is : at w i ≡ from.0 = sym (get_or-drop p w spot.0 (0, 0)) ∙ spot.2 in
      let i_in : i < length w = let l = length-drop p w in let lt = spot.1 in omega arith in
      let step = map_has (λ (a : ℕ). (a, one.0.0)) (filter (λ a. tree a && not (is_by one.0.1 a)) (g.at one.0.0)) (at r k) one.2 in
      let near_is : (at w p).1 ≡ far_of g (at w i) = ap (λ (s : Step). s.1) here ∙ ap (λ (s : Step). s.1) (sym step.2) ∙ ap (λ (v : ℕ × Option ℕ). v.0) (sym from.2) ∙ ap (far_of g) (sym x_is) in
      absurd (elim (cases_eq spot.0 0) [
        | inl z ↦ o.apart p h (sym (near_is ∙ ap (λ (j : ℕ). far_of g (at w j)) {x = i} {y = p} (omega arith)))
        | inr nz ↦ test_clash _ (subst (λ (n : ℕ). IsTrue (is_at g n (at w p).0)) near_is (o.order.near p h)) (o.order.onward p i (omega arith) i_in)
      ])
]

-- two walks from a root begin alike
begin_alike : (g : Graph) (tree : ℕ → Bool) (root : ℕ) (w v : List Step) → Ordered g w → GoesOn g tree root w → GoesOn g tree root v → (p : ℕ) → p ≤ length w → (p ≤ length v) × (take p w ≡ take p v)
begin_alike g tree root w v o e f zero h = (omega arith, refl)
begin_alike g tree root w v o e f (suc p) h =
    let i = begin_alike g tree root w v o e f p (omega arith) in
    let long : p < length (begun g tree root p w) = begun_long g tree root p w o e h in
    let same : begun g tree root p w ≡ begun g tree root p v = ap (λ (xs : List Step). flat_map (gone g tree) ((root, None) ∷ map (led g) xs)) i.1 in
    let at_w : at w p ≡ at (begun g tree root p w) p = ap (λ (xs : List Step). at xs p) (parted g tree root p w e) ∙ get_or_append_left (begun g tree root p w) (rest g tree p w) (0, 0) p long in
    let long_v : p < length (begun g tree root p v) = subst (λ (xs : List Step). p < length xs) same long in
    let at_v : at v p ≡ at (begun g tree root p v) p = ap (λ (xs : List Step). at xs p) (parted g tree root p v f) ∙ get_or_append_left (begun g tree root p v) (rest g tree p v) (0, 0) p long_v in
    let in_v : p < length v = let l : length v ≡ length (begun g tree root p v) + length (rest g tree p v) = ap length (parted g tree root p v f) ∙ length-append (begun g tree root p v) (rest g tree p v) in omega arith in
    let next : at w p ≡ at v p = at_w ∙ ap (λ (xs : List Step). at xs p) same ∙ sym at_v in
    let more_w : take (suc p) w ≡ take p w ++ at w p ∷ [] = rw add-one at (take_more w p (0, 0) h) in
    let more_v : take (suc p) v ≡ take p v ++ at v p ∷ [] = rw add-one at (take_more v p (0, 0) in_v) in
    (in_v, more_w ∙ ap (λ (xs : List Step). xs ++ at w p ∷ []) i.1 ∙ ap (λ (s : Step). take p v ++ s ∷ []) next ∙ sym more_v)

-- there is one walk from a root
pub one_walk : (g : Graph) (tree : ℕ → Bool) (root : ℕ) (w v : List Step) → Ordered g w → Ordered g v → GoesOn g tree root w → GoesOn g tree root v → w ≡ v
one_walk g tree root w v o q e f =
    let there = begin_alike g tree root w v o e f (length w) (omega arith) in
    let back = begin_alike g tree root v w q f e (length v) (omega arith) in
    let hw = there.0 in
    let hv = back.0 in
    sym (take_all (length w) w (omega arith)) ∙ there.1 ∙ take_all (length w) v (omega arith)

-- where a part stands in the whole
part_place : (parts : List (List Step)) (i : ℕ) → i < length parts → (off : ℕ) × ((k : ℕ) → k < length (get_or parts i []) → (off + k < length (flat_map (λ w. w) parts)) × (at (flat_map (λ w. w) parts) (off + k) ≡ at (get_or parts i []) k))
part_place [] i h = absurd (omega arith)
part_place (w ∷ parts) zero h = (
  0,
  λ k hk.
      let l = length-append w (flat_map (λ w. w) parts) in
      (omega arith, ap (at (w ++ flat_map (λ w. w) parts)) {x = 0 + k} {y = k} (omega arith) ∙ get_or_append_left w (flat_map (λ w. w) parts) (0, 0) k hk),
)
part_place (w ∷ parts) (suc i) h =
    let r = part_place parts i (omega arith) in (
      length w + r.0,
      λ k hk.
          let p = r.1 k hk in
          let l = length-append w (flat_map (λ w. w) parts) in
          let lt = p.0 in
          (omega arith, ap (at (w ++ flat_map (λ w. w) parts)) {x = length w + r.0 + k} {y = length w + (r.0 + k)} (omega arith) ∙ get_or-append-add w (flat_map (λ w. w) parts) (r.0 + k) (0, 0) ∙ p.1),
    )

-- a part of a walk is in order as the whole is
part_ordered : (g : Graph) (parts : List (List Step)) (i : ℕ) → i < length parts → Ordered g (flat_map (λ w. w) parts) → Ordered g (get_or parts i [])
part_ordered g parts i h o =
    let p = part_place parts i h in
    record {
      order = record {
        arc = λ k hk. let q = p.1 k hk in subst (λ (s : Step). s.0 < g.arcs) q.1 (o.order.arc (p.0 + k) q.0);
        near = λ k hk. let q = p.1 k hk in subst (λ (s : Step). IsTrue (is_at g s.1 s.0)) q.1 (o.order.near (p.0 + k) q.0);
        onward = λ j k hj hk.
            let q = p.1 k hk in
            let r = p.1 j (omega arith) in
            subst (λ (s : Step). is_at g (far_of g (at (get_or parts i []) k)) s.0 ≡ false) r.1 (subst (λ (s : Step). is_at g (far_of g s) (at (flat_map (λ w. w) parts) (p.0 + j)).0 ≡ false) q.1 (o.order.onward (p.0 + j) (p.0 + k) (omega arith) q.0));
      };
      apart = λ k hk. let q = p.1 k hk in subst (λ (s : Step). far_of g s ≢ s.1) q.1 (o.apart (p.0 + k) q.0);
    }

pub walks_alike : (g : Graph) (tree : ℕ → Bool) (roots : List ℕ) (w v : List Step) → Ordered g w → Ordered g v → IsWalk g tree roots w → IsWalk g tree roots v → w ≡ v
walks_alike g tree roots w v o q a b =
    let ca = a.count in
    let cb = b.count in
    let oa : Ordered g (flat_map (λ w. w) a.parts) = subst (Ordered g) a.all o in
    let ob : Ordered g (flat_map (λ w. w) b.parts) = subst (Ordered g) b.all q in
    let parts : a.parts ≡ b.parts = ext_get_or [] a.parts b.parts (omega arith) (λ i h. one_walk g tree (get_or roots i 0) (get_or a.parts i []) (get_or b.parts i []) (part_ordered g a.parts i h oa) (part_ordered g b.parts i (omega arith) ob) (a.each i (omega arith)) (b.each i (omega arith))) in
    a.all ∙ ap (flat_map (λ (w : List Step). w)) parts ∙ sym b.all

-- an arc that leads from a node to itself is no tree arc
ends_apart : (g : Graph) (keep : ℕ → Bool) (a n : ℕ) → IsTreeArc g keep a → IsTrue (is_at g n a) → far g a n ≢ n
ends_apart g keep a n t at_n e = t.apart (subst (Joined g (before a keep) (g.from a)) (same_ends g a n at_n e) stay)
  where
    same_ends : (g : Graph) (a n : ℕ) → IsTrue (is_at g n a) → far g a n ≡ n → g.from a ≡ g.to a
    same_ends g a n t e = grind (arith, nat_tests)

laid_ordered : (g : Graph) (keep : ℕ → Bool) (nodes : ℕ) (s : Layout) → IsLaidOut g keep nodes s → Ordered g s.walk
laid_ordered g keep nodes s l =
    let long : length (map (λ (e : Step). e.0) s.walk) ≡ length s.walk = length-map s.walk (λ (e : Step). e.0) in
    record {
      order = l.walk.in_order;
      apart = λ i h. ends_apart g keep (at s.walk i).0 (at s.walk i).1 (subst (IsTreeArc g keep) (get_or-map (λ (e : Step). e.0) s.walk i (0, 0) 0 h) (l.walked_arcs.sound i (omega arith))) (l.walk.in_order.near i h);
    }

roots_alike : (g : Graph) (keep : ℕ → Bool) (nodes : ℕ) (xs ys : List ℕ) → AreRoots g keep nodes xs → AreRoots g keep nodes ys → xs ≡ ys
roots_alike g keep nodes xs ys a b = let ca = a.count in let cb = b.count in ext_get_or 0 xs ys (omega arith) (λ i h. one_root g keep i _ _ (a.each i (omega arith)) (b.each i (omega arith)))

same_layout : (s t : Layout) → s.roots ≡ t.roots → s.root_of ≡ t.root_of → s.chords ≡ t.chords → s.walk ≡ t.walk → s.at_node ≡ t.at_node → s.split_list ≡ t.split_list → s ≡ t
same_layout s t a b c d e f = λ i. record { roots = a i; root_of = b i; chords = c i; walk = d i; at_node = e i; split_list = f i }

pub one_shape : (p : Network) (part : PartState) (s t : Layout) → IsShapeOf p part s → IsShapeOf p part t → s ≡ t
one_shape p part s t a b =
    let g : Graph = graph_of p.arcs in
    let keep : ℕ → Bool = is_there p part in
    let roots : s.roots ≡ t.roots = one_list s.roots t.roots (IsOwnRoot g keep (length p.nodes)) a.laid_out.roots b.laid_out.roots in
    let chords : s.chords ≡ t.chords = one_list s.chords t.chords (IsChord g keep) a.laid_out.chords b.laid_out.chords in
    let other : IsWalk g (is_tree g keep s.chords) s.roots t.walk = subst (λ (xs : List ℕ). IsWalk g (is_tree g keep s.chords) xs t.walk) (sym roots) (subst (λ (xs : List ℕ). IsWalk g (is_tree g keep xs) t.roots t.walk) (sym chords) b.laid_out.walk) in
    let walk : s.walk ≡ t.walk = walks_alike g (is_tree g keep s.chords) s.roots s.walk t.walk (laid_ordered g keep (length p.nodes) s a.laid_out) (laid_ordered g keep (length p.nodes) t b.laid_out) a.laid_out.walk other in
    let ca = a.at_node.count in
    let cb = b.at_node.count in
    let lists : s.at_node ≡ t.at_node = ext_get_or [] s.at_node t.at_node (omega arith) (λ i h. a.at_node.each i (omega arith) ∙ sym (b.at_node.each i (omega arith))) in
    let split : s.split_list ≡ t.split_list = a.split_list ∙ ap (λ (xs : List ℕ). split_of xs s.roots (active_ends p part)) chords ∙ ap (λ (xs : List ℕ). split_of t.chords xs (active_ends p part)) roots ∙ sym b.split_list in
    same_layout s t roots (roots_alike g keep (length p.nodes) s.root_of t.root_of a.laid_out.root_of b.laid_out.root_of) chords walk lists split
