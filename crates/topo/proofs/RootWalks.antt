-- The walks from several roots together: each step is taken once, and so is each node.
use Rattle.std.proofs.Common.{◌≡◌, ◌≢◌, ℕ, zero, suc, ◌<◌, ◌≤◌, ◌+◌, ◌-◌, ◌⊎◌, inl, inr, refl, sym, ap, ◌∙◌, arith, Bool, true, false, IsTrue, subst, List, [], ◌∷◌, ◌++◌, length, get_or, take, add-one, length-append}
use Rattle.std.specs.List.{flat_map}
use Rattle.std.proofs.lemmas.Bool.{cases_eq, cases_lt}
use Rattle.std.proofs.lemmas.List.{append-nil, get_or_append_left, get_or-append-add, take_more, take_all}
use Rattle.std.proofs.lemmas.List.Concat.{flat_map-append}
use Rattle.topo.specs.Graphs.{Graph, is_at, Joined, stay, along}
use Rattle.topo.specs.Roles.{Spans}
use Rattle.topo.specs.Walks.{far_of, Step, step_at as at, node, IsWalkFrom, AreWalks, InOrder, Grown}
use Rattle.topo.proofs.Labels.{then_along, back}
use Rattle.topo.proofs.Growth.{links_far, other_end}
use Rattle.topo.proofs.Reached.{arc_taken, node_taken, grown_onward}

-- a step of the first list, or one of the second
at_cases : (x y : List Step) (j : ℕ) → j < length (x ++ y) → ((j < length x) × (at (x ++ y) j ≡ at x j)) ⊎ ((k : ℕ) × (j ≡ length x + k) × (k < length y) × (at (x ++ y) j ≡ at y k))
at_cases x y j h = elim (cases_lt j (length x)) [
  | inl lt ↦ inl (lt, get_or_append_left x y (0, 0) j lt)
  | inr ge ↦
      let l : length (x ++ y) ≡ length x + length y = length-append x y in
      let e : j ≡ length x + (j - length x) = omega arith in
      inr (j - length x, e, omega arith, ap (at (x ++ y)) e ∙ get_or-append-add x y (j - length x) (0, 0))
]

false_of : (b : Bool) → (b ≡ true → ⊥) → b ≡ false
false_of true h = absurd (h refl)
false_of false h = refl

-- what is joined with one end of an arc is joined with the other
pub to_end : (g : Graph) (tree : ℕ → Bool) (r a n v : ℕ) → a < g.arcs → IsTrue (tree a) → IsTrue (is_at g n a) → IsTrue (is_at g v a) → Joined g tree r n → Joined g tree r v
to_end g tree r a n v h t at_n at_v j = elim (cases_eq n v) [
  | inl e ↦ subst (Joined g tree r) e j
  | inr e ↦ subst (Joined g tree r) (other_end g a n v at_n at_v e) (along j a h t (links_far g a n at_n))
]

-- each node that a walk takes is joined with its root
node_joined : (g : Graph) (tree : ℕ → Bool) (root : ℕ) (w : List Step) (p : ℕ) → Grown g tree root w p → (m k : ℕ) → k < m → k ≤ length w → Joined g tree root (node g root w k)
node_joined g tree root w p s zero k h hk = absurd (omega arith)
node_joined g tree root w p s (suc m) zero h hk = stay
node_joined g tree root w p s (suc m) (suc j) h hk =
    let n = s.near j hk in
    let t = s.kept j hk in
    let i = node_joined g tree root w p s m n.0 (let h1 = n.1 in omega arith) (let h1 = n.1 in omega arith) in
    along (subst (Joined g tree root) (sym n.3) i) (at w j).0 t.0 t.1 (links_far g (at w j).0 (at w j).1 t.2)

near_joined : (g : Graph) (tree : ℕ → Bool) (root : ℕ) (w : List Step) (p : ℕ) → Grown g tree root w p → (j : ℕ) → j < length w → Joined g tree root (at w j).1
near_joined g tree root w p s j h = let n = s.near j h in subst (Joined g tree root) (sym n.3) (node_joined g tree root w p s (suc n.0) n.0 (omega arith) (let h1 = n.1 in omega arith))

-- the walks from the first n roots, in one list
pub record Several (g : Graph) (tree : ℕ → Bool) (roots : List ℕ) (n : ℕ) (walk : List Step) : Type 0 where
  pub order : InOrder g walk
  pub kept : (j : ℕ) → j < length walk → IsTrue (tree (at walk j).0)
  pub placed : (j : ℕ) → j < length walk → (i : ℕ) × (i < n) × Joined g tree (get_or roots i 0) (at walk j).1
  pub fresh : (i j : ℕ) → i < n → j < length walk → far_of g (at walk j) ≢ get_or roots i 0
  pub once : (j k : ℕ) → j < k → k < length walk → far_of g (at walk j) ≢ far_of g (at walk k)
  pub arcs : (i a v : ℕ) → i < n → a < g.arcs → tree a ≡ true → is_at g v a ≡ true → Joined g tree (get_or roots i 0) v → (j : ℕ) × (j < length walk) × ((at walk j).0 ≡ a)
  pub nodes : (i v : ℕ) → i < n → Joined g tree (get_or roots i 0) v → v ≢ get_or roots i 0 → (j : ℕ) × (j < length walk) × (far_of g (at walk j) ≡ v)

-- the far end of a step is joined with a root too
pub far_joined : (g : Graph) (tree : ℕ → Bool) (roots : List ℕ) (n : ℕ) (walk : List Step) → Several g tree roots n walk → (j : ℕ) → j < length walk → (i : ℕ) × (i < n) × Joined g tree (get_or roots i 0) (far_of g (at walk j))
far_joined g tree roots n walk s j h = let p = s.placed j h in (p.0, p.1, along p.2 (at walk j).0 (s.order.arc j h) (s.kept j h) (links_far g (at walk j).0 (at walk j).1 (s.order.near j h)))

several_none : (g : Graph) (tree : ℕ → Bool) (roots : List ℕ) → Several g tree roots 0 []
several_none g tree roots = record {
  order = record { arc = λ i h. absurd (omega arith); near = λ i h. absurd (omega arith); onward = λ i j h hj. absurd (omega arith) };
  kept = λ j h. absurd (omega arith);
  placed = λ j h. absurd (omega arith);
  fresh = λ i j h hj. absurd (omega arith);
  once = λ j k h hk. absurd (omega arith);
  arcs = λ i a v h. absurd (omega arith);
  nodes = λ i v h. absurd (omega arith);
}

module _ (g : Graph) (keep tree : ℕ → Bool) (spans : Spans g keep tree) (roots : List ℕ) (n : ℕ) (walk w : List Step) (apart : (i : ℕ) → i < n → Joined g tree (get_or roots i 0) (get_or roots n 0) → ⊥) (one : IsWalkFrom g tree (get_or roots n 0) w) (s : Several g tree roots n walk) where
  abbrev root : ℕ
  root = get_or roots n 0

  new_far : (k : ℕ) → k < length w → Joined g tree root (far_of g (at w k))
  new_far k h = node_joined g tree root w (suc (length w)) one.grown (suc (suc k)) (suc k) (omega arith) h

  -- what is joined with an earlier root isn't joined with this one
  no_meeting : (i v : ℕ) → i < n → Joined g tree (get_or roots i 0) v → Joined g tree root v → ⊥
  no_meeting i v h j k = apart i h (then_along g tree _ v _ j (back g tree _ _ k))

  -- no earlier step is at a far end of the new walk
  no_crossing : (i k : ℕ) → i < length walk → k < length w → is_at g (far_of g (at w k)) (at walk i).0 ≡ false
  no_crossing i k h hk = false_of _ (λ t.
      let p = s.placed i h in
      no_meeting p.0 (far_of g (at w k)) p.1 (to_end g tree _ (at walk i).0 (at walk i).1 _ (s.order.arc i h) (s.kept i h) (s.order.near i h) t p.2) (new_far k hk))

  more_order : InOrder g (walk ++ w)
  more_order = record {
    arc = λ j h. elim (at_cases walk w j h) [
      | inl o ↦ subst (λ (x : Step). x.0 < g.arcs) (sym o.1) (s.order.arc j o.0)
      | inr o ↦ subst (λ (x : Step). x.0 < g.arcs) (sym o.3) (one.grown.kept o.0 o.2).0
    ];
    near = λ j h. elim (at_cases walk w j h) [
      | inl o ↦ subst (λ (x : Step). IsTrue (is_at g x.1 x.0)) (sym o.1) (s.order.near j o.0)
      | inr o ↦ subst (λ (x : Step). IsTrue (is_at g x.1 x.0)) (sym o.3) (one.grown.kept o.0 o.2).2
    ];
    onward = λ i j lt h. elim (at_cases walk w j h) [
      | inl o ↦
          let hi : i < length walk = let h1 = o.0 in omega arith in
          let ei : at (walk ++ w) i ≡ at walk i = get_or_append_left walk w (0, 0) i hi in
          subst (λ (x : Step). is_at g (far_of g (at (walk ++ w) j)) x.0 ≡ false) (sym ei) (subst (λ (y : Step). is_at g (far_of g y) (at walk i).0 ≡ false) (sym o.1) (s.order.onward i j lt o.0))
      | inr o ↦ subst (λ (y : Step). is_at g (far_of g y) (at (walk ++ w) i).0 ≡ false) (sym o.3) (elim (at_cases walk w i (omega arith)) [
        | inl q ↦ subst (λ (x : Step). is_at g (far_of g (at w o.0)) x.0 ≡ false) (sym q.1) (no_crossing i o.0 q.0 o.2)
        | inr q ↦ subst (λ (x : Step). is_at g (far_of g (at w o.0)) x.0 ≡ false) (sym q.3) (grown_onward g tree root w (suc (length w)) q.0 o.0 one.grown (let e1 = q.1 in let e2 = o.1 in omega arith) o.2)
      ])
    ];
  }

  more_fresh : (i j : ℕ) → i < suc n → j < length (walk ++ w) → far_of g (at (walk ++ w) j) ≢ get_or roots i 0
  more_fresh i j hi h e = elim (at_cases walk w j h) [
    | inl o ↦
        let e1 : far_of g (at walk j) ≡ get_or roots i 0 = ap (far_of g) (sym o.1) ∙ e in
        elim (cases_eq i n) [
          | inl e2 ↦ let p = far_joined g tree roots n walk s j o.0 in no_meeting p.0 root p.1 (subst (Joined g tree (get_or roots p.0 0)) (e1 ∙ ap (λ (k : ℕ). get_or roots k 0) e2) p.2) stay
          | inr e2 ↦ s.fresh i j (omega arith) o.0 e1
        ]
    | inr o ↦
        let e1 : far_of g (at w o.0) ≡ get_or roots i 0 = ap (far_of g) (sym o.3) ∙ e in
        elim (cases_eq i n) [
          | inl e2 ↦ one.grown.apart 0 (suc o.0) (omega arith) o.2 (sym (e1 ∙ ap (λ (k : ℕ). get_or roots k 0) e2))
          | inr e2 ↦ no_meeting i (get_or roots i 0) (omega arith) stay (subst (Joined g tree root) e1 (new_far o.0 o.2))
        ]
  ]

  more_once : (j k : ℕ) → j < k → k < length (walk ++ w) → far_of g (at (walk ++ w) j) ≢ far_of g (at (walk ++ w) k)
  more_once j k lt h e = elim (at_cases walk w k h) [
    | inl o ↦
        let hj : j < length walk = let h1 = o.0 in omega arith in
        s.once j k lt o.0 (ap (far_of g) (sym (get_or_append_left walk w (0, 0) j hj)) ∙ e ∙ ap (far_of g) o.1)
    | inr o ↦ elim (at_cases walk w j (omega arith)) [
      | inl q ↦
          let p = far_joined g tree roots n walk s j q.0 in
          no_meeting p.0 (far_of g (at w o.0)) p.1 (subst (Joined g tree (get_or roots p.0 0)) (ap (far_of g) (sym q.1) ∙ e ∙ ap (far_of g) o.3) p.2) (new_far o.0 o.2)
      | inr q ↦ one.grown.apart (suc q.0) (suc o.0) (let e1 = q.1 in let e2 = o.1 in omega arith) o.2 (ap (far_of g) (sym q.3) ∙ e ∙ ap (far_of g) o.3)
    ]
  ]

  -- a step of the new walk in the whole list
  from_new : (P : Step → Type 0) → (j : ℕ) × (j < length w) × P (at w j) → (j : ℕ) × (j < length (walk ++ w)) × P (at (walk ++ w) j)
  from_new P q = let l = length-append walk w in (length walk + q.0, (let lt = q.1 in omega arith), subst P (sym (get_or-append-add walk w q.0 (0, 0))) q.2)

  from_old : (P : Step → Type 0) → (j : ℕ) × (j < length walk) × P (at walk j) → (j : ℕ) × (j < length (walk ++ w)) × P (at (walk ++ w) j)
  from_old P q = let l = length-append walk w in (q.0, (let lt = q.1 in omega arith), subst P (sym (get_or_append_left walk w (0, 0) q.0 q.1)) q.2)

  more_arcs : (i a v : ℕ) → i < suc n → a < g.arcs → tree a ≡ true → is_at g v a ≡ true → Joined g tree (get_or roots i 0) v → (j : ℕ) × (j < length (walk ++ w)) × ((at (walk ++ w) j).0 ≡ a)
  more_arcs i a v hi ha t at_v jn = elim (cases_eq i n) [
    | inl e ↦
        let k = node_taken g tree root w (suc (length w)) v spans.listed one.grown one.goes_on (subst (λ (m : ℕ). Joined g tree (get_or roots m 0) v) e jn) in
        from_new (λ (x : Step). x.0 ≡ a) (arc_taken g tree root w k.0 a spans.listed one.goes_on k.1 ha (subst (λ (m : ℕ). is_at g m a ≡ true) (sym k.2) at_v) t)
    | inr e ↦ from_old (λ (x : Step). x.0 ≡ a) (s.arcs i a v (omega arith) ha t at_v jn)
  ]

  taken_far : (k : ℕ) → k ≤ length w → node g root w k ≢ root → (j : ℕ) × (j < length w) × (far_of g (at w j) ≡ node g root w k)
  taken_far zero h ne = absurd (ne refl)
  taken_far (suc j) h ne = (j, h, refl)

  more_nodes : (i v : ℕ) → i < suc n → Joined g tree (get_or roots i 0) v → v ≢ get_or roots i 0 → (j : ℕ) × (j < length (walk ++ w)) × (far_of g (at (walk ++ w) j) ≡ v)
  more_nodes i v hi jn ne = elim (cases_eq i n) [
    | inl e ↦
        let k = node_taken g tree root w (suc (length w)) v spans.listed one.grown one.goes_on (subst (λ (m : ℕ). Joined g tree (get_or roots m 0) v) e jn) in
        let f = taken_far k.0 k.1 (λ e1. ne (sym k.2 ∙ e1 ∙ ap (λ (m : ℕ). get_or roots m 0) (sym e))) in
        from_new (λ (x : Step). far_of g x ≡ v) (f.0, f.1, f.2 ∙ k.2)
    | inr e ↦ from_old (λ (x : Step). far_of g x ≡ v) (s.nodes i v (omega arith) jn ne)
  ]

  several_more : Several g tree roots (suc n) (walk ++ w)
  several_more = record {
    order = more_order;
    kept = λ j h. elim (at_cases walk w j h) [
      | inl o ↦ subst (λ (x : Step). IsTrue (tree x.0)) (sym o.1) (s.kept j o.0)
      | inr o ↦ subst (λ (x : Step). IsTrue (tree x.0)) (sym o.3) (one.grown.kept o.0 o.2).1
    ];
    placed = λ j h. elim (at_cases walk w j h) [
      | inl o ↦ let p = s.placed j o.0 in (p.0, (let lt = p.1 in omega arith), subst (λ (x : Step). Joined g tree (get_or roots p.0 0) x.1) (sym o.1) p.2)
      | inr o ↦ (n, omega arith, subst (λ (x : Step). Joined g tree root x.1) (sym o.3) (near_joined g tree root w (suc (length w)) one.grown o.0 o.2))
    ];
    fresh = more_fresh;
    once = more_once;
    arcs = more_arcs;
    nodes = more_nodes;
  }

-- the walks from all roots, where no two roots are joined
pub several : (g : Graph) (keep tree : ℕ → Bool) (roots : List ℕ) (n : ℕ) (walk : List Step) → Spans g keep tree → ((i j : ℕ) → i < j → j < n → Joined g tree (get_or roots i 0) (get_or roots j 0) → ⊥) → AreWalks g tree roots n walk → Several g tree roots n walk
several g keep tree roots n walk sp apart s =
    let c = s.count in
    let whole : flat_map (λ w. w) (take n s.parts) ≡ walk = ap (flat_map (λ (w : List Step). w)) (take_all n s.parts (omega arith)) ∙ sym s.all in
    subst (Several g tree roots n) whole (up n (omega arith))
  where
    up : (m : ℕ) → m ≤ n → Several g tree roots m (flat_map (λ w. w) (take m s.parts))
    up zero h = several_none g tree roots
    up (suc m) h =
        let c = s.count in
        let part : List Step = get_or s.parts m [] in
        let more : take (suc m) s.parts ≡ take m s.parts ++ part ∷ [] = rw add-one at (take_more s.parts m [] (omega arith)) in
        let all : flat_map (λ (w : List Step). w) (take (suc m) s.parts) ≡ flat_map (λ (w : List Step). w) (take m s.parts) ++ part = ap (flat_map (λ (w : List Step). w)) more ∙ flat_map-append (λ (w : List Step). w) (take m s.parts) (part ∷ []) ∙ ap (λ (xs : List Step). flat_map (λ (w : List Step). w) (take m s.parts) ++ xs) (append-nil part) in
        subst (Several g tree roots (suc m)) (sym all) (several_more g keep tree sp roots m (flat_map (λ w. w) (take m s.parts)) part (λ i lt. apart i m lt (omega arith)) (s.each m (omega arith)) (up m (omega arith)))
