-- A whole walk reaches each node that tree arcs join with its root, and takes each tree arc there.
use Rattle.std.proofs.Common.{◌≡◌, ◌≢◌, ℕ, zero, suc, ◌<◌, ◌≤◌, ◌==◌, ◌&&◌, ◌⊎◌, inl, inr, refl, sym, ap, ◌∙◌, arith, Bool, true, false, not, IsTrue, subst, List, [], ◌∷◌, ◌++◌, length, get_or, map, cond}
use Rattle.std.specs.Prelude.{Option, Some}
use Rattle.std.specs.List.{filter, flat_map}
use Rattle.std.proofs.lemmas.Bool.{cases_eq}
use Rattle.std.proofs.lemmas.Bool.Decides.{nat_tests}
use Rattle.std.proofs.lemmas.List.{get_or-map, length-map}
use Rattle.topo.specs.Graphs.{Graph, is_at, Links, Joined, stay, along}
use Rattle.topo.specs.Walks.{those, far, is_by, onward, taken, GoesOn, Step, step_at as at, node, by, Grown}

-- x is an element
abbrev pub Has : {X : Type 0} → List X → X → Type 0
Has [] x = ⊥
Has (y ∷ ys) x = (y ≡ x) ⊎ Has ys x

has_left : {X : Type 0} (xs ys : List X) (x : X) → Has xs x → Has (xs ++ ys) x
has_left [] ys x h = absurd h
has_left (z ∷ xs) ys x (inl e) = inl e
has_left (z ∷ xs) ys x (inr h) = inr (has_left xs ys x h)

has_right : {X : Type 0} (xs ys : List X) (x : X) → Has ys x → Has (xs ++ ys) x
has_right [] ys x h = h
has_right (z ∷ xs) ys x h = inr (has_right xs ys x h)

has_map : {X Y : Type 0} (f : X → Y) (xs : List X) (x : X) → Has xs x → Has (map f xs) (f x)
has_map f [] x h = absurd h
has_map f (z ∷ xs) x (inl e) = inl (ap f e)
has_map f (z ∷ xs) x (inr h) = inr (has_map f xs x h)

has_cons : {X : Type 0} (b : Bool) (z : X) (xs : List X) (x : X) → Has xs x → Has (cond b (z ∷ xs) xs) x
has_cons true z xs x h = inr h
has_cons false z xs x h = h

has_filter : {X : Type 0} (p : X → Bool) (xs : List X) (x : X) → p x ≡ true → Has xs x → Has (filter p xs) x
has_filter p [] x t h = absurd h
has_filter p (z ∷ xs) x t (inl e) = rw (ap p e ∙ t) (inl e)
has_filter p (z ∷ xs) x t (inr h) = has_cons (p z) z (filter p xs) x (has_filter p xs x t h)

has_flat : {X Y : Type 0} (f : X → List Y) (xs : List X) (x : X) (y : Y) → Has xs x → Has (f x) y → Has (flat_map f xs) y
has_flat f [] x y h k = absurd h
has_flat f (z ∷ xs) x y (inl e) k = has_left (f z) (flat_map f xs) y (subst (λ w. Has (f w) y) (sym e) k)
has_flat f (z ∷ xs) x y (inr h) k = has_right (f z) (flat_map f xs) y (has_flat f xs x y h k)

has_those : (q : ℕ → Bool) (k b : ℕ) → b < k → q b ≡ true → Has (those q k) b
has_those q zero b h t = absurd (omega arith)
has_those q (suc k) b h t = elim (cases_eq b k) [
  | inl e ↦ has_right (those q k) _ b (rw (ap q (sym e) ∙ t) (inl (sym e)))
  | inr e ↦ has_left (those q k) _ b (has_those q k b (omega arith) t)
]

has_get : {X : Type 0} (xs : List X) (i : ℕ) (d : X) → i < length xs → Has xs (get_or xs i d)
has_get [] i d h = absurd (omega arith)
has_get (x ∷ xs) zero d h = inl refl
has_get (x ∷ xs) (suc i) d h = inr (has_get xs i d (omega arith))

pub place : {X : Type 0} (xs : List X) (x d : X) → Has xs x → (i : ℕ) × (i < length xs) × (get_or xs i d ≡ x)
place [] x d h = absurd h
place (z ∷ xs) x d (inl e) = (0, omega arith, e)
place (z ∷ xs) x d (inr h) = let p = place xs x d h in (suc p.0, (let l = p.1 in omega arith), p.2)

has_onward : (g : Graph) (tree : ℕ → Bool) (n b : ℕ) (o : Option ℕ) → g.at n ≡ those (is_at g n) g.arcs → b < g.arcs → is_at g n b ≡ true → (tree b && not (is_by o b)) ≡ true → Has (onward g tree n o) (b, n)
has_onward g tree n b o l h at_b t = has_map (λ a. (a, n)) _ b (has_filter (λ a. tree a && not (is_by o a)) (g.at n) b t (subst (λ (xs : List ℕ). Has xs b) (sym l) (has_those (is_at g n) g.arcs b h at_b)))

has_taken : (g : Graph) (root : ℕ) (w : List Step) (k : ℕ) → k ≤ length w → Has (taken g root w) (node g root w k, by w k)
has_taken g root w zero h = inl refl
has_taken g root w (suc j) h =
    let r : Step → ℕ × Option ℕ = λ s. (far g s.0 s.1, Some s.0) in
    let m : length (map r w) ≡ length w = length-map w r in
    inr (subst (Has (map r w)) (get_or-map r w j (0, 0) (r (at w j)) (omega arith)) (has_get (map r w) j (r (at w j)) (omega arith)))

-- the walk goes on from its k-th node
pub goes_on : (g : Graph) (tree : ℕ → Bool) (root : ℕ) (w : List Step) (k b : ℕ) → ((n : ℕ) → g.at n ≡ those (is_at g n) g.arcs) → GoesOn g tree root w → k ≤ length w → b < g.arcs → is_at g (node g root w k) b ≡ true → (tree b && not (is_by (by w k) b)) ≡ true → (j : ℕ) × (j < length w) × (at w j ≡ (b, node g root w k))
goes_on g tree root w k b l e hk hb at_b t =
    place w (b, node g root w k) (0, 0) (subst (λ (xs : List Step). Has xs (b, node g root w k)) (sym e) (has_flat (λ v. onward g tree v.0 v.1) (taken g root w) (node g root w k, by w k) (b, node g root w k) (has_taken g root w k hk) (has_onward g tree (node g root w k) b (by w k) (l (node g root w k)) hb at_b t)))

-- each tree arc at a node that is taken stands in the walk
pub arc_taken : (g : Graph) (tree : ℕ → Bool) (root : ℕ) (w : List Step) (k b : ℕ) → ((n : ℕ) → g.at n ≡ those (is_at g n) g.arcs) → GoesOn g tree root w → k ≤ length w → b < g.arcs → is_at g (node g root w k) b ≡ true → tree b ≡ true → (j : ℕ) × (j < length w) × ((at w j).0 ≡ b)
arc_taken g tree root w zero b l e hk hb at_b t = let p = goes_on g tree root w zero b l e hk hb at_b (rw t refl) in (p.0, p.1, ap (λ (x : Step). x.0) p.2)
arc_taken g tree root w (suc i) b l e hk hb at_b t = elim (cases_eq b (at w i).0) [
  | inl e1 ↦ (i, omega arith, sym e1)
  | inr e1 ↦ let off : (b == (at w i).0) ≡ false = grind (arith, nat_tests) in let p = goes_on g tree root w (suc i) b l e hk hb at_b (rw (t, off) refl) in (p.0, p.1, ap (λ (x : Step). x.0) p.2)
]

links_at : (g : Graph) (a m n : ℕ) → Links g a m n → is_at g m a ≡ true
links_at g a m n (inl e) = let e0 = e.0 in grind (arith, nat_tests)
links_at g a m n (inr e) = let e1 = e.1 in grind (arith, nat_tests)

far_is : (g : Graph) (a x m n : ℕ) → is_at g x a ≡ true → Links g a m n → x ≢ n → far g a x ≡ n
far_is g a x m n t (inl e) ne = let e0 = e.0 in let e1 = e.1 in grind (arith, nat_tests)
far_is g a x m n t (inr e) ne = let e0 = e.0 in let e1 = e.1 in grind (arith, nat_tests)

at_neither : (g : Graph) (a x v : ℕ) → IsTrue (is_at g x a) → x ≢ v → far g a x ≢ v → is_at g v a ≡ false
at_neither g a x v t ne nf = grind (arith, nat_tests)

-- the other end of a taken arc is taken
other_taken : (g : Graph) (tree : ℕ → Bool) (root : ℕ) (w : List Step) (p i a m n : ℕ) → Grown g tree root w p → i < length w → (at w i).0 ≡ a → Links g a m n → (k : ℕ) × (k ≤ length w) × (node g root w k ≡ n)
other_taken g tree root w p i a m n s hi e l =
    let nr = s.near i hi in
    let at_i : is_at g (at w i).1 a ≡ true = subst (λ (b : ℕ). is_at g (at w i).1 b ≡ true) e (s.kept i hi).2 in
    elim (cases_eq (at w i).1 n) [
      | inl e1 ↦ (nr.0, (let h = nr.1 in omega arith), sym nr.3 ∙ e1)
      | inr e1 ↦ (suc i, hi, ap (λ (b : ℕ). far g b (at w i).1) e ∙ far_is g a (at w i).1 m n at_i l e1)
    ]

-- each node that tree arcs join with the root is taken
pub node_taken : (g : Graph) (tree : ℕ → Bool) (root : ℕ) (w : List Step) (p n : ℕ) → ((n : ℕ) → g.at n ≡ those (is_at g n) g.arcs) → Grown g tree root w p → GoesOn g tree root w → Joined g tree root n → (k : ℕ) × (k ≤ length w) × (node g root w k ≡ n)
node_taken g tree root w p n d s e stay = (0, omega arith, refl)
node_taken g tree root w p n d s e (along {n = m} j a h t l) =
    let i = node_taken g tree root w p m d s e j in
    let at_a : is_at g (node g root w i.0) a ≡ true = subst (λ (x : ℕ). is_at g x a ≡ true) (sym i.2) (links_at g a m n l) in
    let q = arc_taken g tree root w i.0 a d e i.1 h at_a t in
    other_taken g tree root w p q.0 a m n s q.1 q.2 l

-- no earlier arc is at a far node
pub grown_onward : (g : Graph) (tree : ℕ → Bool) (root : ℕ) (w : List Step) (p i j : ℕ) → Grown g tree root w p → i < j → j < length w → is_at g (node g root w (suc j)) (at w i).0 ≡ false
grown_onward g tree root w p i j s h hj =
    let nr = s.near i (omega arith) in
    let kp = s.kept i (omega arith) in
    let near_off : (at w i).1 ≢ node g root w (suc j) = λ e. s.apart nr.0 (suc j) (let l = nr.1 in omega arith) hj (sym nr.3 ∙ e) in
    let far_off : far g (at w i).0 (at w i).1 ≢ node g root w (suc j) = s.apart (suc i) (suc j) (omega arith) hj in
    at_neither g (at w i).0 (at w i).1 (node g root w (suc j)) kp.2 near_off far_off
