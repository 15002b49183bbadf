-- The variables of a split list are those of each box of the problem, and there are few of them.
use Rattle.std.proofs.Common.{◌≡◌, ℕ, zero, suc, ◌<◌, ◌≤◌, ◌+◌, ◌++◌, ◌&&◌, refl, sym, ap, ◌∙◌, arith, subst, Bool, true, false, cond, not, List, [], ◌∷◌, length, map, get_or}
use Rattle.std.specs.Prelude.{◌==◌, nat_lt}
use Rattle.std.specs.List.{list_all, filter}
use Rattle.std.proofs.lemmas.Bool.{and_parts, and_from, lt-ltb}
use Rattle.std.proofs.lemmas.List.{length-append, length-map}
use Rattle.std.proofs.lemmas.List.Folds.{list_all-append, list_all_at}
use Rattle.std.proofs.lemmas.List.Recursion.{and_from_places}
use Rattle.std.proofs.lemmas.List.Sums.{length-filter, count_by-le-length}
use Rattle.gas_model.specs.declared.rows.PartState.{PartState}
use Rattle.base_types.specs.declared.variables.Var.TheVariants.{Flow, Square}
use Rattle.gas_model.specs.Rows.{Network}
use Rattle.gas_model.specs.Within.{IsWithin}
use Rattle.gas_model.specs.Boxes.{Bounds, BoxFits, is_in_box}
use Rattle.topo.specs.Graphs.{graph_of, Lists}
use Rattle.topo.specs.States.{fixed_at, is_active}
use Rattle.topo.specs.Walks.{those}
use Rattle.topo.specs.Split.{firsts, active_ends}
use Rattle.topo.specs.Shapes.{Layout, IsShapeOf}
use Rattle.topo.proofs.Ends.{active_below, within_ends}
use Rattle.box_split.specs.Forks.{AreVars, no_var}

-- ---- all items of a list

all_at : {A : Type 0} (p : A → Bool) (xs : List A) (i : ℕ) (d : A) → list_all p xs ≡ true → i < length xs → p (get_or xs i d) ≡ true
all_at p xs i d all h = by (p (get_or xs i d)) refl
  where
    by : (b : Bool) → p (get_or xs i d) ≡ b → b ≡ true
    by true e = refl
    by false e = absurd (let f = sym all ∙ list_all_at p xs i d h e in cc)

all_from : {A : Type 0} (p : A → Bool) (xs : List A) (d : A) → ((i : ℕ) → i < length xs → p (get_or xs i d) ≡ true) → list_all p xs ≡ true
all_from p xs d f = and_from_places (list_all p) p refl (λ _ _. refl) xs d f

filter_all : {A : Type 0} (test p : A → Bool) (xs : List A) → list_all p xs ≡ true → list_all p (filter test xs) ≡ true
filter_all test p [] all = refl
filter_all test p (x ∷ xs) all = by (test x) (filter_all test p xs (and_parts (p x) (list_all p xs) all).1)
  where
    by : (b : Bool) → list_all p (filter test xs) ≡ true → list_all p (cond b (x ∷ filter test xs) (filter test xs)) ≡ true
    by true rest = and_from (p x) _ (and_parts (p x) (list_all p xs) all).0 rest
    by false rest = rest

firsts_all : (p : ℕ → Bool) (xs : List ℕ) → list_all p xs ≡ true → list_all p (firsts xs) ≡ true
firsts_all p [] all = refl
firsts_all p (x ∷ xs) all =
    let parts = and_parts (p x) (list_all p xs) all in
    and_from (p x) _ parts.0 (filter_all (λ y. not (y == x)) p (firsts xs) (firsts_all p xs parts.1))

all_flows : (b : Bounds) (xs : List ℕ) → list_all (λ a. nat_lt a (length b.flows)) xs ≡ true → list_all (is_in_box b) (map Flow xs) ≡ true
all_flows b [] all = refl
all_flows b (x ∷ xs) all = let parts = and_parts (nat_lt x (length b.flows)) (list_all (λ a. nat_lt a (length b.flows)) xs) all in and_from (nat_lt x (length b.flows)) _ parts.0 (all_flows b xs parts.1)

all_squares : (b : Bounds) (xs : List ℕ) → list_all (λ n. nat_lt n (length b.squares)) xs ≡ true → list_all (is_in_box b) (map Square xs) ≡ true
all_squares b [] all = refl
all_squares b (x ∷ xs) all = let parts = and_parts (nat_lt x (length b.squares)) (list_all (λ n. nat_lt n (length b.squares)) xs) all in and_from (nat_lt x (length b.squares)) _ parts.0 (all_squares b xs parts.1)

-- ---- lengths

firsts_length : (xs : List ℕ) → length (firsts xs) ≤ length xs
firsts_length [] = omega arith
firsts_length (x ∷ xs) =
    let fewer : length (filter (λ y. not (y == x)) (firsts xs)) ≤ length (firsts xs) = subst (λ (k : ℕ). k ≤ length (firsts xs)) (sym (length-filter (λ y. not (y == x)) (firsts xs))) (count_by-le-length (λ y. not (y == x)) (firsts xs)) in
    let rest = firsts_length xs in
    omega arith

those_length : (q : ℕ → Bool) (k : ℕ) → length (those q k) ≤ k
those_length q zero = omega arith
those_length q (suc k) = by (q k) (those_length q k)
  where
    by : (b : Bool) → length (those q k) ≤ k → length (those q k ++ cond b (k ∷ []) []) ≤ suc k
    by true h = omega (arith, length-append (those q k) (k ∷ []))
    by false h = let e : length (those q k ++ []) ≡ length (those q k) + 0 = length-append (those q k) [] in omega (arith, e)

-- numbers that ascend are at least their places
module _ {P : ℕ → Type 0} (xs : List ℕ) (n : ℕ) (lists : Lists xs P) (below : (a : ℕ) → P a → a < n) where
  at_least : (i : ℕ) → i < length xs → i ≤ get_or xs i 0
  at_least zero h = omega arith
  at_least (suc i) h = let before = at_least i (omega arith) in let more = lists.ascending i (suc i) (omega arith) h in omega arith

  few_listed : length xs ≤ n
  few_listed = by (length xs) refl
    where
      by : (k : ℕ) → length xs ≡ k → k ≤ n
      by zero e = omega arith
      by (suc k) e =
          let h : k < length xs = omega arith in
          let low = at_least k h in
          let high = below (get_or xs k 0) (lists.sound k h) in
          omega arith

  all_listed : list_all (λ a. nat_lt a n) xs ≡ true
  all_listed = all_from (λ a. nat_lt a n) xs 0 (λ i h. lt-ltb (get_or xs i 0) n (below (get_or xs i 0) (lists.sound i h)))

-- ---- the split list

module _ (p : Network) (part : PartState) (s : Layout) (b : Bounds) (within : IsWithin p) (shape : IsShapeOf p part s) (fits : BoxFits p b) where
  ends_all : list_all (λ n. nat_lt n (length p.nodes)) (active_ends p part) ≡ true
  ends_all = all_from (λ n. nat_lt n (length p.nodes)) (active_ends p part) 0 (λ i h. lt-ltb _ _ (active_below (length p.nodes) p.arcs (fixed_at p part) i (within_ends p within) h))

  chords_all : list_all (λ a. nat_lt a (length b.flows)) s.chords ≡ true
  chords_all = subst (λ (n : ℕ). list_all (λ a. nat_lt a n) s.chords ≡ true) (sym fits.flows) (all_listed s.chords (length p.arcs) shape.laid_out.chords (λ a c. c.is_arc))

  nodes_all : list_all (λ n. nat_lt n (length b.squares)) (firsts (s.roots ++ active_ends p part)) ≡ true
  nodes_all =
      let roots = all_listed s.roots (length p.nodes) shape.laid_out.roots (λ n r. r.is_node) in
      let both = list_all-append (λ n. nat_lt n (length p.nodes)) s.roots (active_ends p part) ∙ and_from _ _ roots ends_all in
      subst (λ (k : ℕ). list_all (λ n. nat_lt n k) (firsts (s.roots ++ active_ends p part)) ≡ true) (sym fits.squares) (firsts_all (λ n. nat_lt n (length p.nodes)) (s.roots ++ active_ends p part) both)

  pub split_vars : AreVars b s.split_list
  split_vars i h =
      let all = list_all-append (is_in_box b) (map Flow s.chords) (map Square (firsts (s.roots ++ active_ends p part))) ∙ and_from _ _ (all_flows b s.chords chords_all) (all_squares b (firsts (s.roots ++ active_ends p part)) nodes_all) in
      all_at (is_in_box b) s.split_list i no_var (ap (list_all (is_in_box b)) shape.split_list ∙ all) h

  pub split_few : length s.split_list ≤ 6000
  split_few =
      let chords = few_listed s.chords (length p.arcs) shape.laid_out.chords (λ a c. c.is_arc) in
      let roots = few_listed s.roots (length p.nodes) shape.laid_out.roots (λ n r. r.is_node) in
      let active : List ℕ = those (λ a. is_active (fixed_at p part a)) (length p.arcs) in
      let ends = those_length (λ a. is_active (fixed_at p part a)) (length p.arcs) in
      let firsts_few = firsts_length (s.roots ++ active_ends p part) in
      let arcs = within.few_arcs in
      let nodes = within.few_nodes in
      omega (arith, ap length shape.split_list, length-append (map Flow s.chords) (map Square (firsts (s.roots ++ active_ends p part))), length-map s.chords Flow, length-map (firsts (s.roots ++ active_ends p part)) Square, length-append s.roots (active_ends p part), length-map active (graph_of p.arcs).to)
