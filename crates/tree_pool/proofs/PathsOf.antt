-- The paths of an arena when children are hung below a node.
use Rattle.std.proofs.Common.{◌≡◌, ◌≢◌, ℕ, zero, suc, ◌+◌, ◌<◌, ◌≤◌, ◌^◌, List, [], ◌∷◌, ◌++◌, length, take, get_or, Option, Some, refl, sym, ap, ◌∙◌, inl, inr, append_assoc, length-append, arith}
use Rattle.std.specs.Prelude.{slice_get}
use Rattle.std.proofs.lemmas.Option.{slice_get-get_or, slice_get_within, get_or_from_slice_get}
use Rattle.std.specs.Ordering.{nat_cmp}
use Rattle.std.specs.Cmp.{nat_cmp_is}
use Rattle.std.specs.declared.cmp.Ordering.{Ordering}
use Rattle.std.specs.declared.cmp.Ordering.TheVariants.{Less, Equal, Greater}
use Rattle.tree_pool.specs.Order.{order, or_then}
use Rattle.std.proofs.lemmas.List.{append-nil}
use Rattle.tree_pool.proofs.Lists.{get_left, appended_cases}
use Rattle.tree_pool.specs.declared.lineage.Place.{Place}
use Rattle.tree_pool.specs.Lineages.{path_below, paths_after, paths_of, children_from, places_of, IsArena}

pub places_more : (parent k c : ℕ) → places_of parent k (c + 1) ≡ places_of parent k c ++ (record { parent = parent; nth = k + c }) ∷ []
places_more parent k zero = let e : k + 0 ≡ k = omega arith in rw e refl
places_more parent k (suc c) =
    let e : k + suc c ≡ suc k + c = omega arith in
    let f : suc c + 1 ≡ suc (c + 1) = omega arith in
    rw (f, e) (ap (λ (ps : List Place). (record { parent = parent; nth = k }) ∷ ps) (places_more parent (suc k) c))

pub paths-append : (done : List (List ℕ)) (xs ys : List Place) → paths_after done (xs ++ ys) ≡ paths_after done xs ++ paths_after (done ++ paths_after done xs) ys
paths-append done [] ys = ap (λ (d : List (List ℕ)). paths_after d ys) (sym (append-nil done))
paths-append done (x ∷ xs) ys =
    let p = path_below (slice_get done x.parent) x.nth in
    ap (λ (ps : List (List ℕ)). p ∷ ps)
    (paths-append (done ++ p ∷ []) xs ys
    ∙ ap (λ (d : List (List ℕ)). paths_after (done ++ p ∷ []) xs ++ paths_after d ys) (append_assoc done (p ∷ []) (paths_after (done ++ p ∷ []) xs)))

pub children_paths : (done : List (List ℕ)) (id : ℕ) (p : List ℕ) (k c : ℕ) → slice_get done id ≡ Some p → paths_after done (places_of id k c) ≡ children_from p k c
children_paths done id p k zero h = refl
children_paths done id p k (suc c) h = rw h (ap (λ (ps : List (List ℕ)). (k ∷ p) ∷ ps) (children_paths (done ++ (k ∷ p) ∷ []) id p (suc k) c (get_left done ((k ∷ p) ∷ []) id p h)))

pub length-paths : (done : List (List ℕ)) (xs : List Place) → length (paths_after done xs) ≡ length xs
length-paths done [] = refl
length-paths done (x ∷ xs) = ap suc (length-paths (done ++ path_below (slice_get done x.parent) x.nth ∷ []) xs)

pub length-places : (parent k c : ℕ) → length (places_of parent k c) ≡ c
length-places parent k zero = refl
length-places parent k (suc c) = ap suc (length-places parent (suc k) c)

-- hanging children
pub hung : (xs : List Place) (id count : ℕ) → id < length xs → paths_of (xs ++ places_of id 0 count) ≡ paths_of xs ++ children_from (get_or (paths_of xs) id []) 0 count
hung xs id count lt =
    let at : slice_get (paths_of xs) id ≡ Some (get_or (paths_of xs) id []) = slice_get-get_or (paths_of xs) id [] (let a = length-paths [] xs in omega arith) in
    paths-append [] xs (places_of id 0 count) ∙ ap (λ (ps : List (List ℕ)). paths_of xs ++ ps) (children_paths (paths_of xs) id (get_or (paths_of xs) id []) 0 count at)

fresh_lower : (id k c i : ℕ) (y : Place) → slice_get (places_of id k c) i ≡ Some y → y.parent ≡ id
fresh_lower id k zero i y h = absurd cc
fresh_lower id k (suc c) zero y h = cc
fresh_lower id k (suc c) (suc i) y h = fresh_lower id (suc k) c i y h

pub arena_more : (xs : List Place) (id count : ℕ) → IsArena xs → id < length xs → length xs + count < 2 ^ 32 → IsArena (xs ++ places_of id 0 count)
arena_more xs id count arena lt room =
    let a = length-append xs (places_of id 0 count) in
    let b = length-places id 0 count in
    record {
      some = (let c = arena.some in omega arith);
      small = omega arith;
      lower = λ m x h. elim (appended_cases xs (places_of id 0 count) (suc m) x h) [
        | inl old ↦ arena.lower m x old
        | inr new ↦ let (k, sum, at) = new in (let e = fresh_lower id 0 count k x at in omega arith)
      ];
    }

pub arena_done : (xs later : List Place) (id count : ℕ) (paths : List (List ℕ)) → paths_of xs ≡ paths → IsArena xs → id < length paths → length paths + count < 2 ^ 32 → later ≡ xs ++ places_of id 0 count → IsArena later
arena_done xs later id count paths view arena within room is =
    let a = length-paths [] xs in
    let b = ap length view in
    rw is (arena_more xs id count arena (omega arith) (omega arith))

pub hung_done : (xs later : List Place) (id count : ℕ) (paths : List (List ℕ)) → paths_of xs ≡ paths → id < length paths → later ≡ xs ++ places_of id 0 count → paths_of later ≡ paths ++ children_from (get_or paths id []) 0 count
hung_done xs later id count paths view within is =
    let a = length-paths [] xs in
    let b = ap length view in
    ap paths_of is ∙ hung xs id count (omega arith) ∙ ap (λ (ps : List (List ℕ)). ps ++ children_from (get_or ps id []) 0 count) view

path_there : (done : List (List ℕ)) (xs : List Place) (i : ℕ) (x : Place) → slice_get xs i ≡ Some x → slice_get (paths_after done xs) i ≡ Some (path_below (slice_get (done ++ take i (paths_after done xs)) x.parent) x.nth)
path_there done [] i x h = absurd cc
path_there done (y ∷ ys) zero x h =
    let e : y ≡ x = cc in
    rw (e, append-nil done) refl
path_there done (y ∷ ys) (suc i) x h =
    let p = path_below (slice_get done y.parent) y.nth in
    path_there (done ++ p ∷ []) ys i x h ∙ ap (λ (d : List (List ℕ)). Some (path_below (slice_get d x.parent) x.nth)) (append_assoc done (p ∷ []) (take i (paths_after (done ++ p ∷ []) ys)))

early : {A : Type 0} (xs : List A) (i j : ℕ) → j < i → slice_get (take i xs) j ≡ slice_get xs j
early [] zero j lt = refl
early [] (suc i) j lt = refl
early (x ∷ xs) zero j lt = absurd (omega arith)
early (x ∷ xs) (suc i) zero lt = refl
early (x ∷ xs) (suc i) (suc j) lt = early xs i j (omega arith)

-- the path of a node but the root is its own number and its parent's path
pub path_at : (xs : List Place) (n : ℕ) (x : Place) → IsArena xs → slice_get xs (suc n) ≡ Some x → get_or (paths_of xs) (suc n) [] ≡ x.nth ∷ get_or (paths_of xs) x.parent []
path_at xs n x arena h =
    let low = arena.lower n x h in
    let lt = slice_get_within xs (suc n) x h in
    let parent : slice_get (paths_of xs) x.parent ≡ Some (get_or (paths_of xs) x.parent []) = slice_get-get_or (paths_of xs) x.parent [] (let a = length-paths [] xs in omega arith) in
    let e = early (paths_of xs) (suc n) x.parent low in
    get_or_from_slice_get (paths_of xs) (suc n) (x.nth ∷ get_or (paths_of xs) x.parent []) []
    (path_there [] xs (suc n) x h ∙ ap (λ (o : Option (List ℕ)). Some (path_below o x.nth)) (e ∙ parent))

pub path_root : (xs : List Place) → get_or (paths_of xs) 0 [] ≡ []
path_root [] = refl
path_root (x ∷ xs) = refl

or_then_assoc : (a b c : Ordering) → or_then (or_then a b) c ≡ or_then a (or_then b c)
or_then_assoc Less b c = refl
or_then_assoc Equal b c = refl
or_then_assoc Greater b c = refl

order_same : (p : List ℕ) → order p p ≡ Equal
order_same [] = refl
order_same (i ∷ p) = let e = order_same p in let f : nat_cmp i i ≡ Equal = sym (nat_cmp_is i i Equal refl) in rw (e, f) refl

other_root : (xs : List Place) (n : ℕ) → IsArena xs → n < length xs → n ≢ 0 → (i : ℕ) × (p : List ℕ) × (get_or (paths_of xs) n [] ≡ i ∷ p)
other_root xs zero arena lt ne = absurd (ne refl)
other_root xs (suc n) arena lt ne =
    let x = get_or xs (suc n) (record { parent = 0; nth = 0 }) in
    (x.nth, get_or (paths_of xs) x.parent [], path_at xs n x arena (slice_get-get_or xs (suc n) (record { parent = 0; nth = 0 }) lt))

pub a_ends : (xs : List Place) (b : ℕ) (below : Ordering) → IsArena xs → b < length xs → b ≢ 0 → Less ≡ or_then (order (get_or (paths_of xs) 0 []) (get_or (paths_of xs) b [])) below
a_ends xs b below arena lt ne = let z = other_root xs b arena lt ne in let e = z.2 in rw (path_root xs, e) refl

pub b_ends : (xs : List Place) (a : ℕ) (below : Ordering) → IsArena xs → a < length xs → a ≢ 0 → Greater ≡ or_then (order (get_or (paths_of xs) a []) (get_or (paths_of xs) 0 [])) below
b_ends xs a below arena lt ne = let z = other_root xs a arena lt ne in let e = z.2 in rw (path_root xs, e) refl

pub goes_up : (xs : List Place) (a b : ℕ) (x y : Place) (below : Ordering) → IsArena xs → a < length xs → b < length xs → a ≢ 0 → b ≢ 0 → slice_get xs a ≡ Some x → slice_get xs b ≡ Some y
    → or_then (order (get_or (paths_of xs) a []) (get_or (paths_of xs) b [])) below ≡ or_then (order (get_or (paths_of xs) x.parent []) (get_or (paths_of xs) y.parent [])) (or_then (nat_cmp x.nth y.nth) below)
goes_up xs zero b x y below arena lt lt2 ne ne2 h g = absurd (ne refl)
goes_up xs (suc a) zero x y below arena lt lt2 ne ne2 h g = absurd (ne2 refl)
goes_up xs (suc a) (suc b) x y below arena lt lt2 ne ne2 h g =
    let e = path_at xs a x arena h in
    let f = path_at xs b y arena g in
    rw (e, f) (or_then_assoc (order (get_or (paths_of xs) x.parent []) (get_or (paths_of xs) y.parent [])) (nat_cmp x.nth y.nth) below)

pub lower_at : (xs : List Place) (a : ℕ) (x : Place) → IsArena xs → a ≢ 0 → slice_get xs a ≡ Some x → x.parent < a
lower_at xs zero x arena ne h = absurd (ne refl)
lower_at xs (suc a) x arena ne h = arena.lower a x h

pub order_equal : (xs : List Place) (a b : ℕ) (below : Ordering) → a ≡ b → below ≡ or_then (order (get_or (paths_of xs) a []) (get_or (paths_of xs) b [])) below
order_equal xs a b below e = let f = order_same (get_or (paths_of xs) b []) in rw (e, f) refl

-- a path is no longer than its number
pub path_short : (xs : List Place) (fuel n : ℕ) → n ≤ fuel → IsArena xs → n < length xs → length (get_or (paths_of xs) n []) ≤ n
path_short xs fuel zero le arena lt = let e = path_root xs in rw e (omega arith)
path_short xs zero (suc n) le arena lt = absurd (omega arith)
path_short xs (suc fuel) (suc n) le arena lt =
    let x = get_or xs (suc n) (record { parent = 0; nth = 0 }) in
    let h = slice_get-get_or xs (suc n) (record { parent = 0; nth = 0 }) lt in
    let low = arena.lower n x h in
    let e = path_at xs n x arena h in
    let f = path_short xs fuel x.parent (omega arith) arena (omega arith) in
    rw e (omega arith)

-- the path of a node but the root, whatever its number
pub path_below_parent : (xs : List Place) (n : ℕ) (x : Place) → IsArena xs → n ≢ 0 → slice_get xs n ≡ Some x → get_or (paths_of xs) n [] ≡ x.nth ∷ get_or (paths_of xs) x.parent []
path_below_parent xs zero x arena ne h = absurd (ne refl)
path_below_parent xs (suc n) x arena ne h = path_at xs n x arena h
