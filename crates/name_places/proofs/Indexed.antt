-- What an index of names has after a name more, and which names it has.
use Rattle.std.proofs.Common.{◌≡◌, ℕ, ◌+◌, ◌<◌, ◌≤◌, Bool, true, false, cond, ◌||◌, not, eqb, ltb, List, [], ◌∷◌, ◌++◌, length, Option, None, Some, refl, sym, ap, ◌∙◌, arith, Bor, suc}
use Rattle.std.specs.Prelude.{position, is_some, IfSome}
use Rattle.std.specs.List.{list_any, position_or_len}
use Rattle.std.specs.Option.{option_or}
use Rattle.std.specs.Str.{bytes_eq}
use Rattle.std.specs.Ordering.{nat_cmp}
use Rattle.std.specs.Cmp.Lexicographic.{slice_cmp}
use Rattle.std.specs.BTreeMap.{BTreeMap, UpdatesBy}
use Rattle.std.proofs.lemmas.Bool.{lt-ltb, ltb-true}
use Rattle.std.proofs.lemmas.Bool.Decides.{nat_tests}
use Rattle.std.proofs.lemmas.Map.Text.{btree_map_updates_str}
use Rattle.std.proofs.lemmas.Slice.Eq.{bytes_eq-Decides}
use Rattle.std.proofs.lemmas.List.Folds.{position_or_len_push}
use Rattle.std.proofs.Math.ListN.{length-append}
use Rattle.name_places.specs.ByName.{look}
use Rattle.name_places.specs.Index.{IsIndexOf}
use Rattle.base_types.specs.Names.{texts}

-- names are compared either way round
pub either_way : (xs ys : List ℕ) → bytes_eq xs ys ≡ bytes_eq ys xs
either_way xs ys = grind (arith, bytes_eq-Decides xs ys, bytes_eq-Decides ys xs)

-- the value of a name after one was set
pub look_set : {V : Type 0} (name : List ℕ) (m n : BTreeMap (Bor (List ℕ)) V) (w : Option V)
    → UpdatesBy (λ x y. slice_cmp nat_cmp x.now y.now) (λ k. slice_cmp nat_cmp name k.now) m n w
    → (id : List ℕ) → look n id ≡ cond (bytes_eq id name) w (look m id)
look_set name m n w updates id = btree_map_updates_str name m n w updates id ∙ ap (λ b. cond b w (look m id)) (either_way name id)

len_within : {X : Type 0} (p : X → Bool) (xs : List X) → position_or_len p xs ≤ length xs
len_within p [] = arith_le
  where
    arith_le : 0 ≤ 0
    arith_le = omega arith
len_within p (x ∷ xs) = by (p x) (len_within p xs)
  where
    by : (b : Bool) → position_or_len p xs ≤ length xs → cond (not b) (1 + position_or_len p xs) 0 ≤ suc (length xs)
    by true h = omega arith
    by false h = omega arith

-- the first of two places that passes, where the list before it may have one
first_or_last : (a n : ℕ) (b : Bool) → a ≤ n
    → cond (ltb (cond (eqb a n) (n + cond b 0 1) a) (n + 1)) (Some (cond (eqb a n) (n + cond b 0 1) a)) None ≡ option_or (cond (ltb a n) (Some a) None) (cond b (Some n) None)
first_or_last a n true le = grind (arith, nat_tests)
first_or_last a n false le = grind (arith, nat_tests)

pub position_push : {X : Type 0} (p : X → Bool) (xs : List X) (y : X) → position p (xs ++ y ∷ []) ≡ option_or (position p xs) (cond (p y) (Some (length xs)) None)
position_push p xs y =
    let size : length (xs ++ y ∷ []) ≡ length xs + 1 = length-append xs (y ∷ []) in
    rw (position_or_len_push p xs y, size) (first_or_last (position_or_len p xs) (length xs) (p y) (len_within p xs))

-- a name is there where it has a place
pub any_position : {X : Type 0} (p : X → Bool) (xs : List X) → is_some (position p xs) ≡ list_any p xs
any_position p [] = refl
any_position p (x ∷ xs) = by (p x) (any_position p xs)
  where
    less_more : (a n : ℕ) → ltb (1 + a) (suc n) ≡ ltb a n
    less_more a n = grind (arith, nat_tests)

    some_of : (b : Bool) (n : ℕ) → is_some (cond b (Some n) None) ≡ b
    some_of true n = refl
    some_of false n = refl

    by : (b : Bool) → is_some (position p xs) ≡ list_any p xs
        → is_some (cond (ltb (cond (not b) (1 + position_or_len p xs) 0) (suc (length xs))) (Some (cond (not b) (1 + position_or_len p xs) 0)) None) ≡ (b || list_any p xs)
    by true h = some_of (ltb 0 (suc (length xs))) 0 ∙ lt-ltb 0 (suc (length xs)) (omega arith)
    by false h = some_of (ltb (1 + position_or_len p xs) (suc (length xs))) (1 + position_or_len p xs) ∙ less_more (position_or_len p xs) (length xs) ∙ sym (some_of (ltb (position_or_len p xs) (length xs)) (position_or_len p xs)) ∙ h

-- a place is one of the list
pub place_within : {X : Type 0} (p : X → Bool) (xs : List X) → IfSome (position p xs) (λ i. i < length xs)
place_within p xs = by (ltb (position_or_len p xs) (length xs)) refl
  where
    by : (b : Bool) → ltb (position_or_len p xs) (length xs) ≡ b → IfSome (cond b (Some (position_or_len p xs)) None) (λ i. i < length xs)
    by true h = ltb-true _ _ h
    by false h = tt

texts_push : (ks : List (Bor (List ℕ))) (k : Bor (List ℕ)) → texts (ks ++ k ∷ []) ≡ texts ks ++ k.now ∷ []
texts_push [] k = refl
texts_push (x ∷ ks) k = ap (λ l. x.now ∷ l) (texts_push ks k)

texts_len : (ks : List (Bor (List ℕ))) → length (texts ks) ≡ length ks
texts_len [] = refl
texts_len (k ∷ ks) = ap suc (texts_len ks)

-- a new name at the end gets the next place
pub index_push : (m n : BTreeMap (Bor (List ℕ)) ℕ) (ks : List (Bor (List ℕ))) (k : Bor (List ℕ)) (place : ℕ) → place ≡ length ks → look m k.now ≡ None → IsIndexOf m (texts ks)
    → UpdatesBy (λ x y. slice_cmp nat_cmp x.now y.now) (λ q. slice_cmp nat_cmp k.now q.now) m n (Some place)
    → IsIndexOf n (texts (ks ++ k ∷ []))
index_push m n ks k place next absent is_index updates id =
    look_set k.now m n (Some place) updates id ∙ by (bytes_eq id k.now) refl
    ∙ sym (position_push (bytes_eq id) (texts ks) k.now) ∙ ap (position (bytes_eq id)) (sym (texts_push ks k))
  where
    same : bytes_eq id k.now ≡ true → id ≡ k.now
    same h = grind (arith, bytes_eq-Decides id k.now)

    at_end : (o : Option ℕ) (i j : ℕ) → o ≡ None → i ≡ j → Some i ≡ option_or o (Some j)
    at_end o i j none eq = rw (none, eq) refl

    or_none : (o : Option ℕ) → o ≡ option_or o None
    or_none None = refl
    or_none (Some v) = refl

    by : (b : Bool) → bytes_eq id k.now ≡ b → cond b (Some place) (look m id) ≡ option_or (position (bytes_eq id) (texts ks)) (cond b (Some (length (texts ks))) None)
    by true h = at_end (position (bytes_eq id) (texts ks)) place (length (texts ks)) (sym (is_index id) ∙ ap (look m) (same h) ∙ absent) (next ∙ sym (texts_len ks))
    by false h = is_index id ∙ or_none (position (bytes_eq id) (texts ks))

pub none_there : {X : Type 0} (o : Option X) → is_some o ≡ false → o ≡ None
none_there None h = refl
none_there (Some x) h = absurd cc
