-- What a loop keeps of the items of a list: the first of each key, or which keys there are.
use Rattle.std.proofs.Common.{◌≡◌, ℕ, ◌+◌, ◌<◌, ◌≤◌, Bool, true, false, cond, ◌||◌, List, [], ◌∷◌, length, take, drop, get_or, Option, None, Some, refl, sym, ap, ◌∙◌}
use Rattle.std.specs.Prelude.{option_map}
use Rattle.std.specs.List.{find, list_any}
use Rattle.std.specs.Option.{option_or}
use Rattle.std.proofs.Math.ListN.{drop_of_length-le}
use Rattle.std.proofs.lemmas.List.{drop_more}
use Rattle.std.proofs.lemmas.List.Folds.{list_any-append}
use Rattle.gas_model.proofs.Decided.{take_item}

-- what is left of a list, from an item on
pub drop_item : {X : Type 0} (xs : List X) (i : ℕ) (x : X) → i < length xs → x ≡ get_or xs i x → drop i xs ≡ x ∷ drop (i + 1) xs
drop_item xs i x lt is = drop_more xs i x lt ∙ ap (λ y. y ∷ drop (i + 1) xs) (sym is)

pub or_none : {V : Type 0} (o : Option V) → option_or o None ≡ o
or_none None = refl
or_none (Some v) = refl

pub or_false : (b : Bool) → (b || false) ≡ b
or_false true = refl
or_false false = refl

or_assoc : (a b c : Bool) → ((a || b) || c) ≡ (a || (b || c))
or_assoc true b c = refl
or_assoc false b c = refl

module _ {Q X V : Type 0} (test : Q → X → Bool) (value : X → V) where
  -- the value of the first item of each key
  abbrev pub firsts : List X → Q → Option V
  firsts xs q = option_map value (find (test q) xs)

  -- this item alone
  abbrev pub only : X → Q → Option V
  only x q = cond (test q x) (Some (value x)) None

  turn : (old : Option V) (q : Q) (x : X) (xs : List X) → option_or (option_or old (only x q)) (firsts xs q) ≡ option_or old (firsts (x ∷ xs) q)
  turn (Some v) q x xs = refl
  turn None q x xs = by (test q x)
    where
      by : (b : Bool) → option_or (cond b (Some (value x)) None) (option_map value (find (test q) xs)) ≡ option_map value (cond b (Some x) (find (test q) xs))
      by true = refl
      by false = refl

  -- what was found in the items before a place is had before what the later ones have
  pub record Kept (found : Q → Option V) (xs : List X) (i : ℕ) : Type 0 where
    pub are : (q : Q) → option_or (found q) (firsts (drop i xs) q) ≡ firsts xs q

  pub kept_more : (old next : Q → Option V) (xs : List X) (i : ℕ) (x : X) → i < length xs → x ≡ get_or xs i x
      → ((q : Q) → next q ≡ option_or (old q) (only x q)) → Kept old xs i → Kept next xs (i + 1)
  kept_more old next xs i x lt is e so_far = record {
    are = λ q. ap (λ o. option_or o (firsts (drop (i + 1) xs) q)) (e q)
        ∙ turn (old q) q x (drop (i + 1) xs)
        ∙ ap (λ l. option_or (old q) (firsts l q)) (sym (drop_item xs i x lt is))
        ∙ so_far.are q;
  }

  pub kept_all : (found : Q → Option V) (xs : List X) (i : ℕ) → length xs ≤ i → Kept found xs i → (q : Q) → found q ≡ firsts xs q
  kept_all found xs i le so_far q =
      sym (or_none (found q)) ∙ ap (λ l. option_or (found q) (firsts l q)) (sym (drop_of_length-le xs le)) ∙ so_far.are q

module _ {Q X : Type 0} (test : Q → X → Bool) where
  -- which keys were among the items before a place, and which are among the later ones
  pub record Noted (noted : Q → Bool) (xs : List X) (i : ℕ) : Type 0 where
    pub are : (q : Q) → (noted q || list_any (test q) (drop i xs)) ≡ list_any (test q) xs

  pub noted_more : (old next : Q → Bool) (xs : List X) (i : ℕ) (x : X) → i < length xs → x ≡ get_or xs i x
      → ((q : Q) → next q ≡ (old q || test q x)) → Noted old xs i → Noted next xs (i + 1)
  noted_more old next xs i x lt is e so_far = record {
    are = λ q. ap (λ b. b || list_any (test q) (drop (i + 1) xs)) (e q)
        ∙ or_assoc (old q) (test q x) (list_any (test q) (drop (i + 1) xs))
        ∙ ap (λ l. old q || list_any (test q) l) (sym (drop_item xs i x lt is))
        ∙ so_far.are q;
  }

  pub noted_all : (noted : Q → Bool) (xs : List X) (i : ℕ) → length xs ≤ i → Noted noted xs i → (q : Q) → noted q ≡ list_any (test q) xs
  noted_all noted xs i le so_far q =
      sym (or_false (noted q)) ∙ ap (λ l. noted q || list_any (test q) l) (sym (drop_of_length-le xs le)) ∙ so_far.are q

  -- which keys are among the items before the next place
  pub seen_more : (old next : Q → Bool) (xs : List X) (i : ℕ) (x : X) → i < length xs → x ≡ get_or xs i x
      → ((q : Q) → next q ≡ (old q || test q x)) → ((q : Q) → old q ≡ list_any (test q) (take i xs)) → (q : Q) → next q ≡ list_any (test q) (take (i + 1) xs)
  seen_more old next xs i x lt is e so_far q =
      e q ∙ ap (λ b. b || test q x) (so_far q) ∙ ap (λ b. list_any (test q) (take i xs) || b) (sym (or_false (test q x)))
      ∙ sym (list_any-append (test q) (take i xs) (x ∷ [])) ∙ ap (list_any (test q)) (sym (take_item xs i x lt is))
