-- Where a text is cut.
use Rattle.std.proofs.Common.{◌≡◌, ◌≤◌, ◌<◌, ℕ, ◌+◌, List, ◌∷◌, ◌++◌, length, take, drop, get_or, Bool, false, not, refl, ap, subst, ◌∙◌, arith}
use Rattle.std.specs.Prelude.{◌==◌}
use Rattle.std.specs.List.{list_all, position_or_len}
use Rattle.std.proofs.lemmas.Bool.{eqb-true}
use Rattle.std.proofs.lemmas.List.{get_or-take, length-take, take_all}
use Rattle.std.proofs.lemmas.List.Sums.{split_at_first, passes_at_first, fails_before_first}
use Rattle.std.proofs.lemmas.List.Recursion.{and_from_places}
use Rattle.line_text.specs.Lines.{HasNoFeed}

abbrev is_feed : ℕ → Bool
is_feed b = b == 10

no_feed : (xs : List ℕ) → ((k : ℕ) → k < length xs → is_feed (get_or xs k 0) ≡ false) → HasNoFeed xs
no_feed xs h = and_from_places (list_all (λ b. not (b == 10))) (λ b. not (b == 10)) refl (λ _ _. refl) xs 0 (λ k lt. ap not (h k lt))

front : (xs : List ℕ) (n : ℕ) → n ≡ position_or_len is_feed xs → HasNoFeed (take n xs)
front xs n e =
    no_feed (take n xs) (λ k lt.
    let under : k < n = omega (arith, length-take n xs) in
    let first : k < position_or_len is_feed xs = omega (arith, e, under) in
    rw (get_or-take n xs k 0 under) (fails_before_first is_feed xs k 0 first))

pub cut_at : (xs : List ℕ) (n : ℕ) → n ≡ position_or_len is_feed xs → n < length xs → (xs ≡ take n xs ++ 10 ∷ drop (n + 1) xs) × HasNoFeed (take n xs)
cut_at xs n e lt =
    let under : position_or_len is_feed xs < length xs = omega (arith, e, lt) in
    let here : get_or xs (position_or_len is_feed xs) 0 ≡ 10 = eqb-true _ _ (passes_at_first is_feed xs 0 under) in
    let whole = split_at_first is_feed xs 0 under in
    (whole ∙ rw (here, ← e) refl, front xs n e)

pub uncut : (xs : List ℕ) (n : ℕ) → n ≡ position_or_len is_feed xs → length xs ≤ n → HasNoFeed xs
uncut xs n e le = subst HasNoFeed (take_all n xs le) (front xs n e)
