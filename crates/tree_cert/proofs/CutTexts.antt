-- The nodes of a cut are read as their text says, and the text says what they are read as.
use Rattle.std.proofs.Common.{◌≡◌, ◌≤◌, inl, inr, ℕ, List, [], ◌∷◌, ◌++◌, map, Bool, true, false, cond, Option, Some, None, refl, sym, ap, ◌∙◌, arith}
use Rattle.std.specs.Prelude.{◌==◌, option_map, option_and_then, nat_le}
use Rattle.std.specs.List.{list_all, slice_split, onto_first, AllByRecursion}
use Rattle.std.proofs.lemmas.Bool.{eqb-true, ne_eqb, and_parts}
use Rattle.std.proofs.lemmas.Bool.Decides.{leb_tells}
use Rattle.std.proofs.lemmas.List.{append-nil}
use Rattle.std.proofs.lemmas.List.Splits.{slice_split_none, slice_split_at}
use Rattle.std.proofs.lemmas.List.Elements.{All-from_recursion}
use Rattle.line_text.specs.Numerals.{numeral, natural}
use Rattle.line_text.specs.Long.{fits_position, fitting}
use Rattle.line_text.proofs.Fields.{IsVisible, numeral_visible}
use Rattle.line_text.proofs.Numbers.{natural_again, natural_takes, mapped, bound}
use Rattle.tree_cert.specs.Spelling.{is_node_list}
use Rattle.tree_cert.specs.Reading.{spaced_words, naturals, node_list, nodes_at}
use Rattle.tree_cert.proofs.FieldTexts.{spaced}

abbrev is_space : ℕ → Bool
is_space b = b == 32

abbrev NoSpace : List ℕ → Type 0
NoSpace w = AllByRecursion (λ b. is_space b ≡ false) w

visible_no_space : (w : List ℕ) → IsVisible w → NoSpace w
visible_no_space [] e = tt
visible_no_space (b ∷ w) e =
    let p = and_parts (nat_le 33 b) (list_all (λ b. nat_le 33 b) w) e in
    let high : 33 ≤ b = elim (leb_tells 33 b) [ inl h ↦ h.1 | inr h ↦ absurd (let f = h.0 in let t = p.0 in cc) ] in
    (ne_eqb b 32 (λ is. omega (arith, is, high)), visible_no_space w p.1)

abbrev AreUnspaced : List (List ℕ) → Type 0
AreUnspaced ws = AllByRecursion NoSpace ws

split_spaced : (w : List ℕ) (ws : List (List ℕ)) → NoSpace w → AreUnspaced ws → slice_split is_space (w ++ spaced ws) ≡ w ∷ ws
split_spaced w [] h hs = ap (slice_split is_space) (append-nil w) ∙ slice_split_none is_space w (All-from_recursion (λ b. is_space b ≡ false) w h)
split_spaced w (v ∷ ws) h hs =
    slice_split_at is_space w 32 (v ++ spaced ws) (All-from_recursion (λ b. is_space b ≡ false) w h) refl
    ∙ ap (λ (k : List (List ℕ)). w ∷ k) (split_spaced v ws hs.0 hs.1)

words_again : (ws : List (List ℕ)) → AreUnspaced ws → spaced_words (spaced ws) ≡ Some ws
words_again [] hs = refl
words_again (w ∷ ws) hs = ap Some (split_spaced w ws hs.0 hs.1)

numerals_unspaced : (ns : List ℕ) → AreUnspaced (map numeral ns)
numerals_unspaced [] = tt
numerals_unspaced (n ∷ ns) = (visible_no_space (numeral n) (numeral_visible n), numerals_unspaced ns)

naturals_again : (ns : List ℕ) → naturals (map numeral ns) ≡ Some ns
naturals_again [] = refl
naturals_again (n ∷ ns) = rw (natural_again n, naturals_again ns) refl

pub nodes_again : (ns : List ℕ) → is_node_list ns ≡ true → nodes_at (spaced (map numeral ns)) ≡ Some (fitting (list_all fits_position) ns)
nodes_again ns list = rw (words_again (map numeral ns) (numerals_unspaced ns), naturals_again ns, list) refl

-- ---- and back

tail_of : (b : ℕ) (xs ys : List ℕ) → b ∷ xs ≡ b ∷ ys → xs ≡ ys
tail_of b xs ys e = cc

spaced_parts : (bs : List ℕ) → spaced (slice_split is_space bs) ≡ 32 ∷ bs
spaced_parts [] = refl
spaced_parts (x ∷ xs) = by (x == 32) refl (slice_split is_space xs) (spaced_parts xs)
  where
    onto : (parts : List (List ℕ)) → spaced parts ≡ 32 ∷ xs → spaced (onto_first x parts) ≡ 32 ∷ (x ∷ xs)
    onto [] e = absurd cc
    onto (part ∷ parts) e = ap (λ (k : List ℕ). 32 ∷ (x ∷ k)) (tail_of 32 (part ++ spaced parts) xs e)

    by : (b : Bool) → (x == 32) ≡ b → (parts : List (List ℕ)) → spaced parts ≡ 32 ∷ xs → spaced (cond b ([] ∷ parts) (onto_first x parts)) ≡ 32 ∷ (x ∷ xs)
    by true h parts e = ap (λ (k : List ℕ). 32 ∷ k) (e ∙ ap (λ (d : ℕ). d ∷ xs) (sym (eqb-true x 32 h)))
    by false h parts e = onto parts e

words_take : (bytes : List ℕ) (ws : List (List ℕ)) → spaced_words bytes ≡ Some ws → bytes ≡ spaced ws
words_take [] ws e = let same : [] ≡ ws = cc in ap spaced same
words_take (c ∷ rest) ws e = by (c == 32) refl e
  where
    by : (b : Bool) → (c == 32) ≡ b → cond b (Some (slice_split is_space rest)) None ≡ Some ws → c ∷ rest ≡ spaced ws
    by true h k =
        let same : slice_split is_space rest ≡ ws = cc in
        ap (λ (d : ℕ). d ∷ rest) (eqb-true c 32 h) ∙ sym (spaced_parts rest) ∙ ap spaced same
    by false h k = absurd cc

naturals_take : (ws : List (List ℕ)) (ns : List ℕ) → naturals ws ≡ Some ns → ws ≡ map numeral ns
naturals_take [] ns e = let same : [] ≡ ns = cc in ap (map numeral) same
naturals_take (w ∷ ws) ns e =
    let n = bound (λ n. option_map (λ ns. n ∷ ns) (naturals ws)) (natural w) ns e in
    let ms = mapped (λ ms. n.0 ∷ ms) (naturals ws) ns n.2 in
    ap (λ (k : List ℕ). k ∷ ws) (natural_takes w n.0 n.1) ∙ ap (λ (k : List (List ℕ)). numeral n.0 ∷ k) (naturals_take ws ms.0 ms.1) ∙ ap (map numeral) ms.2

if_list : (ms : List ℕ) (o : Option (List ℕ)) → node_list ms ≡ Some o → (is_node_list ms ≡ true) × (fitting (list_all fits_position) ms ≡ o)
if_list ms o e = by (is_node_list ms) refl e
  where
    by : (b : Bool) → is_node_list ms ≡ b → cond b (Some (fitting (list_all fits_position) ms)) None ≡ Some o → (is_node_list ms ≡ true) × (fitting (list_all fits_position) ms ≡ o)
    by true h k = (h, cc)
    by false h k = absurd cc

pub nodes_take : (bytes : List ℕ) (o : Option (List ℕ)) → nodes_at bytes ≡ Some o → (ns : List ℕ) × (bytes ≡ spaced (map numeral ns)) × (is_node_list ns ≡ true) × (o ≡ fitting (list_all fits_position) ns)
nodes_take bytes o e =
    let ms = bound node_list (option_and_then naturals (spaced_words bytes)) o e in
    let ws = bound naturals (spaced_words bytes) ms.0 ms.1 in
    let l = if_list ms.0 o ms.2 in
    (ms.0, words_take bytes ws.0 ws.1 ∙ ap spaced (naturals_take ws.0 ms.0 ws.2), l.0, sym l.1)
