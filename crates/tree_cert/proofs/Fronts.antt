-- What is added piece by piece.
use Rattle.std.proofs.Common.{◌≡◌, ◌<◌, ℕ, suc, List, [], ◌∷◌, ◌++◌, length, map, take, drop, get_or, Result, Ok, Err, refl, sym, ap, subst, ◌∙◌, append_assoc, take-append-drop}
use Rattle.std.specs.Prelude.{OnOk, OnErr, IsErr}
use Rattle.line_text.specs.Numerals.{numeral}
use Rattle.std.specs.List.{flat_map}
use Rattle.std.proofs.lemmas.Grind.{flat_map-append}
use Rattle.std.proofs.lemmas.List.{append-nil}
use Rattle.std.proofs.Math.Seq.{drop-cons}
use Rattle.base_types.specs.declared.collections.NoMemory.{NoMemory}
use Rattle.tree_cert.specs.Writing.{Adds, AddsFront}

-- all of it, or nothing
pub adds_whole : (r : Result (Unit {0}) NoMemory) (before after piece : List ℕ) → OnOk r (after ≡ before ++ piece) → OnErr r (after ≡ before) → Adds r before after piece
adds_whole (Ok u) before after piece h k = h
adds_whole (Err e) before after piece h k = ([], piece, k ∙ sym (append-nil before), refl)

-- another piece after the first one
pub adds_after : (r : Result (Unit {0}) NoMemory) (before between after a b : List ℕ) → between ≡ before ++ a → Adds r between after b → Adds r before after (a ++ b)
adds_after (Ok u) before between after a b e h = h ∙ ap (λ (k : List ℕ). k ++ b) e ∙ append_assoc before a b
adds_after (Err f) before between after a b e h =
    (a ++ h.0, h.1, h.2 ∙ ap (λ (k : List ℕ). k ++ h.0) e ∙ append_assoc before a h.0, append_assoc a h.0 h.1 ∙ ap (λ (k : List ℕ). a ++ k) h.3)

-- a front of the first of two pieces
pub front_of_first : (before after a b : List ℕ) → AddsFront before after a → AddsFront before after (a ++ b)
front_of_first before after a b h = (h.0, h.1 ++ b, h.2, sym (append_assoc h.0 h.1 b) ∙ ap (λ (k : List ℕ). k ++ b) h.3)

pub err_adds : (r : Result (Unit {0}) NoMemory) (before after piece : List ℕ) → IsErr r → AddsFront before after piece → Adds r before after piece
err_adds (Ok u) before after piece is h = absurd cc
err_adds (Err e) before after piece is h = h

-- a front of a later piece, where the pieces before it were added
pub front_after : (before between after a b : List ℕ) → between ≡ before ++ a → AddsFront between after b → AddsFront before after (a ++ b)
front_after before between after a b e h =
    (a ++ h.0, h.1, h.2 ∙ ap (λ (k : List ℕ). k ++ h.0) e ∙ append_assoc before a h.0, append_assoc a h.0 h.1 ∙ ap (λ (k : List ℕ). a ++ k) h.3)

whole_at : {X : Type 0} (f : X → List ℕ) (xs : List X) (i : ℕ) (d : X) → i < length xs → flat_map f (take i xs) ++ (f (get_or xs i d) ++ flat_map f (drop (suc i) xs)) ≡ flat_map f xs
whole_at f xs i d lt =
    sym (flat_map-append f (take i xs) (get_or xs i d ∷ drop (suc i) xs))
    ∙ ap (λ ys. flat_map f (take i xs ++ ys)) (sym (drop-cons xs i d lt)) ∙ ap (flat_map f) (take-append-drop i xs)

-- a front of all pieces, where those before the place i were added, and a front of this one
pub front_at : {X : Type 0} (f : X → List ℕ) (xs : List X) (i : ℕ) (d : X) (before between after : List ℕ) → i < length xs → between ≡ before ++ flat_map f (take i xs)
    → AddsFront between after (f (get_or xs i d)) → AddsFront before after (flat_map f xs)
front_at f xs i d before between after lt e h =
    subst (AddsFront before after) (whole_at f xs i d lt)
    (front_after before between after (flat_map f (take i xs)) (f (get_or xs i d) ++ flat_map f (drop (suc i) xs)) e (front_of_first between after (f (get_or xs i d)) (flat_map f (drop (suc i) xs)) h))

-- pieces that are words after a space each
pub spaced_pieces : (ns : List ℕ) → flat_map (λ n. 32 ∷ numeral n) ns ≡ flat_map (λ field. 32 ∷ field) (map numeral ns)
spaced_pieces [] = refl
spaced_pieces (n ∷ ns) = ap (λ (k : List ℕ). 32 ∷ (numeral n ++ k)) (spaced_pieces ns)
