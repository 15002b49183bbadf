-- The words of the command line, and steps along them that may stop at a word.
use Rattle.std.specs.Prelude.{ℕ, List, [], ◌∷◌, Bool, false, not, ◌==◌, map, Result, Ok, Err}
use Rattle.std.specs.Borrow.{Bor}

-- words, as texts
abbrev pub Words : Type 0
Words = List (List ℕ)

abbrev pub texts : List (Bor (List ℕ)) → Words
texts words = map (λ word. word.now) words

-- what comes after the first words, or the place where those leave the form
infixl 10 ◌>>=◌
abbrev pub ◌>>=◌ : {A B : Type 0} → Result A ℕ → (A → Result B ℕ) → Result B ℕ
(Ok x) >>= f = f x
(Err e) >>= f = Err e

-- a word that names a file: not empty, and it doesn't begin with a dash
abbrev pub is_file_word : List ℕ → Bool
is_file_word [] = false
is_file_word (first ∷ rest) = not (first == 45)
