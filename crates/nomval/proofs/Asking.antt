-- What a command's reader of words answers, as what the table says.
use Rattle.std.proofs.Common.{◌≡◌, ap, ℕ}
use Rattle.std.specs.Prelude.{Result, Ok, Err}
use Rattle.command_words.specs.Forms.{Filled}
use Rattle.command_words.specs.Words.{◌>>=◌}

module _ {Asked Command : Type 0} (words_of : Filled → Asked) (command : Asked → Command) where
  -- words of the form ask for the command
  pub asked_for : (read : Result Filled ℕ) (words : Asked) → Ok words ≡ (read >>= λ filled. Ok (words_of filled)) → Ok (command words) ≡ (read >>= λ filled. Ok (command (words_of filled)))
  asked_for (Ok filled) words e = let same : words ≡ words_of filled = cc in ap (λ x. Ok (command x)) same
  asked_for (Err n) words e = absurd (cc)

  -- others are named by the same place
  pub asked_not : (read : Result Filled ℕ) (at : ℕ) → Err at ≡ (read >>= λ filled. Ok (words_of filled)) → Err at ≡ (read >>= λ filled. Ok (command (words_of filled)))
  asked_not (Ok filled) at e = absurd (cc)
  asked_not (Err n) at e = let same : at ≡ n = cc in ap Err same
