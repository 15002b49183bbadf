-- The word at a place.
use Rattle.std.proofs.Common.{◌≡◌, ◌∙◌, sym, ap, ℕ, List, []}
use Rattle.std.specs.Prelude.{Option, None, Some, map, option_map, slice_get, unwrap_or}
use Rattle.std.specs.Borrow.{Bor}
use Rattle.std.proofs.lemmas.Option.{slice_get-map}
use Rattle.command_words.specs.Words.{texts}

pub word_there : (words : List (Bor (List ℕ))) (k : ℕ) (word : Bor (List ℕ)) → slice_get words k ≡ Some word → word.now ≡ unwrap_or (slice_get (texts words) k) []
word_there words k word e = sym (ap (λ (o : Option (List ℕ)). unwrap_or o []) (slice_get-map (λ (w : Bor (List ℕ)). w.now) words k ∙ ap (option_map (λ (w : Bor (List ℕ)). w.now)) e))

pub no_word : (words : List (Bor (List ℕ))) (k : ℕ) → slice_get words k ≡ None → [] ≡ unwrap_or (slice_get (texts words) k) []
no_word words k e = sym (ap (λ (o : Option (List ℕ)). unwrap_or o []) (slice_get-map (λ (w : Bor (List ℕ)). w.now) words k ∙ ap (option_map (λ (w : Bor (List ℕ)). w.now)) e))
