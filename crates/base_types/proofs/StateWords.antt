-- Each state has a word of its own.
use Rattle.std.proofs.Common.{◌≡◌, ◌∙◌, refl, ap, ℕ, List, [], ◌∷◌, Bool, true, false, cond, Some}
use Rattle.std.specs.List.{find}
use Rattle.std.specs.Str.{bytes_eq}
use Rattle.std.proofs.lemmas.Slice.Eq.{bytes_eq-Decides}
use Rattle.base_types.specs.declared.states.ArcState.{ArcState}
use Rattle.base_types.specs.declared.states.ArcState.TheVariants.{Opened, Shut, Active, Bypass}
use Rattle.base_types.specs.StateWords.{state_word, state_named, all_states}

-- a state's word names it
pub word_names : (s : ArcState) → state_named (state_word s) ≡ Some s
word_names Opened = refl
word_names Shut = refl
word_names Active = refl
word_names Bypass = refl

-- what is found for a word has that word
found_word : (word : List ℕ) (states : List ArcState) (s : ArcState) → find (λ t. bytes_eq word (state_word t)) states ≡ Some s → word ≡ state_word s
found_word word [] s e = absurd cc
found_word word (t ∷ states) s e = by (bytes_eq word (state_word t)) (found_word word states s) refl e
  where
    by : (b : Bool) → (find (λ x. bytes_eq word (state_word x)) states ≡ Some s → word ≡ state_word s) → bytes_eq word (state_word t) ≡ b → cond b (Some t) (find (λ x. bytes_eq word (state_word x)) states) ≡ Some s → word ≡ state_word s
    by true later h f = let same : t ≡ s = cc in (bytes_eq-Decides word (state_word t)).0 h ∙ ap state_word same
    by false later h f = later f

-- a state is named by its word alone
pub named_only : (word : List ℕ) (s : ArcState) → state_named word ≡ Some s → word ≡ state_word s
named_only word s e = found_word word all_states s e
