-- Where words leave the form of a command.
use Rattle.std.proofs.Common.{◌≡◌, ◌∙◌, sym, ap, refl, ℕ, ◌+◌, Bool, true, false, cond, List, [], ◌∷◌}
use Rattle.std.specs.Prelude.{Option, None, Some, Result, Ok, Err, ok_or, option_and_then}
use Rattle.line_text.specs.Numerals.{natural}
use Rattle.command_words.specs.declared.form.Part.{Part}
use Rattle.command_words.specs.declared.form.Part.TheVariants.{File, Number}
use Rattle.command_words.specs.declared.options.Offer.{Offer}
use Rattle.command_words.specs.Counts.{count_of}
use Rattle.command_words.specs.Forms.{Form, Filled, filled_with, number_in, part_in, parts_at, read_form}
use Rattle.command_words.specs.Options.{Options, none_given, options_at}
use Rattle.command_words.specs.Words.{Words, ◌>>=◌, is_file_word}
use Rattle.command_words.proofs.WrongWords.{IsStop, Stops, err, map_stops, same_stops, word_stops, wrong_first}
use Rattle.command_words.proofs.WrongOptions.{options_stops}

abbrev Values : Type 0
Values = Option ℕ × Options

abbrev filled : Words → Values → Result Filled ℕ
filled ws values = Ok (filled_with ws values)

abbrev with_number : ℕ → Result (Option ℕ) ℕ
with_number number = Ok (Some number)

-- a word that isn't of its part is named by its place
part_place : (n : ℕ) (part : Part) (count : Option ℕ) (word : List ℕ) (at : ℕ) → part_in n part count word ≡ Err at → at ≡ n
part_place n File count word at e = by (is_file_word word) e
  where
    by : (b : Bool) → cond b (Ok count) (err (Option ℕ) n) ≡ Err at → at ≡ n
    by true h = absurd (cc)
    by false h = wrong_first n at h
part_place n Number count word at e = by (option_and_then count_of (natural word)) e
  where
    by : (o : Option ℕ) → (ok_or o n >>= λ number. with_number number) ≡ Err at → at ≡ n
    by None h = (let same : n ≡ at = cc in sym same)
    by (Some number) h = absurd (cc)

-- a word of each part: the file `a`, the number 1
record Good (n : ℕ) (part : Part) (count : Option ℕ) : Type 0 where
  word : List ℕ
  value : Option ℕ
  is : part_in n part count word ≡ Ok value

good_word : (n : ℕ) (part : Part) (count : Option ℕ) → Good n part count
good_word n File count = record { word = 97 ∷ []; value = count; is = refl }
good_word n Number count = record { word = 49 ∷ []; value = Some 1; is = refl }

pub parts_stops : (n : ℕ) (parts : List Part) (offer : Offer) (count : Option ℕ) → Stops n (parts_at n parts offer count)
parts_stops n [] offer count = map_stops n (options_at n offer none_given) (λ ws given. (count, given)) (options_stops n offer none_given)
parts_stops n (part ∷ parts) offer count =
    let good = good_word n part count in
    word_stops n (part_in n part count) (part_place n part count) good.word good.value good.is
    (parts_at (n + 1) parts offer) (λ more. parts_stops (n + 1) parts offer more)
    (parts_at n (part ∷ parts) offer count) refl (λ word tail. refl)

-- one word more of a form
pub parts_step : (n : ℕ) (parts rest : List Part) (part : Part) (offer : Offer) (count more : Option ℕ) (words tail : Words) (word : List ℕ) (r : Result Values ℕ)
    → parts ≡ part ∷ rest → words ≡ word ∷ tail → part_in n part count word ≡ Ok more → r ≡ parts_at (n + 1) rest offer more tail → r ≡ parts_at n parts offer count words
parts_step n parts rest part offer count more words tail word r same here is e =
    e ∙ sym (ap (λ (q : Result (Option ℕ) ℕ). q >>= λ m. parts_at (n + 1) rest offer m tail) is)
    ∙ sym (ap (λ (ws : Words). parts_at n (part ∷ rest) offer count ws) here) ∙ sym (ap (λ (ps : List Part). parts_at n ps offer count words) same)

abbrev asked_with : {Command : Type 0} → (Filled → Command) → Words → Values → Result Command ℕ
asked_with asks ws values = Ok (asks (filled_with ws values))

asked_alike : {Command : Type 0} (asks : Filled → Command) (ws : Words) (r : Result Values ℕ) → ((r >>= λ values. filled ws values) >>= λ f. Ok (asks f)) ≡ (r >>= λ values. asked_with asks ws values)
asked_alike asks ws (Ok values) = refl
asked_alike asks ws (Err n) = refl

-- and then what they ask for
pub form_stops : {Command : Type 0} (form : Form) (asks : Filled → Command) → Stops 1 (λ ws. read_form form ws >>= λ f. Ok (asks f))
form_stops form asks = same_stops 1 (λ ws. read_form form ws >>= λ f. Ok (asks f)) (λ ws. parts_at 1 form.parts form.options None ws >>= λ values. asked_with asks ws values)
    (λ ws. asked_alike asks ws (parts_at 1 form.parts form.options None ws))
    (map_stops 1 (parts_at 1 form.parts form.options None) (λ ws values. asks (filled_with ws values)) (parts_stops 1 form.parts form.options None))
