-- Where words leave the options that a command has.
use Rattle.std.proofs.Common.{◌≡◌, ◌∙◌, sym, ap, subst, refl, ℕ, ◌+◌, Bool, true, false, cond, List, [], ◌∷◌, ◌++◌, length, arith}
use Rattle.std.specs.Prelude.{Option, None, Some, Result, Ok, Err, codes, ◌&&◌, is_none, nat_le, ok_or, option_and_then}
use Rattle.std.specs.Str.{bytes_eq}
use Rattle.line_text.specs.Numerals.{natural}
use Rattle.command_words.specs.declared.options.Choice.{Choice}
use Rattle.command_words.specs.declared.options.Choice.TheVariants.{Tol, Boxes}
use Rattle.command_words.specs.declared.options.Offer.{Offer}
use Rattle.command_words.specs.Budgets.{budget_of}
use Rattle.command_words.specs.Options.{Options, option_in, give, options_at, has_tol, has_boxes}
use Rattle.command_words.specs.Words.{Words, ◌>>=◌}
use Rattle.command_words.proofs.WrongWords.{IsStop, Stops, err, first_stop}

abbrev with_tol : ℕ → Option ℕ → Result Options ℕ
with_tol tol boxes = Ok (record { tol = Some tol; boxes = boxes })

abbrev with_boxes : Option ℕ → ℕ → Result Options ℕ
with_boxes tol boxes = Ok (record { tol = tol; boxes = Some boxes })

-- an option that isn't one is named by its place
option_place : (n : ℕ) (offer : Offer) (given : Options) (word : List ℕ) (at : ℕ) → option_in n offer given word ≡ Err at → at ≡ n
option_place n offer given word at e = by (has_tol offer && is_none given.tol && bytes_eq word (codes "--tol")) (has_boxes offer && is_none given.boxes && bytes_eq word (codes "--boxes")) e
  where
    by : (b d : Bool) → cond b (Ok Tol) (cond d (Ok Boxes) (err Choice n)) ≡ Err at → at ≡ n
    by true d h = absurd (cc)
    by false true h = absurd (cc)
    by false false h = let same : n ≡ at = cc in sym same

-- a wrong number by its own
tolerance_place : (n : ℕ) (given : Options) (number : Option ℕ) (at : ℕ) → give n Tol given number ≡ Err at → at ≡ n
tolerance_place n given None at e = let same : n ≡ at = cc in sym same
tolerance_place n given (Some tol) at e = by (nat_le tol 10000000000000000) e
  where
    by : (b : Bool) → (cond b (Ok tol) (err ℕ n) >>= λ t. with_tol t given.boxes) ≡ Err at → at ≡ n
    by true h = absurd (cc)
    by false h = let same : n ≡ at = cc in sym same

budget_place : (n : ℕ) (given : Options) (number : Option ℕ) (at : ℕ) → give n Boxes given number ≡ Err at → at ≡ n
budget_place n given number at e = by (option_and_then budget_of number) e
  where
    by : (o : Option ℕ) → (ok_or o n >>= λ boxes. with_boxes given.tol boxes) ≡ Err at → at ≡ n
    by None h = let same : n ≡ at = cc in sym same
    by (Some boxes) h = absurd (cc)

number_place : (n : ℕ) (option : Choice) (given : Options) (number : Option ℕ) (at : ℕ) → give n option given number ≡ Err at → at ≡ n
number_place n Tol given number at e = tolerance_place n given number at e
number_place n Boxes given number at e = budget_place n given number at e

-- each option takes the number 1
one_word : List ℕ
one_word = 49 ∷ []

takes_one : (n : ℕ) (option : Choice) (given : Options) → (next : Options) × (give n option given (natural one_word) ≡ Ok next)
unfolding one_word
takes_one n Tol given = (record { tol = Some 1; boxes = given.boxes }, refl)
takes_one n Boxes given = (record { tol = given.tol; boxes = Some 1 }, refl)

option_other : (n : ℕ) (offer : Offer) (given : Options) (word : List ℕ) (words : Words) (at : ℕ) (x : Options) → option_in n offer given word ≡ Err at → options_at n offer given (word ∷ words) ≡ Ok x → ⊥
option_other n offer given word [] at x e h = let bad : Err at ≡ Ok x = sym (ap (λ (r : Result Choice ℕ). r >>= λ option. err Options (n + 1)) e) ∙ h in cc
option_other n offer given word (number ∷ words) at x e h =
    let bad : Err at ≡ Ok x = sym (ap (λ (r : Result Choice ℕ). r >>= λ option. give (n + 1) option given (natural number) >>= λ more. options_at (n + 2) offer more words) e) ∙ h in cc

-- a word that isn't an option here
module _ (n : ℕ) (offer : Offer) (given : Options) (w : List ℕ) (ws : Words) (at k : ℕ) (t : option_in n offer given w ≡ Err k) where
  no_option : err Options k ≡ Err at → IsStop n (options_at n offer given) (w ∷ ws) at
  no_option e =
      let same : k ≡ at = cc in
      first_stop n (options_at n offer given) (w ∷ ws) at [] given (sym same ∙ option_place n offer given w k t) refl
      (λ word later tail x is h. let one : w ≡ word = cc in option_other n offer given word tail k x (subst (λ y. option_in n offer given y ≡ Err k) one t) h)

-- an option, and its number
module _ (n : ℕ) (offer : Offer) (given : Options) (w : List ℕ) (option : Choice) (t : option_in n offer given w ≡ Ok option) where
  pub given_on : (number : List ℕ) (tail : Words) (r : Result Options ℕ) → give (n + 1) option given (natural number) ≡ r
      → options_at n offer given (w ∷ number ∷ tail) ≡ (r >>= λ more. options_at (n + 2) offer more tail)
  given_on number tail r u =
      ap (λ (x : Result Choice ℕ). x >>= λ o. give (n + 1) o given (natural number) >>= λ more. options_at (n + 2) offer more tail) t
      ∙ ap (λ (x : Result Options ℕ). x >>= λ more. options_at (n + 2) offer more tail) u

  one_given : Options
  one_given = (takes_one (n + 1) option given).0

  with_one : options_at n offer given (w ∷ one_word ∷ []) ≡ Ok one_given
  unfolding one_given
  with_one = given_on one_word [] (Ok one_given) (takes_one (n + 1) option given).1

  no_number : (at : ℕ) → options_at n offer given (w ∷ []) ≡ Err at → IsStop n (options_at n offer given) (w ∷ []) at
  no_number at e = record {
    front = w ∷ [];
    rest = [];
    parts = refl;
    place = (let same : Err (n + 1) ≡ Err at = sym (ap (λ (x : Result Choice ℕ). x >>= λ o. err Options (n + 1)) t) ∙ e in let k : n + 1 ≡ at = cc in sym k);
    more = one_word ∷ [];
    read = one_given;
    begins = with_one;
    no_later = λ word later tail x is h. cc;
  }

  wrong_number : (number : List ℕ) (ws : Words) (at k : ℕ) → give (n + 1) option given (natural number) ≡ Err k → options_at n offer given (w ∷ number ∷ ws) ≡ Err at
      → IsStop n (options_at n offer given) (w ∷ number ∷ ws) at
  wrong_number number ws at k u e = record {
    front = w ∷ [];
    rest = number ∷ ws;
    parts = refl;
    place = (let same : Err k ≡ Err at = sym (given_on number ws (Err k) u) ∙ e in let j : k ≡ at = cc in sym j ∙ number_place (n + 1) option given (natural number) k u);
    more = one_word ∷ [];
    read = one_given;
    begins = with_one;
    no_later = λ word later tail x is h.
        let one : number ≡ word = cc in
        let bad : Err k ≡ Ok x = sym (given_on word tail (Err k) (subst (λ y. give (n + 1) option given (natural y) ≡ Err k) one u)) ∙ h in cc;
  }

  after_number : (number : List ℕ) (ws : Words) (at : ℕ) (next : Options) → give (n + 1) option given (natural number) ≡ Ok next
      → IsStop (n + 2) (options_at (n + 2) offer next) ws at → IsStop n (options_at n offer given) (w ∷ number ∷ ws) at
  after_number number ws at next u s = record {
    front = w ∷ number ∷ s.front;
    rest = s.rest;
    parts = ap (λ (x : Words). w ∷ number ∷ x) s.parts;
    place = (let e = s.place in omega (arith, e));
    more = s.more;
    read = s.read;
    begins = given_on number (s.front ++ s.more) (Ok next) u ∙ s.begins;
    no_later = λ word later tail x is h. s.no_later word later tail x is (sym (given_on number (s.front ++ word ∷ tail) (Ok next) u) ∙ h);
  }

-- the options that follow an option and its number
pub options_step : (n : ℕ) (offer : Offer) (given : Options) (words : Words) (w number : List ℕ) (tail : Words) (option : Choice) (more : Options) (r : Result Options ℕ) → words ≡ w ∷ number ∷ tail
    → option_in n offer given w ≡ Ok option → give (n + 1) option given (natural number) ≡ Ok more → r ≡ options_at (n + 2) offer more tail → r ≡ options_at n offer given words
options_step n offer given words w number tail option more r same t u e =
    e ∙ sym (given_on n offer given w option t number tail (Ok more) u) ∙ ap (options_at n offer given) (sym same)

one_option : (n : ℕ) (offer : Offer) (given : Options) (w : List ℕ) (at : ℕ) (r : Result Choice ℕ) → option_in n offer given w ≡ r → options_at n offer given (w ∷ []) ≡ Err at
    → IsStop n (options_at n offer given) (w ∷ []) at
one_option n offer given w at (Err k) t e = no_option n offer given w [] at k t (sym (ap (λ (x : Result Choice ℕ). x >>= λ o. err Options (n + 1)) t) ∙ e)
one_option n offer given w at (Ok option) t e = no_number n offer given w option t at e

numbered : (n : ℕ) (offer : Offer) (given : Options) (w number : List ℕ) (ws : Words) (at : ℕ) (option : Choice) (r : Result Options ℕ) → option_in n offer given w ≡ Ok option
    → give (n + 1) option given (natural number) ≡ r → ((next : Options) → options_at (n + 2) offer next ws ≡ Err at → IsStop (n + 2) (options_at (n + 2) offer next) ws at)
    → options_at n offer given (w ∷ number ∷ ws) ≡ Err at → IsStop n (options_at n offer given) (w ∷ number ∷ ws) at
numbered n offer given w number ws at option (Err k) t u others e = wrong_number n offer given w option t number ws at k u e
numbered n offer given w number ws at option (Ok next) t u others e =
    after_number n offer given w option t number ws at next u (others next (sym (given_on n offer given w option t number ws (Ok next) u) ∙ e))

more_options : (n : ℕ) (offer : Offer) (given : Options) (w number : List ℕ) (ws : Words) (at : ℕ) (r : Result Choice ℕ) → option_in n offer given w ≡ r
    → ((next : Options) → options_at (n + 2) offer next ws ≡ Err at → IsStop (n + 2) (options_at (n + 2) offer next) ws at)
    → options_at n offer given (w ∷ number ∷ ws) ≡ Err at → IsStop n (options_at n offer given) (w ∷ number ∷ ws) at
more_options n offer given w number ws at (Err k) t others e =
    no_option n offer given w (number ∷ ws) at k t (sym (ap (λ (x : Result Choice ℕ). x >>= λ o. give (n + 1) o given (natural number) >>= λ more. options_at (n + 2) offer more ws) t) ∙ e)
more_options n offer given w number ws at (Ok option) t others e = numbered n offer given w number ws at option (give (n + 1) option given (natural number)) t refl others e

options_stop : (n : ℕ) (offer : Offer) (given : Options) (ws : Words) (at : ℕ) → options_at n offer given ws ≡ Err at → IsStop n (options_at n offer given) ws at
options_stop n offer given [] at e = absurd (cc)
options_stop n offer given (w ∷ []) at e = one_option n offer given w at (option_in n offer given w) refl e
options_stop n offer given (w ∷ number ∷ ws) at e = more_options n offer given w number ws at (option_in n offer given w) refl (λ next h. options_stop (n + 2) offer next ws at h) e

pub options_stops : (n : ℕ) (offer : Offer) (given : Options) → Stops n (options_at n offer given)
options_stops n offer given = record { words = []; read = given; reads = refl; stop = options_stop n offer given }
