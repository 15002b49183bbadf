-- Where words leave what is read of them: some words that are read begin so up to a word, and none up to a later one.
use Rattle.std.proofs.Common.{◌≡◌, ◌∙◌, sym, ap, subst, refl, ℕ, ◌+◌, List, [], ◌∷◌, ◌++◌, length, arith}
use Rattle.std.specs.Prelude.{Result, Ok, Err}
use Rattle.command_words.specs.Words.{Words, ◌>>=◌}

abbrev pub err : (X : Type 0) → ℕ → Result X ℕ
err X n = Err n

-- these words leave the form that f reads at word `at`, where the first of them is word n
pub record IsStop {X : Type 0} (n : ℕ) (f : Words → Result X ℕ) (words : Words) (at : ℕ) : Type 0 where
  pub front : Words
  pub rest : Words
  pub parts : words ≡ front ++ rest
  pub place : at ≡ n + length front
  pub more : Words
  pub read : X
  pub begins : f (front ++ more) ≡ Ok read
  pub no_later : (word : List ℕ) (later tail : Words) (x : X) → rest ≡ word ∷ later → f (front ++ word ∷ tail) ≡ Ok x → ⊥

-- f reads some words, from word n on, and names the place where others leave its form
pub record Stops {X : Type 0} (n : ℕ) (f : Words → Result X ℕ) : Type 0 where
  pub words : Words
  pub read : X
  pub reads : f words ≡ Ok read
  pub stop : (ws : Words) (at : ℕ) → f ws ≡ Err at → IsStop n f ws at

-- at the first word
pub first_stop : {X : Type 0} (n : ℕ) (f : Words → Result X ℕ) (ws : Words) (at : ℕ) (more : Words) (read : X) → at ≡ n → f more ≡ Ok read
    → ((word : List ℕ) (later tail : Words) (x : X) → ws ≡ word ∷ later → f (word ∷ tail) ≡ Ok x → ⊥) → IsStop n f ws at
first_stop n f ws at more read here reads none = record {
  front = [];
  rest = ws;
  parts = refl;
  place = here ∙ omega arith;
  more = more;
  read = read;
  begins = reads;
  no_later = none;
}

-- after the first word
pub later_stop : {X : Type 0} (n : ℕ) (f g : Words → Result X ℕ) (word : List ℕ) (ws : Words) (at : ℕ) → ((tail : Words) → f (word ∷ tail) ≡ g tail)
    → IsStop (n + 1) g ws at → IsStop n f (word ∷ ws) at
later_stop n f g word ws at same s = record {
  front = word ∷ s.front;
  rest = s.rest;
  parts = ap (λ (x : Words). word ∷ x) s.parts;
  place = (let e = s.place in omega (arith, e));
  more = s.more;
  read = s.read;
  begins = same (s.front ++ s.more) ∙ s.begins;
  no_later = λ w later tail x e h. s.no_later w later tail x e (sym (same (s.front ++ w ∷ tail)) ∙ h);
}

-- of functions that read alike
pub same_stops : {X : Type 0} (n : ℕ) (f g : Words → Result X ℕ) → ((ws : Words) → f ws ≡ g ws) → Stops n g → Stops n f
same_stops n f g same s = record {
  words = s.words;
  read = s.read;
  reads = same s.words ∙ s.reads;
  stop = λ ws at e. let t = s.stop ws at (sym (same ws) ∙ e) in record {
    front = t.front;
    rest = t.rest;
    parts = t.parts;
    place = t.place;
    more = t.more;
    read = t.read;
    begins = same (t.front ++ t.more) ∙ t.begins;
    no_later = λ w later tail x is h. t.no_later w later tail x is (sym (same (t.front ++ w ∷ tail)) ∙ h);
  };
}

-- with another result, by the words and the one before
pub map_stops : {X Y : Type 0} (n : ℕ) (f : Words → Result X ℕ) (g : Words → X → Y) → Stops n f → Stops n (λ ws. f ws >>= λ x. Ok (g ws x))
map_stops {X} {Y} n f g s = record {
  words = s.words;
  read = g s.words s.read;
  reads = ap (λ (r : Result X ℕ). r >>= λ x. Ok (g s.words x)) s.reads;
  stop = λ ws at e. let t = s.stop ws at (unmapped (g ws) (f ws) at e) in record {
    front = t.front;
    rest = t.rest;
    parts = t.parts;
    place = t.place;
    more = t.more;
    read = g (t.front ++ t.more) t.read;
    begins = ap (λ (r : Result X ℕ). r >>= λ x. Ok (g (t.front ++ t.more) x)) t.begins;
    no_later = λ w later tail y is h. (let o = was_read (g (t.front ++ w ∷ tail)) (f (t.front ++ w ∷ tail)) y h in t.no_later w later tail o.0 is o.1);
  };
}
  where
    unmapped : (h : X → Y) (r : Result X ℕ) (at : ℕ) → (r >>= λ x. Ok (h x)) ≡ Err at → r ≡ Err at
    unmapped h (Ok x) at e = absurd (cc)
    unmapped h (Err n) at e = (let same : n ≡ at = cc in ap Err same)

    was_read : (h : X → Y) (r : Result X ℕ) (y : Y) → (r >>= λ x. Ok (h x)) ≡ Ok y → (x : X) × (r ≡ Ok x)
    was_read h (Ok x) y e = (x, refl)
    was_read h (Err n) y e = absurd (cc)

pub wrong_first : {X : Type 0} (n at : ℕ) → err X n ≡ Err at → at ≡ n
wrong_first n at e = let same : n ≡ at = cc in sym same

-- a word that is read by itself, or refused at its place, and the words after it
module _ {A X : Type 0} (n : ℕ) (read : List ℕ → Result A ℕ) (place : (word : List ℕ) (at : ℕ) → read word ≡ Err at → at ≡ n) (good : List ℕ) (value : A) (is_good : read good ≡ Ok value)
    (next : A → Words → Result X ℕ) (s : (x : A) → Stops (n + 1) (next x))
    (f : Words → Result X ℕ) (none : f [] ≡ Err n) (some : (word : List ℕ) (tail : Words) → f (word ∷ tail) ≡ (read word >>= λ x. next x tail)) where
  reads_on : (word : List ℕ) (tail : Words) (r : Result A ℕ) → read word ≡ r → f (word ∷ tail) ≡ (r >>= λ x. next x tail)
  reads_on word tail r e = some word tail ∙ ap (λ (q : Result A ℕ). q >>= λ x. next x tail) e

  reads_some : f (good ∷ (s value).words) ≡ Ok (s value).read
  reads_some = reads_on good (s value).words (Ok value) is_good ∙ (s value).reads

  word_stop : (ws : Words) (at : ℕ) → f ws ≡ Err at → IsStop n f ws at
  word_stop [] at e = first_stop n f [] at (good ∷ (s value).words) (s value).read (wrong_first n at (sym none ∙ e)) reads_some (λ word later tail x is h. cc)
  word_stop (w ∷ ws) at e = by (read w) refl
    where
      by : (r : Result A ℕ) → read w ≡ r → IsStop n f (w ∷ ws) at
      by (Ok a) t = later_stop n f (next a) w ws at (λ tail. reads_on w tail (Ok a) t) ((s a).stop ws at (sym (reads_on w ws (Ok a) t) ∙ e))
      by (Err k) t = first_stop n f (w ∷ ws) at (good ∷ (s value).words) (s value).read (wrong_first k at (sym (reads_on w ws (Err k) t) ∙ e) ∙ place w k t) reads_some
          (λ word later tail x is h. let same : w ≡ word = cc in let bad : Err k ≡ Ok x = sym (reads_on word tail (Err k) (subst (λ y. read y ≡ Err k) same t)) ∙ h in cc)

  -- such a word, and others
  pub word_stops : Stops n f
  word_stops = record { words = good ∷ (s value).words; read = (s value).read; reads = reads_some; stop = word_stop }
