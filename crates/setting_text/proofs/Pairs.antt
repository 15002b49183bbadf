-- What holds of the items of two lists, place by place.
use Rattle.std.proofs.Common.{◌≡◌, ℕ, zero, suc, List, [], ◌∷◌, length, map, Some, ℤ, Bool, true, refl, ap, arith}
use Rattle.std.specs.Prelude.{slice_get, ⊤}
use Rattle.std.specs.List.{list_all}
use Rattle.std.proofs.lemmas.Bool.{and_parts}
use Rattle.gas_model.specs.declared.rows.ArcRow.{ArcRow}
use Rattle.base_types.specs.declared.states.ArcState.{ArcState}
use Rattle.serde_json.specs.Data.{Data}
use Rattle.setting_text.specs.declared.entries.ArcEntry.{ArcEntry}
use Rattle.setting_text.specs.Writing.{entries, arc_entries, arc_data}
use Rattle.setting_text.specs.Reading.{entry_state, entry_flow}

-- two lists of one length, and what holds at each place
abbrev pub Pairs : {A B : Type 0} → (A → B → Type 0) → List A → List B → Type 0
Pairs P [] [] = ⊤
Pairs P [] (y ∷ ys) = ⊥
Pairs P (x ∷ xs) [] = ⊥
Pairs P (x ∷ xs) (y ∷ ys) = P x y × Pairs P xs ys

-- paired lists have one length
pub same_length : {A B : Type 0} (P : A → B → Type 0) (xs : List A) (ys : List B) → Pairs P xs ys → length ys ≡ length xs
same_length P [] [] h = refl
same_length P [] (y ∷ ys) h = absurd h
same_length P (x ∷ xs) [] h = absurd h
same_length P (x ∷ xs) (y ∷ ys) h = ap suc (same_length P xs ys h.1)

-- the pair at a place
pub pair_at : {A B : Type 0} (P : A → B → Type 0) (xs : List A) (ys : List B) (k : ℕ) (x : A) (y : B) → Pairs P xs ys → slice_get xs k ≡ Some x → slice_get ys k ≡ Some y → P x y
pair_at P [] [] k x y h e f = absurd cc
pair_at P [] (z ∷ ys) k x y h e f = absurd h
pair_at P (z ∷ xs) [] k x y h e f = absurd h
pair_at P (z ∷ xs) (w ∷ ys) zero x y h e f = let same : z ≡ x = cc in let too : w ≡ y = cc in rw (← same, ← too) h.0
pair_at P (z ∷ xs) (w ∷ ys) (suc k) x y h e f = pair_at P xs ys k x y h.1 e f

-- pairs, from what holds at each place
pub pairs_from : {A B : Type 0} (P : A → B → Type 0) (xs : List A) (ys : List B) → length ys ≡ length xs → ((k : ℕ) (x : A) (y : B) → slice_get xs k ≡ Some x → slice_get ys k ≡ Some y → P x y) → Pairs P xs ys
pairs_from P [] [] e h = tt
pairs_from P [] (y ∷ ys) e h = absurd (omega arith)
pairs_from P (x ∷ xs) [] e h = absurd (omega arith)
pairs_from P (x ∷ xs) (y ∷ ys) e h = (h 0 x y refl refl, pairs_from P xs ys (omega arith) (λ k a b. h (suc k) a b))

-- a test of the second items
pub all_seconds : {A B : Type 0} (P : A → B → Type 0) (test : B → Bool) (xs : List A) (ys : List B) → ((x : A) (y : B) → P x y → test y ≡ true) → Pairs P xs ys → list_all test ys ≡ true
all_seconds P test [] [] f h = refl
all_seconds P test [] (y ∷ ys) f h = absurd h
all_seconds P test (x ∷ xs) [] f h = absurd h
all_seconds P test (x ∷ xs) (y ∷ ys) f h = rw (f x y h.0, all_seconds P test xs ys f h.1) refl

-- a test at a place
pub all_at : {A : Type 0} (test : A → Bool) (xs : List A) (k : ℕ) (x : A) → list_all test xs ≡ true → slice_get xs k ≡ Some x → test x ≡ true
all_at test [] k x e f = absurd cc
all_at test (z ∷ xs) zero x e f = let same : z ≡ x = cc in rw (← same) (and_parts (test z) (list_all test xs) e).0
all_at test (z ∷ xs) (suc k) x e f = all_at test xs k x (and_parts (test z) (list_all test xs) e).1 f

-- what an entry of an arc has as data
abbrev pub entry_data : ArcRow → ArcEntry → Data
entry_data a e = arc_data a e.state e.flow

-- the entries of arcs, by what they say
pub entries_of_arcs : (arcs : List ArcRow) (es : List ArcEntry) → arc_entries arcs (map entry_state es) (map entry_flow es) ≡ entries entry_data arcs es
entries_of_arcs [] es = refl
entries_of_arcs (a ∷ arcs) [] = refl
entries_of_arcs (a ∷ arcs) (e ∷ es) = ap (λ ds. entry_data a e ∷ ds) (entries_of_arcs arcs es)

-- states and flows as entries
abbrev pub joined : List ArcState → List ℤ → List ArcEntry
joined [] flows = []
joined (s ∷ states) [] = []
joined (s ∷ states) (z ∷ flows) = record { state = s; flow = z } ∷ joined states flows

-- the states of entries that were joined
pub states_joined : (states : List ArcState) (flows : List ℤ) → length states ≡ length flows → map entry_state (joined states flows) ≡ states
states_joined [] flows e = refl
states_joined (s ∷ states) [] e = absurd (omega arith)
states_joined (s ∷ states) (z ∷ flows) e = ap (λ l. s ∷ l) (states_joined states flows (omega arith))

-- the flows of entries that were joined
pub flows_joined : (states : List ArcState) (flows : List ℤ) → length states ≡ length flows → map entry_flow (joined states flows) ≡ flows
flows_joined [] [] e = refl
flows_joined [] (z ∷ flows) e = absurd (omega arith)
flows_joined (s ∷ states) [] e = absurd (omega arith)
flows_joined (s ∷ states) (z ∷ flows) e = ap (λ l. z ∷ l) (flows_joined states flows (omega arith))
