-- Lists of a value, and reading their entries one after the other.
use Rattle.std.proofs.Common.{◌≡◌, ℕ, ◌+◌, ◌<◌, ◌≤◌, List, [], ◌∷◌, ◌++◌, length, map, get_or, drop, Bool, true, false, Some, Ok, Err, refl, sym, ap, ◌∙◌, drop-cons, add-one, append_assoc, arith}
use Rattle.std.specs.Prelude.{Result, ◌==◌, String}
use Rattle.std.specs.declared.alloc.Global.{Global}
use Rattle.std.specs.Str.{IsUtf8, is_utf8}
use Rattle.std.proofs.lemmas.Str.{IsUtf8-from_is_utf8}
use Rattle.std.proofs.lemmas.List.{append-nil, drop_all}
use Rattle.serde_json.specs.Data.{Data}
use Rattle.serde_json.specs.Find.{as_object}
use Rattle.serde_json.specs.View.{view, items_of, items_view, members_view}
use Rattle.serde_json.proofs.Views.{members_len-members_view}
use Rattle.serde_json.specs.declared.value.Value.{Value}
use Rattle.file_faults.specs.declared.setting.SettingFault.{SettingFault}
use Rattle.file_faults.specs.declared.setting.SettingFault.TheVariants as fault
use Rattle.setting_text.specs.Reading.{◌>>=◌, Fails, listed, has_members, read_each}

-- a list as items, and as a list again
pub listed_items : (ds : List Data) → listed (items_of ds) ≡ ds
listed_items [] = refl
listed_items (d ∷ ds) = ap (λ l. d ∷ l) (listed_items ds)

-- the values of an array as a list
pub listed_view : (vs : List Value) → listed (items_view vs) ≡ map view vs
listed_view vs = listed_items (map view vs)

-- a map has as many entries as its object members
pub count_at : (n : ℕ) (d : Data) (ms : List (String Global × Value)) → Some (members_view ms) ≡ as_object d → (length ms == n) ≡ has_members n d
count_at n d ms e = rw (← e, members_len-members_view ms) refl

-- what was read before, and what is still read
abbrev pub with_front : {B : Type 0} → List B → Result (List B) SettingFault → Result (List B) SettingFault
with_front front read = read >>= λ x. Ok (front ++ x)

module _ {A B : Type 0} (f : A → Data → Result B SettingFault) (xs : List A) (vs : List Value) (i : ℕ) (d : A) (v : Value) (front : List B) (total : Result (List B) SettingFault)
    (lt : i < length xs) (same : length vs ≡ length xs) (so_far : with_front front (read_each f (drop i xs) (map view (drop i vs))) ≡ total) where
  -- the next entry is read first
  turn : with_front front (f (get_or xs i d) (view (get_or vs i v)) >>= λ n. read_each f (drop (i + 1) xs) (map view (drop (i + 1) vs)) >>= λ ns. Ok (n ∷ ns)) ≡ total
  unfolding read_each
  turn =
      let short : i < length vs = omega (arith, same, lt) in
      sym (rw (drop-cons xs i d lt, drop-cons vs i v short, add-one i) refl) ∙ so_far

  -- an entry that is read goes to the end of what was read
  pub goes_on : (n : B) → f (get_or xs i d) (view (get_or vs i v)) ≡ Ok n → with_front (front ++ n ∷ []) (read_each f (drop (i + 1) xs) (map view (drop (i + 1) vs))) ≡ total
  goes_on n e = regroup (read_each f (drop (i + 1) xs) (map view (drop (i + 1) vs))) ∙ sym (ap (λ r. with_front front (r >>= λ n. read_each f (drop (i + 1) xs) (map view (drop (i + 1) vs)) >>= λ ns. Ok (n ∷ ns))) e) ∙ turn
    where
      regroup : (r : Result (List B) SettingFault) → with_front (front ++ n ∷ []) r ≡ with_front front (r >>= λ ns. Ok (n ∷ ns))
      regroup (Ok x) = ap (λ (l : List B). Ok l) (append_assoc front (n ∷ []) x)
      regroup (Err e) = refl

  -- an entry at fault ends the reading
  at_fault : (e : SettingFault) → f (get_or xs i d) (view (get_or vs i v)) ≡ Err e → total ≡ Err e
  at_fault e h = sym turn ∙ ap (λ r. with_front front (r >>= λ n. read_each f (drop (i + 1) xs) (map view (drop (i + 1) vs)) >>= λ ns. Ok (n ∷ ns))) h

  -- the first entry at fault is the fault of all
  pub fails : (e : SettingFault) → Fails e (f (get_or xs i d) (view (get_or vs i v))) → Fails e total
  fails fault.NoMemory h = tt
  fails fault.NotJson h = at_fault fault.NotJson h
  fails (fault.NotSetting k) h = at_fault (fault.NotSetting k) h
  fails (fault.WideNumber k) h = at_fault (fault.WideNumber k) h

-- no entry is left
pub is_done : {A B : Type 0} (f : A → Data → Result B SettingFault) (xs : List A) (ds : List Data) (i : ℕ) (front : List B) (total : Result (List B) SettingFault)
    → length xs ≤ i → with_front front (read_each f (drop i xs) ds) ≡ total → total ≡ Ok front
unfolding read_each
is_done {B = B} f xs ds i front total le so_far =
    sym so_far ∙ rw (drop_all i xs le) (ap (λ (l : List B). Ok l) (append-nil front))

-- no reading as a text, so no UTF-8
pub not_utf8 : (bs : List ℕ) → (IsUtf8 bs → ⊥) → is_utf8 bs ≡ false
not_utf8 bs h = by (is_utf8 bs) refl
  where
    by : (b : Bool) → is_utf8 bs ≡ b → b ≡ false
    by true e = absurd (h (IsUtf8-from_is_utf8 bs e))
    by false e = refl
