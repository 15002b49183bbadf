-- A record takes at least one byte, and after it the machine stands between two records.
use Rattle.std.proofs.Common.{◌≡◌, ℕ, ◌<◌, ◌≤◌, ◌==◌, ◌||◌, List, [], ◌∷◌, ◌++◌, length, Bool, true, false, cond, Some, None, refl, arith}
use Rattle.csv.specs.Machine.{Read, next_record, step, in_field, start_field, start_record, after_end, is_end, ends_at_end, fields_after, field_after}
use Rattle.csv.specs.Reading.{default_config}
use Rattle.csv.specs.declared.parser.State.{State}
use Rattle.csv.specs.declared.parser.State.TheVariants as st
use Rattle.csv.specs.declared.parser.Action.{Action}
use Rattle.csv.specs.declared.parser.Action.TheVariants as act
use Rattle.csv.specs.declared.parser.Terminator.TheVariants as term

-- where the action ends a record, the end of the text would end none after it
record Closes (p : State × Action) : Type 0 where
  closed : is_end p.1 ≡ true → ends_at_end p.0 ≡ false

stays : (s : State) (a : Action) → is_end a ≡ false → Closes (s, a)
stays s a e = record { closed = λ h. absurd cc }

either : (b : Bool) (p q : State × Action) → Closes p → Closes q → Closes (cond b p q)
either true p q h k = h
either false p q h k = k

ended : (c : ℕ) → Closes (after_end term.CRLF c, act.EndRecord)
ended c = by (c == 13)
  where
    by : (b : Bool) → Closes (cond b st.AfterCr st.StartRecord, act.EndRecord)
    by true = record { closed = λ h. refl }
    by false = record { closed = λ h. refl }

in_field_closes : (c : ℕ) → Closes (in_field default_config c)
in_field_closes c = either (c == 44) (st.StartField, act.EndField) _ (stays st.StartField act.EndField refl) (either ((c == 13) || (c == 10)) (after_end term.CRLF c, act.EndRecord) (st.InField, act.Copy) (ended c) (stays st.InField act.Copy refl))

start_field_closes : (c : ℕ) → Closes (start_field default_config c)
start_field_closes c = either (c == 34) (st.InQuoted, act.Skip) (in_field default_config c) (stays st.InQuoted act.Skip refl) (in_field_closes c)

start_record_closes : (c : ℕ) → Closes (start_record default_config c)
start_record_closes c = either ((c == 13) || (c == 10)) (st.StartRecord, act.Skip) (start_field default_config c) (stays st.StartRecord act.Skip refl) (start_field_closes c)

step_closes : (s : State) (c : ℕ) → Closes (step default_config s c)
step_closes st.StartRecord c = start_record_closes c
step_closes st.StartField c = start_field_closes c
step_closes st.InField c = in_field_closes c
step_closes st.InQuoted c = either (c == 34) (st.AfterQuote, act.Skip) (st.InQuoted, act.Copy) (stays st.AfterQuote act.Skip refl) (stays st.InQuoted act.Copy refl)
step_closes st.InEscape c = stays st.InQuoted act.Copy refl
step_closes st.AfterQuote c = either (c == 34) (st.InQuoted, act.Copy) (in_field default_config c) (stays st.InQuoted act.Copy refl) (in_field_closes c)
step_closes st.InComment c = either (c == 10) (st.StartRecord, act.Skip) (st.InComment, act.Skip) (stays st.StartRecord act.Skip refl) (stays st.InComment act.Skip refl)
step_closes st.AfterCr c = either (c == 10) (st.StartRecord, act.Skip) (start_record default_config c) (stays st.StartRecord act.Skip refl) (start_record_closes c)

-- what is left after a record of a text
record Leaves (xs : List ℕ) (r : Read) : Type 0 where
  between : ends_at_end r.1 ≡ false
  shorter : length r.2 ≤ length xs

leaves_same : (xs : List ℕ) (p r : Read) → Some p ≡ Some r → Leaves xs p → Leaves xs r
leaves_same xs p r e l = let same : p ≡ r = cc in rw (← same) l

leaves : (s : State) (fields : List (List ℕ)) (field xs : List ℕ) (r : Read) → next_record default_config s fields field xs ≡ Some r → Leaves xs r
unfolding next_record
leaves s fields field [] r e = by (ends_at_end s) e
  where
    by : (b : Bool) → cond b (Some (fields ++ (field ∷ []), st.StartRecord, [])) None ≡ Some r → Leaves [] r
    by true h = leaves_same [] (fields ++ (field ∷ []), st.StartRecord, []) r h (record { between = refl; shorter = omega arith })
    by false h = absurd cc
leaves s fields field (c ∷ rest) r e = by (is_end (step default_config s c).1) refl (leaves (step default_config s c).0 (fields_after (step default_config s c).1 fields field) (field_after (step default_config s c).1 c field) rest r) e
  where
    by : (b : Bool) → is_end (step default_config s c).1 ≡ b → (next_record default_config (step default_config s c).0 (fields_after (step default_config s c).1 fields field) (field_after (step default_config s c).1 c field) rest ≡ Some r → Leaves rest r)
        → cond b (Some (fields_after (step default_config s c).1 fields field, (step default_config s c).0, rest)) (next_record default_config (step default_config s c).0 (fields_after (step default_config s c).1 fields field) (field_after (step default_config s c).1 c field) rest) ≡ Some r → Leaves (c ∷ rest) r
    by true ends further h = leaves_same (c ∷ rest) (fields_after (step default_config s c).1 fields field, (step default_config s c).0, rest) r h (record { between = (step_closes s c).closed ends; shorter = omega arith })
    by false ends further h = let l = further h in record { between = l.between; shorter = omega (arith, l.shorter) }

-- A record after the end of another takes at least one byte, and the machine stands between two records after it.
pub takes : (s : State) (xs : List ℕ) (r : Read) → ends_at_end s ≡ false → next_record default_config s [] [] xs ≡ Some r → (ends_at_end r.1 ≡ false) × (length r.2 < length xs)
unfolding next_record
takes s [] r between e = by (ends_at_end s) between e
  where
    by : (b : Bool) → b ≡ false → cond b (Some ([] ++ ([] ∷ []), st.StartRecord, [])) None ≡ Some r → (ends_at_end r.1 ≡ false) × (length r.2 < 0)
    by true h k = absurd cc
    by false h k = absurd cc
takes s (c ∷ rest) r between e = (l.between, by (is_end (step default_config s c).1) e)
  where
    l : Leaves (c ∷ rest) r
    l = leaves s [] [] (c ∷ rest) r e

    by : (b : Bool) → cond b (Some (fields_after (step default_config s c).1 [] [], (step default_config s c).0, rest)) (next_record default_config (step default_config s c).0 (fields_after (step default_config s c).1 [] []) (field_after (step default_config s c).1 c []) rest) ≡ Some r → length r.2 < length (c ∷ rest)
    by true h = let same : rest ≡ r.2 = cc in rw (← same) (omega arith)
    by false h = let k = leaves (step default_config s c).0 (fields_after (step default_config s c).1 [] []) (field_after (step default_config s c).1 c []) rest r h in omega (arith, k.shorter)
