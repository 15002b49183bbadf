-- Which lines are of their form, whatever the size of their numbers.
use Rattle.std.proofs.Common.{◌≡◌, ℕ, List, Bool, true, false, cond, not, length, take, drop, Option, Some, None, Result, Ok, Err, refl, sym, ap, subst, ◌∙◌}
use Rattle.std.specs.Prelude.{◌==◌, codes}
use Rattle.std.specs.Str.{bytes_eq}
use Rattle.gas_model.specs.declared.rows.ArcKind.TheVariants.{Pipe, Resist}
use Rattle.line_text.specs.Words.{word_len}
use Rattle.line_text.specs.Words as words
use Rattle.flat_text.specs.declared.fault.LineFault.{LineFault}
use Rattle.flat_text.specs.declared.fault.LineFault.TheVariants as fault
use Rattle.flat_text.specs.declared.line.Item.{Item}
use Rattle.flat_text.specs.declared.line.Item.TheVariants.{Node, Arc, Group, Decision, Set}
use Rattle.flat_text.specs.declared.line.Part.{Part}
use Rattle.flat_text.specs.Fields.{◌>>=◌, found, text_field, number_field, ended, head_at, drag_at}
use Rattle.flat_text.specs.Kinds.{loss_at, control_at, station_at, kind_at, allow_of}
use Rattle.flat_text.specs.Line.{node_at, arc_at, id_at, set_at, after_word, line_at, line_of, line_in, item_in, may_stand, is_item_within}
use Rattle.flat_text.specs.Spelling.{SpellsItem}
use Rattle.flat_text.specs.Laws.{Means, LinesMean, ItemsAreRead}
use Rattle.flat_text.proofs.Spelled.{spelled_item, end_again, Spells, line_takes}

-- ---- what isn't read is of no form: fields are never over a limit by themselves

abbrev OnlyNotFlat : {A : Type 0} → Result A LineFault → Type 0
OnlyNotFlat (Ok x) = Unit {0}
OnlyNotFlat (Err e) = e ≡ fault.NotFlat

found_only : {A : Type 0} (o : Option A) → OnlyNotFlat (found o)
found_only None = refl
found_only (Some x) = tt

bound_only : {A B : Type 0} (r : Result A LineFault) (f : A → Result B LineFault) → OnlyNotFlat r → ((x : A) → OnlyNotFlat (f x)) → OnlyNotFlat (r >>= f)
bound_only (Ok x) f h k = k x
bound_only (Err e) f h k = h

text_only : (bytes : List ℕ) → OnlyNotFlat (text_field bytes)
text_only bytes = found_only (words.field_at bytes)

number_only : (bytes : List ℕ) → OnlyNotFlat (number_field bytes)
number_only bytes = found_only (words.number_field bytes)

tested_only : (b : Bool) (u : Unit {0}) → OnlyNotFlat (cond b (Ok u) (Err fault.NotFlat))
tested_only true u = tt
tested_only false u = refl

end_only : (bytes : List ℕ) → OnlyNotFlat (ended bytes)
end_only bytes = tested_only (length bytes == 0) tt

either_only : {A : Type 0} (b : Bool) (r s : Result A LineFault) → OnlyNotFlat r → OnlyNotFlat s → OnlyNotFlat (cond b r s)
either_only true r s p q = p
either_only false r s p q = q

head_only : (bytes : List ℕ) → OnlyNotFlat (head_at bytes)
unfolding head_at
head_only bytes =
    bound_only (text_field bytes) _ (text_only bytes) (λ id. bound_only (text_field id.1) _ (text_only id.1) (λ from. bound_only (text_field from.1) _ (text_only from.1) (λ to.
    bound_only (number_field to.1) _ (number_only to.1) (λ q. bound_only (number_field q.1) _ (number_only q.1) (λ _. tt)))))

drag_only : (bytes : List ℕ) → OnlyNotFlat (drag_at bytes)
unfolding drag_at
drag_only bytes =
    bound_only (number_field bytes) _ (number_only bytes) (λ a. bound_only (number_field a.1) _ (number_only a.1) (λ b. bound_only (number_field b.1) _ (number_only b.1) (λ _. tt)))

loss_only : (bytes : List ℕ) → OnlyNotFlat (loss_at bytes)
unfolding loss_at
loss_only bytes = bound_only (number_field bytes) _ (number_only bytes) (λ a. bound_only (number_field a.1) _ (number_only a.1) (λ _. tt))

control_only : (bytes : List ℕ) → OnlyNotFlat (control_at bytes)
unfolding control_at
control_only bytes =
    bound_only (number_field bytes) _ (number_only bytes) (λ a. bound_only (number_field a.1) _ (number_only a.1) (λ b. bound_only (number_field b.1) _ (number_only b.1) (λ c.
    bound_only (number_field c.1) _ (number_only c.1) (λ _. tt))))

station_only : (bytes : List ℕ) → OnlyNotFlat (station_at bytes)
unfolding station_at
station_only bytes =
    bound_only (number_field bytes) _ (number_only bytes) (λ a. bound_only (number_field a.1) _ (number_only a.1) (λ b. bound_only (number_field b.1) _ (number_only b.1) (λ c.
    bound_only (number_field c.1) _ (number_only c.1) (λ d. bound_only (number_field d.1) _ (number_only d.1) (λ _. tt)))))

kind_only : (word bytes : List ℕ) → OnlyNotFlat (kind_at word bytes)
unfolding kind_at
kind_only word bytes =
    either_only (bytes_eq word (codes "pipe")) _ _ (bound_only (drag_at bytes) (λ d. Ok (Pipe d.0, d.1)) (drag_only bytes) (λ _. tt))
    (either_only (bytes_eq word (codes "short")) _ _ tt
    (either_only (bytes_eq word (codes "drag")) _ _ (bound_only (drag_at bytes) (λ d. Ok (Resist d.0, d.1)) (drag_only bytes) (λ _. tt))
    (either_only (bytes_eq word (codes "loss")) _ _ (loss_only bytes)
    (either_only (bytes_eq word (codes "valve")) _ _ tt
    (either_only (bytes_eq word (codes "control")) _ _ (control_only bytes)
    (either_only (bytes_eq word (codes "station")) _ _ (station_only bytes) refl))))))

node_only : (bytes : List ℕ) → OnlyNotFlat (node_at bytes)
unfolding node_at
node_only bytes =
    bound_only (text_field bytes) _ (text_only bytes) (λ id. bound_only (number_field id.1) _ (number_only id.1) (λ a. bound_only (number_field a.1) _ (number_only a.1) (λ b.
    bound_only (number_field b.1) _ (number_only b.1) (λ c. bound_only (number_field c.1) _ (number_only c.1) (λ d. bound_only (ended d.1) _ (end_only d.1) (λ _. tt))))))

arc_only : (word bytes : List ℕ) → OnlyNotFlat (arc_at word bytes)
unfolding arc_at
arc_only word bytes =
    bound_only (head_at bytes) _ (head_only bytes) (λ h. bound_only (kind_at word h.1) _ (kind_only word h.1) (λ k. bound_only (ended k.1) _ (end_only k.1) (λ _. tt)))

id_only : (bytes : List ℕ) → OnlyNotFlat (id_at bytes)
unfolding id_at
id_only bytes = bound_only (text_field bytes) _ (text_only bytes) (λ id. bound_only (ended id.1) _ (end_only id.1) (λ _. tt))

set_only : (bytes : List ℕ) → OnlyNotFlat (set_at bytes)
unfolding set_at
set_only bytes =
    bound_only (text_field bytes) _ (text_only bytes) (λ arc. bound_only (text_field arc.1) _ (text_only arc.1) (λ word. bound_only (ended word.1) _ (end_only word.1) (λ _.
    bound_only (found (allow_of word.0)) _ (found_only (allow_of word.0)) (λ _. tt))))

word_only : (word rest : List ℕ) → OnlyNotFlat (after_word word rest)
word_only word rest =
    either_only (bytes_eq word (codes "node")) _ _ (bound_only (node_at rest) (λ n. Ok (Some (Node n))) (node_only rest) (λ _. tt))
    (either_only (bytes_eq word (codes "group")) _ _ (bound_only (id_at rest) (λ id. Ok (Some (Group id))) (id_only rest) (λ _. tt))
    (either_only (bytes_eq word (codes "decision")) _ _ (bound_only (id_at rest) (λ id. Ok (Some (Decision id))) (id_only rest) (λ _. tt))
    (either_only (bytes_eq word (codes "set")) _ _ (bound_only (set_at rest) (λ s. Ok (Some (Set s))) (set_only rest) (λ _. tt))
    (either_only (bytes_eq word (codes "end")) _ _ (bound_only (ended rest) (λ _. Ok None) (end_only rest) (λ _. tt))
    (bound_only (arc_at word rest) (λ a. Ok (Some (Arc a))) (arc_only word rest) (λ _. tt))))))

line_only : (bytes : List ℕ) → OnlyNotFlat (line_at bytes)
unfolding line_at
line_only bytes = word_only (take (word_len bytes) bytes) (drop (word_len bytes) bytes)

-- ---- what a line means

-- an item that spells what isn't flat may not stand at the place
may_not_stand : (place : Part) (x : Item) → item_in place x ≡ Err fault.NotFlat → may_stand place x ≡ false
may_not_stand place x e = by (may_stand place x) (is_item_within x) refl e
  where
    by : (a b : Bool) → may_stand place x ≡ a → cond (not a) (Err fault.NotFlat) (cond (not b) (Err fault.OverLimit) (Ok (Some x))) ≡ Err fault.NotFlat → may_stand place x ≡ false
    by true true p h = absurd cc
    by true false p h = absurd cc
    by false b p h = p

not_flat : (place : Part) (bytes : List ℕ) → line_in place bytes ≡ Err fault.NotFlat → Means place bytes (Err fault.NotFlat)
not_flat place bytes e = (λ is. let read = end_again place in let same = ap (line_in place) is in cc, λ x is. may_not_stand place x (sym (spelled_item place bytes x is) ∙ e))

item_means : (place : Part) (bytes : List ℕ) (x : Item) → SpellsItem bytes x → line_in place bytes ≡ item_in place x → Means place bytes (item_in place x)
item_means place bytes x is e = by (may_stand place x) (is_item_within x) refl refl e
  where
    by : (a b : Bool) → may_stand place x ≡ a → is_item_within x ≡ b → line_in place bytes ≡ cond (not a) (Err fault.NotFlat) (cond (not b) (Err fault.OverLimit) (Ok (Some x)))
        → Means place bytes (cond (not a) (Err fault.NotFlat) (cond (not b) (Err fault.OverLimit) (Ok (Some x))))
    by true true p q h = (is, p, q)
    by true false p q h = (x, is, p, q)
    by false b p q h = not_flat place bytes h

pub lines_mean : LinesMean
unfolding line_in
lines_mean place bytes = by (line_at bytes) refl
  where
    at : (x : Option Item) → line_in place bytes ≡ line_of place x → Spells bytes x → Means place bytes (line_of place x)
    at None e s = s
    at (Some x) e s =
        let read = spelled_item place bytes s.item s.spells in
        let judged : item_in place s.item ≡ item_in place x = sym read ∙ e in
        subst (Means place bytes) judged (item_means place bytes s.item s.spells read)

    by : (r : Result (Option Item) LineFault) → line_at bytes ≡ r → Means place bytes (r >>= line_of place)
    by (Ok x) e = at x (ap (λ (r : Result (Option Item) LineFault). r >>= line_of place) e) (line_takes bytes x e)
    by (Err fault.NotFlat) e = not_flat place bytes (ap (λ (r : Result (Option Item) LineFault). r >>= line_of place) e)
    by (Err fault.OverLimit) e = absurd (let only = subst OnlyNotFlat e (line_only bytes) in cc)
    by (Err fault.NoMemory) e = absurd (let only = subst OnlyNotFlat e (line_only bytes) in cc)

pub items_are_read : ItemsAreRead
items_are_read place bytes x is = spelled_item place bytes x is
