-- What serde_json reads: a number below zero is below zero, and an object's keys ascend.
use Rattle.std.proofs.Common.{◌≡◌, ℕ, zero, suc, ◌^◌, ◌&&◌, List, Bool, true, false, cond, Option, Some, None, option_map, option_and_then, Ordering, Less, Equal, Greater, pos, refl, ap, ◌∙◌, subst, drop}
use Rattle.std.specs.Prelude.{⊤, ◌==◌, slice_index, int_lt, nat_lt, nat_le, neg_ℤ}
use Rattle.std.specs.Ordering.{nat_cmp, match_ordering, ordering_reverse}
use Rattle.std.specs.Cmp.Lexicographic.{slice_cmp}
use Rattle.std.proofs.lemmas.Bool.{and_parts}
use Rattle.std.proofs.lemmas.Cmp.{nat_list_cmp_total}
use Rattle.std.specs.Float.{binary64, float_is_finite}
use Rattle.std.specs.Float.Numeral.{Parts, scan_numeral, numeral_digits, nearest_float, minus}
use Rattle.json.specs.Lex.{tokens}
use Rattle.json.specs.Json as json
use Rattle.serde_json.specs.Data.{Num, unsigned, negative, float, Data, null, boolean, number, string, array, object, Items, no_items, item, Members, no_members, member, put}
use Rattle.serde_json.specs.Read.{read, of_json, of_items, of_members, number_of, number_from, float_of, is_integer, max_depth}

-- what holds of the value, if there is one
abbrev Each : {A : Type 0} → (A → Type 0) → Option A → Type 0
Each P None = ⊤
Each P (Some x) = P x

-- what a function makes of the value
each_map : {A B : Type 0} (P : A → Type 0) (Q : B → Type 0) (f : A → B) → ((x : A) → P x → Q (f x)) → (o : Option A) → Each P o → Each Q (option_map f o)
each_map P Q f h None e = tt
each_map P Q f h (Some x) e = h x e

-- what a further step makes of the value
each_then : {A B : Type 0} (P : A → Type 0) (Q : B → Type 0) (f : A → Option B) → ((x : A) → P x → Each Q (f x)) → (o : Option A) → Each P o → Each Q (option_and_then f o)
each_then P Q f h None e = tt
each_then P Q f h (Some x) e = h x e

-- nothing is asked
any : {A : Type 0} (o : Option A) → Each (λ _. ⊤) o
any None = tt
any (Some x) = tt

-- ---- numbers

-- a number that is called negative is below zero
abbrev pub is_canonical : Num → Bool
is_canonical (unsigned n) = true
is_canonical (negative z) = int_lt z (pos 0)
is_canonical (float x) = true

-- such a number
abbrev Plain : Num → Type 0
Plain n = is_canonical n ≡ true

-- a number under a test, or another
either : (b : Bool) (n : Num) (o : Option Num) → (b ≡ true → Plain n) → Each Plain o → Each Plain (cond b (Some n) o)
either true n o h k = h refl
either false n o h k = k

-- one of two readings
branch : (b : Bool) (o p : Option Num) → Each Plain o → Each Plain p → Each Plain (cond b o p)
branch true o p h k = h
branch false o p h k = k

-- the sign of a negative number
below_zero : (n : ℕ) → nat_lt 0 n ≡ true → int_lt (neg_ℤ (pos n)) (pos 0) ≡ true
below_zero zero h = absurd cc
below_zero (suc n) h = refl

-- a float is no negative integer
plain_float : (sign : Bool) (p : Parts) → Each Plain (float_of sign p)
plain_float sign p = either (float_is_finite (nearest_float binary64 sign p)) (float (nearest_float binary64 sign p)) None (λ _. refl) tt

-- a numeral with its sign
plain_from : (sign : Bool) (p : Parts) → Each Plain (number_from sign p)
plain_from false p = either (is_integer p && nat_lt (numeral_digits p) (2 ^ 64)) (unsigned (numeral_digits p)) (float_of false p) (λ _. refl) (plain_float false p)
plain_from true p =
    let n = numeral_digits p in
    either (is_integer p && nat_lt 0 n && nat_le n (2 ^ 63)) (negative (neg_ℤ (pos n))) (float_of true p)
    (λ e. below_zero n (and_parts (is_integer p) (nat_lt 0 n) (and_parts (is_integer p && nat_lt 0 n) (nat_le n (2 ^ 63)) e).0).1) (plain_float true p)

-- a numeral
plain_number : (s : List ℕ) → Each Plain (number_of s)
unfolding number_of
plain_number s = branch (slice_index s 0 == minus) (number_from true (scan_numeral (drop 1 s))) (number_from false (scan_numeral s)) (plain_from true (scan_numeral (drop 1 s))) (plain_from false (scan_numeral s))

-- ---- values

-- each number that is called negative is below zero
abbrev mutual
  pub IsCanonical : Data → Type 0
  IsCanonical null = ⊤
  IsCanonical (boolean b) = ⊤
  IsCanonical (number n) = Plain n
  IsCanonical (string s) = ⊤
  IsCanonical (array ds) = ItemsAreCanonical ds
  IsCanonical (object ms) = MembersAreCanonical ms

  pub ItemsAreCanonical : Items → Type 0
  ItemsAreCanonical no_items = ⊤
  ItemsAreCanonical (item d ds) = IsCanonical d × ItemsAreCanonical ds

  pub MembersAreCanonical : Members → Type 0
  MembersAreCanonical no_members = ⊤
  MembersAreCanonical (member k d ms) = IsCanonical d × MembersAreCanonical ms

-- one of three lists of members
placed : (o : Ordering) (a b c : Members) → MembersAreCanonical a → MembersAreCanonical b → MembersAreCanonical c → MembersAreCanonical (match_ordering o a b c)
placed Less a b c x y z = x
placed Equal a b c x y z = y
placed Greater a b c x y z = z

-- a member that is put in
canonical-put : (k : List ℕ) (d : Data) (ms : Members) → IsCanonical d → MembersAreCanonical ms → MembersAreCanonical (put k d ms)
canonical-put k d no_members h hs = (h, tt)
canonical-put k d (member l e ms) h hs = placed (slice_cmp nat_cmp k l) _ _ _ (h, hs) (h, hs.1) (hs.0, canonical-put k d ms h hs.1)

mutual
  canonical-of_json : (j : json.Json) → Each IsCanonical (of_json j)
  canonical-of_json json.null = tt
  canonical-of_json (json.boolean b) = tt
  canonical-of_json (json.number s) = each_map Plain IsCanonical number (λ n h. h) (number_of s) (plain_number s)
  canonical-of_json (json.string s) = tt
  canonical-of_json (json.array js) = each_map ItemsAreCanonical IsCanonical array (λ ds h. h) (of_items js) (canonical-of_items js)
  canonical-of_json (json.object ms) = each_map MembersAreCanonical IsCanonical object (λ ds h. h) (of_members ms no_members) (canonical-of_members ms no_members tt)

  canonical-of_items : (js : json.Items) → Each ItemsAreCanonical (of_items js)
  canonical-of_items json.no_items = tt
  canonical-of_items (json.item j js) =
      each_then IsCanonical ItemsAreCanonical (λ d. option_map (item d) (of_items js)) (λ d h. each_map ItemsAreCanonical ItemsAreCanonical (item d) (λ ds hs. (h, hs)) (of_items js) (canonical-of_items js)) (of_json j) (canonical-of_json j)

  canonical-of_members : (ms : json.Members) (found : Members) → MembersAreCanonical found → Each MembersAreCanonical (of_members ms found)
  canonical-of_members json.no_members found h = h
  canonical-of_members (json.member k j ms) found h =
      each_then IsCanonical MembersAreCanonical (λ d. of_members ms (put k d found)) (λ d hd. canonical-of_members ms (put k d found) (canonical-put k d found hd h)) (of_json j) (canonical-of_json j)

-- ---- keys

-- the key comes before all of these
abbrev pub IsBelow : List ℕ → Members → Type 0
IsBelow k no_members = ⊤
IsBelow k (member l e ms) = (slice_cmp nat_cmp k l ≡ Less) × IsBelow k ms

-- the keys ascend
abbrev pub Ascend : Members → Type 0
Ascend no_members = ⊤
Ascend (member k d ms) = IsBelow k ms × Ascend ms

-- what comes before a key comes before all after it
further : (k l : List ℕ) (ms : Members) → slice_cmp nat_cmp k l ≡ Less → IsBelow l ms → IsBelow k ms
further k l no_members h b = tt
further k l (member m e ms) h b = (nat_list_cmp_total.trans k l m h b.0, further k l ms h b.1)

-- a key before all stays before all
below-put : (k l : List ℕ) (d : Data) (ms : Members) → slice_cmp nat_cmp l k ≡ Less → IsBelow l ms → IsBelow l (put k d ms)
below-put k l d no_members h b = (h, tt)
below-put k l d (member m e ms) h b = by (slice_cmp nat_cmp k m) (below-put k l d ms h b.1)
  where
    by : (o : Ordering) → IsBelow l (put k d ms) → IsBelow l (match_ordering o (member k d (member m e ms)) (member m d ms) (member m e (put k d ms)))
    by Less later = (h, b)
    by Equal later = b
    by Greater later = (b.0, later)

-- a member that is put in keeps the order
ascend-put : (k : List ℕ) (d : Data) (ms : Members) → Ascend ms → Ascend (put k d ms)
ascend-put k d no_members h = (tt, tt)
ascend-put k d (member l e ms) h = by (slice_cmp nat_cmp k l) refl (ascend-put k d ms h.1)
  where
    by : (o : Ordering) → slice_cmp nat_cmp k l ≡ o → Ascend (put k d ms) → Ascend (match_ordering o (member k d (member l e ms)) (member l d ms) (member l e (put k d ms)))
    by Less is later = ((is, further k l ms is h.0), h)
    by Equal is later = h
    by Greater is later = (below-put k l d ms (nat_list_cmp_total.antisymm l k ∙ ap ordering_reverse is) h.0, later)

-- members that are read ascend
ascend-of_members : (ms : json.Members) (found : Members) → Ascend found → Each Ascend (of_members ms found)
ascend-of_members json.no_members found h = h
ascend-of_members (json.member k j ms) found h = each_then (λ _. ⊤) Ascend (λ d. of_members ms (put k d found)) (λ d _. ascend-of_members ms (put k d found) (ascend-put k d found h)) (of_json j) (any (of_json j))

-- the keys of an object ascend
abbrev pub KeysAscend : Data → Type 0
KeysAscend null = ⊤
KeysAscend (boolean b) = ⊤
KeysAscend (number n) = ⊤
KeysAscend (string s) = ⊤
KeysAscend (array ds) = ⊤
KeysAscend (object ms) = Ascend ms

-- a value that is read has its keys in order
ascend-of_json : (j : json.Json) → Each KeysAscend (of_json j)
ascend-of_json json.null = tt
ascend-of_json (json.boolean b) = tt
ascend-of_json (json.number s) = each_map (λ _. ⊤) KeysAscend number (λ n h. tt) (number_of s) (any (number_of s))
ascend-of_json (json.string s) = tt
ascend-of_json (json.array js) = each_map (λ _. ⊤) KeysAscend array (λ n h. tt) (of_items js) (any (of_items js))
ascend-of_json (json.object ms) = each_map Ascend KeysAscend object (λ ds h. h) (of_members ms no_members) (ascend-of_members ms no_members tt)

-- ---- texts

-- what holds of each value of a text of JSON
from_json : (P : Data → Type 0) → ((j : json.Json) → Each P (of_json j)) → (text : List ℕ) → Each P (read text)
from_json P h text = by (option_and_then (λ p. json.if_last p.0 p.1) (json.value max_depth (tokens text)))
  where
    by : (o : Option json.Json) → Each P (option_and_then of_json o)
    by None = tt
    by (Some j) = h j

-- what is read has its negative numbers below zero
pub canonical-read : (text : List ℕ) (d : Data) → read text ≡ Some d → IsCanonical d
canonical-read text d e = subst (Each IsCanonical) e (from_json IsCanonical canonical-of_json text)

-- an object that is read has its keys in order
pub ascend-read : (text : List ℕ) (d : Data) → read text ≡ Some d → KeysAscend d
ascend-read text d e = subst (Each KeysAscend) e (from_json KeysAscend ascend-of_json text)
