-- An object with three members under three names in order is those members.
use Rattle.std.proofs.Common.{◌≡◌, ℕ, ◌≤◌, List, [], ◌∷◌, length, true, Some, None, Ordering, Less, Equal, Greater, refl, sym, ap, ◌∙◌, subst, arith}
use Rattle.std.specs.Prelude.{⊤, is_some, codes}
use Rattle.std.specs.Ordering.{nat_cmp, match_ordering, ordering_reverse, is_eq}
use Rattle.std.specs.Cmp.Lexicographic.{slice_cmp}
use Rattle.std.proofs.lemmas.Bool.{and_parts, false≢true, eqb-true}
use Rattle.std.proofs.lemmas.Cmp.{nat_list_cmp_total}
use Rattle.std.proofs.lemmas.Map.Text.{is_eq-slice_cmp}
use Rattle.std.proofs.lemmas.Slice.Eq.{bytes_eq-Decides}
use Rattle.serde_json.specs.Data.{Data, null, boolean, number, string, array, object, Members, no_members, member}
use Rattle.serde_json.specs.Events.{members_len}
use Rattle.serde_json.specs.Find.{get_member}
use Rattle.setting_text.specs.Reading.{is_whole}
use Rattle.setting_text.proofs.Canonical.{IsBelow, Ascend, KeysAscend}

-- the keys, in order
abbrev pub keys_of : Members → List (List ℕ)
keys_of no_members = []
keys_of (member k d ms) = k ∷ keys_of ms

-- keys that compare as equal are the same
same_key : (k l : List ℕ) → slice_cmp nat_cmp k l ≡ Equal → k ≡ l
same_key k l e = (bytes_eq-Decides k l).0 (sym (is_eq-slice_cmp k l) ∙ ap is_eq e)

-- all of the names are found
abbrev AllFound : List (List ℕ) → Members → Type 0
AllFound [] ms = ⊤
AllFound (k ∷ ks) ms = (is_some (get_member k ms) ≡ true) × AllFound ks ms

-- the name comes before all of these names
abbrev IsFirst : List ℕ → List (List ℕ) → Type 0
IsFirst k [] = ⊤
IsFirst k (l ∷ ls) = (slice_cmp nat_cmp k l ≡ Less) × IsFirst k ls

-- the names ascend
abbrev InOrder : List (List ℕ) → Type 0
InOrder [] = ⊤
InOrder (k ∷ ks) = IsFirst k ks × InOrder ks

-- the order, seen from the other side
above : (k l : List ℕ) → slice_cmp nat_cmp l k ≡ Less → slice_cmp nat_cmp k l ≡ Greater
above k l h = nat_list_cmp_total.antisymm k l ∙ ap ordering_reverse h

-- a name that is found behind a key is found after it
found_after : (l k : List ℕ) (d : Data) (ms : Members) → slice_cmp nat_cmp l k ≡ Less → is_some (get_member k (member l d ms)) ≡ true → is_some (get_member k ms) ≡ true
found_after l k d ms h e = subst (λ o. is_some (match_ordering o (get_member k ms) (Some d) (get_member k ms)) ≡ true) (above k l h) e

-- names that are found behind a key before them all are found after it
all_after : (l : List ℕ) (d : Data) (ms : Members) (ks : List (List ℕ)) → IsFirst l ks → AllFound ks (member l d ms) → AllFound ks ms
all_after l d ms [] first found = tt
all_after l d ms (k ∷ ks) first found = (found_after l k d ms first.0 found.0, all_after l d ms ks first.1 found.1)

-- what comes before the first name comes before all
before_all : (l k : List ℕ) (ks : List (List ℕ)) → slice_cmp nat_cmp l k ≡ Less → IsFirst k ks → IsFirst l ks
before_all l k [] h first = tt
before_all l k (m ∷ ks) h first = (nat_list_cmp_total.trans l k m h first.0, before_all l k ks h first.1)

-- a name before all keys is not found
missing : (k : List ℕ) (ms : Members) → IsBelow k ms → get_member k ms ≡ None
missing k no_members b = refl
missing k (member l e ms) b = rw b.0 (missing k ms b.1)

-- a name before the first key is not found
not_found : (k l : List ℕ) (d : Data) (ms : Members) → slice_cmp nat_cmp k l ≡ Less → IsBelow l ms → is_some (get_member k (member l d ms)) ≡ true → ⊥
not_found k l d ms h b e =
    let below = before ms b in
    absurd (false≢true (ap is_some (sym (missing k (member l d ms) (h, below))) ∙ e))
  where
    before : (ms : Members) → IsBelow l ms → IsBelow k ms
    before no_members b = tt
    before (member m e ms) b = (nat_list_cmp_total.trans k l m h b.0, before ms b.1)

-- So many members as names are under just these names.
exactly : (ks : List (List ℕ)) (ms : Members) → InOrder ks → Ascend ms → AllFound ks ms → (length ks ≤ members_len ms) × (length ks ≡ members_len ms → keys_of ms ≡ ks)
exactly [] no_members order ascend found = (omega arith, λ _. refl)
exactly [] (member l d ms) order ascend found = (omega arith, λ e. absurd (omega arith))
exactly (k ∷ ks) no_members order ascend found = absurd cc
exactly (k ∷ ks) (member l d ms) order ascend found = by (slice_cmp nat_cmp k l) refl (exactly ks ms order.1 ascend.1) (exactly (k ∷ ks) ms order ascend.1)
  where
    by : (o : Ordering) → slice_cmp nat_cmp k l ≡ o
        → (AllFound ks ms → (length ks ≤ members_len ms) × (length ks ≡ members_len ms → keys_of ms ≡ ks))
        → (AllFound (k ∷ ks) ms → (length (k ∷ ks) ≤ members_len ms) × (length (k ∷ ks) ≡ members_len ms → keys_of ms ≡ k ∷ ks))
        → (length (k ∷ ks) ≤ members_len (member l d ms)) × (length (k ∷ ks) ≡ members_len (member l d ms) → keys_of (member l d ms) ≡ k ∷ ks)
    by Less is here later = absurd (not_found k l d ms is ascend.0 found.0)
    by Equal is here later =
        let same = same_key k l is in
        let rest = here (all_after l d ms ks (subst (λ m. IsFirst m ks) same order.0) found.1) in
        (omega (arith, rest.0), λ e. ap (λ m. m ∷ keys_of ms) (sym same) ∙ ap (λ ls. k ∷ ls) (rest.1 (omega (arith, e))))
    by Greater is here later =
        let less : slice_cmp nat_cmp l k ≡ Less = nat_list_cmp_total.antisymm l k ∙ ap ordering_reverse is in
        let rest = later (all_after l d ms (k ∷ ks) (less, before_all l k ks less order.0) found) in
        (omega (arith, rest.0), λ e. absurd (omega (arith, rest.0, e)))

-- the keys of a setting, in the order of texts
abbrev names : List (List ℕ)
names = codes "arcs" ∷ codes "decisions" ∷ codes "nodes" ∷ []

-- the three members
abbrev pub three : (a d n : Data) → Data
three a d n = object (member (codes "arcs") a (member (codes "decisions") d (member (codes "nodes") n no_members)))

-- members under these keys are the three
three_members : (ms : Members) → keys_of ms ≡ names → (a d n : Data) × (object ms ≡ three a d n)
three_members no_members e = absurd cc
three_members (member k a no_members) e = absurd cc
three_members (member k a (member l d no_members)) e = absurd cc
three_members (member k a (member l d (member m n no_members))) e =
    let k_is : k ≡ codes "arcs" = cc in
    let l_is : l ≡ codes "decisions" = cc in
    let m_is : m ≡ codes "nodes" = cc in
    (a, d, n, rw (k_is, l_is, m_is) refl)
three_members (member k a (member l d (member m n (member o b ms)))) e = absurd cc

-- a value with exactly the keys of a setting
pub whole_is : (d : Data) → KeysAscend d → is_whole d ≡ true → (a g n : Data) × (d ≡ three a g n)
whole_is null ascend e = absurd cc
whole_is (boolean b) ascend e = absurd cc
whole_is (number n) ascend e = absurd cc
whole_is (string s) ascend e = absurd cc
whole_is (array ds) ascend e = absurd cc
whole_is (object ms) ascend e =
    let p = and_parts _ _ e in
    let q = and_parts _ _ p.0 in
    let r = and_parts _ _ q.0 in
    let count : members_len ms ≡ 3 = eqb-true _ _ r.0 in
    three_members ms ((exactly names ms ((refl, (refl, tt)), ((refl, tt), (tt, tt))) ascend (r.1, (q.1, (p.1, tt)))).1 (sym count))
