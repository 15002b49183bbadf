-- What the picked decisions say of an arc, read from the rulings that are kept for it.
use Rattle.std.proofs.Common.{◌≡◌, ℕ, zero, suc, ◌+◌, ◌≤◌, refl, sym, ap, ◌∙◌, arith, List, [], ◌∷◌, ◌++◌, map, filter, Bool, true, false, cond, not, ◌==◌, ◌&&◌, Option, None, Some}
use Rattle.std.specs.Prelude.{◌||◌, slice_get, slice_index_or}
use Rattle.std.specs.List.{list_all}
use Rattle.std.specs.Option.{option_map_or}
use Rattle.std.proofs.lemmas.List.Folds.{list_all-append}
use Rattle.std.proofs.lemmas.Bool.Decides.{nat_tests}
use Rattle.base_types.specs.declared.states.Allow.{Allow}
use Rattle.base_types.specs.declared.states.ArcState.{ArcState}
use Rattle.gas_model.specs.declared.rows.Decision.{Decision}
use Rattle.gas_model.specs.declared.rows.Group.{Group}
use Rattle.gas_model.specs.declared.rows.Ruling.{Ruling}
use Rattle.gas_model.specs.Choices.{allows, words_allow, picks_allow, words_in, words_if, words_for}
use Rattle.gas_model.specs.Rulings.{rulings_in, rulings_by, rulings_from, rulings_at, leaves, all_leave, pick_in}

-- the pick is the decision j
abbrev picks_it : Option ℕ → ℕ → Bool
picks_it pick j = option_map_or (λ i. i == j) pick false

-- ---- tests
and_true : (b : Bool) → (b && true) ≡ b
and_true b = grind arith

both_ways : (a b c d : Bool) → a ≡ c → b ≡ d → (a && b) ≡ (c && d)
both_ways a b c d e f = cc

-- ---- one decision: a ruling stands for each set that names the arc
ruling_if : (test : Ruling → Bool) (here : Bool) (r : Ruling) (rest : List Ruling) → list_all test (cond here (r ∷ rest) rest) ≡ ((not here || test r) && list_all test rest)
ruling_if test true r rest = refl
ruling_if test false r rest = refl

word_if : (test : Allow → Bool) (here : Bool) (s : ℕ × Allow) (rest : List (ℕ × Allow))
    → list_all test (map (λ x. x.1) (cond here (s ∷ rest) rest)) ≡ ((not here || test s.1) && list_all test (map (λ x. x.1) rest))
word_if test true s rest = refl
word_if test false s rest = refl

-- a ruling of a decision that isn't picked leaves each state
leaves_others : (pick : Option ℕ) (state : ArcState) (r : Ruling) → picks_it pick r.decision ≡ false → leaves pick state r ≡ true
leaves_others pick state r h = ap (λ (b : Bool). not b || allows r.allow state) h

leaves_allowed : (pick : Option ℕ) (state : ArcState) (r : Ruling) → picks_it pick r.decision ≡ true → leaves pick state r ≡ allows r.allow state
leaves_allowed pick state r h = ap (λ (b : Bool). not b || allows r.allow state) h

or_true : (here : Bool) (b : Bool) → b ≡ true → (not here || b) ≡ true
or_true here b h = grind arith

others_in : (pick : ℕ → Option ℕ) (state : ArcState) (a k j : ℕ) (sets : List (ℕ × Allow)) → picks_it (pick k) j ≡ false → all_leave pick state (rulings_in a k j sets) ≡ true
others_in pick state a k j [] h = refl
others_in pick state a k j (s ∷ sets) h =
    let r : Ruling = record { group = k; decision = j; allow = s.1 } in
    ruling_if (λ x. leaves (pick x.group) state x) (s.0 == a) r (rulings_in a k j sets)
    ∙ both_ways (not (s.0 == a) || leaves (pick k) state r) (all_leave pick state (rulings_in a k j sets)) true true (or_true (s.0 == a) (leaves (pick k) state r) (leaves_others (pick k) state r h)) (others_in pick state a k j sets h)

picked_in : (pick : ℕ → Option ℕ) (state : ArcState) (a k j : ℕ) (sets : List (ℕ × Allow)) → picks_it (pick k) j ≡ true
    → all_leave pick state (rulings_in a k j sets) ≡ words_allow state (map (λ s. s.1) (filter (λ s. s.0 == a) sets))
picked_in pick state a k j [] h = refl
picked_in pick state a k j (s ∷ sets) h =
    let r : Ruling = record { group = k; decision = j; allow = s.1 } in
    let rest = filter (λ (x : ℕ × Allow). x.0 == a) sets in
    ruling_if (λ x. leaves (pick x.group) state x) (s.0 == a) r (rulings_in a k j sets)
    ∙ both_ways (not (s.0 == a) || leaves (pick k) state r) (all_leave pick state (rulings_in a k j sets)) (not (s.0 == a) || allows s.1 state) (words_allow state (map (λ x. x.1) rest)) (ap (λ (b : Bool). not (s.0 == a) || b) (leaves_allowed (pick k) state r h)) (picked_in pick state a k j sets h)
    ∙ sym (word_if (λ word. allows word state) (s.0 == a) s rest)

-- ---- one group
all_append : (pick : ℕ → Option ℕ) (state : ArcState) (xs ys : List Ruling) → all_leave pick state (xs ++ ys) ≡ (all_leave pick state xs && all_leave pick state ys)
all_append pick state xs ys = list_all-append (λ r. leaves (pick r.group) state r) xs ys

-- no decision from n on is picked
others_by : (pick : ℕ → Option ℕ) (state : ArcState) (a k n : ℕ) (decisions : List Decision) → ((j : ℕ) → n ≤ j → picks_it (pick k) j ≡ false) → all_leave pick state (rulings_by a k n decisions) ≡ true
others_by pick state a k n [] h = refl
others_by pick state a k n (d ∷ decisions) h =
    all_append pick state (rulings_in a k n d.sets) (rulings_by a k (n + 1) decisions)
    ∙ both_ways (all_leave pick state (rulings_in a k n d.sets)) (all_leave pick state (rulings_by a k (n + 1) decisions)) true true (others_in pick state a k n d.sets (h n (omega arith))) (others_by pick state a k (n + 1) decisions (λ j l. h j (omega arith)))

it_picks : (pick : Option ℕ) (j : ℕ) → pick ≡ Some j → picks_it pick j ≡ true
it_picks pick j e = ap (λ o. picks_it o j) e ∙ grind (arith, nat_tests)

another_picked : (pick : Option ℕ) (i j : ℕ) → pick ≡ Some i → (i ≡ j → ⊥) → picks_it pick j ≡ false
another_picked pick i j e h = ap (λ o. picks_it o j) e ∙ grind (arith, nat_tests)

picked_by : (pick : ℕ → Option ℕ) (state : ArcState) (a k n m : ℕ) (decisions : List Decision) → pick k ≡ Some (n + m)
    → all_leave pick state (rulings_by a k n decisions) ≡ words_allow state (words_if (slice_get decisions m) a)
picked_by pick state a k n m [] h = refl
picked_by pick state a k n zero (d ∷ decisions) h =
    all_append pick state (rulings_in a k n d.sets) (rulings_by a k (n + 1) decisions)
    ∙ both_ways (all_leave pick state (rulings_in a k n d.sets)) (all_leave pick state (rulings_by a k (n + 1) decisions)) (words_allow state (words_in d a)) true
    (picked_in pick state a k n d.sets (it_picks (pick k) n (h ∙ ap Some (let e : n + 0 ≡ n = omega arith in e))))
    (others_by pick state a k (n + 1) decisions (λ j l. another_picked (pick k) (n + 0) j h (λ e. absurd (omega arith))))
    ∙ and_true (words_allow state (words_in d a))
picked_by pick state a k n (suc m) (d ∷ decisions) h =
    all_append pick state (rulings_in a k n d.sets) (rulings_by a k (n + 1) decisions)
    ∙ both_ways (all_leave pick state (rulings_in a k n d.sets)) (all_leave pick state (rulings_by a k (n + 1) decisions)) true (words_allow state (words_if (slice_get decisions m) a))
    (others_in pick state a k n d.sets (another_picked (pick k) (n + suc m) n h (λ e. absurd (omega arith))))
    (picked_by pick state a k (n + 1) m decisions (h ∙ ap Some (let e : n + suc m ≡ n + 1 + m = omega arith in e)))

none_picked : (pick : Option ℕ) (j : ℕ) → pick ≡ None → picks_it pick j ≡ false
none_picked pick j e = ap (λ o. picks_it o j) e

-- ---- all groups, which are numbered from k
-- nothing is picked for the groups from k on
others_from : (pick : ℕ → Option ℕ) (state : ArcState) (a k : ℕ) (groups : List Group) → ((i : ℕ) → pick (k + i) ≡ None) → all_leave pick state (rulings_from a k groups) ≡ true
others_from pick state a k [] h = refl
others_from pick state a k (g ∷ groups) h =
    let here : pick k ≡ None = ap pick (let e : k ≡ k + 0 = omega arith in e) ∙ h 0 in
    all_append pick state (rulings_by a k 0 g.decisions) (rulings_from a (k + 1) groups)
    ∙ both_ways (all_leave pick state (rulings_by a k 0 g.decisions)) (all_leave pick state (rulings_from a (k + 1) groups)) true true
    (others_by pick state a k 0 g.decisions (λ j l. none_picked (pick k) j here))
    (others_from pick state a (k + 1) groups (λ i. ap pick (let e : k + 1 + i ≡ k + suc i = omega arith in e) ∙ h (suc i)))

words_from : (pick : ℕ → Option ℕ) (state : ArcState) (a k : ℕ) (groups : List Group) (picks : List (Option ℕ)) → ((i : ℕ) → pick (k + i) ≡ slice_index_or picks i None)
    → words_allow state (words_for groups picks a) ≡ all_leave pick state (rulings_from a k groups)
words_from pick state a k [] picks h = refl
words_from pick state a k (g ∷ groups) [] h = sym (others_from pick state a k (g ∷ groups) h)
words_from pick state a k (g ∷ groups) (None ∷ picks) h =
    let here : pick k ≡ None = ap pick (let e : k ≡ k + 0 = omega arith in e) ∙ h 0 in
    words_from pick state a (k + 1) groups picks (λ i. ap pick (let e : k + 1 + i ≡ k + suc i = omega arith in e) ∙ h (suc i))
    ∙ sym (all_append pick state (rulings_by a k 0 g.decisions) (rulings_from a (k + 1) groups)
    ∙ both_ways (all_leave pick state (rulings_by a k 0 g.decisions)) (all_leave pick state (rulings_from a (k + 1) groups)) true (all_leave pick state (rulings_from a (k + 1) groups))
    (others_by pick state a k 0 g.decisions (λ j l. none_picked (pick k) j here))
    refl)
words_from pick state a k (g ∷ groups) (Some j ∷ picks) h =
    let here : pick k ≡ Some (0 + j) = ap pick (let e : k ≡ k + 0 = omega arith in e) ∙ h 0 ∙ ap Some (let e : j ≡ 0 + j = omega arith in e) in
    list_all-append (λ word. allows word state) (words_if (slice_get g.decisions j) a) (words_for groups picks a)
    ∙ both_ways (words_allow state (words_if (slice_get g.decisions j) a)) (words_allow state (words_for groups picks a)) (all_leave pick state (rulings_by a k 0 g.decisions)) (all_leave pick state (rulings_from a (k + 1) groups))
    (sym (picked_by pick state a k 0 j g.decisions here))
    (words_from pick state a (k + 1) groups picks (λ i. ap pick (let e : k + 1 + i ≡ k + suc i = omega arith in e) ∙ h (suc i)))
    ∙ sym (all_append pick state (rulings_by a k 0 g.decisions) (rulings_from a (k + 1) groups))

-- the words of the picked decisions for an arc allow a state exactly where the arc's rulings leave it
pub words_leave : (groups : List Group) (picks : List (Option ℕ)) (a : ℕ) (state : ArcState) → picks_allow groups picks a state ≡ all_leave (pick_in picks) state (rulings_at groups a)
words_leave groups picks a state =
    words_from (pick_in picks) state a 0 groups picks (λ i. ap (pick_in picks) (let e : 0 + i ≡ i = omega arith in e))
