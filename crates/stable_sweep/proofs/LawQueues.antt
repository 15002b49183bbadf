-- Slots in two rounds.
use Rattle.std.proofs.Common.{◌≡◌, ◌≢◌, ◌⊎◌, ℕ, ◌+◌, ◌*◌, ◌<◌, ◌≤◌, ◌==◌, refl, sym, ap, ◌∙◌, subst, inl, inr, arith, Bool, true, false, not, cond, List, [], ◌∷◌, ◌++◌, length}
use Rattle.std.specs.Prelude.{◌||◌, Option, Some, None, MatchOption}
use Rattle.std.proofs.lemmas.Bool.{cases_Bool, cases_eq, cases_lt, false≢true}
use Rattle.std.proofs.lemmas.List.{length-append}
use Rattle.link_queue.specs.Queue.{Queue, holds, without, AreApart, IsQueue}
use Rattle.link_queue.proofs.Lists.{holds_here, holds_past, holds_append, holds_without, without_here, without_past, after_push}
use Rattle.stable_sweep.specs.Waiting.{KeepsHeld, NoneFrom, IsFirstFrom, IsInRounds, IsTaken}

-- ---- two lists
pub held_right : (i : ℕ) (xs ys : List ℕ) → holds i ys ≡ true → holds i (xs ++ ys) ≡ true
held_right i [] ys h = h
held_right i (x ∷ xs) ys h = or_right (i == x) (holds i (xs ++ ys)) (held_right i xs ys h)
  where
    or_right : (a b : Bool) → b ≡ true → (a || b) ≡ true
    or_right true b h = refl
    or_right false b h = h

pub held_in : (i : ℕ) (xs ys : List ℕ) → holds i (xs ++ ys) ≡ true → (holds i xs ≡ true) ⊎ (holds i ys ≡ true)
held_in i [] ys h = inr h
held_in i (x ∷ xs) ys h =
    elim (cases_eq i x) [
      | inl e ↦ inl (holds_here i x xs e)
      | inr n ↦ elim (held_in i xs ys (sym (holds_past i x (xs ++ ys) n) ∙ h)) [ inl l ↦ inl (holds_past i x xs n ∙ l) | inr r ↦ inr r ]
    ]

-- ---- one number taken out
without_self : (i : ℕ) (xs : List ℕ) → holds i (without i xs) ≡ false
without_self i [] = refl
without_self i (x ∷ xs) =
    elim (cases_eq i x) [
      | inl e ↦ ap (holds i) (without_here i x xs e) ∙ without_self i xs
      | inr n ↦ ap (holds i) (without_past i x xs n) ∙ holds_past i x (without i xs) n ∙ without_self i xs
    ]

without_other : (i j : ℕ) (xs : List ℕ) → j ≢ i → holds j xs ≡ true → holds j (without i xs) ≡ true
without_other i j [] n h = h
without_other i j (x ∷ xs) n h =
    elim (cases_eq i x) [
      | inl e ↦ ap (holds j) (without_here i x xs e) ∙ without_other i j xs n (sym (holds_past j x xs (λ s. n (s ∙ sym e))) ∙ h)
      | inr m ↦
          ap (holds j) (without_past i x xs m)
          ∙ elim (cases_eq j x) [
            | inl s ↦ holds_here j x (without i xs) s
            | inr d ↦ holds_past j x (without i xs) d ∙ without_other i j xs n (sym (holds_past j x xs d) ∙ h)
          ]
    ]

no_longer : (i : ℕ) (xs : List ℕ) → length (without i xs) ≤ length xs
no_longer i [] = omega arith
no_longer i (x ∷ xs) =
    let less = no_longer i xs in
    elim (cases_eq i x) [
      | inl e ↦ subst (λ (ys : List ℕ). length ys ≤ length (x ∷ xs)) (sym (without_here i x xs e)) (omega (arith, less))
      | inr n ↦ subst (λ (ys : List ℕ). length ys ≤ length (x ∷ xs)) (sym (without_past i x xs n)) (omega (arith, less))
    ]

shorter : (i : ℕ) (xs : List ℕ) → holds i xs ≡ true → length (without i xs) < length xs
shorter i [] h = absurd (false≢true h)
shorter i (x ∷ xs) h =
    elim (cases_eq i x) [
      | inl e ↦ let less = no_longer i xs in subst (λ (ys : List ℕ). length ys < length (x ∷ xs)) (sym (without_here i x xs e)) (omega (arith, less))
      | inr n ↦ let less = shorter i xs (sym (holds_past i x xs n) ∙ h) in subst (λ (ys : List ℕ). length ys < length (x ∷ xs)) (sym (without_past i x xs n)) (omega (arith, less))
    ]

-- from the first round
pub taken_first : (i : ℕ) (xs zs ys : List ℕ) → zs ≡ without i xs → holds i xs ≡ true → IsTaken i (xs ++ ys) (zs ++ ys)
taken_first i xs zs ys e h = record {
  less =
      let less = shorter i xs h in
      let same : length zs ≡ length (without i xs) = ap length e in
      omega (arith, less, same, length-append xs ys, length-append zs ys);
  rest = λ j k. elim (cases_eq j i) [
    | inl s ↦ inl s
    | inr n ↦ elim (held_in j xs ys k) [
      | inl l ↦ inr (holds_append j zs ys (ap (holds j) e ∙ without_other i j xs n l))
      | inr r ↦ inr (held_right j zs ys r)
    ]
  ];
}

-- from behind it
pub taken_later : (i : ℕ) (old new : List ℕ) → old ≡ i ∷ new → IsTaken i old new
taken_later i old new e = record {
  less = subst (λ (xs : List ℕ). length new < length xs) (sym e) (omega arith);
  rest = λ j k. elim (cases_eq j i) [ inl s ↦ inl s | inr n ↦ inr (sym (holds_past j i new n) ∙ ap (holds j) (sym e) ∙ k) ];
}

-- ---- the first round
held_below : (size i : ℕ) (xs : List ℕ) → AreApart size xs → holds i xs ≡ true → i < size
held_below size i [] a h = absurd (false≢true h)
held_below size i (x ∷ xs) a h =
    elim (cases_eq i x) [
      | inl e ↦ subst (λ (k : ℕ). k < size) (sym e) a.0
      | inr n ↦ held_below size i xs a.2 (sym (holds_past i x xs n) ∙ h)
    ]

-- where none is held from the turn on, the round is over
pub round_over : (size turn : ℕ) (round later : Queue) → IsInRounds size turn round later → NoneFrom turn size round.held → round.held ≡ []
round_over size turn round later r none = nothing round.held (λ i h.
    let below : i < size = subst (λ (n : ℕ). i < n) r.round_size (held_below round.size i round.held r.round_is.apart h) in
    false≢true (sym (none.none i (r.ahead i h) below) ∙ h))
  where
    nothing : (xs : List ℕ) → ((i : ℕ) → holds i xs ≡ true → ⊥) → xs ≡ []
    nothing [] f = refl
    nothing (x ∷ xs) f = absurd (f x (holds_here x x xs refl))

-- behind the round the one in front is taken
pub later_taken : (size turn : ℕ) (round later new : Queue) (o : Option ℕ) → IsInRounds size turn round later → NoneFrom turn size round.held → MatchOption o ((later.held ≡ []) × (new.held ≡ [])) (λ i. (later.held ≡ i ∷ new.held) × (i < new.size)) → new.size ≡ later.size
    → MatchOption o (round.held ++ later.held ≡ []) (λ i. (i < size) × IsTaken i (round.held ++ later.held) (round.held ++ new.held))
later_taken size turn round later new None r none m e = ap (λ (xs : List ℕ). xs ++ later.held) (round_over size turn round later r none) ∙ m.0
later_taken size turn round later new (Some i) r none m e =
    let over = round_over size turn round later r none in (
      subst (λ (n : ℕ). i < n) (e ∙ r.later_size) m.1,
      subst (λ (xs : List ℕ). IsTaken i (xs ++ later.held) (xs ++ new.held)) (sym over) (taken_later i later.held new.held m.0),
    )

-- behind the first, all are still to come
pub ahead_after : (size turn i : ℕ) (xs zs : List ℕ) → IsFirstFrom turn size xs i → ((j : ℕ) → holds j xs ≡ true → turn ≤ j) → zs ≡ without i xs → (j : ℕ) → holds j zs ≡ true → i + 1 ≤ j
ahead_after size turn i xs zs first ahead e j h =
    let w : holds j (without i xs) ≡ true = ap (holds j) (sym e) ∙ h in
    elim (cases_Bool (holds j xs)) [
      | inl y ↦
          elim (cases_lt j i) [
            | inl lt ↦ absurd (false≢true (sym (first.first j (ahead j y) lt) ∙ y))
            | inr ge ↦ elim (cases_eq j i) [
              | inl s ↦ absurd (false≢true (sym (without_self i xs) ∙ ap (λ (k : ℕ). holds k (without i xs)) (sym s) ∙ w))
              | inr n ↦ omega (arith, ge, n)
            ]
          ]
      | inr n ↦ absurd (false≢true (sym (holds_without j i xs n) ∙ w))
    ]

pub few_in_two : (size : ℕ) (round later : Queue) → round.size ≡ size → later.size ≡ size → IsQueue round → IsQueue later → length (round.held ++ later.held) ≤ 2 * size
few_in_two size round later r l q k =
    let a = q.few in
    let b = k.few in
    omega (arith, r, l, a, b, length-append round.held later.held)

-- ---- one more
pub record Put (xs ys zs ws : List ℕ) (i : ℕ) : Type 0 where
  pub kept : KeepsHeld (xs ++ ys) (zs ++ ws)
  pub put : holds i (zs ++ ws) ≡ true

pub put_later : (xs old new : List ℕ) (i : ℕ) (result : Bool) → result ≡ not (holds i old) → new ≡ cond result (old ++ i ∷ []) old → Put xs old xs new i
put_later xs old new i result e f =
    let p = after_push old new i result e f in
    record {
      kept = λ j h. elim (held_in j xs old h) [ inl l ↦ holds_append j xs new l | inr r ↦ held_right j xs new (p.kept j r) ];
      put = held_right i xs new p.put;
    }

pub put_first : (ys old new : List ℕ) (i : ℕ) (result : Bool) → result ≡ not (holds i old) → new ≡ cond result (old ++ i ∷ []) old → Put old ys new ys i
put_first ys old new i result e f =
    let p = after_push old new i result e f in
    record {
      kept = λ j h. elim (held_in j old ys h) [ inl l ↦ holds_append j new ys (p.kept j l) | inr r ↦ held_right j new ys r ];
      put = holds_append i new ys p.put;
    }

-- one that is put in ahead is still to come, as the others are
pub ahead_more : (turn i : ℕ) (old new : List ℕ) (result : Bool) → new ≡ cond result (old ++ i ∷ []) old → turn ≤ i → ((j : ℕ) → holds j old ≡ true → turn ≤ j) → (j : ℕ) → holds j new ≡ true → turn ≤ j
ahead_more turn i old new true f le ahead j h =
    elim (held_in j old (i ∷ []) (ap (holds j) (sym f) ∙ h)) [
      | inl l ↦ ahead j l
      | inr r ↦ elim (cases_eq j i) [
        | inl s ↦ subst (λ (k : ℕ). turn ≤ k) (sym s) le
        | inr n ↦ absurd (false≢true (sym (holds_past j i [] n) ∙ r))
      ]
    ]
ahead_more turn i old new false f le ahead j h = ahead j (ap (holds j) (sym f) ∙ h)
