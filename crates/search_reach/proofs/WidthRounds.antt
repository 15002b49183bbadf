-- Going round a list: how far a place is ahead of the turn.
use Rattle.std.proofs.Common.{◌≡◌, ℕ, suc, ◌+◌, ◌-◌, ◌*◌, ◌<◌, ◌≤◌, ◌⊎◌, inl, inr, arith}
use Rattle.std.proofs.lemmas.Bool.Decides.{nat_tests}
use Rattle.std.proofs.lemmas.Bool.{cases_lt, cases_eq}
use Rattle.box_split.specs.Forks.{after, round, start}

start_within : (n turn : ℕ) → 0 < n → start n turn < n
start_within n turn h = grind (arith, nat_tests)

start_is : (n turn : ℕ) → turn < n → start n turn ≡ turn
start_is n turn h = grind (arith, nat_tests)

round_short : (n from k : ℕ) → from + k < n → round n from k ≡ from + k
round_short n from k h = grind (arith, nat_tests)

round_long : (n from k : ℕ) → n ≤ from + k → round n from k + n ≡ from + k
round_long n from k h = grind (arith, nat_tests)

after_last : (n place : ℕ) → place + 1 ≡ n → after n place ≡ 0
after_last n place h = grind (arith, nat_tests)

after_other : (n place : ℕ) → place + 1 < n → after n place ≡ place + 1
after_other n place h = grind (arith, nat_tests)

-- the place j comes d places after the turn
pub record IsAhead (n turn j d : ℕ) : Type 0 where
  pub within : d < n
  pub lands : (start n turn + d ≡ j) ⊎ (start n turn + d ≡ j + n)

pub ahead : (n turn j : ℕ) → j < n → (d : ℕ) × IsAhead n turn j d
ahead n turn j h =
    let s = start_within n turn (omega arith) in
    elim (cases_lt j (start n turn)) [
      | inl lt ↦ (j + n - start n turn, record { within = omega arith; lands = inr (omega arith) })
      | inr ge ↦ (j - start n turn, record { within = omega arith; lands = inl (omega arith) })
    ]

pub reached : (n turn j d : ℕ) → j < n → IsAhead n turn j d → round n (start n turn) d ≡ j
reached n turn j d h a =
    elim a.lands [
      | inl e ↦ let r = round_short n (start n turn) d (omega arith) in omega arith
      | inr e ↦ let r = round_long n (start n turn) d (omega arith) in omega arith
    ]

-- at a place before it the turn goes on, and it comes nearer
pub nearer : (n turn j d k : ℕ) → j < n → IsAhead n turn j d → k < d → (e : ℕ) × (e < d) × IsAhead n (after n (round n (start n turn) k)) j e
nearer n turn j d k h a less =
    let s = start_within n turn (omega arith) in
    let w = a.within in
    elim (cases_lt (start n turn + k) n) [
      | inl short ↦
          let r = round_short n (start n turn) k short in
          elim (cases_eq (start n turn + k + 1) n) [
            | inl last ↦
                let t = after_last n (round n (start n turn) k) (omega arith) in
                let z = start_is n (after n (round n (start n turn) k)) (omega arith) in
                elim a.lands [
                  | inl e ↦ absurd (omega arith)
                  | inr e ↦ (d - k - 1, omega arith, record { within = omega arith; lands = inl (omega arith) })
                ]
            | inr other ↦
                let t = after_other n (round n (start n turn) k) (omega arith) in
                let z = start_is n (after n (round n (start n turn) k)) (omega arith) in
                elim a.lands [
                  | inl e ↦ (d - k - 1, omega arith, record { within = omega arith; lands = inl (omega arith) })
                  | inr e ↦ (d - k - 1, omega arith, record { within = omega arith; lands = inr (omega arith) })
                ]
          ]
      | inr long ↦
          let r = round_long n (start n turn) k long in
          elim a.lands [
            | inl e ↦ absurd (omega arith)
            | inr e ↦
                let t = after_other n (round n (start n turn) k) (omega arith) in
                let z = start_is n (after n (round n (start n turn) k)) (omega arith) in
                (d - k - 1, omega arith, record { within = omega arith; lands = inl (omega arith) })
          ]
    ]

-- h halvings in all, m of the place j, in a list of n: none is left out for a whole round
pub record IsCounted (n h m turn j : ℕ) : Type 0 where
  pub distance : ℕ
  pub ahead : IsAhead n turn j distance
  pub few : h + distance < n * m + n

pub none_counted : (n m turn j : ℕ) → j < n → IsCounted n 0 m turn j
none_counted n m turn j h = let a = ahead n turn j h in let w = a.1.within in record { distance = a.0; ahead = a.1; few = omega arith }

pub this_counted : (n h m turn next j : ℕ) → j < n → IsCounted n h m turn j → IsCounted n (suc h) (suc m) next j
this_counted n h m turn next j lt c =
    let a = ahead n next j lt in
    let w = a.1.within in
    let f = c.few in
    let e : n * suc m ≡ n * m + n = omega arith in
    record { distance = a.0; ahead = a.1; few = omega arith }

pub other_counted : (n h m t turn next j e : ℕ) → (c : IsCounted n h m turn j) → e < c.distance → IsAhead n next j e → m ≤ t → n * m ≤ n * t → IsCounted n (suc h) t next j
other_counted n h m t turn next j e c less a le more = let f = c.few in record { distance = e; ahead = a; few = omega arith }

-- so it was halved once in each round
pub rounds_give : (n h m turn j r : ℕ) → IsCounted n h m turn j → n * r ≤ h → r ≤ m
rounds_give n h m turn j r c le = elim (cases_lt m r) [
  | inl more ↦ let f = c.few in let g : n * suc m ≤ n * r = more_rounds n (suc m) r (omega arith) in let e : n * suc m ≡ n * m + n = omega arith in absurd (omega arith)
  | inr less ↦ less
]
  where
    more_rounds : (n m r : ℕ) → m ≤ r → n * m ≤ n * r
    more_rounds n m r le = let e : r ≡ m + (r - m) = omega arith in let f : n * (m + (r - m)) ≡ n * m + n * (r - m) = omega arith in rw e (omega arith)
