-- What the calls do to the ring.
use Rattle.std.proofs.Common.{◌≡◌, ◌≢◌, ℕ, zero, suc, ◌+◌, ◌<◌, ◌≤◌, ◌==◌, Bool, true, false, not, cond, List, [], ◌∷◌, ◌++◌, length, get_or, refl, sym, ap, ◌∙◌, inl, inr, arith, eq-eqb, ne_eqb, subst, get_or-set_other, get_or-set_same}
use Rattle.std.proofs.Math.ListN.{set, length-set}
use Rattle.std.proofs.lemmas.List.{get_or_read}
use Rattle.std.proofs.lemmas.Bool.{cases_eq, cases_lt, cases_Bool, false≢true}
use Rattle.link_queue.specs.Queue.{holds, without, AreApart, IsQueue}
use Rattle.link_queue.specs.Ring.{leads, walk, held_by, IsRing}
use Rattle.link_queue.proofs.Lists.{absent, holds_here, holds_past, leads_here, leads_past, leads_off, leads_absent, leads_below, leads_on, pushed, taken, apart_push, apart_without, few, without_here, without_absent}

-- ---- two writes
pub record Writes (xs ys : List ℕ) (a y b z : ℕ) : Type 0 where
  pub second : (i : ℕ) → i ≡ b → get_or ys i 0 ≡ z
  pub first : (i : ℕ) → i ≢ b → i ≡ a → get_or ys i 0 ≡ y
  pub other : (i : ℕ) → i ≢ b → i ≢ a → get_or ys i 0 ≡ get_or xs i 0

pub writes : (xs : List ℕ) (a y b z : ℕ) → a < length xs → b < length xs → Writes xs (set (set xs a y) b z) a y b z
writes xs a y b z h k = record {
  second = λ i e. rw e (get_or-set_same (set xs a y) b z 0 (rw (length-set xs a y) k));
  first = λ i n e. get_or-set_other (set xs a y) b i z 0 n ∙ ap (λ (j : ℕ). get_or (set xs a y) j 0) e ∙ get_or-set_same xs a y 0 h;
  other = λ i n m. get_or-set_other (set xs a y) b i z 0 n ∙ get_or-set_other xs a i y 0 m;
}

-- ---- walking along the ring
walk_end : (next : List ℕ) (end at k : ℕ) → at ≡ end → walk k next end at ≡ []
walk_end next end at zero e = refl
walk_end next end at (suc k) e = ap (λ (b : Bool). cond b [] (at ∷ walk k next end (get_or next at 0))) (eq-eqb at end e)

walk_on : (next : List ℕ) (end at k : ℕ) → at ≢ end → walk (suc k) next end at ≡ at ∷ walk k next end (get_or next at 0)
walk_on next end at k n = ap (λ (b : Bool). cond b [] (at ∷ walk k next end (get_or next at 0))) (ne_eqb at end n)

held_cons : (i x : ℕ) (xs : List ℕ) → holds i xs ≡ true → holds i (x ∷ xs) ≡ true
held_cons i x xs h = elim (cases_eq i x) [ inl e ↦ holds_here i x xs e | inr n ↦ holds_past i x xs n ∙ h ]

walks : (size at : ℕ) (xs next : List ℕ) (end k : ℕ) → holds end xs ≡ false → AreApart size xs → length xs ≤ k → ((i : ℕ) → holds i (at ∷ xs) ≡ true → get_or next i 0 ≡ leads at xs end i) → holds at xs ≡ false → walk k next end (get_or next at 0) ≡ xs
walks size at [] next end k h a l f n = walk_end next end (get_or next at 0) k (f at (holds_here at at [] refl) ∙ leads_here at [] end at refl)
walks size at (x ∷ xs) next end zero h a l f n = absurd (omega (arith, l))
walks size at (x ∷ xs) next end (suc k) h a l f n =
    let to : get_or next at 0 ≡ x = f at (holds_here at at (x ∷ xs) refl) ∙ leads_here at (x ∷ xs) end at refl in
    let o = absent end x xs h in
    let rest = walks size x xs next end k o.past a.2 (omega (arith, l)) (λ i t. f i (held_cons i at (x ∷ xs) t) ∙ leads_past at x xs end i (λ e. false≢true (sym n ∙ ap (λ (j : ℕ). holds j (x ∷ xs)) (sym e) ∙ t))) a.1 in
    ap (walk (suc k) next end) to ∙ walk_on next end x k (λ e. o.here (sym e)) ∙ ap (λ (ys : List ℕ). x ∷ ys) rest

-- a number of the size or more isn't held
pub large_absent : (size i : ℕ) (xs : List ℕ) → AreApart size xs → size ≤ i → holds i xs ≡ false
large_absent size i [] a h = refl
large_absent size i (x ∷ xs) a h = holds_past i x xs (let b : x < size = a.0 in omega arith) ∙ large_absent size i xs a.2 h

pub held_small : (size i : ℕ) (xs : List ℕ) → AreApart size xs → holds i xs ≡ true → i < size
held_small size i xs a h = elim (cases_lt i size) [ inl y ↦ y | inr n ↦ absurd (false≢true (sym (large_absent size i xs a n) ∙ h)) ]

-- the slots show the list
pub shows : (size : ℕ) (next prev held : List ℕ) → IsRing size next prev held → held_by size next ≡ held
shows size next prev held r =
    walks size size held next size size (large_absent size size held r.apart (omega arith)) r.apart (few size held r.apart)
    (λ i h. r.next_is i (within i h)) (large_absent size size held r.apart (omega arith))
  where
    within : (i : ℕ) → holds i (size ∷ held) ≡ true → i ≤ size
    within i h =
        elim (cases_eq i size) [
          | inl e ↦ omega arith
          | inr n ↦ let b = held_small size i held r.apart (sym (holds_past i size held n) ∙ h) in omega arith
        ]

-- whether a number is held shows in its slot
pub held_is : (size : ℕ) (next prev held : List ℕ) (i : ℕ) → IsRing size next prev held → i < size → (get_or next i 0 == i) ≡ not (holds i held)
held_is size next prev held i r h =
    elim (cases_Bool (holds i held)) [
      | inl y ↦
          ne_eqb (get_or next i 0) i (λ e. leads_on size size held size i (omega arith) (omega arith) y r.apart (sym (r.next_is i (omega arith)) ∙ e)) ∙ sym (ap not y)
      | inr n ↦
          eq-eqb (get_or next i 0) i (r.next_is i (omega arith) ∙ leads_absent size held size i (omega arith) n) ∙ sym (ap not n)
    ]

pub next_below : (size : ℕ) (next prev held : List ℕ) (i : ℕ) → IsRing size next prev held → i ≤ size → get_or next i 0 ≤ size
next_below size next prev held i r h = rw (r.next_is i h) (leads_below size size held size i (omega arith) h r.apart)

-- ---- a push
pub ring_push : (size : ℕ) (next prev held : List ℕ) (x : ℕ) → IsRing size next prev held → x < size → holds x held ≡ false → IsRing size (set (set next (get_or prev size 0) x) x size) (set (set prev x (get_or prev size 0)) size x) (held ++ x ∷ [])
ring_push size next prev held x r h n = record {
  next_length = length-set _ x size ∙ length-set next _ x ∙ r.next_length;
  prev_length = length-set _ size x ∙ length-set prev x _ ∙ r.prev_length;
  apart = apart_push size x held r.apart h n;
  next_is = λ i k.
      let p = pushed size size held size x i (omega arith) (omega arith) n (large_absent size size held r.apart (omega arith)) (λ e. e) in
      elim (cases_eq i x) [
        | inl e ↦ wn.second i e ∙ sym (p.new e)
        | inr d ↦ elim (cases_eq i last) [
          | inl e ↦ wn.first i d e ∙ sym (p.last d (sym (r.next_is i k) ∙ ap (λ (j : ℕ). get_or next j 0) e ∙ to_end))
          | inr m ↦ wn.other i d m ∙ r.next_is i k ∙ sym (p.rest d (λ t. m (sym (r.back i k) ∙ ap (λ (j : ℕ). get_or prev j 0) (r.next_is i k ∙ t))))
        ]
      ];
  prev_below = λ i k.
      elim (cases_eq i size) [
        | inl e ↦ rw (wp.second i e) (omega arith)
        | inr d ↦ elim (cases_eq i x) [
          | inl e ↦ rw (wp.first i d e) small
          | inr m ↦ rw (wp.other i d m) (r.prev_below i k)
        ]
      ];
  back = λ i k.
      elim (cases_eq i x) [
        | inl e ↦ to_prev (wn.second i e) ∙ wp.second size refl ∙ sym e
        | inr d ↦ elim (cases_eq i last) [
          | inl e ↦ to_prev (wn.first i d e) ∙ wp.first x (omega arith) refl ∙ sym e
          | inr m ↦
              to_prev (wn.other i d m)
              ∙ wp.other (get_or next i 0) (λ t. m (sym (r.back i k) ∙ ap (λ (j : ℕ). get_or prev j 0) t)) (λ t. d (sym (r.back i k) ∙ ap (λ (j : ℕ). get_or prev j 0) t ∙ alone_back))
              ∙ r.back i k
        ]
      ];
  forth = λ i k.
      elim (cases_eq i size) [
        | inl e ↦ to_next (wp.second i e) ∙ wn.second x refl ∙ sym e
        | inr d ↦ elim (cases_eq i x) [
          | inl e ↦ to_next (wp.first i d e) ∙ wn.first last (λ t. omega (arith, sym to_end ∙ ap (λ (j : ℕ). get_or next j 0) t ∙ alone)) refl ∙ sym e
          | inr m ↦
              to_next (wp.other i d m)
              ∙ wn.other (get_or prev i 0) (λ t. m (sym (r.forth i k) ∙ ap (λ (j : ℕ). get_or next j 0) t ∙ alone)) (λ t. d (sym (r.forth i k) ∙ ap (λ (j : ℕ). get_or next j 0) t ∙ to_end))
              ∙ r.forth i k
        ]
      ];
}
  where
    last : ℕ
    last = get_or prev size 0

    small : get_or prev size 0 ≤ size
    small = r.prev_below size (omega arith)

    to_end : get_or next (get_or prev size 0) 0 ≡ size
    to_end = r.forth size (omega arith)

    alone : get_or next x 0 ≡ x
    alone = r.next_is x (omega arith) ∙ leads_absent size held size x (omega arith) n

    alone_back : get_or prev x 0 ≡ x
    alone_back = ap (λ (j : ℕ). get_or prev j 0) (sym alone) ∙ r.back x (omega arith)

    wn : Writes next (set (set next (get_or prev size 0) x) x size) (get_or prev size 0) x x size
    wn = writes next (get_or prev size 0) x x size (omega (arith, small, r.next_length)) (omega (arith, r.next_length))

    wp : Writes prev (set (set prev x (get_or prev size 0)) size x) x (get_or prev size 0) size x
    wp = writes prev x (get_or prev size 0) size x (omega (arith, r.prev_length)) (omega (arith, r.prev_length))

    to_prev : {a b : ℕ} → a ≡ b → get_or (set (set prev x (get_or prev size 0)) size x) a 0 ≡ get_or (set (set prev x (get_or prev size 0)) size x) b 0
    to_prev e = ap (λ (j : ℕ). get_or (set (set prev x (get_or prev size 0)) size x) j 0) e

    to_next : {a b : ℕ} → a ≡ b → get_or (set (set next (get_or prev size 0) x) x size) a 0 ≡ get_or (set (set next (get_or prev size 0) x) x size) b 0
    to_next e = ap (λ (j : ℕ). get_or (set (set next (get_or prev size 0) x) x size) j 0) e

-- ---- one is taken out
pub ring_take : (size : ℕ) (next prev held : List ℕ) (x : ℕ) → IsRing size next prev held → x < size → IsRing size (set (set next (get_or prev x 0) (get_or next x 0)) x x) (set (set prev (get_or next x 0) (get_or prev x 0)) x x) (without x held)
ring_take size next prev held x r h = record {
  next_length = length-set _ x x ∙ length-set next _ _ ∙ r.next_length;
  prev_length = length-set _ x x ∙ length-set prev _ _ ∙ r.prev_length;
  apart = apart_without size x held r.apart;
  next_is = λ i k.
      let t = taken size size held size x i (omega arith) (omega arith) r.apart in
      elim (cases_eq i x) [
        | inl e ↦ wn.second i e ∙ sym (t.out e)
        | inr d ↦ elim (cases_eq i (get_or prev x 0)) [
          | inl e ↦ wn.first i d e ∙ r.next_is x (omega arith) ∙ sym (t.before d (sym (r.next_is i k) ∙ ap (λ (j : ℕ). get_or next j 0) e ∙ r.forth x (omega arith)))
          | inr m ↦ wn.other i d m ∙ r.next_is i k ∙ sym (t.rest d (λ u. m (sym (r.back i k) ∙ ap (λ (j : ℕ). get_or prev j 0) (r.next_is i k ∙ u))))
        ]
      ];
  prev_below = λ i k.
      elim (cases_eq i x) [
        | inl e ↦ rw (wp.second i e) (omega arith)
        | inr d ↦ elim (cases_eq i (get_or next x 0)) [
          | inl e ↦ rw (wp.first i d e) (r.prev_below x (omega arith))
          | inr m ↦ rw (wp.other i d m) (r.prev_below i k)
        ]
      ];
  back = λ i k.
      elim (cases_eq i x) [
        | inl e ↦ to_prev (wn.second i e) ∙ wp.second x refl ∙ sym e
        | inr d ↦ elim (cases_eq i (get_or prev x 0)) [
          | inl e ↦
              to_prev (wn.first i d e)
              ∙ wp.first (get_or next x 0) (λ t. d (e ∙ ap (λ (j : ℕ). get_or prev j 0) (sym t) ∙ r.back x (omega arith))) refl
              ∙ sym e
          | inr m ↦
              to_prev (wn.other i d m)
              ∙ wp.other (get_or next i 0) (λ t. m (sym (r.back i k) ∙ ap (λ (j : ℕ). get_or prev j 0) t)) (λ t. d (sym (r.back i k) ∙ ap (λ (j : ℕ). get_or prev j 0) t ∙ r.back x (omega arith)))
              ∙ r.back i k
        ]
      ];
  forth = λ i k.
      elim (cases_eq i x) [
        | inl e ↦ to_next (wp.second i e) ∙ wn.second x refl ∙ sym e
        | inr d ↦ elim (cases_eq i (get_or next x 0)) [
          | inl e ↦
              to_next (wp.first i d e)
              ∙ wn.first (get_or prev x 0) (λ t. d (e ∙ ap (λ (j : ℕ). get_or next j 0) (sym t) ∙ r.forth x (omega arith))) refl
              ∙ sym e
          | inr m ↦
              to_next (wp.other i d m)
              ∙ wn.other (get_or prev i 0) (λ t. m (sym (r.forth i k) ∙ ap (λ (j : ℕ). get_or next j 0) t)) (λ t. d (sym (r.forth i k) ∙ ap (λ (j : ℕ). get_or next j 0) t ∙ r.forth x (omega arith)))
              ∙ r.forth i k
        ]
      ];
}
  where
    behind : get_or next x 0 ≤ size
    behind = next_below size next prev held x r (omega arith)

    before : get_or prev x 0 ≤ size
    before = r.prev_below x (omega arith)

    wn : Writes next (set (set next (get_or prev x 0) (get_or next x 0)) x x) (get_or prev x 0) (get_or next x 0) x x
    wn = writes next (get_or prev x 0) (get_or next x 0) x x (omega (arith, before, r.next_length)) (omega (arith, r.next_length))

    wp : Writes prev (set (set prev (get_or next x 0) (get_or prev x 0)) x x) (get_or next x 0) (get_or prev x 0) x x
    wp = writes prev (get_or next x 0) (get_or prev x 0) x x (omega (arith, behind, r.prev_length)) (omega (arith, r.prev_length))

    to_prev : {a b : ℕ} → a ≡ b → get_or (set (set prev (get_or next x 0) (get_or prev x 0)) x x) a 0 ≡ get_or (set (set prev (get_or next x 0) (get_or prev x 0)) x x) b 0
    to_prev e = ap (λ (j : ℕ). get_or (set (set prev (get_or next x 0) (get_or prev x 0)) x x) j 0) e

    to_next : {a b : ℕ} → a ≡ b → get_or (set (set next (get_or prev x 0) (get_or next x 0)) x x) a 0 ≡ get_or (set (set next (get_or prev x 0) (get_or next x 0)) x x) b 0
    to_next e = ap (λ (j : ℕ). get_or (set (set next (get_or prev x 0) (get_or next x 0)) x x) j 0) e

-- ---- an empty ring
pub ring_empty : (size : ℕ) (next prev : List ℕ) → length next ≡ size + 1 → length prev ≡ size + 1 → ((i : ℕ) → i ≤ size → get_or next i 0 ≡ i) → ((i : ℕ) → i ≤ size → get_or prev i 0 ≡ i) → IsRing size next prev []
ring_empty size next prev a b f g = record {
  next_length = a;
  prev_length = b;
  apart = tt;
  next_is = λ i h. f i h ∙ elim (cases_eq i size) [ inl e ↦ e ∙ sym (leads_here size [] size i e) | inr n ↦ sym (leads_off size size i n) ];
  prev_below = λ i h. rw (g i h) h;
  back = λ i h. ap (λ (j : ℕ). get_or prev j 0) (f i h) ∙ g i h;
  forth = λ i h. ap (λ (j : ℕ). get_or next j 0) (g i h) ∙ f i h;
}

-- ---- in the form of the slots' invariant
pub record Kept (size : ℕ) (next prev held : List ℕ) : Type 0 where
  pub ring : IsRing size next prev (held_by size next)
  pub shown : held_by size next ≡ held

pub kept : (size : ℕ) (next prev held : List ℕ) → IsRing size next prev held → Kept size next prev held
kept size next prev held r = let e = shows size next prev held r in record { ring = rw e r; shown = e }

-- the front
pub front_none : (size : ℕ) (next prev held : List ℕ) → IsRing size next prev held → get_or next size 0 ≡ size → held ≡ []
front_none size next prev [] r e = refl
front_none size next prev (x ∷ xs) r e = let b : x < size = r.apart.0 in let f = r.next_is size (omega arith) ∙ leads_here size (x ∷ xs) size size refl in absurd (omega (arith, f, e))

pub front_some : (size : ℕ) (next prev held : List ℕ) → IsRing size next prev held → get_or next size 0 ≢ size → (get_or next size 0 < size) × (held ≡ get_or next size 0 ∷ without (get_or next size 0) held)
front_some size next prev [] r n = absurd (n (r.next_is size (omega arith) ∙ leads_here size [] size size refl))
front_some size next prev (x ∷ xs) r n =
    let f : get_or next size 0 ≡ x = r.next_is size (omega arith) ∙ leads_here size (x ∷ xs) size size refl in
    let b : x < size = r.apart.0 in
    (omega (arith, f), ap (λ (y : ℕ). y ∷ xs) (sym f) ∙ ap (λ (ys : List ℕ). get_or next size 0 ∷ ys) (sym (without_here (get_or next size 0) x xs f ∙ ap (λ (y : ℕ). without y xs) f ∙ without_absent x xs r.apart.1)))

-- every list with its facts
pub is_queue : (size : ℕ) (next prev held : List ℕ) → IsRing size next prev held → IsQueue (record { size = size; held = held })
is_queue size next prev held r = record { apart = r.apart; few = few size held r.apart }

-- ---- as the calls read and write the slots
-- the test on a slot
pub test_is : (size : ℕ) (next prev held : List ℕ) (i x : ℕ) → IsRing size next prev held → i < size → x ≡ get_or next i x → not (x == i) ≡ holds i held
test_is size next prev held i x r h e =
    let b : i < length next = omega (arith, r.next_length) in
    ap (λ (y : ℕ). not (y == i)) (get_or_read next i x b e 0) ∙ ap not (held_is size next prev held i r h) ∙ not-not (holds i held)
  where
    not-not : (b : Bool) → not (not b) ≡ b
    not-not true = refl
    not-not false = refl

pub kept_push : (size : ℕ) (next prev held : List ℕ) (x last : ℕ) → IsRing size next prev held → x < size → holds x held ≡ false → last ≡ get_or prev size last → Kept size (set (set next last x) x size) (set (set prev x last) size x) (held ++ x ∷ [])
kept_push size next prev held x last r h n e =
    let b : size < length prev = omega (arith, r.prev_length) in
    let s = get_or_read prev size last b e 0 in
    kept size _ _ _ (subst (λ (y : ℕ). IsRing size (set (set next y x) x size) (set (set prev x y) size x) (held ++ x ∷ [])) (sym s) (ring_push size next prev held x r h n))

pub kept_take : (size : ℕ) (next prev held : List ℕ) (x before behind : ℕ) → IsRing size next prev held → x < size → before ≡ get_or prev x before → behind ≡ get_or next x behind → Kept size (set (set next before behind) x x) (set (set prev behind before) x x) (without x held)
kept_take size next prev held x before behind r h e f =
    let b : x < length prev = omega (arith, r.prev_length) in
    let c : x < length next = omega (arith, r.next_length) in
    let s = get_or_read prev x before b e 0 in
    let t = get_or_read next x behind c f 0 in
    kept size _ _ _ (subst (λ (y : ℕ). IsRing size (set (set next y behind) x x) (set (set prev behind y) x x) (without x held)) (sym s)
    (subst (λ (z : ℕ). IsRing size (set (set next (get_or prev x 0) z) x x) (set (set prev z (get_or prev x 0)) x x) (without x held)) (sym t) (ring_take size next prev held x r h)))

-- what stands behind a number is a slot
pub behind_below : (size : ℕ) (next prev held : List ℕ) (x behind : ℕ) → IsRing size next prev held → x ≤ size → behind ≡ get_or next x behind → behind < length prev
behind_below size next prev held x behind r h e =
    let c : x < length next = omega (arith, r.next_length) in
    let t = get_or_read next x behind c e 0 in
    omega (arith, t, next_below size next prev held x r h, r.prev_length)

pub front_is : (size : ℕ) (next prev held : List ℕ) (front : ℕ) → IsRing size next prev held → front ≡ get_or next size front → front ≢ size → (front < size) × (held ≡ front ∷ without front held)
front_is size next prev held front r e n =
    let c : size < length next = omega (arith, r.next_length) in
    let t = get_or_read next size front c e 0 in
    subst (λ (y : ℕ). (y < size) × (held ≡ y ∷ without y held)) (sym t) (front_some size next prev held r (λ u. n (t ∙ u)))

pub front_not : (size : ℕ) (next prev held : List ℕ) (front : ℕ) → IsRing size next prev held → front ≡ get_or next size front → front ≡ size → held ≡ []
front_not size next prev held front r e n =
    let c : size < length next = omega (arith, r.next_length) in
    front_none size next prev held r (sym (get_or_read next size front c e 0) ∙ n)

pub is_held : (size : ℕ) (next prev held : List ℕ) (i x : ℕ) → IsRing size next prev held → i < size → x ≡ get_or next i x → x ≢ i → holds i held ≡ true
is_held size next prev held i x r h e n = sym (test_is size next prev held i x r h e) ∙ ap not (ne_eqb x i n)

pub not_held : (size : ℕ) (next prev held : List ℕ) (i x : ℕ) → IsRing size next prev held → i < size → x ≡ get_or next i x → x ≡ i → holds i held ≡ false
not_held size next prev held i x r h e n = sym (test_is size next prev held i x r h e) ∙ ap not (eq-eqb x i n)
