-- Lists of distinct numbers, and where they lead.
use Rattle.std.proofs.Common.{◌≡◌, ◌≢◌, ℕ, ◌<◌, ◌≤◌, ◌==◌, Bool, true, false, ◌||◌, not, cond, List, [], ◌∷◌, ◌++◌, length, refl, sym, ap, ◌∙◌, inl, inr, arith, eq-eqb, ne_eqb, eqb-true, subst, eqb}
use Rattle.std.proofs.lemmas.Bool.{cases_eq, or_cases, false≢true}
use Rattle.std.proofs.lemmas.Map.Steps.{length-le_from_distinct_below}
use Rattle.std.specs.List.{IsDistinct, AllByRecursion, list_any}
use Rattle.link_queue.specs.Queue.{holds, without, AreApart}
use Rattle.link_queue.specs.Ring.{leads}

-- ---- what is held
pub holds_here : (i x : ℕ) (xs : List ℕ) → i ≡ x → holds i (x ∷ xs) ≡ true
holds_here i x xs e = ap (λ (b : Bool). b || holds i xs) (eq-eqb i x e)

pub holds_past : (i x : ℕ) (xs : List ℕ) → i ≢ x → holds i (x ∷ xs) ≡ holds i xs
holds_past i x xs n = ap (λ (b : Bool). b || holds i xs) (ne_eqb i x n)

pub record Absent (i x : ℕ) (xs : List ℕ) : Type 0 where
  pub here : i ≢ x
  pub past : holds i xs ≡ false

pub absent : (i x : ℕ) (xs : List ℕ) → holds i (x ∷ xs) ≡ false → Absent i x xs
absent i x xs h =
    elim (cases_eq i x) [
      | inl e ↦ let t = holds_here i x xs e in absurd (cc)
      | inr n ↦ let t = holds_past i x xs n in record { here = n; past = cc }
    ]

pub holds_push : (i x : ℕ) (xs : List ℕ) → i ≢ x → holds i (xs ++ x ∷ []) ≡ holds i xs
holds_push i x [] n = holds_past i x [] n
holds_push i x (y ∷ xs) n = ap (λ (b : Bool). (i == y) || b) (holds_push i x xs n)

pub holds_pushed : (x : ℕ) (xs : List ℕ) → holds x (xs ++ x ∷ []) ≡ true
holds_pushed x [] = holds_here x x [] refl
holds_pushed x (y ∷ xs) = elim (cases_eq x y) [ inl e ↦ holds_here x y (xs ++ x ∷ []) e | inr n ↦ holds_past x y (xs ++ x ∷ []) n ∙ holds_pushed x xs ]

pub apart_push : (size x : ℕ) (xs : List ℕ) → AreApart size xs → x < size → holds x xs ≡ false → AreApart size (xs ++ x ∷ [])
apart_push size x [] a h n = (h, refl, tt)
apart_push size x (y ∷ xs) a h n =
    let o = absent x y xs n in
    (a.0, holds_push y x xs (λ e. o.here (sym e)) ∙ a.1, apart_push size x xs a.2 h o.past)

-- ---- without a number
pub without_here : (i x : ℕ) (xs : List ℕ) → i ≡ x → without i (x ∷ xs) ≡ without i xs
without_here i x xs e = ap (λ (b : Bool). cond b (without i xs) (x ∷ without i xs)) (eq-eqb i x e)

pub without_past : (i x : ℕ) (xs : List ℕ) → i ≢ x → without i (x ∷ xs) ≡ x ∷ without i xs
without_past i x xs n = ap (λ (b : Bool). cond b (without i xs) (x ∷ without i xs)) (ne_eqb i x n)

pub without_absent : (i : ℕ) (xs : List ℕ) → holds i xs ≡ false → without i xs ≡ xs
without_absent i [] h = refl
without_absent i (x ∷ xs) h = let o = absent i x xs h in without_past i x xs o.here ∙ ap (λ (ys : List ℕ). x ∷ ys) (without_absent i xs o.past)

pub holds_without : (i j : ℕ) (xs : List ℕ) → holds i xs ≡ false → holds i (without j xs) ≡ false
holds_without i j [] h = refl
holds_without i j (x ∷ xs) h =
    let o = absent i x xs h in
    elim (cases_eq j x) [
      | inl e ↦ ap (holds i) (without_here j x xs e) ∙ holds_without i j xs o.past
      | inr n ↦ ap (holds i) (without_past j x xs n) ∙ holds_past i x (without j xs) o.here ∙ holds_without i j xs o.past
    ]

pub apart_without : (size i : ℕ) (xs : List ℕ) → AreApart size xs → AreApart size (without i xs)
apart_without size i [] a = tt
apart_without size i (x ∷ xs) a =
    elim (cases_eq i x) [
      | inl e ↦ subst (AreApart size) (sym (without_here i x xs e)) (apart_without size i xs a.2)
      | inr n ↦ subst (AreApart size) (sym (without_past i x xs n)) (a.0, holds_without x i xs a.1, apart_without size i xs a.2)
    ]

-- ---- no more than the size
all_apart : (x : ℕ) (xs : List ℕ) → holds x xs ≡ false → AllByRecursion (λ (y : ℕ). eqb x y ≡ false) xs
all_apart x [] h = tt
all_apart x (y ∷ xs) h = let o = absent x y xs h in (ne_eqb x y o.here, all_apart x xs o.past)

distinct : (size : ℕ) (xs : List ℕ) → AreApart size xs → IsDistinct eqb xs
unfolding IsDistinct
distinct size [] a = tt
distinct size (x ∷ xs) a = (all_apart x xs a.1, distinct size xs a.2)

below : (size : ℕ) (xs : List ℕ) → AreApart size xs → (q : ℕ) → list_any (eqb q) xs ≡ true → q < size
below size [] a q h = absurd (cc)
below size (x ∷ xs) a q h = elim (or_cases (eqb q x) (list_any (eqb q) xs) h) [ inl e ↦ rw (eqb-true q x e) a.0 | inr e ↦ below size xs a.2 q e ]

pub few : (size : ℕ) (xs : List ℕ) → AreApart size xs → length xs ≤ size
few size xs a = length-le_from_distinct_below xs size (distinct size xs a) (below size xs a)

-- ---- where a list leads
abbrev pub first : List ℕ → ℕ → ℕ
first [] end = end
first (x ∷ xs) end = x

pub leads_here : (at : ℕ) (xs : List ℕ) (end i : ℕ) → i ≡ at → leads at xs end i ≡ first xs end
leads_here at [] end i e = ap (λ (b : Bool). cond b end i) (eq-eqb i at e)
leads_here at (x ∷ xs) end i e = ap (λ (b : Bool). cond b x (leads x xs end i)) (eq-eqb i at e)

pub leads_off : (at end i : ℕ) → i ≢ at → leads at [] end i ≡ i
leads_off at end i n = ap (λ (b : Bool). cond b end i) (ne_eqb i at n)

pub leads_past : (at x : ℕ) (xs : List ℕ) (end i : ℕ) → i ≢ at → leads at (x ∷ xs) end i ≡ leads x xs end i
leads_past at x xs end i n = ap (λ (b : Bool). cond b x (leads x xs end i)) (ne_eqb i at n)

pub leads_absent : (at : ℕ) (xs : List ℕ) (end i : ℕ) → i ≢ at → holds i xs ≡ false → leads at xs end i ≡ i
leads_absent at [] end i n h = leads_off at end i n
leads_absent at (x ∷ xs) end i n h = let o = absent i x xs h in leads_past at x xs end i n ∙ leads_absent x xs end i o.here o.past

first_below : (size : ℕ) (xs : List ℕ) (end : ℕ) → end ≤ size → AreApart size xs → first xs end ≤ size
first_below size [] end h a = h
first_below size (x ∷ xs) end h a = let b : x < size = a.0 in omega arith

pub leads_below : (size at : ℕ) (xs : List ℕ) (end i : ℕ) → end ≤ size → i ≤ size → AreApart size xs → leads at xs end i ≤ size
leads_below size at [] end i h k a =
    elim (cases_eq i at) [ inl e ↦ rw (leads_here at [] end i e) h | inr n ↦ rw (leads_off at end i n) k ]
leads_below size at (x ∷ xs) end i h k a =
    elim (cases_eq i at) [
      | inl e ↦ rw (leads_here at (x ∷ xs) end i e) (first_below size (x ∷ xs) end h a)
      | inr n ↦ rw (leads_past at x xs end i n) (leads_below size x xs end i h k a.2)
    ]

first_apart : (i : ℕ) (xs : List ℕ) (end : ℕ) → i ≢ end → holds i xs ≡ false → first xs end ≢ i
first_apart i [] end n h e = n (sym e)
first_apart i (x ∷ xs) end n h e = (absent i x xs h).here (sym e)

-- a held number does not lead to itself
pub leads_on : (size at : ℕ) (xs : List ℕ) (end i : ℕ) → i ≢ at → i ≢ end → holds i xs ≡ true → AreApart size xs → leads at xs end i ≢ i
leads_on size at [] end i n k h a e = absurd (cc)
leads_on size at (x ∷ xs) end i n k h a e =
    elim (cases_eq i x) [
      | inl s ↦ first_apart x xs end (λ t. k (s ∙ t)) a.1 (sym (leads_here x xs end i s) ∙ sym (leads_past at x xs end i n) ∙ e ∙ s)
      | inr m ↦ leads_on size x xs end i m k (sym (holds_past i x xs m) ∙ h) a.2 (sym (leads_past at x xs end i n) ∙ e)
    ]

-- ---- after a push
pub record Pushed (at : ℕ) (xs : List ℕ) (end x i : ℕ) : Type 0 where
  pub new : i ≡ x → leads at (xs ++ x ∷ []) end i ≡ end
  pub last : i ≢ x → leads at xs end i ≡ end → leads at (xs ++ x ∷ []) end i ≡ x
  pub rest : i ≢ x → leads at xs end i ≢ end → leads at (xs ++ x ∷ []) end i ≡ leads at xs end i

-- `end` itself stands at the front alone
pub pushed : (size at : ℕ) (xs : List ℕ) (end x i : ℕ) → x ≢ at → x ≢ end → holds x xs ≡ false → holds end xs ≡ false → (i ≡ end → i ≡ at) → Pushed at xs end x i
pushed size at [] end x i n k h m o =
    elim (cases_eq i at) [
      | inl e ↦
          let before = leads_here at [] end i e in
          let after = leads_here at (x ∷ []) end i e in
          record { new = λ s. absurd (n (sym s ∙ e)); last = λ s t. after; rest = λ s t. absurd (t before) }
      | inr d ↦
          let before = leads_off at end i d in
          let after = leads_past at x [] end i d in
          record {
            new = λ s. after ∙ leads_here x [] end i s;
            last = λ s t. absurd (d (o (sym before ∙ t)));
            rest = λ s t. after ∙ leads_off x end i s ∙ sym before;
          }
    ]
pushed size at (y ∷ ys) end x i n k h m o =
    let a = absent x y ys h in
    let b = absent end y ys m in
    elim (cases_eq i at) [
      | inl e ↦
          let before = leads_here at (y ∷ ys) end i e in
          let after = leads_here at (y ∷ (ys ++ x ∷ [])) end i e in
          record { new = λ s. absurd (n (sym s ∙ e)); last = λ s t. absurd (b.here (sym t ∙ before)); rest = λ s t. after ∙ sym before }
      | inr d ↦
          let before = leads_past at y ys end i d in
          let after = leads_past at y (ys ++ x ∷ []) end i d in
          let p = pushed size y ys end x i a.here k a.past b.past (λ s. absurd (d (o s))) in
          record { new = λ s. after ∙ p.new s; last = λ s t. after ∙ p.last s (sym before ∙ t); rest = λ s t. after ∙ p.rest s (λ u. t (before ∙ u)) ∙ sym before }
    ]

-- ---- after one is taken out
same_first : (a b : ℕ) (xs : List ℕ) (end i : ℕ) → i ≢ a → i ≢ b → leads a xs end i ≡ leads b xs end i
same_first a b [] end i n m = leads_off a end i n ∙ sym (leads_off b end i m)
same_first a b (x ∷ xs) end i n m = leads_past a x xs end i n ∙ sym (leads_past b x xs end i m)

-- no number leads to one that the list doesn't hold
leads_never : (at : ℕ) (xs : List ℕ) (end x i : ℕ) → x ≢ end → i ≢ x → holds x xs ≡ false → leads at xs end i ≢ x
leads_never at [] end x i k n h t =
    elim (cases_eq i at) [ inl e ↦ k (sym t ∙ leads_here at [] end i e) | inr d ↦ n (sym (leads_off at end i d) ∙ t) ]
leads_never at (y ∷ ys) end x i k n h t =
    let a = absent x y ys h in
    elim (cases_eq i at) [ inl e ↦ a.here (sym t ∙ leads_here at (y ∷ ys) end i e) | inr d ↦ leads_never y ys end x i k n a.past (sym (leads_past at y ys end i d) ∙ t) ]

pub record Taken (at : ℕ) (xs : List ℕ) (end x i : ℕ) : Type 0 where
  pub out : i ≡ x → leads at (without x xs) end i ≡ x
  pub before : i ≢ x → leads at xs end i ≡ x → leads at (without x xs) end i ≡ leads at xs end x
  pub rest : i ≢ x → leads at xs end i ≢ x → leads at (without x xs) end i ≡ leads at xs end i

pub taken : (size at : ℕ) (xs : List ℕ) (end x i : ℕ) → x ≢ at → x ≢ end → AreApart size xs → Taken at xs end x i
taken size at [] end x i n k a = record {
  out = λ s. leads_off at end i (λ e. n (sym s ∙ e)) ∙ s;
  before = λ s t. absurd (leads_never at [] end x i k s refl t);
  rest = λ s t. refl;
}
taken size at (y ∷ ys) end x i n k a =
    elim (cases_eq x y) [
      | inl e ↦
          let gone : holds x ys ≡ false = ap (λ (z : ℕ). holds z ys) e ∙ a.1 in
          let w : without x (y ∷ ys) ≡ ys = without_here x y ys e ∙ without_absent x ys gone in
          let head : leads at (y ∷ ys) end x ≡ first ys end = leads_past at y ys end x n ∙ leads_here y ys end x e in
          record {
            out = λ s. ap (λ (zs : List ℕ). leads at zs end i) w ∙ leads_absent at ys end i (λ t. n (sym s ∙ t)) (ap (λ (z : ℕ). holds z ys) s ∙ gone) ∙ s;
            before = λ s t.
                elim (cases_eq i at) [
                  | inl d ↦ ap (λ (zs : List ℕ). leads at zs end i) w ∙ leads_here at ys end i d ∙ sym head
                  | inr d ↦ absurd (leads_never y ys end x i k s gone (sym (leads_past at y ys end i d) ∙ t))
                ];
            rest = λ s t.
                elim (cases_eq i at) [
                  | inl d ↦ absurd (t (leads_here at (y ∷ ys) end i d ∙ sym e))
                  | inr d ↦ ap (λ (zs : List ℕ). leads at zs end i) w ∙ same_first at y ys end i d (λ u. s (u ∙ sym e)) ∙ sym (leads_past at y ys end i d)
                ];
          }
      | inr m ↦
          let w : without x (y ∷ ys) ≡ y ∷ without x ys = without_past x y ys m in
          let at_w : leads at (without x (y ∷ ys)) end i ≡ leads at (y ∷ without x ys) end i = ap (λ (zs : List ℕ). leads at zs end i) w in
          let r = taken size y ys end x i m k a.2 in
          let head : leads at (y ∷ ys) end x ≡ leads y ys end x = leads_past at y ys end x n in
          elim (cases_eq i at) [
            | inl d ↦
                let old : leads at (y ∷ ys) end i ≡ y = leads_here at (y ∷ ys) end i d in
                record {
                  out = λ s. absurd (n (sym s ∙ d));
                  before = λ s t. absurd (m (sym t ∙ old));
                  rest = λ s t. at_w ∙ leads_here at (y ∷ without x ys) end i d ∙ sym old;
                }
            | inr d ↦
                let old = leads_past at y ys end i d in
                let new = leads_past at y (without x ys) end i d in
                record {
                  out = λ s. at_w ∙ new ∙ r.out s;
                  before = λ s t. at_w ∙ new ∙ r.before s (sym old ∙ t) ∙ sym head;
                  rest = λ s t. at_w ∙ new ∙ r.rest s (λ u. t (old ∙ u)) ∙ sym old;
                }
          ]
    ]

-- ---- what a push keeps, as its clauses say it
pub holds_append : (i : ℕ) (xs ys : List ℕ) → holds i xs ≡ true → holds i (xs ++ ys) ≡ true
holds_append i [] ys h = absurd (false≢true h)
holds_append i (x ∷ xs) ys h =
    elim (cases_eq i x) [
      | inl e ↦ holds_here i x (xs ++ ys) e
      | inr n ↦ holds_past i x (xs ++ ys) n ∙ holds_append i xs ys (sym (holds_past i x xs n) ∙ h)
    ]

pub record AfterPush (old new : List ℕ) (i : ℕ) : Type 0 where
  pub kept : (j : ℕ) → holds j old ≡ true → holds j new ≡ true
  pub put : holds i new ≡ true

pub after_push : (old new : List ℕ) (i : ℕ) (result : Bool) → result ≡ not (holds i old) → new ≡ cond result (old ++ i ∷ []) old → AfterPush old new i
after_push old new i true e f = record {
  kept = λ j h. ap (holds j) f ∙ holds_append j old (i ∷ []) h;
  put = ap (holds i) f ∙ holds_pushed i old;
}
after_push old new i false e f = record {
  kept = λ j h. ap (holds j) f ∙ h;
  put = ap (holds i) f ∙ held (holds i old) e;
}
  where
    held : (b : Bool) → false ≡ not b → b ≡ true
    held true h = refl
    held false h = absurd (false≢true h)
