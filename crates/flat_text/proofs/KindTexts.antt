-- What the words and the numbers of kinds read as, and which texts read as them.
use Rattle.std.proofs.Common.{◌≡◌, ℕ, List, [], ◌∷◌, map, Bool, true, false, cond, ◌&&◌, Option, Some, None, Result, Ok, Err, ℤ, refl, sym, ap, ◌∙◌, ◌⊎◌, inl, inr}
use Rattle.std.specs.Prelude.{codes, int_le}
use Rattle.std.specs.Str.{bytes_eq}
use Rattle.std.proofs.lemmas.Slice.Eq.{bytes_eq-Decides}
use Rattle.std.proofs.lemmas.Bool.{and_parts}
use Rattle.gas_model.specs.declared.rows.Drag.{Drag}
use Rattle.base_types.specs.declared.states.Allow.{Allow}
use Rattle.base_types.specs.declared.states.Allow.TheVariants.{Opened, Shut, Active, Bypass, On}
use Rattle.gas_model.specs.declared.rows.ArcKind.{ArcKind}
use Rattle.gas_model.specs.declared.rows.ArcKind.TheVariants.{Pipe, Short, Resist, Loss, Valve, Control, Station}
use Rattle.base_types.specs.Numbers.{is_pressure, is_difference, is_drag_part, is_ratio_part}
use Rattle.gas_model.specs.Limits.{is_ratio_within, is_drag_within, are_station_pressures, is_kind_within}
use Rattle.flat_text.specs.declared.fault.LineFault.{LineFault}
use Rattle.flat_text.specs.declared.fault.LineFault.TheVariants as fault
use Rattle.flat_text.specs.Fields.{◌>>=◌, found, number_field, drag_at}
use Rattle.flat_text.specs.Kinds.{loss_at, control_at, station_at, kind_at, allow_of}
use Rattle.flat_text.specs.Spelling.{kind_word, kind_numbers, allow_word}
use Rattle.flat_text.proofs.Spaced.{carry, bound_ok, near, number_takes, number_again, AreShort, AreNear, numbers_before, uncut, pressure_short, difference_short, drag_part_short, ratio_part_short, near_drag, drag_again, drag_takes}

-- ---- the numbers of a kind

drag_short : (d : Drag) → is_drag_within d ≡ true → AreShort (d.lo ∷ d.hi ∷ d.den ∷ [])
drag_short d e =
    let p = and_parts (is_drag_part d.lo && is_drag_part d.hi && is_drag_part d.den) (int_le d.lo d.hi) e in
    let q = and_parts (is_drag_part d.lo && is_drag_part d.hi) (is_drag_part d.den) p.0 in
    let r = and_parts (is_drag_part d.lo) (is_drag_part d.hi) q.0 in
    (drag_part_short d.lo r.0, (drag_part_short d.hi r.1, (drag_part_short d.den q.1, tt)))

loss_short : (low high : ℤ) → is_kind_within (Loss low high) ≡ true → AreShort (low ∷ high ∷ [])
loss_short low high e =
    let p = and_parts (is_difference low && is_difference high) (int_le low high) e in
    let q = and_parts (is_difference low) (is_difference high) p.0 in
    (difference_short low q.0, (difference_short high q.1, tt))

control_short : (in_min out_max red_min red_max : ℤ) → is_kind_within (Control in_min out_max red_min red_max) ≡ true → AreShort (in_min ∷ out_max ∷ red_min ∷ red_max ∷ [])
control_short in_min out_max red_min red_max e =
    let p = and_parts (is_difference in_min && is_pressure out_max && is_difference red_min) (is_difference red_max) e in
    let q = and_parts (is_difference in_min && is_pressure out_max) (is_difference red_min) p.0 in
    let r = and_parts (is_difference in_min) (is_pressure out_max) q.0 in
    (difference_short in_min r.0, (pressure_short out_max r.1, (difference_short red_min q.1, (difference_short red_max p.1, tt))))

station_short : (in_min out_max ratio_num ratio_den rise_max : ℤ) → is_kind_within (Station in_min out_max ratio_num ratio_den rise_max) ≡ true
    → AreShort (in_min ∷ out_max ∷ ratio_num ∷ ratio_den ∷ rise_max ∷ [])
station_short in_min out_max ratio_num ratio_den rise_max e =
    let p = and_parts (are_station_pressures in_min out_max rise_max) (is_ratio_within ratio_num ratio_den) e in
    let q = and_parts (is_difference in_min && is_pressure out_max) (is_difference rise_max) p.0 in
    let r = and_parts (is_difference in_min) (is_pressure out_max) q.0 in
    let s = and_parts (is_ratio_part ratio_num) (is_ratio_part ratio_den) p.1 in
    (difference_short in_min r.0, (pressure_short out_max r.1, (ratio_part_short ratio_num s.0, (ratio_part_short ratio_den s.1, (difference_short rise_max q.1, tt)))))

pub kind_short : (k : ArcKind) → is_kind_within k ≡ true → AreShort (kind_numbers k)
kind_short (Pipe law) e = drag_short law e
kind_short Short e = tt
kind_short (Resist law) e = drag_short law e
kind_short (Loss low high) e = loss_short low high e
kind_short Valve e = tt
kind_short (Control in_min out_max red_min red_max) e = control_short in_min out_max red_min red_max e
kind_short (Station in_min out_max ratio_num ratio_den rise_max) e = station_short in_min out_max ratio_num ratio_den rise_max e

-- a kind with the nearest numbers
abbrev pub near_kind : ArcKind → ArcKind
near_kind (Pipe law) = Pipe (near_drag law)
near_kind Short = Short
near_kind (Resist law) = Resist (near_drag law)
near_kind (Loss low high) = Loss (near low) (near high)
near_kind Valve = Valve
near_kind (Control in_min out_max red_min red_max) = Control (near in_min) (near out_max) (near red_min) (near red_max)
near_kind (Station in_min out_max ratio_num ratio_den rise_max) = Station (near in_min) (near out_max) (near ratio_num) (near ratio_den) (near rise_max)

pub kind_kept : (k : ArcKind) → AreNear (kind_numbers k) → near_kind k ≡ k
kind_kept (Pipe law) h = let lo = h.0 in let hi = h.1.0 in let den = h.1.1.0 in rw (lo, hi, den) refl
kind_kept Short h = refl
kind_kept (Resist law) h = let lo = h.0 in let hi = h.1.0 in let den = h.1.1.0 in rw (lo, hi, den) refl
kind_kept (Loss low high) h = let a = h.0 in let b = h.1.0 in rw (a, b) refl
kind_kept Valve h = refl
kind_kept (Control in_min out_max red_min red_max) h = let a = h.0 in let b = h.1.0 in let c = h.1.1.0 in let d = h.1.1.1.0 in rw (a, b, c, d) refl
kind_kept (Station in_min out_max ratio_num ratio_den rise_max) h =
    let a = h.0 in let b = h.1.0 in let c = h.1.1.0 in let d = h.1.1.1.0 in let f = h.1.1.1.1.0 in rw (a, b, c, d, f) refl

pub near_numbers : (k : ArcKind) → kind_numbers (near_kind k) ≡ map near (kind_numbers k)
near_numbers (Pipe law) = refl
near_numbers Short = refl
near_numbers (Resist law) = refl
near_numbers (Loss low high) = refl
near_numbers Valve = refl
near_numbers (Control in_min out_max red_min red_max) = refl
near_numbers (Station in_min out_max ratio_num ratio_den rise_max) = refl

-- ---- what is spelled is read

loss_again : (low high : ℤ) → loss_at (numbers_before (low ∷ high ∷ []) []) ≡ Ok (Loss (near low) (near high), [])
unfolding loss_at
loss_again low high = rw (number_again low (numbers_before (high ∷ []) []) refl, number_again high [] refl) refl

control_again : (in_min out_max red_min red_max : ℤ) → control_at (numbers_before (in_min ∷ out_max ∷ red_min ∷ red_max ∷ []) []) ≡ Ok (near_kind (Control in_min out_max red_min red_max), [])
unfolding control_at
control_again in_min out_max red_min red_max =
    rw (
      number_again in_min (numbers_before (out_max ∷ red_min ∷ red_max ∷ []) []) refl,
      number_again out_max (numbers_before (red_min ∷ red_max ∷ []) []) refl,
      number_again red_min (numbers_before (red_max ∷ []) []) refl,
      number_again red_max [] refl,
    ) refl

station_again : (in_min out_max ratio_num ratio_den rise_max : ℤ)
    → station_at (numbers_before (in_min ∷ out_max ∷ ratio_num ∷ ratio_den ∷ rise_max ∷ []) []) ≡ Ok (near_kind (Station in_min out_max ratio_num ratio_den rise_max), [])
unfolding station_at
station_again in_min out_max ratio_num ratio_den rise_max =
    rw (
      number_again in_min (numbers_before (out_max ∷ ratio_num ∷ ratio_den ∷ rise_max ∷ []) []) refl,
      number_again out_max (numbers_before (ratio_num ∷ ratio_den ∷ rise_max ∷ []) []) refl,
      number_again ratio_num (numbers_before (ratio_den ∷ rise_max ∷ []) []) refl,
      number_again ratio_den (numbers_before (rise_max ∷ []) []) refl,
      number_again rise_max [] refl,
    ) refl

pub kind_again : (k : ArcKind) → kind_at (kind_word k) (numbers_before (kind_numbers k) []) ≡ Ok (near_kind k, [])
unfolding kind_at
kind_again (Pipe law) = ap (λ (r : Result (Drag × List ℕ) LineFault). r >>= λ x. Ok (Pipe x.0, x.1)) (drag_again law [] refl)
kind_again Short = refl
kind_again (Resist law) = ap (λ (r : Result (Drag × List ℕ) LineFault). r >>= λ x. Ok (Resist x.0, x.1)) (drag_again law [] refl)
kind_again (Loss low high) = loss_again low high
kind_again Valve = refl
kind_again (Control in_min out_max red_min red_max) = control_again in_min out_max red_min red_max
kind_again (Station in_min out_max ratio_num ratio_den rise_max) = station_again in_min out_max ratio_num ratio_den rise_max

pub allow_again : (w : Allow) → allow_of (allow_word w) ≡ Some w
unfolding allow_of
allow_again Opened = refl
allow_again Shut = refl
allow_again Active = refl
allow_again Bypass = refl
allow_again On = refl

-- ---- what is read was spelled so

-- a kind that was read with the nearest numbers
pub record KindRead (word bytes : List ℕ) (x : ArcKind × List ℕ) : Type 0 where
  pub kind : ArcKind
  pub first : word ≡ kind_word kind
  pub text : bytes ≡ numbers_before (kind_numbers kind) x.1
  pub read : x.0 ≡ near_kind kind

pub if_ok : {A : Type 0} (b : Bool) (r s : Result A LineFault) (y : A) → cond b r s ≡ Ok y → ((b ≡ true) × (r ≡ Ok y)) ⊎ (s ≡ Ok y)
if_ok true r s y e = inl (refl, e)
if_ok false r s y e = inr e

pub is_word : (w v : List ℕ) → bytes_eq w v ≡ true → w ≡ v
is_word w v e = (bytes_eq-Decides w v).0 e

loss_made : (l h a b : ℤ) → l ≡ near a → h ≡ near b → Loss l h ≡ near_kind (Loss a b)
loss_made l h a b e f = rw (e, f) refl

control_made : (i o l h a b c d : ℤ) → i ≡ near a → o ≡ near b → l ≡ near c → h ≡ near d → Control i o l h ≡ near_kind (Control a b c d)
control_made i o l h a b c d e f g k = rw (e, f, g, k) refl

station_made : (i o n m r a b c d f : ℤ) → i ≡ near a → o ≡ near b → n ≡ near c → m ≡ near d → r ≡ near f → Station i o n m r ≡ near_kind (Station a b c d f)
station_made i o n m r a b c d f e1 e2 e3 e4 e5 = rw (e1, e2, e3, e4, e5) refl

module _ (word bytes : List ℕ) (x : ArcKind × List ℕ) where
  pipe_takes : word ≡ codes "pipe" → (drag_at bytes >>= λ d. Ok (Pipe d.0, d.1)) ≡ Ok x → KindRead word bytes x
  pipe_takes is e =
      let d = bound_ok (drag_at bytes) (λ d. Ok (Pipe d.0, d.1)) x e in
      let made : (Pipe d.0.0, d.0.1) ≡ x = let h = d.2 in cc in
      let t = drag_takes bytes d.0 d.1 in
      carry (KindRead word bytes) (Pipe d.0.0, d.0.1) x made (record { kind = Pipe t.drag; first = is; text = t.text; read = ap Pipe t.read })

  resist_takes : word ≡ codes "drag" → (drag_at bytes >>= λ d. Ok (Resist d.0, d.1)) ≡ Ok x → KindRead word bytes x
  resist_takes is e =
      let d = bound_ok (drag_at bytes) (λ d. Ok (Resist d.0, d.1)) x e in
      let made : (Resist d.0.0, d.0.1) ≡ x = let h = d.2 in cc in
      let t = drag_takes bytes d.0 d.1 in
      carry (KindRead word bytes) (Resist d.0.0, d.0.1) x made (record { kind = Resist t.drag; first = is; text = t.text; read = ap Resist t.read })

  plain_takes : (k : ArcKind) → word ≡ kind_word k → kind_numbers k ≡ [] → k ≡ near_kind k → ◌≡◌ {A = Result (ArcKind × List ℕ) LineFault} (Ok (k, bytes)) (Ok x) → KindRead word bytes x
  plain_takes k is none same e =
      let made : (k, bytes) ≡ x = cc in
      carry (KindRead word bytes) (k, bytes) x made (record { kind = k; first = is; text = ap (λ (zs : List ℤ). numbers_before zs bytes) (sym none); read = same })

  loss_takes : word ≡ codes "loss" → loss_at bytes ≡ Ok x → KindRead word bytes x
  unfolding loss_at
  loss_takes is e =
      let low = bound_ok (number_field bytes) _ x e in
      let high = bound_ok (number_field low.0.1) _ x low.2 in
      let made : (Loss low.0.0 high.0.0, high.0.1) ≡ x = let h = high.2 in cc in
      let a = number_takes bytes low.0 low.1 in
      let b = number_takes low.0.1 high.0 high.1 in
      carry (KindRead word bytes) (Loss low.0.0 high.0.0, high.0.1) x made (record {
        kind = Loss a.number b.number;
        first = is;
        text = uncut bytes (a.number ∷ b.number ∷ []) high.0.1 (low.0.1, a.text, (high.0.1, b.text, refl));
        read = loss_made low.0.0 high.0.0 a.number b.number a.read b.read;
      })

  control_takes : word ≡ codes "control" → control_at bytes ≡ Ok x → KindRead word bytes x
  unfolding control_at
  control_takes is e =
      let i = bound_ok (number_field bytes) _ x e in
      let o = bound_ok (number_field i.0.1) _ x i.2 in
      let l = bound_ok (number_field o.0.1) _ x o.2 in
      let h = bound_ok (number_field l.0.1) _ x l.2 in
      let k : ArcKind = Control i.0.0 o.0.0 l.0.0 h.0.0 in
      let made : (k, h.0.1) ≡ x = let e = h.2 in cc in
      let a = number_takes bytes i.0 i.1 in
      let b = number_takes i.0.1 o.0 o.1 in
      let c = number_takes o.0.1 l.0 l.1 in
      let d = number_takes l.0.1 h.0 h.1 in
      carry (KindRead word bytes) (k, h.0.1) x made (record {
        kind = Control a.number b.number c.number d.number;
        first = is;
        text = uncut bytes (a.number ∷ b.number ∷ c.number ∷ d.number ∷ []) h.0.1 (i.0.1, a.text, (o.0.1, b.text, (l.0.1, c.text, (h.0.1, d.text, refl))));
        read = control_made i.0.0 o.0.0 l.0.0 h.0.0 a.number b.number c.number d.number a.read b.read c.read d.read;
      })

  station_takes : word ≡ codes "station" → station_at bytes ≡ Ok x → KindRead word bytes x
  unfolding station_at
  station_takes is e =
      let i = bound_ok (number_field bytes) _ x e in
      let o = bound_ok (number_field i.0.1) _ x i.2 in
      let n = bound_ok (number_field o.0.1) _ x o.2 in
      let m = bound_ok (number_field n.0.1) _ x n.2 in
      let r = bound_ok (number_field m.0.1) _ x m.2 in
      let k : ArcKind = Station i.0.0 o.0.0 n.0.0 m.0.0 r.0.0 in
      let made : (k, r.0.1) ≡ x = let e = r.2 in cc in
      let a = number_takes bytes i.0 i.1 in
      let b = number_takes i.0.1 o.0 o.1 in
      let c = number_takes o.0.1 n.0 n.1 in
      let d = number_takes n.0.1 m.0 m.1 in
      let f = number_takes m.0.1 r.0 r.1 in
      carry (KindRead word bytes) (k, r.0.1) x made (record {
        kind = Station a.number b.number c.number d.number f.number;
        first = is;
        text =
            uncut bytes (a.number ∷ b.number ∷ c.number ∷ d.number ∷ f.number ∷ []) r.0.1
            (i.0.1, a.text, (o.0.1, b.text, (n.0.1, c.text, (m.0.1, d.text, (r.0.1, f.text, refl)))));
        read = station_made i.0.0 o.0.0 n.0.0 m.0.0 r.0.0 a.number b.number c.number d.number f.number a.read b.read c.read d.read f.read;
      })

  pub kind_takes : kind_at word bytes ≡ Ok x → KindRead word bytes x
  unfolding kind_at
  kind_takes e =
      elim (if_ok (bytes_eq word (codes "pipe")) _ _ x e) [
        | inl p ↦ pipe_takes (is_word word _ p.0) p.1
        | inr p ↦ elim (if_ok (bytes_eq word (codes "short")) _ _ x p) [
          | inl q ↦ plain_takes Short (is_word word _ q.0) refl refl q.1
          | inr q ↦ elim (if_ok (bytes_eq word (codes "drag")) _ _ x q) [
            | inl r ↦ resist_takes (is_word word _ r.0) r.1
            | inr r ↦ elim (if_ok (bytes_eq word (codes "loss")) _ _ x r) [
              | inl s ↦ loss_takes (is_word word _ s.0) s.1
              | inr s ↦ elim (if_ok (bytes_eq word (codes "valve")) _ _ x s) [
                | inl t ↦ plain_takes Valve (is_word word _ t.0) refl refl t.1
                | inr t ↦ elim (if_ok (bytes_eq word (codes "control")) _ _ x t) [
                  | inl u ↦ control_takes (is_word word _ u.0) u.1
                  | inr u ↦ elim (if_ok (bytes_eq word (codes "station")) _ (Err fault.NotFlat) x u) [
                    | inl v ↦ station_takes (is_word word _ v.0) v.1
                    | inr v ↦ absurd cc
                  ]
                ]
              ]
            ]
          ]
        ]
      ]

-- a word that was read, as a choice among words
abbrev SpellsAllow : List ℕ → Option Allow → Type 0
SpellsAllow word None = Unit {0}
SpellsAllow word (Some w) = word ≡ allow_word w

one_of : (word v : List ℕ) (w : Allow) (others : Option Allow) → v ≡ allow_word w → SpellsAllow word others → SpellsAllow word (cond (bytes_eq word v) (Some w) others)
one_of word v w others is spells = by (bytes_eq word v) refl
  where
    by : (b : Bool) → bytes_eq word v ≡ b → SpellsAllow word (cond b (Some w) others)
    by true e = is_word word v e ∙ is
    by false e = spells

allow_spelled : (word : List ℕ) → SpellsAllow word (allow_of word)
unfolding allow_of
allow_spelled word =
    one_of word (codes "open") Opened _ refl (one_of word (codes "closed") Shut _ refl (one_of word (codes "active") Active _ refl (one_of word (codes "bypass") Bypass _ refl (one_of word (codes "on") On None refl tt))))

pub allow_takes : (word : List ℕ) (w : Allow) → found (allow_of word) ≡ Ok w → word ≡ allow_word w
allow_takes word w e = by (allow_of word) (allow_spelled word) e
  where
    by : (o : Option Allow) → SpellsAllow word o → found o ≡ Ok w → word ≡ allow_word w
    by None h f = absurd cc
    by (Some v) h f = let same : v ≡ w = cc in h ∙ ap allow_word same
