-- What the text of fields reads as, and which text reads as fields.
use Rattle.std.proofs.Common.{◌≡◌, ◌<◌, ◌^◌, ◌-◌, ℕ, List, [], ◌∷◌, ◌++◌, length, map, Bool, true, false, cond, not, ◌&&◌, Option, Some, None, Result, Ok, Err, ℤ, pos, negsuc, refl, sym, ap, subst, ◌∙◌, arith}
use Rattle.std.specs.Prelude.{◌==◌, nat_le}
use Rattle.std.specs.Int.{w64, saturate_signed}
use Rattle.std.specs.List.{list_all}
use Rattle.std.specs.Str.{is_utf8}
use Rattle.std.proofs.lemmas.Bool.{eqb-true, and_parts}
use Rattle.std.proofs.lemmas.Bool.Decides.{nat_tests}
use Rattle.std.proofs.lemmas.Int.{ints}
use lib.Signed.{mag}
use Rattle.base_types.specs.Ids.{is_id_byte, has_id_form, is_id}
use Rattle.base_types.specs.Numbers.{is_pressure, is_difference, is_flow, is_drag_part, is_ratio_part}
use Rattle.gas_model.specs.declared.rows.Drag.{Drag}
use Rattle.line_text.specs.Numerals.{signed_numeral}
use Rattle.line_text.specs.Words.{word_len, is_field}
use Rattle.line_text.specs.Words as words
use Rattle.line_text.proofs.Fields.{IsVisible, visible_field, field_again, field_takes, field_form, number_field_again, number_field_takes}
use Rattle.flat_text.specs.declared.fault.LineFault.{LineFault}
use Rattle.flat_text.specs.declared.fault.LineFault.TheVariants as fault
use Rattle.flat_text.specs.Spelling.{spaced}
use Rattle.flat_text.specs.Fields.{◌>>=◌, found, text_field, number_field, ended, HeadText, head_at, drag_at}

-- a fact about a value holds of an equal one
pub carry : {A : Type 0} (P : A → Type 0) (x y : A) → x ≡ y → P x → P y
carry P x y e h = subst P e h

pub carry_back : {A : Type 0} (P : A → Type 0) (x y : A) → x ≡ y → P y → P x
carry_back P x y e h = subst P (sym e) h

-- ---- one field

pub bound_ok : {A B : Type 0} (r : Result A LineFault) (f : A → Result B LineFault) (y : B) → (r >>= f) ≡ Ok y → (x : A) × (r ≡ Ok x) × (f x ≡ Ok y)
bound_ok (Ok x) f y e = (x, refl, e)
bound_ok (Err k) f y e = absurd cc

found_some : {A : Type 0} (o : Option A) (y : A) → found o ≡ Ok y → o ≡ Some y
found_some None y e = absurd cc
found_some (Some x) y e = let same : x ≡ y = cc in ap (λ x. Some x) same

-- a text that was read as a field
pub record IsText (bytes w rest : List ℕ) : Type 0 where
  pub form : is_field w ≡ true
  pub text : bytes ≡ 32 ∷ (w ++ rest)

pub text_takes : (bytes : List ℕ) (x : List ℕ × List ℕ) → text_field bytes ≡ Ok x → IsText bytes x.0 x.1
text_takes bytes x e =
    let is = found_some (words.field_at bytes) x e in
    record { form = field_form bytes x.0 x.1 is; text = field_takes bytes x.0 x.1 is }

-- the nearest number of 64 bits, as which a number is read
abbrev pub near : ℤ → ℤ
near z = saturate_signed w64 z

-- a number that was read as the nearest one
pub record IsNumber (bytes : List ℕ) (y : ℤ) (rest : List ℕ) : Type 0 where
  pub number : ℤ
  pub text : bytes ≡ 32 ∷ (signed_numeral number ++ rest)
  pub read : y ≡ near number

pub number_takes : (bytes : List ℕ) (x : ℤ × List ℕ) → number_field bytes ≡ Ok x → IsNumber bytes x.0 x.1
number_takes bytes x e =
    let t = number_field_takes bytes x.0 x.1 (found_some (words.number_field bytes) x e) in
    record { number = t.0; text = t.1; read = t.2 }

pub no_length : {A : Type 0} (l : List A) → (length l == 0) ≡ true → l ≡ []
no_length [] e = refl
no_length (x ∷ l) e = let none : length (x ∷ l) ≡ 0 = eqb-true _ _ e in absurd (omega (arith, none))

pub end_takes : (bytes : List ℕ) (x : Unit {0}) → ended bytes ≡ Ok x → bytes ≡ []
end_takes bytes x e = by (length bytes == 0) refl e
  where
    by : (b : Bool) → (length bytes == 0) ≡ b → cond b (Ok tt) (Err fault.NotFlat) ≡ Ok x → bytes ≡ []
    by true t h = no_length bytes t
    by false t h = absurd cc

pub text_again : (w rest : List ℕ) → is_field w ≡ true → word_len rest ≡ 0 → text_field (32 ∷ (w ++ rest)) ≡ Ok (w, rest)
text_again w rest h e = ap found (field_again w rest h e)

pub number_again : (z : ℤ) (rest : List ℕ) → word_len rest ≡ 0 → number_field (32 ∷ (signed_numeral z ++ rest)) ≡ Ok (near z, rest)
number_again z rest e = ap found (number_field_again z rest e)

-- ---- what the limits say

id_bytes : (w : List ℕ) → list_all is_id_byte w ≡ true → IsVisible w
id_bytes [] e = refl
id_bytes (b ∷ w) e =
    let p = and_parts (is_id_byte b) (list_all is_id_byte w) e in
    let q = and_parts (nat_le 33 b) (not (b == 127)) p.0 in
    rw q.0 (id_bytes w p.1)

not_empty : (w : List ℕ) → not (length w == 0) ≡ true → 0 < length w
not_empty [] e = absurd cc
not_empty (b ∷ w) e = omega arith

pub id_visible : (w : List ℕ) → is_id w ≡ true → IsVisible w
id_visible w e =
    let text = and_parts (has_id_form w) (is_utf8 w) e in
    id_bytes w (and_parts (not (length w == 0) && nat_le (length w) 200) (list_all is_id_byte w) text.0).1

pub id_field : (w : List ℕ) → is_id w ≡ true → is_field w ≡ true
id_field w e =
    let text = and_parts (has_id_form w) (is_utf8 w) e in
    let p = and_parts (not (length w == 0) && nat_le (length w) 200) (list_all is_id_byte w) text.0 in
    let q = and_parts (not (length w == 0)) (nat_le (length w) 200) p.0 in
    visible_field w (id_bytes w p.1) (not_empty w q.0) text.1

-- a number far within 64 bits
abbrev pub IsShort : ℤ → Type 0
IsShort z = mag z < 2 ^ 63 - 1

pub pressure_short : (z : ℤ) → is_pressure z ≡ true → IsShort z
pressure_short (pos n) e = grind (arith, ints, nat_tests)
pressure_short (negsuc n) e = absurd cc

pub difference_short : (z : ℤ) → is_difference z ≡ true → IsShort z
difference_short (pos n) e = grind (arith, ints, nat_tests)
difference_short (negsuc n) e = absurd cc

pub flow_short : (z : ℤ) → is_flow z ≡ true → IsShort z
flow_short (pos n) e = grind (arith, ints, nat_tests)
flow_short (negsuc n) e = grind (arith, ints, nat_tests)

pub drag_part_short : (z : ℤ) → is_drag_part z ≡ true → IsShort z
drag_part_short (pos n) e = grind (arith, ints, nat_tests)
drag_part_short (negsuc n) e = absurd cc

pub ratio_part_short : (z : ℤ) → is_ratio_part z ≡ true → IsShort z
ratio_part_short (pos n) e = grind (arith, ints, nat_tests)
ratio_part_short (negsuc n) e = absurd cc

-- a short number is the nearest one, and so is one whose nearest is short
pub near_of_short : (z : ℤ) → IsShort z → near z ≡ z
near_of_short (pos n) short = ap (λ n. pos n) (omega (arith, short))
near_of_short (negsuc n) short = ap (λ n. negsuc n) (omega (arith, short))

short_of_near : (z : ℤ) → IsShort (near z) → IsShort z
short_of_near (pos n) short = omega (arith, short)
short_of_near (negsuc n) short = omega (arith, short)

-- ---- numbers one after the other

abbrev pub AreShort : List ℤ → Type 0
AreShort [] = Unit {0}
AreShort (z ∷ zs) = IsShort z × AreShort zs

abbrev pub AreNear : List ℤ → Type 0
AreNear [] = Unit {0}
AreNear (z ∷ zs) = (near z ≡ z) × AreNear zs

pub short_near : (zs : List ℤ) → AreShort zs → AreNear zs
short_near [] short = tt
short_near (z ∷ zs) short = (near_of_short z short.0, short_near zs short.1)

pub nearest_short : (zs : List ℤ) → AreShort (map near zs) → AreNear zs
nearest_short [] short = tt
nearest_short (z ∷ zs) short = (near_of_short z (short_of_near z short.0), nearest_short zs short.1)

-- numbers, each after one space, and what comes after them
abbrev pub numbers_before : List ℤ → List ℕ → List ℕ
numbers_before [] rest = rest
numbers_before (z ∷ zs) rest = 32 ∷ (signed_numeral z ++ numbers_before zs rest)

-- cut after each number, the bytes are these numbers and what comes after them
abbrev pub Cuts : List ℕ → List ℤ → List ℕ → Type 0
Cuts bytes [] rest = bytes ≡ rest
Cuts bytes (z ∷ zs) rest = (after : List ℕ) × (bytes ≡ 32 ∷ (signed_numeral z ++ after)) × Cuts after zs rest

pub uncut : (bytes : List ℕ) (zs : List ℤ) (rest : List ℕ) → Cuts bytes zs rest → bytes ≡ numbers_before zs rest
uncut bytes [] rest cuts = cuts
uncut bytes (z ∷ zs) rest cuts = cuts.1 ∙ ap (λ (b : List ℕ). 32 ∷ (signed_numeral z ++ b)) (uncut cuts.0 zs rest cuts.2)

pub spaced_numbers : (zs : List ℤ) → spaced (map signed_numeral zs) ≡ numbers_before zs []
spaced_numbers [] = refl
spaced_numbers (z ∷ zs) = ap (λ (b : List ℕ). 32 ∷ (signed_numeral z ++ b)) (spaced_numbers zs)

-- no word comes before numbers
pub no_word : (zs : List ℤ) → word_len (numbers_before zs []) ≡ 0
no_word [] = refl
no_word (z ∷ zs) = refl

-- ---- the head of an arc

-- what stands in the line of an arc from its id to its flow bounds
abbrev pub head_text_before : HeadText → List ℕ → List ℕ
head_text_before h rest = 32 ∷ (h.id ++ (32 ∷ (h.from ++ (32 ∷ (h.to ++ numbers_before (h.q_min ∷ h.q_max ∷ []) rest)))))

abbrev pub near_head : HeadText → HeadText
near_head h = record { id = h.id; from = h.from; to = h.to; q_min = near h.q_min; q_max = near h.q_max }

pub record IsHead (h : HeadText) : Type 0 where
  pub id : is_field h.id ≡ true
  pub from : is_field h.from ≡ true
  pub to : is_field h.to ≡ true

pub head_again : (h : HeadText) (rest : List ℕ) → IsHead h → word_len rest ≡ 0 → head_at (head_text_before h rest) ≡ Ok (near_head h, rest)
unfolding head_at
head_again h rest is e =
    let r4 : List ℕ = numbers_before (h.q_max ∷ []) rest in
    let r3 : List ℕ = numbers_before (h.q_min ∷ h.q_max ∷ []) rest in
    let r2 : List ℕ = 32 ∷ (h.to ++ r3) in
    let r1 : List ℕ = 32 ∷ (h.from ++ r2) in
    rw (text_again h.id r1 is.id refl, text_again h.from r2 is.from refl, text_again h.to r3 is.to refl, number_again h.q_min r4 refl, number_again h.q_max rest e) refl

head_joined : (b r1 r2 r3 rest : List ℕ) (h : HeadText) → b ≡ 32 ∷ (h.id ++ r1) → r1 ≡ 32 ∷ (h.from ++ r2) → r2 ≡ 32 ∷ (h.to ++ r3) → r3 ≡ numbers_before (h.q_min ∷ h.q_max ∷ []) rest → b ≡ head_text_before h rest
head_joined b r1 r2 r3 rest h e1 e2 e3 e4 = rw (e1, e2, e3, e4) refl

-- a head that was read with the nearest numbers
pub record HeadRead (bytes : List ℕ) (x : HeadText × List ℕ) : Type 0 where
  pub head : HeadText
  pub is : IsHead head
  pub text : bytes ≡ head_text_before head x.1
  pub read : x.0 ≡ near_head head

head_made : (id from to : List ℕ) (q r a b : ℤ) → q ≡ near a → r ≡ near b → (let h : HeadText = record { id = id; from = from; to = to; q_min = q; q_max = r } in h) ≡ near_head (record { id = id; from = from; to = to; q_min = a; q_max = b })
head_made id from to q r a b e f = rw (e, f) refl

pub head_takes : (bytes : List ℕ) (x : HeadText × List ℕ) → head_at bytes ≡ Ok x → HeadRead bytes x
unfolding head_at
head_takes bytes x e =
    let id = bound_ok (text_field bytes) _ x e in
    let from = bound_ok (text_field id.0.1) _ x id.2 in
    let to = bound_ok (text_field from.0.1) _ x from.2 in
    let q_min = bound_ok (number_field to.0.1) _ x to.2 in
    let q_max = bound_ok (number_field q_min.0.1) _ x q_min.2 in
    let y : HeadText = record { id = id.0.0; from = from.0.0; to = to.0.0; q_min = q_min.0.0; q_max = q_max.0.0 } in
    let made : (y, q_max.0.1) ≡ x = let is = q_max.2 in cc in
    let i = text_takes bytes id.0 id.1 in
    let f = text_takes id.0.1 from.0 from.1 in
    let t = text_takes from.0.1 to.0 to.1 in
    let a = number_takes to.0.1 q_min.0 q_min.1 in
    let b = number_takes q_min.0.1 q_max.0 q_max.1 in
    let h : HeadText = record { id = id.0.0; from = from.0.0; to = to.0.0; q_min = a.number; q_max = b.number } in
    let numbers = uncut to.0.1 (h.q_min ∷ h.q_max ∷ []) q_max.0.1 (q_min.0.1, a.text, (q_max.0.1, b.text, refl)) in
    carry (HeadRead bytes) (y, q_max.0.1) x made (record {
      head = h;
      is = record { id = i.form; from = f.form; to = t.form };
      text = head_joined bytes id.0.1 from.0.1 to.0.1 q_max.0.1 h i.text f.text t.text numbers;
      read = head_made id.0.0 from.0.0 to.0.0 q_min.0.0 q_max.0.0 a.number b.number a.read b.read;
    })

-- ---- a resistance

abbrev pub near_drag : Drag → Drag
near_drag d = record { lo = near d.lo; hi = near d.hi; den = near d.den }

pub drag_again : (d : Drag) (rest : List ℕ) → word_len rest ≡ 0 → drag_at (numbers_before (d.lo ∷ d.hi ∷ d.den ∷ []) rest) ≡ Ok (near_drag d, rest)
unfolding drag_at
drag_again d rest e =
    rw (number_again d.lo (numbers_before (d.hi ∷ d.den ∷ []) rest) refl, number_again d.hi (numbers_before (d.den ∷ []) rest) refl, number_again d.den rest e) refl

pub record DragRead (bytes : List ℕ) (x : Drag × List ℕ) : Type 0 where
  pub drag : Drag
  pub text : bytes ≡ numbers_before (drag.lo ∷ drag.hi ∷ drag.den ∷ []) x.1
  pub read : x.0 ≡ near_drag drag

drag_made : (l h m a b c : ℤ) → l ≡ near a → h ≡ near b → m ≡ near c → (let d : Drag = record { lo = l; hi = h; den = m } in d) ≡ near_drag (record { lo = a; hi = b; den = c })
drag_made l h m a b c e f g = rw (e, f, g) refl

pub drag_takes : (bytes : List ℕ) (x : Drag × List ℕ) → drag_at bytes ≡ Ok x → DragRead bytes x
unfolding drag_at
drag_takes bytes x e =
    let lo = bound_ok (number_field bytes) _ x e in
    let hi = bound_ok (number_field lo.0.1) _ x lo.2 in
    let den = bound_ok (number_field hi.0.1) _ x hi.2 in
    let y : Drag = record { lo = lo.0.0; hi = hi.0.0; den = den.0.0 } in
    let made : (y, den.0.1) ≡ x = let is = den.2 in cc in
    let a = number_takes bytes lo.0 lo.1 in
    let b = number_takes lo.0.1 hi.0 hi.1 in
    let c = number_takes hi.0.1 den.0 den.1 in
    let d : Drag = record { lo = a.number; hi = b.number; den = c.number } in
    carry (DragRead bytes) (y, den.0.1) x made (record {
      drag = d;
      text = uncut bytes (d.lo ∷ d.hi ∷ d.den ∷ []) den.0.1 (lo.0.1, a.text, (hi.0.1, b.text, (den.0.1, c.text, refl)));
      read = drag_made lo.0.0 hi.0.0 den.0.0 a.number b.number c.number a.read b.read c.read;
    })
