-- A field is read as what its text says, and its text says what it is read as.
use Rattle.std.proofs.Common.{◌≡◌, ◌<◌, ◌≤◌, ℕ, suc, List, [], ◌∷◌, ◌++◌, length, Bool, true, false, cond, Option, Some, None, Result, Ok, Err, ℤ, pos, negsuc, refl, sym, ap, ◌∙◌, arith}
use Rattle.std.specs.Prelude.{◌==◌, option_map, nat_le, nat_lt, codes}
use Rattle.std.specs.List.{find, list_all, flat_map}
use Rattle.std.specs.Str.{bytes_eq, is_utf8, IsAscii}
use Rattle.std.proofs.lemmas.Bool.{eqb-true, ltb-true, and_parts}
use Rattle.std.proofs.lemmas.Bool.Decides.{nat_tests}
use Rattle.std.proofs.lemmas.Slice.Eq.{bytes_eq-Decides}
use Rattle.std.proofs.lemmas.Str.{IsUtf8-from_ascii, is_utf8-from_IsUtf8}
use Rattle.std.proofs.lemmas.Str.Ascii.{IsAscii-nil, IsAscii-cons}
use Rattle.base_types.specs.declared.states.ArcState.{ArcState}
use Rattle.base_types.specs.declared.states.ArcState.TheVariants.{Opened, Shut, Active, Bypass}
use Rattle.base_types.specs.declared.variables.Var.{Var}
use Rattle.base_types.specs.declared.variables.Var.TheVariants.{Flow, Square}
use Rattle.line_text.specs.Words.{word_len, field_at}
use Rattle.line_text.specs.Numerals.{numeral, signed_numeral, natural, integer}
use Rattle.line_text.specs.Long.{fits_position, fits_long, fitting, position_at, long_at}
use Rattle.line_text.proofs.Decimals.{numeral_form}
use Rattle.line_text.proofs.Fields.{IsVisible, numeral_visible, numeral_ascii, visible_field, field_again, field_takes}
use Rattle.line_text.proofs.Numbers.{natural_again, natural_takes, integer_again, integer_takes, mapped}
use Rattle.tree_cert.specs.declared.line.Rule.{Rule}
use Rattle.tree_cert.specs.declared.line.Rule.TheVariants as rules
use Rattle.tree_cert.specs.declared.fault.LineFault.{LineFault}
use Rattle.tree_cert.specs.declared.fault.LineFault.TheVariants as fault
use Rattle.tree_cert.specs.Spelling.{var_text, rule_text, end_text, fits_var}
use Rattle.base_types.specs.StateWords.{state_word, state_named}
use Rattle.base_types.proofs.StateWords.{word_names, named_only}
use Rattle.tree_cert.specs.Fields.{◌>>=◌, found, text_field, ended, position_field, number_field, var_at, var_field, all_rules, rule_at, rule_field, state_field, end_at, end_field}

-- the words, each after one space
abbrev pub spaced : List (List ℕ) → List ℕ
spaced words = flat_map (λ field. 32 ∷ field) words

pub spaced_start : (words : List (List ℕ)) → word_len (spaced words) ≡ 0
spaced_start [] = refl
spaced_start (w ∷ words) = refl

-- a text that can be a field
pub record IsWord (w : List ℕ) : Type 0 where
  pub visible : IsVisible w
  pub some : 0 < length w
  pub text : is_utf8 w ≡ true

-- ---- words of letters

letters_ascii : (w : List ℕ) → list_all (λ b. nat_lt b 128) w ≡ true → IsAscii w
letters_ascii [] e = IsAscii-nil
letters_ascii (b ∷ w) e =
    let p = and_parts (nat_lt b 128) (list_all (λ b. nat_lt b 128) w) e in
    IsAscii-cons b w (ltb-true b 128 p.0) (letters_ascii w p.1)

pub fixed_word : (w : List ℕ) → list_all (λ b. nat_lt b 128) w ≡ true → IsVisible w → 0 < length w → IsWord w
fixed_word w e visible some = record { visible = visible; some = some; text = is_utf8-from_IsUtf8 w (IsUtf8-from_ascii w (letters_ascii w e)) }

-- ---- words of numbers

numeral_word : (n : ℕ) → IsWord (numeral n)
numeral_word n = record { visible = numeral_visible n; some = (numeral_form n).1; text = is_utf8-from_IsUtf8 _ (IsUtf8-from_ascii _ (numeral_ascii n)) }

-- the same after a letter
lettered_word : (c n : ℕ) → 33 ≤ c → c < 128 → IsWord (c ∷ numeral n)
lettered_word c n low high =
    let seen : nat_le 33 c ≡ true = grind (arith, nat_tests) in
    record { visible = rw seen (numeral_visible n); some = omega arith; text = is_utf8-from_IsUtf8 _ (IsUtf8-from_ascii _ (IsAscii-cons c (numeral n) high (numeral_ascii n))) }

pub position_word : (n : ℕ) → IsWord (numeral n)
position_word n = numeral_word n

pub long_word : (z : ℤ) → IsWord (signed_numeral z)
long_word (pos n) = numeral_word n
long_word (negsuc n) = lettered_word 45 (suc n) (omega arith) (omega arith)

pub var_word : (x : Var) → IsWord (var_text x)
var_word (Flow a) = lettered_word 113 a (omega arith) (omega arith)
var_word (Square n) = lettered_word 115 n (omega arith) (omega arith)

pub rule_is_word : (rule : Rule) → IsWord (rule_text rule)
rule_is_word rules.Balance = fixed_word (codes "balance") refl refl (omega arith)
rule_is_word rules.Pipe = fixed_word (codes "pipe") refl refl (omega arith)
rule_is_word rules.Equal = fixed_word (codes "equal") refl refl (omega arith)
rule_is_word rules.Zero = fixed_word (codes "zero") refl refl (omega arith)
rule_is_word rules.Way = fixed_word (codes "way") refl refl (omega arith)
rule_is_word rules.Inner = fixed_word (codes "inner") refl refl (omega arith)
rule_is_word rules.Fall = fixed_word (codes "fall") refl refl (omega arith)
rule_is_word rules.Order = fixed_word (codes "order") refl refl (omega arith)
rule_is_word rules.Rise = fixed_word (codes "rise") refl refl (omega arith)
rule_is_word rules.Ratio = fixed_word (codes "ratio") refl refl (omega arith)
rule_is_word rules.Sign = fixed_word (codes "sign") refl refl (omega arith)
rule_is_word rules.Reach = fixed_word (codes "reach") refl refl (omega arith)
rule_is_word rules.Along = fixed_word (codes "along") refl refl (omega arith)
rule_is_word rules.Drop = fixed_word (codes "drop") refl refl (omega arith)

pub state_is_word : (state : ArcState) → IsWord (state_word state)
state_is_word Opened = fixed_word (codes "open") refl refl (omega arith)
state_is_word Shut = fixed_word (codes "closed") refl refl (omega arith)
state_is_word Active = fixed_word (codes "active") refl refl (omega arith)
state_is_word Bypass = fixed_word (codes "bypass") refl refl (omega arith)

pub end_is_word : (low : Bool) → IsWord (end_text low)
end_is_word true = fixed_word (codes "lo") refl refl (omega arith)
end_is_word false = fixed_word (codes "hi") refl refl (omega arith)

-- ---- fields of any kind

pub bound_ok : {A B : Type 0} (r : Result A LineFault) (f : A → Result B LineFault) (y : B) → (r >>= f) ≡ Ok y → (x : A) × (r ≡ Ok x) × (f x ≡ Ok y)
bound_ok (Ok x) f y e = (x, refl, e)
bound_ok (Err d) f y e = absurd cc

pub found_ok : {A : Type 0} (o : Option A) (x : A) → found o ≡ Ok x → o ≡ Some x
found_ok None x e = absurd cc
found_ok (Some y) x e = cc

module _ {A : Type 0} (at : List ℕ → Option A) where
  abbrev pub with_rest : List ℕ → A → Result (A × List ℕ) LineFault
  with_rest rest x = Ok (x, rest)

  -- a field that is read by its word
  abbrev pub field_by : List ℕ → Result (A × List ℕ) LineFault
  field_by bytes = text_field bytes >>= λ word. found (at word.0) >>= with_rest word.1

  pub by_again : (w rest : List ℕ) (x : A) → IsWord w → at w ≡ Some x → word_len rest ≡ 0 → field_by (32 ∷ (w ++ rest)) ≡ Ok (x, rest)
  by_again w rest x is e h = rw (field_again w rest (visible_field w is.visible is.some is.text) h, e) refl

  pub by_takes : (bytes : List ℕ) (x : A) (rest : List ℕ) → field_by bytes ≡ Ok (x, rest) → (w : List ℕ) × (at w ≡ Some x) × (bytes ≡ 32 ∷ (w ++ rest))
  by_takes bytes x rest e =
      let f = bound_ok (text_field bytes) (λ word. found (at word.0) >>= with_rest word.1) (x, rest) e in
      let n = bound_ok (found (at f.0.0)) (with_rest f.0.1) (x, rest) f.2 in
      let same : (n.0, f.0.1) ≡ (x, rest) = let h = n.2 in cc in
      let value : n.0 ≡ x = ap (λ (p : A × List ℕ). p.0) same in
      let behind : f.0.1 ≡ rest = ap (λ (p : A × List ℕ). p.1) same in
      (f.0.0, found_ok (at f.0.0) n.0 n.1 ∙ ap Some value, field_takes bytes f.0.0 f.0.1 (found_ok (field_at bytes) f.0 f.1) ∙ ap (λ (r : List ℕ). 32 ∷ (f.0.0 ++ r)) behind)

-- ---- fields of numbers of any size, which are none within where they don't fit

pub position_field_again : (n : ℕ) (rest : List ℕ) → word_len rest ≡ 0 → position_field (32 ∷ (numeral n ++ rest)) ≡ Ok (fitting fits_position n, rest)
unfolding position_field
position_field_again n rest h = by_again position_at (numeral n) rest (fitting fits_position n) (position_word n) (ap (option_map (fitting fits_position)) (natural_again n)) h

pub position_field_takes : (bytes : List ℕ) (o : Option ℕ) (rest : List ℕ) → position_field bytes ≡ Ok (o, rest) → (n : ℕ) × (bytes ≡ 32 ∷ (numeral n ++ rest)) × (o ≡ fitting fits_position n)
unfolding position_field
position_field_takes bytes o rest e =
    let t = by_takes position_at bytes o rest e in
    let m = mapped (fitting fits_position) (natural t.0) o t.1 in
    (m.0, t.2 ∙ ap (λ (w : List ℕ). 32 ∷ (w ++ rest)) (natural_takes t.0 m.0 m.1), sym m.2)

pub number_field_again : (z : ℤ) (rest : List ℕ) → word_len rest ≡ 0 → number_field (32 ∷ (signed_numeral z ++ rest)) ≡ Ok (fitting fits_long z, rest)
unfolding number_field
number_field_again z rest h = by_again long_at (signed_numeral z) rest (fitting fits_long z) (long_word z) (ap (option_map (fitting fits_long)) (integer_again z)) h

pub number_field_takes : (bytes : List ℕ) (o : Option ℤ) (rest : List ℕ) → number_field bytes ≡ Ok (o, rest) → (z : ℤ) × (bytes ≡ 32 ∷ (signed_numeral z ++ rest)) × (o ≡ fitting fits_long z)
unfolding number_field
number_field_takes bytes o rest e =
    let t = by_takes long_at bytes o rest e in
    let m = mapped (fitting fits_long) (integer t.0) o t.1 in
    (m.0, t.2 ∙ ap (λ (w : List ℕ). 32 ∷ (w ++ rest)) (integer_takes t.0 m.0 m.1), sym m.2)

-- what is made of a number that fits, where it does
pub made_where : {A B : Type 0} (make : A → B) (b : Bool) (x : A) → option_map make (cond b (Some x) None) ≡ cond b (Some (make x)) None
made_where make true x = refl
made_where make false x = refl

var_again : (x : Var) → var_at (var_text x) ≡ Some (fitting fits_var x)
var_again (Flow a) = ap (λ (o : Option ℕ). option_map (option_map Flow) (option_map (fitting fits_position) o)) (natural_again a) ∙ ap Some (made_where Flow (fits_position a) a)
var_again (Square n) = ap (λ (o : Option ℕ). option_map (option_map Square) (option_map (fitting fits_position) o)) (natural_again n) ∙ ap Some (made_where Square (fits_position n) n)

-- what a letter and a position name
named : (make : ℕ → Var) (digits : List ℕ) (o : Option Var) → option_map (option_map make) (position_at digits) ≡ Some o → (n : ℕ) × (digits ≡ numeral n) × (option_map make (fitting fits_position n) ≡ o)
named make digits o e =
    let p = mapped (option_map make) (position_at digits) o e in
    let m = mapped (fitting fits_position) (natural digits) p.0 p.1 in
    (m.0, natural_takes digits m.0 m.1, ap (option_map make) m.2 ∙ p.2)

var_takes : (w : List ℕ) (o : Option Var) → var_at w ≡ Some o → (x : Var) × (w ≡ var_text x) × (o ≡ fitting fits_var x)
var_takes [] o e = absurd cc
var_takes (c ∷ digits) o e = by (c == 113) (c == 115) refl refl e
  where
    by : (a b : Bool) → (c == 113) ≡ a → (c == 115) ≡ b
        → cond a (option_map (option_map Flow) (position_at digits)) (cond b (option_map (option_map Square) (position_at digits)) None) ≡ Some o
        → (x : Var) × (c ∷ digits ≡ var_text x) × (o ≡ fitting fits_var x)
    by true b p q k =
        let n = named Flow digits o k in
        (Flow n.0, ap (λ (d : ℕ). d ∷ digits) (eqb-true c 113 p) ∙ ap (λ (d : List ℕ). 113 ∷ d) n.1, sym n.2 ∙ made_where Flow (fits_position n.0) n.0)
    by false true p q k =
        let n = named Square digits o k in
        (Square n.0, ap (λ (d : ℕ). d ∷ digits) (eqb-true c 115 q) ∙ ap (λ (d : List ℕ). 115 ∷ d) n.1, sym n.2 ∙ made_where Square (fits_position n.0) n.0)
    by false false p q k = absurd cc

pub var_field_again : (x : Var) (rest : List ℕ) → word_len rest ≡ 0 → var_field (32 ∷ (var_text x ++ rest)) ≡ Ok (fitting fits_var x, rest)
unfolding var_field
var_field_again x rest h = by_again var_at (var_text x) rest (fitting fits_var x) (var_word x) (var_again x) h

pub var_field_takes : (bytes : List ℕ) (o : Option Var) (rest : List ℕ) → var_field bytes ≡ Ok (o, rest) → (x : Var) × (bytes ≡ 32 ∷ (var_text x ++ rest)) × (o ≡ fitting fits_var x)
unfolding var_field
var_field_takes bytes o rest e =
    let t = by_takes var_at bytes o rest e in
    let p = var_takes t.0 o t.1 in
    (p.0, t.2 ∙ ap (λ (w : List ℕ). 32 ∷ (w ++ rest)) p.1, p.2)

-- ---- fields of words

-- what is found by its text has this text
pub found_text : {A : Type 0} (text : A → List ℕ) (w : List ℕ) (xs : List A) (x : A) → find (λ y. bytes_eq w (text y)) xs ≡ Some x → w ≡ text x
found_text text w [] x e = absurd cc
found_text text w (y ∷ xs) x e = by (found_text text w xs x) (bytes_eq w (text y)) refl e
  where
    by : (find (λ y. bytes_eq w (text y)) xs ≡ Some x → w ≡ text x) → (b : Bool) → bytes_eq w (text y) ≡ b → cond b (Some y) (find (λ y. bytes_eq w (text y)) xs) ≡ Some x → w ≡ text x
    by others true h k = let same : y ≡ x = cc in (bytes_eq-Decides w (text y)).0 h ∙ ap text same
    by others false h k = others k

pub rule_again : (rule : Rule) → rule_at (rule_text rule) ≡ Some rule
rule_again rules.Balance = refl
rule_again rules.Pipe = refl
rule_again rules.Equal = refl
rule_again rules.Zero = refl
rule_again rules.Way = refl
rule_again rules.Inner = refl
rule_again rules.Fall = refl
rule_again rules.Order = refl
rule_again rules.Rise = refl
rule_again rules.Ratio = refl
rule_again rules.Sign = refl
rule_again rules.Reach = refl
rule_again rules.Along = refl
rule_again rules.Drop = refl

pub rule_field_again : (rule : Rule) (rest : List ℕ) → word_len rest ≡ 0 → rule_field (32 ∷ (rule_text rule ++ rest)) ≡ Ok (rule, rest)
unfolding rule_field
rule_field_again rule rest h = by_again rule_at (rule_text rule) rest rule (rule_is_word rule) (rule_again rule) h

pub rule_field_takes : (bytes : List ℕ) (rule : Rule) (rest : List ℕ) → rule_field bytes ≡ Ok (rule, rest) → bytes ≡ 32 ∷ (rule_text rule ++ rest)
unfolding rule_field
rule_field_takes bytes rule rest e =
    let t = by_takes rule_at bytes rule rest e in
    t.2 ∙ ap (λ (w : List ℕ). 32 ∷ (w ++ rest)) (found_text rule_text t.0 all_rules rule t.1)

pub state_field_again : (state : ArcState) (rest : List ℕ) → word_len rest ≡ 0 → state_field (32 ∷ (state_word state ++ rest)) ≡ Ok (state, rest)
unfolding state_field
state_field_again state rest h = by_again state_named (state_word state) rest state (state_is_word state) (word_names state) h

pub state_field_takes : (bytes : List ℕ) (state : ArcState) (rest : List ℕ) → state_field bytes ≡ Ok (state, rest) → bytes ≡ 32 ∷ (state_word state ++ rest)
unfolding state_field
state_field_takes bytes state rest e =
    let t = by_takes state_named bytes state rest e in
    t.2 ∙ ap (λ (w : List ℕ). 32 ∷ (w ++ rest)) (named_only t.0 state t.1)

end_again : (low : Bool) → end_at (end_text low) ≡ Some low
end_again true = refl
end_again false = refl

end_takes : (w : List ℕ) (low : Bool) → end_at w ≡ Some low → w ≡ end_text low
end_takes w low e = by (bytes_eq w (codes "lo")) (bytes_eq w (codes "hi")) refl refl e
  where
    by : (a b : Bool) → bytes_eq w (codes "lo") ≡ a → bytes_eq w (codes "hi") ≡ b → cond a (Some true) (cond b (Some false) None) ≡ Some low → w ≡ end_text low
    by true b p q k = let same : true ≡ low = cc in (bytes_eq-Decides w (codes "lo")).0 p ∙ ap end_text same
    by false true p q k = let same : false ≡ low = cc in (bytes_eq-Decides w (codes "hi")).0 q ∙ ap end_text same
    by false false p q k = absurd cc

pub end_field_again : (low : Bool) (rest : List ℕ) → word_len rest ≡ 0 → end_field (32 ∷ (end_text low ++ rest)) ≡ Ok (low, rest)
unfolding end_field
end_field_again low rest h = by_again end_at (end_text low) rest low (end_is_word low) (end_again low) h

pub end_field_takes : (bytes : List ℕ) (low : Bool) (rest : List ℕ) → end_field bytes ≡ Ok (low, rest) → bytes ≡ 32 ∷ (end_text low ++ rest)
unfolding end_field
end_field_takes bytes low rest e =
    let t = by_takes end_at bytes low rest e in
    t.2 ∙ ap (λ (w : List ℕ). 32 ∷ (w ++ rest)) (end_takes t.0 low t.1)

-- a field of text
pub text_field_again : (w rest : List ℕ) → IsWord w → word_len rest ≡ 0 → text_field (32 ∷ (w ++ rest)) ≡ Ok (w, rest)
text_field_again w rest is h = ap found (field_again w rest (visible_field w is.visible is.some is.text) h)

pub text_field_takes : (bytes w rest : List ℕ) → text_field bytes ≡ Ok (w, rest) → bytes ≡ 32 ∷ (w ++ rest)
text_field_takes bytes w rest e = field_takes bytes w rest (found_ok (field_at bytes) (w, rest) e)

pub ended_takes : (bytes : List ℕ) (u : Unit {0}) → ended bytes ≡ Ok u → bytes ≡ []
ended_takes [] u e = refl
ended_takes (c ∷ bytes) u e = by (length (c ∷ bytes) == 0) refl e
  where
    by : (b : Bool) → (length (c ∷ bytes) == 0) ≡ b → cond b (Ok tt) (Err fault.NotLine) ≡ Ok u → c ∷ bytes ≡ []
    by true h k = absurd (let none : length (c ∷ bytes) ≡ 0 = eqb-true _ _ h in omega (arith, none))
    by false h k = absurd cc

-- ---- what isn't read is of no form: fields are never too wide by themselves

abbrev pub NeverWide : {A : Type 0} → Result A LineFault → Type 0
NeverWide (Ok x) = Unit {0}
NeverWide (Err e) = e ≡ fault.NotLine

pub found_never : {A : Type 0} (o : Option A) → NeverWide (found o)
found_never None = refl
found_never (Some x) = tt

pub bound_never : {A B : Type 0} (r : Result A LineFault) (f : A → Result B LineFault) → NeverWide r → ((x : A) → NeverWide (f x)) → NeverWide (r >>= f)
bound_never (Ok x) f h k = k x
bound_never (Err e) f h k = h

by_never : {A : Type 0} (at : List ℕ → Option A) (bytes : List ℕ) → NeverWide (field_by at bytes)
by_never at bytes = bound_never (text_field bytes) _ (found_never (field_at bytes)) (λ word. bound_never (found (at word.0)) _ (found_never (at word.0)) (λ _. tt))

pub text_never : (bytes : List ℕ) → NeverWide (text_field bytes)
text_never bytes = found_never (field_at bytes)

tested_never : (b : Bool) (u : Unit {0}) → NeverWide (cond b (Ok u) (Err fault.NotLine))
tested_never true u = tt
tested_never false u = refl

pub ended_never : (bytes : List ℕ) → NeverWide (ended bytes)
ended_never bytes = tested_never (length bytes == 0) tt

pub position_never : (bytes : List ℕ) → NeverWide (position_field bytes)
unfolding position_field
position_never bytes = by_never position_at bytes

pub number_never : (bytes : List ℕ) → NeverWide (number_field bytes)
unfolding number_field
number_never bytes = by_never long_at bytes

pub var_never : (bytes : List ℕ) → NeverWide (var_field bytes)
unfolding var_field
var_never bytes = by_never var_at bytes

pub rule_never : (bytes : List ℕ) → NeverWide (rule_field bytes)
unfolding rule_field
rule_never bytes = by_never rule_at bytes

pub state_never : (bytes : List ℕ) → NeverWide (state_field bytes)
unfolding state_field
state_never bytes = by_never state_named bytes

pub end_never : (bytes : List ℕ) → NeverWide (end_field bytes)
unfolding end_field
end_never bytes = by_never end_at bytes
