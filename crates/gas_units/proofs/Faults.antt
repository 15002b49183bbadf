-- The first place at which no text of the form goes on.
use Rattle.std.proofs.Common.{◌≡◌, ℕ, suc, ◌+◌, ◌<◌, ◌≤◌, ◌++◌, List, [], ◌∷◌, length, take, true, false, if◌then◌else◌, Option, Some, None, refl, sym, ap, subst, ◌∙◌, arith, add-one}
use Rattle.gas_units.specs.declared.decimal.Mode.{Mode}
use Rattle.gas_units.specs.declared.decimal.Mode.TheVariants.{Front, Signed, Whole, Point, Part, Exponent, ExponentSign, Power, Tail}
use Rattle.gas_units.specs.Decimals.{next, is_whole, onward, form_fault, IsForm, FaultsAreFirst}

-- what makes a text of the form, from any state
abbrev finish : Mode → List ℕ
finish Front = 48 ∷ []
finish Signed = 48 ∷ []
finish Whole = []
finish Point = 48 ∷ []
finish Part = []
finish Exponent = 48 ∷ []
finish ExponentSign = 48 ∷ []
finish Power = []
finish Tail = []

finished : (m : Mode) (at : ℕ) → form_fault m at (finish m) ≡ None
finished Front at = refl
finished Signed at = refl
finished Whole at = refl
finished Point at = refl
finished Part at = refl
finished Exponent at = refl
finished ExponentSign at = refl
finished Power at = refl
finished Tail at = refl

-- a fault n, as k bytes after the place at
record First (m : Mode) (at : ℕ) (bytes : List ℕ) (n : ℕ) : Type 0 where
  pub count : ℕ
  pub place : n ≡ at + count
  pub within : count ≤ length bytes
  pub rest : List ℕ
  pub before : form_fault m at (take count bytes ++ rest) ≡ None
  pub none : count < length bytes → (more : List ℕ) → form_fault m at (take (suc count) bytes ++ more) ≡ Some n

same : {a b : ℕ} → Some a ≡ Some b → a ≡ b
same e = cc

step : (m k : Mode) (at b : ℕ) (bytes : List ℕ) → next m b ≡ Some k → form_fault m at (b ∷ bytes) ≡ form_fault k (at + 1) bytes
step m k at b bytes e = ap (onward (λ j. form_fault j (at + 1) bytes) at) e

stop : (m : Mode) (at b : ℕ) (bytes : List ℕ) → next m b ≡ None → form_fault m at (b ∷ bytes) ≡ Some at
stop m at b bytes e = ap (onward (λ j. form_fault j (at + 1) bytes) at) e

at_end : (m : Mode) (at n : ℕ) → form_fault m at [] ≡ Some n → n ≡ at
at_end m at n = elim (is_whole m) as (λ v. (if v then None else Some at) ≡ Some n → n ≡ at) [ true ↦ λ e. absurd cc | false ↦ λ e. sym (same e) ]

on_one : (m k : Mode) (at b n : ℕ) (bytes : List ℕ) → next m b ≡ Some k → First k (at + 1) bytes n → First m at (b ∷ bytes) n
on_one m k at b n bytes e f = record {
  count = suc f.count;
  place = omega (arith, f.place);
  within = omega (arith, f.within);
  rest = f.rest;
  before = step m k at b (take f.count bytes ++ f.rest) e ∙ f.before;
  none = λ lt more. step m k at b (take (suc f.count) bytes ++ more) e ∙ f.none (omega (arith, lt)) more;
}

here : (m : Mode) (at b n : ℕ) (bytes : List ℕ) → next m b ≡ None → form_fault m at (b ∷ bytes) ≡ Some n → First m at (b ∷ bytes) n
here m at b n bytes e f = record {
  count = 0;
  place = let s : n ≡ at = same (sym f ∙ stop m at b bytes e) in omega (arith, s);
  within = omega arith;
  rest = finish m;
  before = finished m at;
  none = λ lt more. let s : n ≡ at = same (sym f ∙ stop m at b bytes e) in stop m at b more e ∙ ap Some (sym s);
}

first : (m : Mode) (at n : ℕ) (bytes : List ℕ) → form_fault m at bytes ≡ Some n → First m at bytes n
first m at n [] e = record {
  count = 0;
  place = let s = at_end m at n e in omega (arith, s);
  within = omega arith;
  rest = finish m;
  before = finished m at;
  none = λ lt. absurd (omega (arith, lt));
}
first m at n (b ∷ bytes) e = by (next m b) refl (λ k s. first k (at + 1) n bytes s)
  where
    by : (o : Option Mode) → next m b ≡ o → ((k : Mode) → form_fault k (at + 1) bytes ≡ Some n → First k (at + 1) bytes n) → First m at (b ∷ bytes) n
    by None s rec = here m at b n bytes s e
    by (Some k) s rec = on_one m k at b n bytes s (rec k (sym (step m k at b bytes s) ∙ e))

pub faults_are_first : FaultsAreFirst
faults_are_first bytes at e =
    let f = first Front 0 at bytes e in
    let same_place : f.count ≡ at = omega (arith, f.place) in (
      omega (arith, f.within, f.place),
      (f.rest, subst (λ (k : ℕ). IsForm (take k bytes ++ f.rest)) same_place f.before),
      λ lt more form.
          let n : form_fault Front 0 (take (suc at) bytes ++ more) ≡ Some at = subst (λ (k : ℕ). k < length bytes → (xs : List ℕ) → form_fault Front 0 (take (suc k) bytes ++ xs) ≡ Some at) same_place f.none lt more in
          let m : form_fault Front 0 (take (suc at) bytes ++ more) ≡ None = subst (λ (k : ℕ). IsForm (take k bytes ++ more)) (add-one at) form in
          absurd (clash (sym m ∙ n)),
    )
  where
    clash : None ≡ Some at → ⊥
    clash c = cc
