-- Members of lists: distinct ones are no more than the list has.
use Rattle.std.proofs.Common.{◌≡◌, ◌≢◌, ℕ, suc, ◌≤◌, List, [], ◌∷◌, ◌++◌, length, sym, refl, ap, subst, ◌∙◌, ◌⊎◌, inl, inr, arith}

abbrev pub Member : {A : Type 0} → A → List A → Type 0
Member x [] = ⊥
Member x (y ∷ ys) = (x ≡ y) ⊎ Member x ys

abbrev pub Apart : {A : Type 0} → List A → Type 0
Apart [] = Unit {0}
Apart (x ∷ xs) = (Member x xs → ⊥) × Apart xs

-- the list without one of its members
without : {A : Type 0} (x : A) (ys : List A) → Member x ys → (zs : List A) × (length ys ≡ suc (length zs)) × ((z : A) → z ≢ x → Member z ys → Member z zs)
without x [] h = absurd h
without x (y ∷ ys) h =
    elim h [
      | inl e ↦ (ys, refl, λ z ne m. elim m [ inl a ↦ absurd (ne (a ∙ sym e)) | inr b ↦ b ])
      | inr i ↦
          let w = without x ys i in
          (y ∷ w.0, ap suc w.1, λ z ne m. elim m [ inl a ↦ inl a | inr b ↦ inr (w.2 z ne b) ])
    ]

-- distinct members of a list are no more than it has
pub pigeon : {A : Type 0} (xs ys : List A) → Apart xs → ((x : A) → Member x xs → Member x ys) → length xs ≤ length ys
pigeon [] ys apart all = omega arith
pigeon (x ∷ xs) ys apart all =
    let w = without x ys (all x (inl refl)) in
    let rest = pigeon xs w.0 apart.1 (λ z m. w.2 z (λ e. apart.0 (subst (λ (k : _). Member k xs) e m)) (all z (inr m))) in
    let e = w.1 in
    omega arith

pub member_left : {A : Type 0} (x : A) (xs ys : List A) → Member x xs → Member x (xs ++ ys)
member_left x [] ys h = absurd h
member_left x (y ∷ xs) ys h = elim h [ inl e ↦ inl e | inr m ↦ inr (member_left x xs ys m) ]

pub member_right : {A : Type 0} (x : A) (xs ys : List A) → Member x ys → Member x (xs ++ ys)
member_right x [] ys h = h
member_right x (y ∷ xs) ys h = inr (member_right x xs ys h)
