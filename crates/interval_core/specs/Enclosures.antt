-- Intervals of fractions, by their two ends in units of 1/K.
use Rattle.std.specs.Prelude.{◌<◌, ◌^◌, ◌≡◌, ◌⊎◌, ℤ, pos, ◌+ℤ◌, ◌-ℤ◌, ◌*ℤ◌, ◌≤ℤ◌, ◌↔◌, neg_ℤ, unsigned_abs}

-- lower and upper end
abbrev pub Pair : Type 0
Pair = ℤ × ℤ

-- a number that the grid takes
abbrev pub IsSmall : ℤ → Type 0
IsSmall z = unsigned_abs z < 2 ^ 126

pub record IsPair (p : Pair) : Type 0 where
  pub order : p.0 ≤ℤ p.1
  pub low : IsSmall p.0
  pub high : IsSmall p.1

-- the fraction n / d lies in the interval
pub record Has (K : ℤ) (p : Pair) (n d : ℤ) : Type 0 where
  pub above : (p.0 *ℤ d) ≤ℤ (K *ℤ n)
  pub below : (K *ℤ n) ≤ℤ (p.1 *ℤ d)

-- r is inside t
pub record IsInside (r t : Pair) : Type 0 where
  pub low : t.0 ≤ℤ r.0
  pub high : r.1 ≤ℤ t.1

abbrev pub IsDenominator : ℤ → Type 0
IsDenominator d = pos 1 ≤ℤ d

-- t has n + m over d wherever a has n over d and b has m over d
abbrev pub EnclosesSums : ℤ → Pair → Pair → Pair → Type 0
EnclosesSums K a b t = (n m d : ℤ) → IsDenominator d → Has K a n d → Has K b m d → Has K t (n +ℤ m) d

-- the sums, and no more
pub record IsSum (K : ℤ) (a b r : Pair) : Type 0 where
  pub encloses : EnclosesSums K a b r
  pub least : (t : Pair) → EnclosesSums K a b t → IsInside r t
  pub pair : IsPair r

-- t has n - m over d wherever a has n over d and b has m over d
abbrev pub EnclosesDifferences : ℤ → Pair → Pair → Pair → Type 0
EnclosesDifferences K a b t = (n m d : ℤ) → IsDenominator d → Has K a n d → Has K b m d → Has K t (n -ℤ m) d

pub record IsDifference (K : ℤ) (a b r : Pair) : Type 0 where
  pub encloses : EnclosesDifferences K a b r
  pub least : (t : Pair) → EnclosesDifferences K a b t → IsInside r t
  pub pair : IsPair r

abbrev pub EnclosesNegatives : ℤ → Pair → Pair → Type 0
EnclosesNegatives K a t = (n d : ℤ) → IsDenominator d → Has K a n d → Has K t (neg_ℤ n) d

pub record IsNegative (K : ℤ) (a r : Pair) : Type 0 where
  pub encloses : EnclosesNegatives K a r
  pub least : (t : Pair) → EnclosesNegatives K a t → IsInside r t
  pub pair : IsPair r

-- the products over the common denominator d
abbrev pub EnclosesProducts : ℤ → Pair → Pair → Pair → Type 0
EnclosesProducts K a b t = (n m d : ℤ) → IsDenominator d → Has K a n d → Has K b m d → Has K t (n *ℤ m) (d *ℤ d)

pub record IsProduct (K : ℤ) (a b r : Pair) : Type 0 where
  pub encloses : EnclosesProducts K a b r
  pub least : (t : Pair) → EnclosesProducts K a b t → IsInside r t
  pub pair : IsPair r

-- some fraction lies in both
pub record HaveCommon (K : ℤ) (a b : Pair) : Type 0 where
  pub num : ℤ
  pub den : ℤ
  pub positive : IsDenominator den
  pub first : Has K a num den
  pub second : Has K b num den

-- the fractions that lie in both
pub record IsMeet (K : ℤ) (a b r : Pair) : Type 0 where
  pub common : (n d : ℤ) → IsDenominator d → Has K r n d ↔ (Has K a n d × Has K b n d)
  pub pair : IsPair r

-- m is the least, or the greatest, of the four
pub record IsLeastOf (m w x y z : ℤ) : Type 0 where
  pub first : m ≤ℤ w
  pub second : m ≤ℤ x
  pub third : m ≤ℤ y
  pub fourth : m ≤ℤ z
  pub reached : (m ≡ w) ⊎ ((m ≡ x) ⊎ ((m ≡ y) ⊎ (m ≡ z)))

pub record IsGreatestOf (m w x y z : ℤ) : Type 0 where
  pub first : w ≤ℤ m
  pub second : x ≤ℤ m
  pub third : y ≤ℤ m
  pub fourth : z ≤ℤ m
  pub reached : (m ≡ w) ⊎ ((m ≡ x) ⊎ ((m ≡ y) ⊎ (m ≡ z)))

-- each product of an end of the one and an end of the other is small
pub record HaveSmallProducts (a b : Pair) : Type 0 where
  pub low_low : IsSmall (a.0 *ℤ b.0)
  pub low_high : IsSmall (a.0 *ℤ b.1)
  pub high_low : IsSmall (a.1 *ℤ b.0)
  pub high_high : IsSmall (a.1 *ℤ b.1)
