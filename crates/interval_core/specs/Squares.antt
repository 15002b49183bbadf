-- The products r * q * |q| of the fractions q of an interval and the factors r of a range.
use Rattle.std.specs.Prelude.{◌^◌, ◌≡◌, ℤ, pos, ◌*ℤ◌, ◌≤ℤ◌, ◌<ℤ◌}
use Rattle.integer_laws.specs.Products.{signed_square}
use Rattle.interval_core.specs.Enclosures.{Pair, IsSmall, Has, IsInside, IsDenominator, IsPair}

-- the ends lo / den and hi / den of a range of factors
pub record IsFactorRange (lo hi den : ℤ) : Type 0 where
  pub positive : pos 1 ≤ℤ lo
  pub order : lo ≤ℤ hi
  pub high : hi ≤ℤ pos (2 ^ 38)
  pub den_positive : pos 1 ≤ℤ den
  pub den_high : den ≤ℤ pos (2 ^ 38)

-- hi times the square of each end is small
pub record HaveSmallSquares (hi : ℤ) (a : Pair) : Type 0 where
  pub low : IsSmall (hi *ℤ (a.0 *ℤ a.0))
  pub high : IsSmall (hi *ℤ (a.1 *ℤ a.1))

-- t has r * q * |q| wherever a has q = n / d, and r = m / d lies from lo / den to hi / den
abbrev pub EnclosesSignedSquares : ℤ → ℤ → ℤ → ℤ → Pair → Pair → Type 0
EnclosesSignedSquares K lo hi den a t = (n m d : ℤ) → IsDenominator d → Has K a n d → Has den (lo, hi) m d → Has K t (m *ℤ signed_square n) ((d *ℤ d) *ℤ d)

-- these products, and no more
pub record IsSignedSquare (K lo hi den : ℤ) (a r : Pair) : Type 0 where
  pub encloses : EnclosesSignedSquares K lo hi den a r
  pub least : (t : Pair) → EnclosesSignedSquares K lo hi den a t → IsInside r t
  pub pair : IsPair r

-- m is the least, or the greatest, of r * x * |x| over the factors r from lo to hi
pub record IsLowest (lo hi x m : ℤ) : Type 0 where
  pub forward : pos 0 ≤ℤ x → m ≡ lo *ℤ signed_square x
  pub backward : x <ℤ pos 0 → m ≡ hi *ℤ signed_square x

pub record IsHighest (lo hi x m : ℤ) : Type 0 where
  pub forward : pos 0 ≤ℤ x → m ≡ hi *ℤ signed_square x
  pub backward : x <ℤ pos 0 → m ≡ lo *ℤ signed_square x
