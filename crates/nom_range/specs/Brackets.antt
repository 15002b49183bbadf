-- What is known while a range is narrowed, and how often it still can be.
use Rattle.std.specs.Prelude.{ℕ, zero, suc, ◌+◌, ◌/◌, ◌<◌, nat_le, if◌then◌else◌, ℤ, ◌-ℤ◌, ◌≤ℤ◌, unsigned_abs}
use Rattle.gas_model.specs.Rows.{Network}
use Rattle.nom_range.specs.declared.bracket.Bracket.{Bracket}
use Rattle.nom_range.specs.declared.bracket.Turn.{Turn}
use Rattle.nom_range.specs.declared.bracket.Turn.TheVariants.{Narrower, Over}
use Rattle.nom_range.specs.Ranges.{CarriesDraw, IsRange, IsRefused}

-- a draw from `low` on is carried, and draws above it up to `high` are refused
pub record IsBracket (p : Network) (n : ℕ) (low high : ℤ) (tol : ℕ) (known : Bracket) : Type 0 where
  pub from : low ≤ℤ known.carried
  pub carries : CarriesDraw p n tol known.carried known.setting
  pub refused : IsRefused p n known.carried high known.refused

-- from what is carried to what is refused first
abbrev pub width : Bracket → ℕ
width known = unsigned_abs (known.refused.first -ℤ known.carried)

-- how often a width can be halved, rounded up, until it is 1; at most so often
unfoldable pub halvings : (most width : ℕ) → ℕ
halvings zero width = 0
halvings (suc most) width = if nat_le width 1 then 0 else suc (halvings most ((width + 1) / 2))

-- A width of at most 10^12 can be halved 40 times: with the searches of the least and the greatest draw there are at most
-- 42.
abbrev pub turns_left : Bracket → ℕ
turns_left known = halvings 40 (width known)

-- the bracket is one of the same draws, and leaves fewer turns
pub record Narrows (p : Network) (n : ℕ) (low high : ℤ) (tol : ℕ) (known next : Bracket) : Type 0 where
  pub bracket : IsBracket p n low high tol next
  pub fewer : turns_left next < turns_left known

-- what a search in the middle comes to
abbrev pub IsTurn : Network → (n : ℕ) → (low high : ℤ) → (tol boxes : ℕ) → Bracket → Turn → Type 0
IsTurn p n low high tol boxes known (Narrower next) = Narrows p n low high tol known next
IsTurn p n low high tol boxes known (Over found) = IsRange p n low high tol boxes found
