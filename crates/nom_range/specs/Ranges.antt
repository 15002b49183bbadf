-- What is found of the range of a node: a draw that is carried, those that are refused, and how it ends.
use Rattle.std.specs.Prelude.{◌≡◌, ℕ, ℤ, pos, ◌+ℤ◌, ◌≤ℤ◌, ◌<ℤ◌, List, Option, None, Some, IfSome}
use Rattle.std.specs.Int.{int_div_euclid}
use Rattle.gas_model.specs.declared.rows.Setting.{Setting}
use Rattle.gas_model.specs.Rows.{Network}
use Rattle.gas_model.specs.Near.{IsNear, SettingFits}
use Rattle.gas_model.specs.Points.{IsInfeasible}
use Rattle.tree_cert.specs.Texts.{PassesWholeText}
use Rattle.tree_rules.specs.Branches.{rules_of}
use Rattle.nom_search.specs.declared.searching.Why.{Why}
use Rattle.nom_search.specs.declared.searching.Found.TheVariants as search
use Rattle.nom_search.specs.Halted.{IsAnswerOf}
use Rattle.nom_range.specs.declared.found.Refused.{Refused}
use Rattle.nom_range.specs.declared.found.RangeEnd.{RangeEnd}
use Rattle.nom_range.specs.declared.found.RangeEnd.TheVariants.{Whole, Narrow, Left, Overlap}
use Rattle.nom_range.specs.declared.found.RangeFault.{RangeFault}
use Rattle.nom_range.specs.declared.found.RangeFault.TheVariants as fault
use Rattle.nom_range.specs.declared.found.RangeFound.{RangeFound}
use Rattle.nom_range.specs.Draws.{draw, drawn}

-- the setting carries the problem in which the node n draws just this, within the tolerance
pub record CarriesDraw (p : Network) (n tol : ℕ) (carried : ℤ) (s : Setting) : Type 0 where
  pub near : IsNear (drawn p n carried carried) (pos tol) s
  pub fits : SettingFits (drawn p n carried carried) s

-- the text is that of a tree which passes for the problem in which the node n draws from x to y, and leaves no box open; so
-- no draw of that interval, whole or not, is met by any point
pub record RefutesDraws (p : Network) (n : ℕ) (x y : ℤ) (text : List ℕ) : Type 0 where
  pub passes : PassesWholeText (rules_of (drawn p n x y)) text
  pub infeasible : IsInfeasible (drawn p n x y)

-- the search of the problem in which the node n draws from x to y, with this tolerance and this many boxes to split, halted
-- for this reason with this text, and names the open box that ends at this line
abbrev pub HaltsOnDraws : Network → (n tol boxes : ℕ) → (x y : ℤ) → Why → (text : List ℕ) → (line : ℕ) → Type 0
HaltsOnDraws p n tol boxes x y why text line = IsAnswerOf (drawn p n x y) (pos tol) boxes (search.Left why text line)

-- draws are refused from above what is carried on, up to the greatest that was asked of
pub record IsRefused (p : Network) (n : ℕ) (carried high : ℤ) (refused : Refused) : Type 0 where
  pub above : carried <ℤ refused.first
  pub within : refused.first ≤ℤ high
  pub refutes : RefutesDraws p n refused.first high refused.tree

-- a whole draw lies between what is carried and what is refused first, and this is half of both, rounded down
pub record IsMiddle (carried first mid : ℤ) : Type 0 where
  pub apart : (carried +ℤ pos 2) ≤ℤ first
  pub half : mid ≡ int_div_euclid (carried +ℤ first) (pos 2)

-- the search from `mid` on comes next: where nothing is refused yet, that of the greatest draw alone
abbrev pub IsNext : (low high carried : ℤ) → Option Refused → (mid : ℤ) → Type 0
IsNext low high carried None mid = (carried ≡ low) × (low <ℤ high) × (mid ≡ high)
IsNext low high carried (Some refused) mid = IsMiddle carried refused.first mid

-- the first draw that is refused is the next whole one
abbrev pub IsNarrow : (carried : ℤ) → Option Refused → Type 0
IsNarrow carried None = ⊥
IsNarrow carried (Some refused) = refused.first ≡ carried +ℤ pos 1

-- the search from `mid` on found a setting that draws what is refused
pub record Overlaps (p : Network) (n tol : ℕ) (high carried mid : ℤ) (refused : Refused) (s : Setting) : Type 0 where
  pub middle : IsMiddle carried refused.first mid
  pub near : IsNear (drawn p n mid high) (pos tol) s
  pub draws : refused.first ≤ℤ draw p n s

abbrev pub IsOverlap : Network → (n tol : ℕ) → (high carried : ℤ) → Option Refused → (mid : ℤ) → Setting → Type 0
IsOverlap p n tol high carried None mid s = ⊥
IsOverlap p n tol high carried (Some refused) mid s = Overlaps p n tol high carried mid refused s

-- how a range ends
abbrev pub IsEnd : Network → (n : ℕ) → (low high : ℤ) → (tol boxes : ℕ) → (carried : ℤ) → Option Refused → RangeEnd → Type 0
IsEnd p n low high tol boxes carried refused Whole = (carried ≡ high) × (refused ≡ None)
IsEnd p n low high tol boxes carried refused Narrow = IsNarrow carried refused
IsEnd p n low high tol boxes carried refused (Left mid why text line) = IsNext low high carried refused mid × HaltsOnDraws p n tol boxes mid high why text line
IsEnd p n low high tol boxes carried refused (Overlap mid s) = IsOverlap p n tol high carried refused mid s

-- what is found of the draws of the node n from `low` to `high`
pub record IsRange (p : Network) (n : ℕ) (low high : ℤ) (tol boxes : ℕ) (found : RangeFound) : Type 0 where
  pub from : low ≤ℤ found.carried
  pub to : found.carried ≤ℤ high
  pub carries : CarriesDraw p n tol found.carried found.setting
  pub refused : IfSome found.refused (IsRefused p n found.carried high)
  pub ends : IsEnd p n low high tol boxes found.carried found.refused found.end

-- why nothing is found: the least draw is refused, or its search halted
abbrev pub IsRangeFault : Network → (n : ℕ) → (low : ℤ) → (tol boxes : ℕ) → RangeFault → Type 0
IsRangeFault p n low tol boxes (fault.Refuted text) = RefutesDraws p n low low text
IsRangeFault p n low tol boxes (fault.Left why text line) = HaltsOnDraws p n tol boxes low low why text line
IsRangeFault p n low tol boxes fault.NoMemory = Unit {0}
