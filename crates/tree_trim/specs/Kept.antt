-- Lines of which some are left out.
use Rattle.std.specs.Prelude.{◌≡◌, ℕ, Bool, true, false, if◌then◌else◌, List, [], ◌∷◌, length, slice_get, slice_set, Some}
use Rattle.tree_cert.specs.declared.line.Line.{Line}
use Rattle.tree_cert.specs.declared.line.Line.TheVariants as lines
use Rattle.tree_cert.specs.declared.line.Step.{Step}
use Rattle.tree_cert.specs.TreeRules.{TreeRules, PassesWhole}
use Rattle.trim_rules.specs.Trimming.{IsTrimmed}

-- the lines that have no mark
abbrev pub kept_of : List Line → (left_out : List Bool) → List Line
kept_of [] marks = []
kept_of (l ∷ ls) [] = []
kept_of (l ∷ ls) (out ∷ marks) = if out then kept_of ls marks else l ∷ kept_of ls marks

abbrev pub is_step : Line → Bool
is_step (lines.Step s) = true
is_step l = false

-- Line i has got this mark: it is left out, if it is a step and the other lines pass without it.
pub record IsMark (g : TreeRules) (ls : List Line) (i : ℕ) (before : List Bool) (out : Bool) : Type 0 where
  pub goes : out ≡ true → (s : Step) × (slice_get ls i ≡ Some (lines.Step s)) × PassesWhole g (kept_of ls (slice_set before i true))
  pub stays : out ≡ false → (s : Step) → slice_get ls i ≡ Some (lines.Step s) → PassesWhole g (kept_of ls (slice_set before i true)) → ⊥

abbrev pub LeavesOut : TreeRules → List Line → ℕ → (before after : List Bool) → Type 0
LeavesOut g ls i before after = (out : Bool) × (after ≡ slice_set before i out) × IsMark g ls i before out

-- the lines without a mark are those that are kept
pub record Decides (g : TreeRules) (ls : List Line) (marks : List Bool) : Type 0 where
  pub count : length marks ≡ length ls
  pub trimmed : IsTrimmed g [] ls (kept_of ls marks)
