-- The steps of a tree that are left out, from the last to the first.
use Rattle.std.specs.Prelude.{◌≡◌, ◌⊎◌, ℕ, List, [], ◌∷◌, ◌++◌}
use Rattle.tree_cert.specs.declared.line.Line.{Line}
use Rattle.tree_cert.specs.declared.line.Line.TheVariants as lines
use Rattle.tree_cert.specs.declared.line.Step.{Step}
use Rattle.tree_cert.specs.TreeRules.{TreeRules, PassesWhole}
use Rattle.tree_cert.specs.Spelling.{AreLines}

-- A line stands behind those in front of it, and before the rest. A step is left out where the text that is left without
-- it passes, and stays where that doesn't pass; any other line stays.
abbrev pub IsKept : TreeRules → (front : List Line) → Line → (rest kept : List Line) → Type 0
IsKept g front (lines.Step s) rest kept =
    (PassesWhole g (front ++ rest) × (kept ≡ rest))
    ⊎ ((PassesWhole g (front ++ rest) → ⊥) × (kept ≡ lines.Step s ∷ rest))
IsKept g front l rest kept = kept ≡ l ∷ rest

-- The lines that are kept of these, which stand behind those in front and are gone through from the last to the first.
abbrev pub IsTrimmed : TreeRules → (front lines kept : List Line) → Type 0
IsTrimmed g front [] kept = kept ≡ []
IsTrimmed g front (l ∷ ls) kept = (rest : List Line) × IsTrimmed g (front ++ l ∷ []) ls rest × IsKept g front l rest kept

-- the text of the lines that are kept of a text
pub record IsTrimOf (g : TreeRules) (text trimmed : List ℕ) : Type 0 where
  pub lines : List Line
  pub are_lines : AreLines text lines
  pub kept : List Line
  pub are_kept : AreLines trimmed kept
  pub is_trimmed : IsTrimmed g [] lines kept

-- these lines are some of those, in their order
abbrev pub AreSomeOf : (kept all : List Line) → Type 0
AreSomeOf kept [] = kept ≡ []
AreSomeOf kept (l ∷ ls) = AreSomeOf kept ls ⊎ ((rest : List Line) × (kept ≡ l ∷ rest) × AreSomeOf rest ls)

-- the lines of one text are some of those of another, in their order
pub record HasSomeLinesOf (text part : List ℕ) : Type 0 where
  pub lines : List Line
  pub are_lines : AreLines text lines
  pub kept : List Line
  pub are_kept : AreLines part kept
  pub are_some : AreSomeOf kept lines

-- without any one of its steps the text doesn't pass
abbrev pub NeedsEachStep : TreeRules → List ℕ → Type 0
NeedsEachStep g text =
    (before after : List Line) (s : Step) → AreLines text (before ++ lines.Step s ∷ after) → PassesWhole g (before ++ after) → ⊥
