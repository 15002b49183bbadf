-- What is decided of a problem.
use Rattle.std.specs.Prelude.{ℕ, pos}
use Rattle.gas_model.specs.Rows.{Network}
use Rattle.gas_model.specs.Near.{IsNear, SettingFits}
use Rattle.tree_cert.specs.Texts.{PassesWholeText}
use Rattle.tree_rules.specs.Branches.{rules_of}
use Rattle.nom_search.specs.Halted.{IsAnswerOf}
use Rattle.nom_search.specs.declared.searching.Found.{Found}
use Rattle.nom_search.specs.declared.searching.Found.TheVariants.{Carried, Refuted, Left}

-- a setting that fits the problem and carries it within the tolerance; or the text of a tree that passes with no box left
-- open; or what a search of the boxes of the problem leaves, with just this many to split
abbrev pub IsDecided : Network → (tol boxes : ℕ) → Found → Type 0
IsDecided p tol boxes (Carried s) = IsNear p (pos tol) s × SettingFits p s
IsDecided p tol boxes (Refuted text) = PassesWholeText (rules_of p) text
IsDecided p tol boxes (Left why text line) = IsAnswerOf p (pos tol) boxes (Left why text line)
