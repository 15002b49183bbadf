-- What is found, by how the boxes of a pool ended.
use Rattle.std.specs.Prelude.{◌≡◌, ℕ, ◌<◌, List, [], length, Some, None}
use Rattle.tree_cert.specs.Tree.{Tree, tree_lines}
use Rattle.tree_cert.specs.Spelling.{AreLines}
use Rattle.tree_pool.specs.Rows.{Row}
use Rattle.tree_pool.specs.Shown.{works, Shows}
use Rattle.tree_pool.specs.Lines.{IsLineOf}
use Rattle.box_pool.specs.Grid.{pool_line}
use Rattle.nom_search.specs.declared.searching.Why.{Why}
use Rattle.nom_search.specs.declared.searching.Why.TheVariants.{Budget, Grid}
use Rattle.nom_search.specs.declared.searching.Found.{Found}
use Rattle.nom_search.specs.declared.searching.Found.TheVariants as found
use Rattle.nom_search.specs.declared.searching.Outcome.{Outcome}
use Rattle.nom_search.specs.declared.searching.Outcome.TheVariants as outcome

-- the bytes are the text of each tree that the boxes show
abbrev pub IsTextOfAll : List Row → List ℕ → Type 0
IsTextOfAll rows text = (t : Tree) → Shows (works rows) [] t → AreLines text (tree_lines pool_line t)

-- a text, and the line of box n in it
abbrev pub IsHalt : List Row → Why → ℕ → Found → Type 0
IsHalt rows why n (found.Left w text line) = (w ≡ why) × IsTextOfAll rows text × ((t : Tree) → Shows (works rows) [] t → IsLineOf rows n line t)
IsHalt rows why n (found.Carried s) = ⊥
IsHalt rows why n (found.Refuted text) = ⊥

-- the box that an end names is one of the pool
abbrev pub NamesBox : List Row → Outcome → Type 0
NamesBox rows (outcome.Dry (Some n)) = n < length rows
NamesBox rows (outcome.Dry None) = Unit {0}
NamesBox rows (outcome.Full n) = n < length rows
NamesBox rows (outcome.Carried s) = Unit {0}

-- what is found
abbrev pub IsFound : List Row → Outcome → Found → Type 0
IsFound rows (outcome.Dry (Some n)) f = IsHalt rows Grid n f
IsFound rows (outcome.Dry None) f = (text : List ℕ) × (f ≡ found.Refuted text) × IsTextOfAll rows text
IsFound rows (outcome.Full n) f = IsHalt rows Budget n f
IsFound rows (outcome.Carried s) f = f ≡ found.Carried s
