-- What holds of all trees and texts.
use Rattle.std.specs.Prelude.{◌≡◌, ◌↔◌, ℕ, List, map, None, Ok}
use Rattle.tree_cert.specs.declared.line.Line.{Line}
use Rattle.tree_cert.specs.Tree.{Tree, IsClosed, tree_lines}
use Rattle.tree_cert.specs.TreeRules.{TreeRules, Passes, IsTextOf}
use Rattle.tree_cert.specs.Place.{Start, Ended}
use Rattle.tree_cert.specs.Spelling.{AreLines}
use Rattle.tree_cert.specs.Texts.{Finding, IsFinding, first_open, lines_in, walk}

-- lines are walked to the end exactly where they are the text of a tree that passes
abbrev pub WalksAreTexts : TreeRules → Type 0
WalksAreTexts g = (ls : List Line) → walk g Start (map Ok ls) ≡ Ok Ended ↔ ((t : Tree) × IsTextOf g ls t)

-- at each box, a text is that of one tree alone that passes there, with boxes left open or without
abbrev pub BoxesHaveOneTree : TreeRules → Type 0
BoxesHaveOneTree g = (b : g.Box) (first : Line) (t u : Tree) → Passes g t b → Passes g u b → tree_lines first t ≡ tree_lines first u → t ≡ u

-- so is it at the opening box
abbrev pub TextsHaveOneTree : TreeRules → Type 0
TextsHaveOneTree g = (ls : List Line) (t u : Tree) → IsTextOf g ls t → IsTextOf g ls u → t ≡ u

-- all bytes refute, or refute in part, or have a first fault
abbrev pub FindingsExist : TreeRules → Type 0
FindingsExist g = (bytes : List ℕ) → (f : Finding) × IsFinding g bytes f

-- and only one of these, with one line and one fault
abbrev pub FindingsAreUnique : TreeRules → Type 0
FindingsAreUnique g = (bytes : List ℕ) (f h : Finding) → IsFinding g bytes f → IsFinding g bytes h → f ≡ h

-- a tree is closed exactly where no line of its text leaves a box open
abbrev pub ClosedTreesHaveNoOpenLine : Type 0
ClosedTreesHaveNoOpenLine = (first : Line) (t : Tree) → IsClosed t ↔ (first_open (tree_lines first t) ≡ None)

-- bytes are read as lines exactly where they are these lines, each in its spelling
abbrev pub LinesAreRead : Type 0
LinesAreRead = (bytes : List ℕ) (ls : List Line) → AreLines bytes ls ↔ (lines_in bytes ≡ map Ok ls)
