-- Where the next line of a text stands, and what a line leads to there.
use Rattle.std.specs.Prelude.{cond, List, [], ◌∷◌, Option, Some, None, Result, Ok, Err}
use Rattle.tree_cert.specs.declared.fault.FaultKind.{FaultKind}
use Rattle.tree_cert.specs.declared.fault.FaultKind.TheVariants.{NotTree, BadStep, WrongBranch, WrongEnd}
use Rattle.tree_cert.specs.declared.line.Line.{Line}
use Rattle.tree_cert.specs.declared.line.Line.TheVariants as lines
use Rattle.tree_cert.specs.Tree.{Branch, ByGroup, ByArc, ByHalves}
use Rattle.tree_cert.specs.TreeRules.{TreeRules}

pub data Place (g : TreeRules) : Type 0 where
  -- before the first line
  Start : Place g
  -- within a box, below branches that wait for more children, the nearest first
  Inside : g.Box → List g.Wait → Place g
  -- where the head of the next child is expected
  Expecting : g.Wait → List g.Wait → Place g
  -- the tree is whole
  Whole : Place g
  -- after `end`
  Ended : Place g

-- where the next line stands after a box has ended
abbrev pub after : (g : TreeRules) → List g.Wait → Place g
after g [] = Whole
after g (w ∷ ws) = cond (g.over w) (after g ws) (Expecting w ws)

-- what is led to where the rules allow it
abbrev pub allowed : {A B : Type 0} → Option A → FaultKind → (A → B) → Result B FaultKind
allowed None fault f = Err fault
allowed (Some x) fault f = Ok (f x)

-- the text begins with a first line, which gives the opening box
abbrev pub read_first : (g : TreeRules) → Line → Result (Place g) FaultKind
read_first g l = allowed (g.opening l) NotTree (λ b. Inside b [])

abbrev pub read_branch : (g : TreeRules) → g.Box → List g.Wait → Branch → Result (Place g) FaultKind
read_branch g b ws f = allowed (g.branch b f) WrongBranch (λ w. after g (w ∷ ws))

abbrev pub read_inside : (g : TreeRules) → g.Box → List g.Wait → Line → Result (Place g) FaultKind
read_inside g b ws lines.First = Err NotTree
read_inside g b ws lines.FirstSixteenths = Err NotTree
read_inside g b ws (lines.Step s) = allowed (g.step b s) BadStep (λ next. Inside next ws)
read_inside g b ws (lines.Close c) = cond (g.shuts b c) (Ok (after g ws)) (Err BadStep)
read_inside g b ws lines.LeftOpen = Ok (after g ws)
read_inside g b ws (lines.Group k) = read_branch g b ws (ByGroup k)
read_inside g b ws (lines.Arc a) = read_branch g b ws (ByArc a)
read_inside g b ws (lines.Halve x) = read_branch g b ws (ByHalves x)
read_inside g b ws (lines.Head h) = Err WrongBranch
read_inside g b ws lines.End = Err WrongEnd

-- only the expected head stands where a head is expected
abbrev pub read_expected : (g : TreeRules) → g.Wait → List g.Wait → Line → Result (Place g) FaultKind
read_expected g w ws lines.First = Err NotTree
read_expected g w ws lines.FirstSixteenths = Err NotTree
read_expected g w ws (lines.Head h) = allowed (g.head w h) WrongBranch (λ next. Inside next.0 (next.1 ∷ ws))
read_expected g w ws lines.End = Err WrongEnd
read_expected g w ws l = Err WrongBranch

-- only `end` stands where the tree is whole
abbrev pub read_whole : (g : TreeRules) → Line → Result (Place g) FaultKind
read_whole g lines.First = Err NotTree
read_whole g lines.FirstSixteenths = Err NotTree
read_whole g lines.End = Ok Ended
read_whole g l = Err WrongEnd

-- nothing stands after `end`
abbrev pub read_ended : (g : TreeRules) → Line → Result (Place g) FaultKind
read_ended g lines.First = Err NotTree
read_ended g lines.FirstSixteenths = Err NotTree
read_ended g l = Err WrongEnd

-- the place after a line, or what is wrong with it
abbrev pub read : (g : TreeRules) → Place g → Line → Result (Place g) FaultKind
read g Start l = read_first g l
read g (Inside b ws) l = read_inside g b ws l
read g (Expecting w ws) l = read_expected g w ws l
read g Whole l = read_whole g l
read g Ended l = read_ended g l

-- the text ends after `end` alone
abbrev pub read_end : (g : TreeRules) → Place g → Result (Place g) FaultKind
read_end g Ended = Ok Ended
read_end g p = Err WrongEnd
