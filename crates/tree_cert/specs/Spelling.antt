-- The one spelling of a line.
use Rattle.std.specs.Prelude.{◌≡◌, ℕ, nat_lt, Bool, true, false, ◌&&◌, List, [], ◌∷◌, ◌++◌, map, codes}
use Rattle.line_text.specs.Numerals.{numeral, signed_numeral}
use Rattle.std.specs.List.{flat_map, list_all}
use Rattle.base_types.specs.StateWords.{state_word}
use Rattle.base_types.specs.declared.variables.Var.{Var}
use Rattle.base_types.specs.declared.variables.Var.TheVariants.{Flow, Square}
use Rattle.line_text.specs.Words.{joined}
use Rattle.line_text.specs.Long.{fits_position, fits_long}
use Rattle.tree_cert.specs.declared.line.Rule.{Rule}
use Rattle.tree_cert.specs.declared.line.Rule.TheVariants as rules
use Rattle.tree_cert.specs.declared.line.Closing.{Closing}
use Rattle.tree_cert.specs.declared.line.Closing.TheVariants.{Empty, Cut, At}
use Rattle.tree_cert.specs.declared.line.Head.TheVariants.{Take, State, Half}
use Rattle.tree_cert.specs.declared.line.Line.{Line}
use Rattle.tree_cert.specs.declared.line.Line.TheVariants as lines

-- a flow is q and the position of its arc, a square s and the position of its node
abbrev pub var_text : Var → List ℕ
var_text (Flow a) = 113 ∷ numeral a
var_text (Square n) = 115 ∷ numeral n

abbrev pub rule_text : Rule → List ℕ
rule_text rules.Balance = codes "balance"
rule_text rules.Pipe = codes "pipe"
rule_text rules.Equal = codes "equal"
rule_text rules.Zero = codes "zero"
rule_text rules.Way = codes "way"
rule_text rules.Inner = codes "inner"
rule_text rules.Fall = codes "fall"
rule_text rules.Order = codes "order"
rule_text rules.Rise = codes "rise"
rule_text rules.Ratio = codes "ratio"
rule_text rules.Sign = codes "sign"
rule_text rules.Reach = codes "reach"
rule_text rules.Along = codes "along"
rule_text rules.Drop = codes "drop"

-- the lower end, or the upper one
abbrev pub end_text : Bool → List ℕ
end_text true = codes "lo"
end_text false = codes "hi"

-- the word that a line begins with
abbrev pub first_word : Line → List ℕ
first_word lines.First = codes "gastree"
first_word lines.FirstSixteenths = codes "gastree"
first_word (lines.Step s) = end_text s.low
first_word (lines.Close c) = codes "close"
first_word lines.LeftOpen = codes "open"
first_word (lines.Group k) = codes "group"
first_word (lines.Arc a) = codes "arc"
first_word (lines.Halve x) = codes "halve"
first_word (lines.Head (Take k j)) = codes "take"
first_word (lines.Head (State a state)) = codes "state"
first_word (lines.Head (Half x low c)) = codes "half"
first_word lines.End = codes "end"

abbrev pub closing_words : Closing → List (List ℕ)
closing_words (Empty x) = codes "empty" ∷ var_text x ∷ []
closing_words (Cut ns) = codes "cut" ∷ map numeral ns
closing_words (At rule place) = rule_text rule ∷ numeral place ∷ []

-- the words after it
abbrev pub other_words : Line → List (List ℕ)
other_words lines.First = codes "1" ∷ []
other_words lines.FirstSixteenths = codes "2" ∷ []
other_words (lines.Step s) = var_text s.var ∷ signed_numeral s.value ∷ rule_text s.rule ∷ numeral s.place ∷ []
other_words (lines.Close c) = closing_words c
other_words lines.LeftOpen = []
other_words (lines.Group k) = numeral k ∷ []
other_words (lines.Arc a) = numeral a ∷ []
other_words (lines.Halve x) = var_text x ∷ []
other_words (lines.Head (Take k j)) = numeral k ∷ numeral j ∷ []
other_words (lines.Head (State a state)) = numeral a ∷ state_word state ∷ []
other_words (lines.Head (Half x low c)) = var_text x ∷ end_text low ∷ signed_numeral c ∷ []
other_words lines.End = []

-- the words with one space between two of them, and a line feed
abbrev pub spelling : Line → List ℕ
spelling l = joined (first_word l) (other_words l) ++ 10 ∷ []

-- ---- lines that have a spelling

-- the numbers ascend strictly, and all are above n
abbrev pub ascends_after : ℕ → List ℕ → Bool
ascends_after n [] = true
ascends_after n (m ∷ ms) = nat_lt n m && ascends_after m ms

-- at least one node, strictly ascending
abbrev pub is_node_list : List ℕ → Bool
is_node_list [] = false
is_node_list (n ∷ ns) = ascends_after n ns

-- the nodes of a cut are strictly ascending and at least one
abbrev pub has_ordered_cut : Line → Bool
has_ordered_cut (lines.Close (Cut ns)) = is_node_list ns
has_ordered_cut line = true

abbrev pub fits_var : Var → Bool
fits_var (Flow a) = fits_position a
fits_var (Square n) = fits_position n

-- each number fits 128 signed bits, each position 32 bits
abbrev pub fits_line : Line → Bool
fits_line (lines.Step s) = fits_var s.var && fits_long s.value && fits_position s.place
fits_line (lines.Close (Empty x)) = fits_var x
fits_line (lines.Close (Cut ns)) = list_all fits_position ns
fits_line (lines.Close (At rule place)) = fits_position place
fits_line (lines.Group k) = fits_position k
fits_line (lines.Arc a) = fits_position a
fits_line (lines.Halve x) = fits_var x
fits_line (lines.Head (Take k j)) = fits_position k && fits_position j
fits_line (lines.Head (State a state)) = fits_position a
fits_line (lines.Head (Half x low c)) = fits_var x && fits_long c
fits_line line = true

abbrev pub is_spelled : Line → Bool
is_spelled l = fits_line l && has_ordered_cut l

-- the bytes are the one spelling of this line, whose numbers may have any size
pub record Spells (bytes : List ℕ) (l : Line) : Type 0 where
  pub ordered : has_ordered_cut l ≡ true
  pub text : bytes ≡ spelling l

-- the bytes are these lines, each in its one spelling
pub record AreLines (bytes : List ℕ) (ls : List Line) : Type 0 where
  pub spelled : list_all is_spelled ls ≡ true
  pub text : bytes ≡ flat_map spelling ls
