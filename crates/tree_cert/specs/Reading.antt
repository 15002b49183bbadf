-- What bytes are read as: a line, or what is wrong with its form.
use Rattle.std.specs.Prelude.{◌≡◌, ℕ, ◌-◌, ◌==◌, Bool, true, false, List, [], ◌∷◌, length, take, drop, codes, if◌then◌else◌, slice_index, Option, Some, None, option_map, option_and_then, Result, Ok, Err, ℤ}
use Rattle.std.specs.List.{slice_split, list_all, find}
use Rattle.std.specs.Str.{bytes_eq}
use Rattle.base_types.specs.declared.variables.Var.{Var}
use Rattle.line_text.specs.Numerals.{natural}
use Rattle.line_text.specs.Words.{word_len}
use Rattle.line_text.specs.Long.{fits_position, fitting}
use Rattle.tree_cert.specs.declared.line.Rule.{Rule}
use Rattle.tree_cert.specs.declared.line.Closing.TheVariants.{Empty, Cut, At}
use Rattle.tree_cert.specs.declared.line.Head.TheVariants.{Take, State, Half}
use Rattle.tree_cert.specs.declared.line.Line.{Line}
use Rattle.tree_cert.specs.declared.line.Line.TheVariants as lines
use Rattle.tree_cert.specs.declared.fault.LineFault.{LineFault}
use Rattle.tree_cert.specs.declared.fault.LineFault.TheVariants as fault
use Rattle.tree_cert.specs.declared.words.LineWord.{LineWord}
use Rattle.tree_cert.specs.declared.words.LineWord.TheVariants as first
use Rattle.tree_cert.specs.Spelling.{is_node_list, fits_line, Spells}
use Rattle.tree_cert.specs.Fields.{◌>>=◌, found, text_field, ended, position_field, number_field, var_field, rule_at, rule_field, state_field, end_field}

-- ---- lines of fields, some of which may not fit

abbrev pub step_of : Bool → Option Var → Option ℤ → Rule → Option ℕ → Option Line
step_of low (Some x) (Some c) rule (Some place) = Some (lines.Step (record { var = x; low = low; value = c; rule = rule; place = place }))
step_of low x c rule place = None

abbrev pub take_of : Option ℕ → Option ℕ → Option Line
take_of (Some k) (Some j) = Some (lines.Head (Take k j))
take_of k j = None

abbrev pub half_of : Option Var → Bool → Option ℤ → Option Line
half_of (Some x) low (Some c) = Some (lines.Head (Half x low c))
half_of x low c = None

-- ---- what comes after the first word of a line

-- after `lo` and `hi`: the variable, the value, the rule, and the place
unfoldable pub step_at : Bool → List ℕ → Result (Option Line) LineFault
step_at low bytes = do
  x ← var_field bytes
  c ← number_field x.1
  rule ← rule_field c.1
  place ← position_field rule.1
  end ← ended place.1
  Ok (step_of low x.0 c.0 rule.0 place.0)

-- after `close empty`
unfoldable pub empty_at : List ℕ → Result (Option Line) LineFault
empty_at bytes = do
  x ← var_field bytes
  end ← ended x.1
  Ok (option_map (λ x. lines.Close (Empty x)) x.0)

-- words, each after one space
abbrev pub spaced_words : List ℕ → Option (List (List ℕ))
spaced_words [] = Some []
spaced_words (c ∷ rest) = if c == 32 then Some (slice_split (λ b. b == 32) rest) else None

-- the numbers that words are, of any size
abbrev pub naturals : List (List ℕ) → Option (List ℕ)
naturals [] = Some []
naturals (w ∷ ws) = option_and_then (λ n. option_map (λ ns. n ∷ ns) (naturals ws)) (natural w)

-- numbers of any size that ascend strictly, at least one; none within where one doesn't fit
abbrev pub node_list : List ℕ → Option (Option (List ℕ))
node_list ns = if is_node_list ns then Some (fitting (list_all fits_position) ns) else None

abbrev pub nodes_at : List ℕ → Option (Option (List ℕ))
nodes_at bytes = option_and_then node_list (option_and_then naturals (spaced_words bytes))

-- after `close cut`
unfoldable pub cut_at : List ℕ → Result (Option Line) LineFault
cut_at bytes = do
  nodes ← found (nodes_at bytes)
  Ok (option_map (λ ns. lines.Close (Cut ns)) nodes)

-- after `close` and this word: a rule, and the place
unfoldable pub rule_closing_at : List ℕ → List ℕ → Result (Option Line) LineFault
rule_closing_at word bytes = do
  rule ← found (rule_at word)
  place ← position_field bytes
  end ← ended place.1
  Ok (option_map (λ p. lines.Close (At rule p)) place.0)

abbrev pub after_close : List ℕ → List ℕ → Result (Option Line) LineFault
after_close word rest =
    if bytes_eq word (codes "empty") then empty_at rest
    else if bytes_eq word (codes "cut") then cut_at rest
    else rule_closing_at word rest

-- after `close`
unfoldable pub closing_at : List ℕ → Result (Option Line) LineFault
closing_at bytes = do
  word ← text_field bytes
  after_close word.0 word.1

-- a line that is one word
unfoldable pub lone : Line → List ℕ → Result (Option Line) LineFault
lone line bytes = do
  end ← ended bytes
  Ok (Some line)

-- after `group` and `arc`: a position
unfoldable pub of_position : (ℕ → Line) → List ℕ → Result (Option Line) LineFault
of_position line bytes = do
  n ← position_field bytes
  end ← ended n.1
  Ok (option_map line n.0)

-- after `halve`
unfoldable pub halve_at : List ℕ → Result (Option Line) LineFault
halve_at bytes = do
  x ← var_field bytes
  end ← ended x.1
  Ok (option_map lines.Halve x.0)

-- after `take`: the group, and its decision
unfoldable pub take_at : List ℕ → Result (Option Line) LineFault
take_at bytes = do
  k ← position_field bytes
  j ← position_field k.1
  end ← ended j.1
  Ok (take_of k.0 j.0)

-- after `state`: the arc, and the word of its state
unfoldable pub state_at : List ℕ → Result (Option Line) LineFault
state_at bytes = do
  a ← position_field bytes
  state ← state_field a.1
  end ← ended state.1
  Ok (option_map (λ a. lines.Head (State a state.0)) a.0)

-- after `half`: the variable, the end, and its value
unfoldable pub half_at : List ℕ → Result (Option Line) LineFault
half_at bytes = do
  x ← var_field bytes
  low ← end_field x.1
  c ← number_field low.1
  end ← ended c.1
  Ok (half_of x.0 low.0 c.0)

abbrev pub first_line : List ℕ → Option Line
first_line word = if bytes_eq word (codes "1") then Some lines.First else if bytes_eq word (codes "2") then Some lines.FirstSixteenths else None

-- after `gastree`
unfoldable pub first_at : List ℕ → Result (Option Line) LineFault
first_at bytes = do
  word ← text_field bytes
  line ← found (first_line word.0)
  end ← ended word.1
  Ok (Some line)

-- ---- lines

abbrev pub word_text : LineWord → List ℕ
word_text first.Lo = codes "lo"
word_text first.Hi = codes "hi"
word_text first.Close = codes "close"
word_text first.Open = codes "open"
word_text first.Group = codes "group"
word_text first.Arc = codes "arc"
word_text first.Halve = codes "halve"
word_text first.Take = codes "take"
word_text first.State = codes "state"
word_text first.Half = codes "half"
word_text first.End = codes "end"
word_text first.Gastree = codes "gastree"

abbrev pub all_words : List LineWord
all_words =
    first.Lo ∷ first.Hi ∷ first.Close ∷ first.Open ∷ first.Group ∷ first.Arc ∷ first.Halve ∷ first.Take ∷ first.State ∷ first.Half ∷ first.End ∷ first.Gastree ∷ []

abbrev pub first_word_at : List ℕ → Option LineWord
first_word_at word = find (λ w. bytes_eq word (word_text w)) all_words

abbrev pub after_word : LineWord → List ℕ → Result (Option Line) LineFault
after_word first.Lo rest = step_at true rest
after_word first.Hi rest = step_at false rest
after_word first.Close rest = closing_at rest
after_word first.Open rest = lone lines.LeftOpen rest
after_word first.Group rest = of_position lines.Group rest
after_word first.Arc rest = of_position lines.Arc rest
after_word first.Halve rest = halve_at rest
after_word first.Take rest = take_at rest
after_word first.State rest = state_at rest
after_word first.Half rest = half_at rest
after_word first.End rest = lone lines.End rest
after_word first.Gastree rest = first_at rest

-- a line without its line feed; none within where a number doesn't fit
unfoldable pub line_at : List ℕ → Result (Option Line) LineFault
line_at bytes = do
  word ← found (first_word_at (take (word_len bytes) bytes))
  after_word word (drop (word_len bytes) bytes)

-- the bytes before a line feed at the end
abbrev pub before_feed : List ℕ → Option (List ℕ)
before_feed bytes = if slice_index bytes (length bytes - 1) == 10 then Some (take (length bytes - 1) bytes) else None

-- a line whose numbers all fit
abbrev pub within : Option Line → Result Line LineFault
within None = Err fault.Wide
within (Some line) = Ok line

-- the line that bytes are, or what is wrong with its form
unfoldable pub line_of : List ℕ → Result Line LineFault
line_of bytes = do
  body ← found (before_feed bytes)
  line ← line_at body
  within line

-- ---- what an answer says of the bytes

-- the line that a spelled one is read as: itself, where its numbers fit
abbrev pub answer_of : Line → Result Line LineFault
answer_of l = if fits_line l then Ok l else Err fault.Wide

-- Bytes that were read spell the line, whose numbers fit. Bytes that are too wide spell a line of which a number doesn't
-- fit. Bytes that are no line spell none, whatever its numbers.
abbrev pub Means : List ℕ → Result Line LineFault → Type 0
Means bytes (Ok l) = Spells bytes l × (fits_line l ≡ true)
Means bytes (Err fault.Wide) = (l : Line) × Spells bytes l × (fits_line l ≡ false)
Means bytes (Err fault.NotLine) = (l : Line) → Spells bytes l → ⊥
Means bytes (Err fault.NoMemory) = Unit {0}
