-- The fields of a line. A field that is a number of its form, but doesn't fit, is read as none within.
use Rattle.std.specs.Prelude.{◌≡◌, ℕ, ◌==◌, Bool, true, false, List, [], ◌∷◌, length, codes, if◌then◌else◌, Option, Some, None, option_map, Result, Ok, Err, ℤ}
use Rattle.std.specs.List.{find}
use Rattle.std.specs.Str.{bytes_eq}
use Rattle.base_types.specs.declared.states.ArcState.{ArcState}
use Rattle.base_types.specs.StateWords.{state_named}
use Rattle.base_types.specs.declared.variables.Var.{Var}
use Rattle.base_types.specs.declared.variables.Var.TheVariants.{Flow, Square}
use Rattle.line_text.specs.Long.{position_at, long_at}
use Rattle.line_text.specs.Words as words
use Rattle.tree_cert.specs.declared.line.Rule.{Rule}
use Rattle.tree_cert.specs.declared.line.Rule.TheVariants as rules
use Rattle.tree_cert.specs.declared.fault.LineFault.{LineFault}
use Rattle.tree_cert.specs.declared.fault.LineFault.TheVariants as fault
use Rattle.tree_cert.specs.Spelling.{rule_text}

infixl 10 ◌>>=◌
abbrev pub ◌>>=◌ : {A B : Type 0} → Result A LineFault → (A → Result B LineFault) → Result B LineFault
(Ok x) >>= f = f x
(Err e) >>= f = Err e

-- an answer that isn't Ok is this one, unless memory ran out
abbrev pub Fails : {Y : Type 0} → LineFault → Result Y LineFault → Type 0
Fails fault.NoMemory read = Unit {0}
Fails fault.NotLine read = read ≡ Err fault.NotLine
Fails fault.Wide read = read ≡ Err fault.Wide

-- an answer is this one, seen so, unless memory ran out
abbrev pub Gives : {X Y : Type 0} → (X → Y) → Result X LineFault → Result Y LineFault → Type 0
Gives view (Ok x) read = read ≡ Ok (view x)
Gives view (Err e) read = Fails e read

abbrev pub found : {A : Type 0} → Option A → Result A LineFault
found None = Err fault.NotLine
found (Some x) = Ok x

abbrev pub text_field : List ℕ → Result (List ℕ × List ℕ) LineFault
text_field bytes = found (words.field_at bytes)

-- the end of a line
abbrev pub ended : List ℕ → Result (Unit {0}) LineFault
ended bytes = if length bytes == 0 then Ok tt else Err fault.NotLine

-- a position, and what comes after it
unfoldable pub position_field : List ℕ → Result (Option ℕ × List ℕ) LineFault
position_field bytes = do
  word ← text_field bytes
  n ← found (position_at word.0)
  Ok (n, word.1)

unfoldable pub number_field : List ℕ → Result (Option ℤ × List ℕ) LineFault
number_field bytes = do
  word ← text_field bytes
  z ← found (long_at word.0)
  Ok (z, word.1)

-- the variable that a word is: q and the position of an arc, or s and the position of a node
abbrev pub var_at : List ℕ → Option (Option Var)
var_at [] = None
var_at (c ∷ digits) =
    if c == 113 then option_map (option_map Flow) (position_at digits)
    else if c == 115 then option_map (option_map Square) (position_at digits)
    else None

unfoldable pub var_field : List ℕ → Result (Option Var × List ℕ) LineFault
var_field bytes = do
  word ← text_field bytes
  x ← found (var_at word.0)
  Ok (x, word.1)

abbrev pub all_rules : List Rule
all_rules =
    rules.Balance ∷ rules.Pipe ∷ rules.Equal ∷ rules.Zero ∷ rules.Way ∷ rules.Inner ∷ rules.Fall ∷ rules.Order ∷ rules.Rise ∷ rules.Ratio ∷ rules.Sign
    ∷ rules.Reach ∷ rules.Along ∷ rules.Drop ∷ []

-- the rule of this name
abbrev pub rule_at : List ℕ → Option Rule
rule_at word = find (λ rule. bytes_eq word (rule_text rule)) all_rules

-- whether it is the lower end
abbrev pub end_at : List ℕ → Option Bool
end_at word = if bytes_eq word (codes "lo") then Some true else if bytes_eq word (codes "hi") then Some false else None

unfoldable pub rule_field : List ℕ → Result (Rule × List ℕ) LineFault
rule_field bytes = do
  word ← text_field bytes
  rule ← found (rule_at word.0)
  Ok (rule, word.1)

unfoldable pub state_field : List ℕ → Result (ArcState × List ℕ) LineFault
state_field bytes = do
  word ← text_field bytes
  state ← found (state_named word.0)
  Ok (state, word.1)

unfoldable pub end_field : List ℕ → Result (Bool × List ℕ) LineFault
end_field bytes = do
  word ← text_field bytes
  low ← found (end_at word.0)
  Ok (low, word.1)
