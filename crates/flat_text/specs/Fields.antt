-- The fields of a line, and what is wrong with a line.
use Rattle.std.specs.Prelude.{◌≡◌, ℕ, ◌==◌, List, length, if◌then◌else◌, Option, Some, None, Result, Ok, Err, ℤ}
use Rattle.gas_model.specs.declared.rows.Drag.{Drag}
use Rattle.gas_model.specs.declared.rows.ArcKind.{ArcKind}
use Rattle.gas_model.specs.declared.rows.ArcText.{ArcText}
use Rattle.flat_text.specs.declared.fault.LineFault.{LineFault}
use Rattle.flat_text.specs.declared.fault.LineFault.TheVariants as fault
use Rattle.flat_text.specs.declared.fields.ArcHead.{ArcHead}
use Rattle.line_text.specs.Words as words

infixl 10 ◌>>=◌
abbrev pub ◌>>=◌ : {A B : Type 0} → Result A LineFault → (A → Result B LineFault) → Result B LineFault
(Ok x) >>= f = f x
(Err e) >>= f = Err e

-- an answer that isn't Ok is this one, unless memory ran out
abbrev pub Fails : {Y : Type 0} → LineFault → Result Y LineFault → Type 0
Fails fault.NoMemory read = Unit {0}
Fails fault.NotFlat read = read ≡ Err fault.NotFlat
Fails fault.OverLimit read = read ≡ Err fault.OverLimit

-- an answer is this one, seen so, unless memory ran out
abbrev pub Gives : {X Y : Type 0} → (X → Y) → Result X LineFault → Result Y LineFault → Type 0
Gives view (Ok x) read = read ≡ Ok (view x)
Gives view (Err e) read = Fails e read

abbrev pub found : {A : Type 0} → Option A → Result A LineFault
found None = Err fault.NotFlat
found (Some x) = Ok x

abbrev pub text_field : List ℕ → Result (List ℕ × List ℕ) LineFault
text_field bytes = found (words.field_at bytes)

abbrev pub number_field : List ℕ → Result (ℤ × List ℕ) LineFault
number_field bytes = found (words.number_field bytes)

-- the end of a line
abbrev pub ended : List ℕ → Result (Unit {0}) LineFault
ended bytes = if length bytes == 0 then Ok tt else Err fault.NotFlat

-- what the line of every arc begins with
pub record HeadText : Type 0 where
  pub id : List ℕ
  pub from : List ℕ
  pub to : List ℕ
  pub q_min : ℤ
  pub q_max : ℤ

abbrev pub head_text : ArcHead → HeadText
head_text h = record { id = h.id.now; from = h.from.now; to = h.to.now; q_min = h.q_min; q_max = h.q_max }

abbrev pub arc_text : HeadText → ArcKind → ArcText
arc_text h kind = record { id = h.id; from = h.from; to = h.to; q_min = h.q_min; q_max = h.q_max; kind = kind }

unfoldable pub head_at : List ℕ → Result (HeadText × List ℕ) LineFault
head_at bytes = do
  id ← text_field bytes
  from ← text_field id.1
  to ← text_field from.1
  q_min ← number_field to.1
  q_max ← number_field q_min.1
  Ok (record { id = id.0; from = from.0; to = to.0; q_min = q_min.0; q_max = q_max.0 }, q_max.1)

-- the numbers of a resistance
unfoldable pub drag_at : List ℕ → Result (Drag × List ℕ) LineFault
drag_at bytes = do
  lo ← number_field bytes
  hi ← number_field lo.1
  den ← number_field hi.1
  Ok (record { lo = lo.0; hi = hi.0; den = den.0 }, den.1)
