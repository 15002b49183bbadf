-- The words of kinds and of decisions, and the numbers of a kind.
use Rattle.std.specs.Prelude.{ℕ, List, if◌then◌else◌, Option, Some, None, Result, Ok, Err, codes}
use Rattle.std.specs.Str.{bytes_eq}
use Rattle.base_types.specs.StateWords.{state_word}
use Rattle.base_types.specs.declared.states.ArcState.TheVariants as states
use Rattle.base_types.specs.declared.states.Allow.{Allow}
use Rattle.base_types.specs.declared.states.Allow.TheVariants.{Opened, Shut, Active, Bypass, On}
use Rattle.gas_model.specs.declared.rows.ArcKind.{ArcKind}
use Rattle.gas_model.specs.declared.rows.ArcKind.TheVariants.{Pipe, Short, Resist, Loss, Valve, Control, Station}
use Rattle.flat_text.specs.declared.fault.LineFault.{LineFault}
use Rattle.flat_text.specs.declared.fault.LineFault.TheVariants as fault
use Rattle.flat_text.specs.Fields.{◌>>=◌, number_field, drag_at}

-- the least and the greatest loss
unfoldable pub loss_at : List ℕ → Result (ArcKind × List ℕ) LineFault
loss_at bytes = do
  low ← number_field bytes
  high ← number_field low.1
  Ok (Loss low.0 high.0, high.1)

-- the bounds of the pressures before and after a control valve, and of its reduction
unfoldable pub control_at : List ℕ → Result (ArcKind × List ℕ) LineFault
control_at bytes = do
  in_min ← number_field bytes
  out_max ← number_field in_min.1
  red_min ← number_field out_max.1
  red_max ← number_field red_min.1
  Ok (Control in_min.0 out_max.0 red_min.0 red_max.0, red_max.1)

-- the bounds of the pressures before and after a station, its ratio and its greatest rise
unfoldable pub station_at : List ℕ → Result (ArcKind × List ℕ) LineFault
station_at bytes = do
  in_min ← number_field bytes
  out_max ← number_field in_min.1
  ratio_num ← number_field out_max.1
  ratio_den ← number_field ratio_num.1
  rise_max ← number_field ratio_den.1
  Ok (Station in_min.0 out_max.0 ratio_num.0 ratio_den.0 rise_max.0, rise_max.1)

-- the kind that the word of a line names, with its numbers
unfoldable pub kind_at : List ℕ → List ℕ → Result (ArcKind × List ℕ) LineFault
kind_at word bytes =
    if bytes_eq word (codes "pipe") then (drag_at bytes >>= λ x. Ok (Pipe x.0, x.1))
    else if bytes_eq word (codes "short") then Ok (Short, bytes)
    else if bytes_eq word (codes "drag") then (drag_at bytes >>= λ x. Ok (Resist x.0, x.1))
    else if bytes_eq word (codes "loss") then loss_at bytes
    else if bytes_eq word (codes "valve") then Ok (Valve, bytes)
    else if bytes_eq word (codes "control") then control_at bytes
    else if bytes_eq word (codes "station") then station_at bytes
    else Err fault.NotFlat

-- what the word of a decision allows
unfoldable pub allow_of : List ℕ → Option Allow
allow_of word =
    if bytes_eq word (state_word states.Opened) then Some Opened
    else if bytes_eq word (state_word states.Shut) then Some Shut
    else if bytes_eq word (state_word states.Active) then Some Active
    else if bytes_eq word (state_word states.Bypass) then Some Bypass
    else if bytes_eq word (codes "on") then Some On
    else None
