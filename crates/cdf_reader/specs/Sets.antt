-- What a decision says of an arc, or its first offence.
use Rattle.std.specs.Prelude.{ℕ, List, [], ◌∷◌, ◌||◌, ◌==◌, not, Bool, true, false, if◌then◌else◌, Option, Some, None, Result, Ok, Err, codes}
use Rattle.std.specs.List.{list_any}
use Rattle.std.specs.Str.{bytes_eq}
use Rattle.base_types.specs.declared.states.Allow.{Allow}
use Rattle.base_types.specs.declared.states.Allow.TheVariants as allow
use Rattle.tag_outline.specs.declared.outline.Element.{Element}
use Rattle.file_faults.specs.declared.outline.FileFault.{FileFault}
use Rattle.file_faults.specs.declared.outline.FileFault.TheVariants as fault
use Rattle.element_fields.specs.Answers.{◌>>=◌, found_or, rows_of}
use Rattle.element_fields.specs.Lookup.{Placed, value_of, next_child, children}
use Rattle.element_fields.specs.Names.{label, id_in}
use Rattle.cdf_reader.specs.declared.rows.ActiveWord.{ActiveWord}
use Rattle.cdf_reader.specs.declared.rows.ActiveWord.TheVariants.{Valve, Control, Station}
use Rattle.cdf_reader.specs.declared.rows.CdfSet.{CdfSet}

abbrev pub active_word : List ℕ → Option ActiveWord
active_word name =
    if bytes_eq name (codes "valve") then Some Valve
    else if bytes_eq name (codes "controlValve") then Some Control
    else if bytes_eq name (codes "compressorStation") then Some Station
    else None

-- ---- attributes
abbrev pub is_read : List ℕ → Bool
is_read name = bytes_eq name (codes "id") || bytes_eq name (codes "value") || bytes_eq name (codes "mode")

-- what is read, what is passed over, and any name with `:`
abbrev pub is_known : List ℕ → Bool
is_known name = is_read name || bytes_eq name (codes "alias") || bytes_eq name (codes "xmlns") || list_any (λ b. b == 58) name

abbrev pub first_unknown : List (List ℕ × List ℕ) → Option (List ℕ)
first_unknown [] = None
first_unknown (a ∷ as_) = if not (is_known a.0) then Some a.0 else first_unknown as_

abbrev pub all_known : Element → Option (List ℕ) → Result (Unit {0}) FileFault
all_known e None = Ok tt
all_known e (Some name) = Err (fault.UnknownAttribute (label e) name)

abbrev pub only_known : Element → Result (Unit {0}) FileFault
only_known e = all_known e (first_unknown e.attributes)

-- ---- the value and the mode
abbrev pub is_open : List ℕ → Option Bool
is_open value = if bytes_eq value (codes "0") then Some false else if bytes_eq value (codes "1") then Some true else None

unfoldable pub open_in : Element → Result Bool FileFault
open_in e = do
  value ← found_or (fault.Missing (label e) (codes "value")) (value_of (codes "value") e.attributes)
  found_or (fault.BadWord (label e) (codes "value")) (is_open value)

abbrev pub mode_word : List ℕ → Option Allow
mode_word text = if bytes_eq text (codes "active") then Some allow.Active else if bytes_eq text (codes "bypass") then Some allow.Bypass else None

abbrev pub by_mode : Element → Option (List ℕ) → Result Allow FileFault
by_mode e None = Ok allow.On
by_mode e (Some text) = found_or (fault.BadWord (label e) (codes "mode")) (mode_word text)

-- the mode of an active arc that isn't closed
unfoldable pub mode_of : Element → Result Allow FileFault
mode_of e = by_mode e (value_of (codes "mode") e.attributes)

-- what is allowed, by the value and the mode
abbrev pub allow_in : ActiveWord → Bool → Element → Result Allow FileFault
allow_in word false e = Ok allow.Shut
allow_in Valve true e = Ok allow.Opened
allow_in Control true e = mode_of e
allow_in Station true e = mode_of e

-- ---- the whole element
abbrev pub none_of : Element → Option Placed → Result (Unit {0}) FileFault
none_of e None = Ok tt
none_of e (Some c) = Err (fault.BadWord (label e) c.0.name)

abbrev pub no_children : Element → List Element → Result (Unit {0}) FileFault
no_children e below = none_of e (next_child e.depth below)

unfoldable pub set_of : ActiveWord → Element → List Element → Result CdfSet FileFault
set_of word e below = do
  known ← only_known e
  arc ← id_in (codes "id") e
  opened ← open_in e
  allowed ← allow_in word opened e
  bare ← no_children e below
  Ok (record { word = word; arc = arc; allow = allowed })

-- a child of an element that is called so
unfoldable pub set_in : List ℕ → Placed → Result CdfSet FileFault
set_in parent c = do
  word ← found_or (fault.BadWord parent c.0.name) (active_word c.0.name)
  set_of word c.0 c.1

-- all children of a decision, which these follow
abbrev pub set_rows : Element → List Element → Result (List CdfSet) FileFault
set_rows parent below = rows_of (set_in (label parent)) (children parent.depth below)
