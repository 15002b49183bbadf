-- Where a reader of lines stands, and what its calls answer.
use Rattle.std.specs.Prelude.{◌≡◌, ℤ, List, [], ◌∷◌, Result, Ok, Err}
use Rattle.gas_model.specs.Rows.{Network}
use Rattle.tree_cert.specs.declared.fault.FaultKind.{FaultKind}
use Rattle.tree_cert.specs.declared.fault.LineFault.{LineFault}
use Rattle.tree_cert.specs.declared.line.Line.{Line}
use Rattle.tree_cert.specs.Place.{Place, Inside, Expecting, Whole, Ended}
use Rattle.tree_rules.specs.Rules.{PartBox}
use Rattle.tree_rules.specs.Branches.{Wait, rules_of, root_box}
use Rattle.tree_check.specs.declared.frames.Frame.{Frame}
use Rattle.tree_check.specs.declared.reader.Mark.{Mark}
use Rattle.tree_check.specs.declared.reader.Mark.TheVariants as marks
use Rattle.tree_check.specs.declared.reader.Reader.{Reader}
use Rattle.tree_check.specs.declared.reader.Stop.{Stop}
use Rattle.tree_check.specs.declared.reader.Stop.TheVariants as stops
use Rattle.gas_model.specs.BoxLimits.{IsScale}
use Rattle.tree_check.specs.Held.{IsBoxAt}
use Rattle.tree_check.specs.Undo.{waits_at, AreFramesOf}

-- where a head is expected, which is below some branch
abbrev pub expecting : (p : Network) → List Wait → Place (rules_of p)
expecting p [] = Whole
expecting p (w ∷ ws) = Expecting w ws

abbrev pub place_by : (p : Network) → Mark → PartBox → List Frame → Place (rules_of p)
place_by p marks.Inside b fs = Inside b (waits_at b fs)
place_by p marks.Expecting b fs = expecting p (waits_at b fs)
place_by p marks.Whole b fs = Whole
place_by p marks.Ended b fs = Ended

-- where the next line stands
abbrev pub place_of : (p : Network) → Reader → Place (rules_of p)
place_of p r = place_by p r.mark r.here r.frames

-- the box and the branches are of the problem
pub record IsReaderOf (p : Network) (r : Reader) : Type 0 where
  pub here : IsBoxAt p r.here
  pub frames : AreFramesOf p r.here.scale r.frames

-- what a call answered is what the rules say, unless memory ran out
abbrev pub Says : {A : Type 0} → Result (Unit {0}) Stop → A → Result A FaultKind → Type 0
Says (Ok u) next said = said ≡ Ok next
Says (Err stops.NoMemory) next said = Unit {0}
Says (Err (stops.Offends fault)) next said = said ≡ Err fault

-- the same of the first line, which says the units of the root's box
abbrev pub SaysFirst : (p : Network) → Result ℤ Stop → Result (Place (rules_of p)) FaultKind → Type 0
SaysFirst p (Ok K) said = (said ≡ Ok (Inside (root_box K p) [])) × IsScale K
SaysFirst p (Err stops.NoMemory) said = Unit {0}
SaysFirst p (Err (stops.Offends fault)) said = said ≡ Err fault

-- the same of a line that was read, which is told too
abbrev pub SaysLine : {A : Type 0} → Result Line Stop → Result Line LineFault → A → Result A FaultKind → Type 0
SaysLine (Ok line) read next said = (said ≡ Ok next) × (read ≡ Ok line)
SaysLine (Err stops.NoMemory) read next said = Unit {0}
SaysLine (Err (stops.Offends fault)) read next said = said ≡ Err fault
