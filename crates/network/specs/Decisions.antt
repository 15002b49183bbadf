-- What decisions say of connections.
use Rattle.std.specs.Prelude.{ℕ, not, List, map, Bool, true, false, if◌then◌else◌, Option, Some, None, option_map}
use Rattle.std.specs.List.{find}
use Rattle.std.specs.Option.{option_map_or}
use Rattle.std.specs.Str.{bytes_eq}
use Rattle.gas_model.specs.declared.rows.SetText.{SetText}
use Rattle.gas_model.specs.declared.rows.DecisionText.{DecisionText}
use Rattle.gas_model.specs.declared.rows.GroupText.{GroupText}
use Rattle.net_reader.specs.declared.rows.NetArc.{NetArc}
use Rattle.net_reader.specs.declared.rows.ArcWord.{ArcWord}
use Rattle.net_reader.specs.declared.rows.ArcWord.TheVariants as word
use Rattle.cdf_reader.specs.declared.rows.ActiveWord.{ActiveWord}
use Rattle.cdf_reader.specs.declared.rows.ActiveWord.TheVariants.{Valve, Control, Station}
use Rattle.cdf_reader.specs.declared.rows.CdfSet.{CdfSet}
use Rattle.cdf_reader.specs.declared.rows.CdfDecision.{CdfDecision}
use Rattle.cdf_reader.specs.declared.rows.CdfGroup.{CdfGroup}
use Rattle.problem_faults.specs.declared.join.JoinFault.{JoinFault}
use Rattle.problem_faults.specs.declared.join.JoinFault.TheVariants as fault
use Rattle.network.specs.Faults.{first_fault}

-- what the first connection of an id is
abbrev pub arc_word : List NetArc → List ℕ → Option ArcWord
arc_word arcs id = option_map (λ a. a.word) (find (λ a. bytes_eq id a.id) arcs)

-- a decision file calls the connection so
abbrev pub is_called : ActiveWord → ArcWord → Bool
is_called Valve word.Valve = true
is_called Control (word.Control in_min out_max red_min red_max) = true
is_called Station (word.Station in_min out_max) = true
is_called w v = false

-- the connection of the id, if there is one, is called otherwise
abbrev pub set_fault : (List ℕ → Option ArcWord) → CdfSet → Option JoinFault
set_fault words s = if option_map_or (λ v. not (is_called s.word v)) (words s.arc) false then Some (fault.WrongType s.arc) else None

abbrev pub decision_fault : (List ℕ → Option ArcWord) → CdfDecision → Option JoinFault
decision_fault words d = first_fault (set_fault words) d.sets

abbrev pub group_fault : (List ℕ → Option ArcWord) → CdfGroup → Option JoinFault
group_fault words g = first_fault (decision_fault words) g.decisions

-- the first element of decisions whose connection is called otherwise
abbrev pub groups_fault : (List ℕ → Option ArcWord) → List CdfGroup → Option JoinFault
groups_fault words groups = first_fault (group_fault words) groups

abbrev pub set_text : CdfSet → SetText
set_text s = record { arc = s.arc; allow = s.allow }

abbrev pub decision_text : CdfDecision → DecisionText
decision_text d = record { id = d.id; sets = map set_text d.sets }

abbrev pub group_text : CdfGroup → GroupText
group_text g = record { id = g.id; decisions = map decision_text g.decisions }
