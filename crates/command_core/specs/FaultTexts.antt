-- What is wrong with an input file, as the program says it.
use Rattle.std.specs.Prelude.{ℕ, List, [], ◌++◌, codes, decimal}
use Rattle.gas_model.specs.declared.rows.Many.{Many}
use Rattle.gas_model.specs.declared.rows.Many.TheVariants as many
use Rattle.gas_model.specs.declared.rows.ModelFault.{ModelFault}
use Rattle.gas_model.specs.declared.rows.ModelFault.TheVariants as model
use Rattle.problem_faults.specs.declared.flat.FlatFault.{FlatFault}
use Rattle.problem_faults.specs.declared.flat.FlatFault.TheVariants as flat
use Rattle.file_faults.specs.declared.setting.Key.{Key}
use Rattle.file_faults.specs.declared.setting.Key.TheVariants as key
use Rattle.file_faults.specs.declared.setting.SettingFault.{SettingFault}
use Rattle.file_faults.specs.declared.setting.SettingFault.TheVariants as setting
use Rattle.file_faults.specs.declared.outline.FileFault.{FileFault}
use Rattle.file_faults.specs.declared.outline.FileFault.TheVariants as file
use Rattle.file_faults.specs.declared.outline.OutlineFault.{OutlineFault}
use Rattle.file_faults.specs.declared.outline.OutlineFault.TheVariants as outline
use Rattle.file_faults.specs.declared.table.ResFault.{ResFault}
use Rattle.file_faults.specs.declared.table.ResFault.TheVariants as res
use Rattle.problem_faults.specs.declared.join.JoinFault.{JoinFault}
use Rattle.problem_faults.specs.declared.join.JoinFault.TheVariants as join
use Rattle.command_core.specs.declared.status.InputFault.{InputFault}
use Rattle.command_core.specs.declared.status.InputFault.TheVariants.{OfFile, OfRes, OfJoin, OfFlat, OfSetting}

abbrev pub many_word : Many → List ℕ
many_word many.Nodes = codes "nodes"
many_word many.Arcs = codes "arcs"
many_word many.Groups = codes "groups"
many_word many.Decisions = codes "decisions"

-- what is wrong with rows, and the id of what is at fault: of a missing node or arc its own
abbrev pub model_text : ModelFault → List ℕ
model_text (model.TooMany what) = codes "too many " ++ many_word what
model_text (model.TwiceNamed id) = codes "twice named " ++ id
model_text (model.OverLimit id) = codes "over limit " ++ id
model_text (model.NoSuchNode arc id) = codes "no such node " ++ id
model_text (model.SameEnds arc) = codes "same ends " ++ arc
model_text (model.EmptyGroup group) = codes "empty group " ++ group
model_text (model.NoSuchArc group id) = codes "no such arc " ++ id
model_text (model.NotActive group arc) = codes "not active " ++ arc
model_text (model.TwiceDecided arc) = codes "twice decided " ++ arc
model_text model.NoMemory = []

abbrev pub flat_text_fault : FlatFault → List ℕ
flat_text_fault (flat.NotFlat line) = codes "line " ++ decimal line
flat_text_fault (flat.OverLimit line) = codes "over limit line " ++ decimal line
flat_text_fault (flat.Model e) = model_text e
flat_text_fault flat.NoMemory = []

abbrev pub key_word : Key → List ℕ
key_word key.Arcs = codes "arcs"
key_word key.Decisions = codes "decisions"
key_word key.Nodes = codes "nodes"
key_word key.Whole = codes "whole"

abbrev pub setting_text_fault : SettingFault → List ℕ
setting_text_fault setting.NotJson = codes "not json"
setting_text_fault (setting.NotSetting k) = codes "not setting " ++ key_word k
setting_text_fault (setting.WideNumber k) = codes "wide number " ++ key_word k
setting_text_fault setting.NoMemory = []

-- why a text is no outline, and at which byte
abbrev pub outline_text : OutlineFault → List ℕ
outline_text (outline.NotUtf8 at) = codes "not utf8 at " ++ decimal at
outline_text (outline.NotOutline at) = codes "not outline at " ++ decimal at
outline_text (outline.Doctype at) = codes "doctype at " ++ decimal at
outline_text (outline.Cdata at) = codes "cdata at " ++ decimal at
outline_text (outline.TooDeep at) = codes "too deep at " ++ decimal at
outline_text outline.NoMemory = []

-- an offence of an element, and what of it is at fault
abbrev pub element_text : (words element name : List ℕ) → List ℕ
element_text words element name = words ++ element ++ codes " " ++ name

abbrev pub file_fault : FileFault → List ℕ
file_fault (file.Outline e) = outline_text e
file_fault file.WrongRoot = codes "wrong root"
file_fault (file.Missing element name) = element_text (codes "missing ") element name
file_fault (file.BadValue element name) = element_text (codes "bad value ") element name
file_fault (file.BadUnit element name) = element_text (codes "bad unit ") element name
file_fault (file.TooLarge element name) = element_text (codes "too large ") element name
file_fault (file.BadWord element name) = element_text (codes "bad word ") element name
file_fault (file.UnknownAttribute element name) = element_text (codes "unknown attribute ") element name
file_fault file.NoMemory = []

abbrev pub table_fault : ResFault → List ℕ
table_fault (res.BadRow row) = codes "row " ++ decimal row
table_fault res.NoMemory = []

-- what is wrong with the four files together
abbrev pub join_text : JoinFault → List ℕ
join_text (join.NoSuchNode id) = codes "no such node " ++ id
join_text (join.WrongType id) = codes "wrong type " ++ id
join_text (join.TwiceNominated id) = codes "twice nominated " ++ id
join_text (join.NoResistance arc) = codes "no resistance " ++ arc
join_text (join.NoStation arc) = codes "no station " ++ arc
join_text (join.TwiceRow row) = codes "twice row " ++ decimal row
join_text (join.UnusedRow row) = codes "unused row " ++ decimal row
join_text (join.Model e) = model_text e
join_text join.NoMemory = []

abbrev pub fault_text : InputFault → List ℕ
fault_text (OfFile e) = file_fault e
fault_text (OfRes e) = table_fault e
fault_text (OfJoin e) = join_text e
fault_text (OfFlat e) = flat_text_fault e
fault_text (OfSetting e) = setting_text_fault e
