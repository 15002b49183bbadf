-- Where a problem comes from.
use Rattle.std.specs.Prelude.{ℕ, List, [], ◌∷◌, ◌++◌, option_map, Option, None, Some, Result, Ok, Err}
use Rattle.gas_model.specs.Rows.{Network}
use Rattle.flat_text.specs.Text.{flat_of}
use Rattle.element_fields.specs.Files.{file_in}
use Rattle.net_reader.specs.declared.rows.NetRows.{NetRows}
use Rattle.net_reader.specs.Network.{network_rows}
use Rattle.scn_reader.specs.declared.rows.ScnRows.{ScnRows}
use Rattle.scn_reader.specs.Scenario.{scenario_rows}
use Rattle.cdf_reader.specs.declared.rows.CdfRows.{CdfRows}
use Rattle.cdf_reader.specs.Groups.{combined_rows}
use Rattle.file_faults.specs.declared.table.ResFault.{ResFault}
use Rattle.res_table.specs.declared.rows.ResRow.{ResRow}
use Rattle.res_table.specs.declared.rows.ResRows.{ResRows}
use Rattle.res_table.specs.Table.{resistance_rows}
use Rattle.network.specs.Joined.{joined_problem}
use Rattle.command_core.specs.declared.status.InputFault.{InputFault}
use Rattle.command_core.specs.declared.status.InputFault.TheVariants.{OfFile, OfFlat, OfJoin, OfRes}
use Rattle.command_core.specs.declared.status.InputFile.TheVariants.{Cdf, Flat, Join, Net, Res, Scn}
use Rattle.command_core.specs.Gates.{Files, FileIs, absent, stands, judged, file_is, standing, Gate, gate_of, text_limit, with_fault}
use Rattle.problem_files.specs.declared.source.Source.{Source}
use Rattle.problem_files.specs.declared.source.Source.TheVariants as source
use Rattle.problem_files.specs.declared.four_files.FourFiles.{FourFiles}

-- a network file, a scenario file, a decision file, if there is one, and a table of resistances, by their names
pub record FourNames : Type 0 where
  pub net : List ℕ
  pub scn : List ℕ
  pub cdf : Option (List ℕ)
  pub res : List ℕ

abbrev pub names_of : FourFiles → FourNames
names_of four = record { net = four.net.now; scn = four.scn.now; cdf = option_map (λ name. name.now) four.cdf; res = four.res.now }

-- the files of a problem, by their names
pub data Origin : Type 0 where
  -- a flat problem
  flat : List ℕ → Origin
  -- four files, which are joined
  joined : FourNames → Origin

abbrev pub origin_of : Source → Origin
origin_of (source.Flat name) = flat name.now
origin_of (source.Joined four) = joined (names_of four)

-- the problem that the bytes of a flat text stand for
abbrev pub flat_problem : List ℕ → Result Network InputFault
flat_problem bytes = with_fault OfFlat (flat_of bytes)

-- the rows that the bytes of a network file, a scenario file or a decision file stand for
abbrev pub net_rows : List ℕ → Result NetRows InputFault
net_rows bytes = with_fault OfFile (file_in network_rows bytes)

abbrev pub scn_rows : List ℕ → Result ScnRows InputFault
scn_rows bytes = with_fault OfFile (file_in scenario_rows bytes)

abbrev pub cdf_rows : List ℕ → Result CdfRows InputFault
cdf_rows bytes = with_fault OfFile (file_in combined_rows bytes)

abbrev pub table_of : Result (List ResRow) ResFault → Result ResRows ResFault
table_of (Ok rows) = Ok (record { rows = rows })
table_of (Err e) = Err e

-- the rows that the bytes of a table of resistances stand for
abbrev pub res_rows : List ℕ → Result ResRows InputFault
res_rows bytes = with_fault OfRes (table_of (resistance_rows bytes))

-- the groups of a decision file; without one there are none
abbrev pub cdf_is : Option (List ℕ) → Files → FileIs CdfRows
cdf_is None files = stands (record { groups = [] })
cdf_is (Some name) files = file_is text_limit cdf_rows (files name)

-- what rows make together, where all are there
abbrev pub joined_is : FileIs NetRows → FileIs ScnRows → FileIs CdfRows → FileIs ResRows → FileIs Network
joined_is (stands net) (stands scn) (stands cdf) (stands res) = judged (with_fault OfJoin (joined_problem net scn cdf res))
joined_is net scn cdf res = absent

-- what the four files make together
abbrev pub four_is : FourNames → Files → FileIs Network
four_is four files = joined_is (file_is text_limit net_rows (files four.net)) (file_is text_limit scn_rows (files four.scn)) (cdf_is four.cdf files) (file_is text_limit res_rows (files four.res))

-- the problem that the files stand for
abbrev pub problem_is : Origin → Files → FileIs Network
problem_is (flat name) files = file_is text_limit flat_problem (files name)
problem_is (joined four) files = four_is four files

abbrev pub cdf_gates : Option (List ℕ) → List Gate
cdf_gates None = []
cdf_gates (Some name) = gate_of Cdf text_limit cdf_rows name ∷ []

-- what is joined has no file of its own
abbrev pub join_gate : FourNames → Gate
join_gate four = record { file = Join; name = None; stands_there = λ files. standing (four_is four files) }

-- the four files, each by itself, and then what they make together
abbrev pub four_gates : FourNames → List Gate
four_gates four =
    gate_of Net text_limit net_rows four.net ∷ [] ++ (gate_of Scn text_limit scn_rows four.scn ∷ [] ++ (cdf_gates four.cdf ++ (gate_of Res text_limit res_rows four.res ∷ [] ++ join_gate four ∷ [])))

abbrev pub problem_gates : Origin → List Gate
problem_gates (flat name) = gate_of Flat text_limit flat_problem name ∷ []
problem_gates (joined four) = four_gates four
