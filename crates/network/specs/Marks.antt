-- Which words and ids of rows were seen.
use Rattle.std.specs.Prelude.{ℕ, List, Bool, false}
use Rattle.base_types.specs.Names.{is_among}
use Rattle.res_table.specs.declared.rows.ResWord.{ResWord}
use Rattle.res_table.specs.declared.rows.ResWord.TheVariants.{Pipe, Resistor, Station}
use Rattle.network.specs.declared.marks.Marks.{Marks}

abbrev pub is_marked : Marks → ResWord → List ℕ → Bool
is_marked marks Pipe id = is_among marks.pipes id
is_marked marks Resistor id = is_among marks.resistors id
is_marked marks Station id = is_among marks.stations id

abbrev pub nothing_marked : ResWord → List ℕ → Bool
nothing_marked w id = false
