use Rattle.element_fields.proofs.FileReads.{found, only, fails, only_fault}
use Rattle.scn_reader.specs.Scenario.{scenario_rows}
use Rattle.scn_reader.proofs.scenario.read_scn.Goals as goal

pub returns-clause-found : goal.returns-clause-found
returns-clause-found c = found scenario_rows c.args.bytes.now c.rows_in.result c.rows_in.ensures

pub returns-clause-only : goal.returns-clause-only
returns-clause-only c = λ rows h. only scenario_rows c.args.bytes.now c.rows_in.result rows c.rows_in.ensures h

pub returns-clause-fails : goal.returns-clause-fails
returns-clause-fails c = fails scenario_rows c.args.bytes.now c.rows_in.result c.rows_in.ensures

pub returns-clause-only_fault : goal.returns-clause-only_fault
returns-clause-only_fault c = λ f h. only_fault scenario_rows c.args.bytes.now c.rows_in.result f c.rows_in.ensures h
