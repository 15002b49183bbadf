use Rattle.element_fields.proofs.FileReads.{found, only, fails, only_fault}
use Rattle.cdf_reader.specs.Groups.{combined_rows}
use Rattle.cdf_reader.proofs.groups.read_cdf.Goals as goal

pub returns-clause-found : goal.returns-clause-found
returns-clause-found c = found combined_rows c.args.bytes.now c.rows_in.result c.rows_in.ensures

pub returns-clause-only : goal.returns-clause-only
returns-clause-only c = λ rows h. only combined_rows c.args.bytes.now c.rows_in.result rows c.rows_in.ensures h

pub returns-clause-fails : goal.returns-clause-fails
returns-clause-fails c = fails combined_rows c.args.bytes.now c.rows_in.result c.rows_in.ensures

pub returns-clause-only_fault : goal.returns-clause-only_fault
returns-clause-only_fault c = λ f h. only_fault combined_rows c.args.bytes.now c.rows_in.result f c.rows_in.ensures h
