use Rattle.element_fields.proofs.FileReads.{found, only, fails, only_fault}
use Rattle.net_reader.specs.Network.{network_rows}
use Rattle.net_reader.proofs.network.read_net.Goals as goal

pub returns-clause-found : goal.returns-clause-found
returns-clause-found c = found network_rows c.args.bytes.now c.rows_in.result c.rows_in.ensures

pub returns-clause-only : goal.returns-clause-only
returns-clause-only c = λ rows h. only network_rows c.args.bytes.now c.rows_in.result rows c.rows_in.ensures h

pub returns-clause-fails : goal.returns-clause-fails
returns-clause-fails c = fails network_rows c.args.bytes.now c.rows_in.result c.rows_in.ensures

pub returns-clause-only_fault : goal.returns-clause-only_fault
returns-clause-only_fault c = λ f h. only_fault network_rows c.args.bytes.now c.rows_in.result f c.rows_in.ensures h
