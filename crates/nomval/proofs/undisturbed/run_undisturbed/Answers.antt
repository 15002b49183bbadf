use Rattle.nomval.specs.Commands.{meaning}
use Rattle.nomval.proofs.NeverRises.{never_any, never_written, unexcused}
use Rattle.nomval.proofs.undisturbed.run_undisturbed.Goals as goal

pub returns-clause-no_read_fault : goal.returns-clause-no_read_fault
returns-clause-no_read_fault c = λ e. let f = c.run.ensures.read_fault e in never_any (meaning f.0).gates c.args.desk.now c.run.new.desk f.2

pub returns-clause-no_write_fault : goal.returns-clause-no_write_fault
returns-clause-no_write_fault c = λ e. never_written c.args.desk.now c.run.new.desk (c.run.ensures.write_fault e)

pub returns-clause-complete : goal.returns-clause-complete
returns-clause-complete c = λ command e fine. unexcused (meaning command) c.args.desk.now c.run.new.desk c.run.result (c.run.ensures.complete tt command e fine)

pub returns-clause-due : goal.returns-clause-due
returns-clause-due c = λ command s e due. unexcused (meaning command) c.args.desk.now c.run.new.desk c.run.result (c.run.ensures.due tt command s e due)

pub returns-clause-written : goal.returns-clause-written
returns-clause-written c = λ e. c.run.ensures.written tt e

pub returns-clause-others : goal.returns-clause-others
returns-clause-others c = λ command e. c.run.ensures.others tt command e
