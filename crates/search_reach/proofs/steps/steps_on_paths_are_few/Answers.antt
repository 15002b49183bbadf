use Rattle.search_reach.proofs.StepLaws.{few_where_halted, few_where_refuted, few_where_worked}
use Rattle.search_reach.proofs.steps.steps_on_paths_are_few.Goals as goal

pub returns-clause-halted : goal.returns-clause-halted
returns-clause-halted c = few_where_halted

pub returns-clause-refuted : goal.returns-clause-refuted
returns-clause-refuted c = few_where_refuted

pub returns-clause-worked : goal.returns-clause-worked
returns-clause-worked c = few_where_worked
