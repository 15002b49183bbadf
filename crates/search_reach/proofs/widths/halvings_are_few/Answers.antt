use Rattle.search_reach.proofs.WidthLaws.{few_halvings_where_halted, few_halvings_where_refuted}
use Rattle.search_reach.proofs.widths.halvings_are_few.Goals as goal

pub returns-clause-halted : goal.returns-clause-halted
returns-clause-halted c = few_halvings_where_halted

pub returns-clause-refuted : goal.returns-clause-refuted
returns-clause-refuted c = few_halvings_where_refuted
