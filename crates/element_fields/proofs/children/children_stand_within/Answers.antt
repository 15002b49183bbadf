use Rattle.element_fields.proofs.Within.{children_within, child_first}
use Rattle.element_fields.proofs.children.children_stand_within.Goals as goal

pub returns-clause-within : goal.returns-clause-within
returns-clause-within c = children_within

pub returns-clause-first : goal.returns-clause-first
returns-clause-first c = child_first
