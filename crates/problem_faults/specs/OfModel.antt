-- An offence of the rows of a problem as one of joining.
use Rattle.gas_model.specs.declared.rows.ModelFault.{ModelFault}
use Rattle.gas_model.specs.declared.rows.ModelFault.TheVariants as model
use Rattle.problem_faults.specs.declared.join.JoinFault.{JoinFault}
use Rattle.problem_faults.specs.declared.join.JoinFault.TheVariants as fault

-- an offence of the rows of a problem; want of memory is none
abbrev pub of_model : ModelFault → JoinFault
of_model model.NoMemory = fault.NoMemory
of_model (model.TooMany what) = fault.Model (model.TooMany what)
of_model (model.TwiceNamed id) = fault.Model (model.TwiceNamed id)
of_model (model.OverLimit id) = fault.Model (model.OverLimit id)
of_model (model.NoSuchNode arc id) = fault.Model (model.NoSuchNode arc id)
of_model (model.SameEnds arc) = fault.Model (model.SameEnds arc)
of_model (model.EmptyGroup group) = fault.Model (model.EmptyGroup group)
of_model (model.NoSuchArc group id) = fault.Model (model.NoSuchArc group id)
of_model (model.NotActive group arc) = fault.Model (model.NotActive group arc)
of_model (model.TwiceDecided arc) = fault.Model (model.TwiceDecided arc)
