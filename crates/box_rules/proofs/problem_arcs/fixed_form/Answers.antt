use Rattle.std.proofs.Common.{ap}
use Rattle.std.proofs.lemmas.Option.{slice_get_within}
use Rattle.std.specs.Prelude.{option_map}
use Rattle.gas_model.specs.Laws.{form_of}
use Rattle.box_rules.proofs.FormLimits.{form_within, row_kind}
use Rattle.box_rules.proofs.problem_arcs.fixed_form.Goals as goal

pub returns-in-None-clause-form : goal.returns-in-None-clause-form
returns-in-None-clause-form c = ap (option_map (form_of c.args.row.now.kind)) (c.in-None.ensures c.args.row.now c.requires.row)

pub returns-in-Some-clause-form : goal.returns-in-Some-clause-form
returns-in-Some-clause-form c = rw (c.form_of.ensures) (ap (option_map (form_of c.args.row.now.kind)) (c.in-Some.ensures c.args.row.now c.requires.row))

pub returns-in-Some-clause-within : goal.returns-in-Some-clause-within
returns-in-Some-clause-within c =
    rw c.form_of.ensures (form_within c.args.row.now.kind c.in-Some.state (row_kind c.args.row.now (c.requires.within.arcs c.args.arc c.args.row.now c.requires.row)))

pub state_of-requires-clause-within : goal.state_of-requires-clause-within
state_of-requires-clause-within c = slice_get_within c.args.p.now.arcs c.args.arc c.args.row.now c.requires.row
