-- The rules that move a flow.
use Rattle.std.specs.Prelude.{Option, Some, None}
use Rattle.gas_model.specs.declared.law_forms.LawForm.{LawForm}
use Rattle.gas_model.specs.declared.law_forms.LawForm.TheVariants.{Drags, Shuts, Loses, Reduces, Raises}
use Rattle.tree_cert.specs.declared.line.Rule.{Rule}
use Rattle.tree_cert.specs.declared.line.Rule.TheVariants.{Pipe, Zero, Way, Sign}

-- the one rule by which the law of an arc moves its flow
abbrev pub flow_rule : LawForm → Option Rule
flow_rule (Drags law) = Some Pipe
flow_rule Shuts = Some Zero
flow_rule (Loses low high) = Some Sign
flow_rule (Reduces in_min out_max red_min red_max) = Some Way
flow_rule (Raises in_min out_max ratio_num ratio_den rise_max) = Some Way
flow_rule form = None
