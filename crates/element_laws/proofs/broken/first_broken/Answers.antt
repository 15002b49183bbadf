use Rattle.std.proofs.Common.{to_z-of_z}
use Rattle.element_laws.proofs.NearLaws.{near_from_kept, choice_first, flow_first, pressure_first, balance_first, law_first}
use Rattle.element_laws.proofs.broken.first_broken.Goals as goal

pub returns-in-Some-clause-first : goal.returns-in-Some-clause-first
returns-in-Some-clause-first c = choice_first c.args.p.now c.args.tol c.args.setting.now c.in-Some.arc c.in-Some.ensures

pub returns-in-Some-first_flow_bound-clause-first : goal.returns-in-Some-first_flow_bound-clause-first
returns-in-Some-first_flow_bound-clause-first c =
    flow_first c.args.p.now c.args.tol c.args.setting.now c.in-Some-first_flow_bound.arc c.in_default.ensures c.in-Some-first_flow_bound.ensures

pub returns-in-Some-first_pressure_bound-clause-first : goal.returns-in-Some-first_pressure_bound-clause-first
returns-in-Some-first_pressure_bound-clause-first c =
    pressure_first c.args.p.now c.args.tol c.args.setting.now c.in-Some-first_pressure_bound.node c.in_default.ensures c.in_default-first_flow_bound.ensures c.in-Some-first_pressure_bound.ensures

pub returns-in-Some-first_balance-clause-first : goal.returns-in-Some-first_balance-clause-first
returns-in-Some-first_balance-clause-first c =
    balance_first c.args.p.now c.args.tol c.args.setting.now c.in-Some-first_balance.node c.in_default.ensures c.in_default-first_flow_bound.ensures c.in_default-first_pressure_bound.ensures c.in-Some-first_balance.ensures

pub returns-in-Some-first_law-clause-first : goal.returns-in-Some-first_law-clause-first
returns-in-Some-first_law-clause-first c =
    law_first c.args.p.now c.args.tol c.args.setting.now c.in-Some-first_law.arc c.in_default.ensures c.in_default-first_flow_bound.ensures c.in_default-first_pressure_bound.ensures c.in_default-first_balance.ensures (simp (to_z-of_z, c.ranges.tol) at c.in-Some-first_law.ensures)

pub returns-clause-near : goal.returns-clause-near
returns-clause-near c = near_from_kept c.args.p.now c.args.tol c.args.setting.now c.requires.setting (record {
  choices = c.in_default.ensures;
  flows = c.in_default-first_flow_bound.ensures;
  pressures = c.in_default-first_pressure_bound.ensures;
  balances = c.in_default-first_balance.ensures;
  laws = simp (to_z-of_z, c.ranges.tol) at c.in_default-first_law.ensures;
})
