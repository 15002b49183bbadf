use Rattle.setting_text.proofs.Stands.{answered, from_value, stands_if_ok}
use Rattle.setting_text.proofs.reading.read_setting.Goals as goal

pub returns-clause-stands : goal.returns-clause-stands
returns-clause-stands c =
    stands_if_ok c.args.p.now c.args.bytes.now c.setting_in.result (from_value c.args.p.now c.args.bytes.now _ c.setting_in.result c.in_ok-value.ensures c.setting_in.ensures.exact)

pub returns-clause-answered : goal.returns-clause-answered
returns-clause-answered c = λ s stands.
    answered c.args.p.now c.args.bytes.now s c.setting_in.result c.setting_in.ensures.problem stands
    (from_value c.args.p.now c.args.bytes.now _ c.setting_in.result c.in_ok-value.ensures c.setting_in.ensures.exact)
