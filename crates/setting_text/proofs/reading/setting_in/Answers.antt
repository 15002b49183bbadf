use Rattle.setting_text.proofs.Ids.{few_decisions}
use Rattle.setting_text.proofs.reading.setting_in.Goals as goal

pub picks_in-requires-clause-few : goal.picks_in-requires-clause-few
picks_in-requires-clause-few c = rw c.groups-groups.ensures.rows (few_decisions c.args.p.now c.groups-groups.ensures.within)
