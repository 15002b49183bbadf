use Rattle.name_places.proofs.Indexed.{look_set}
use Rattle.name_places.proofs.by_name.set_value.Goals as goal

pub returns-in-Ok : goal.returns-in-Ok
returns-in-Ok g c = look_set c.args.name.now c.args.values.now c.insert.new.self _ c.in-Ok.ensures.updates
