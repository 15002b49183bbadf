use Rattle.gas_model.specs.Choices.{fresh_part}
use Rattle.gas_model.specs.Boxes.{opening}
use Rattle.box_pool.specs.Grid.{pool_scale}
use Rattle.gas_model.proofs.BoxFacts.{opening_fits}
use Rattle.gas_model.proofs.FreshPart.{fresh_fits}
use Rattle.box_pool.proofs.StillFits.{new_fits}
use Rattle.search_tests.proofs.box_pools.begin.Goals as goal

pub returns-clause-fits : goal.returns-clause-fits
returns-clause-fits c =
    new_fits c.args.p.now (fresh_part c.args.p.now) (opening pool_scale c.args.p.now) c.in_ok-new.field-0 (fresh_fits c.args.p.now) (opening_fits pool_scale c.args.p.now) c.in_ok-new.ensures.new
