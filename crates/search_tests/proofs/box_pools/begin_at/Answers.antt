use Rattle.box_pool.proofs.StillFits.{new_fits}
use Rattle.search_tests.proofs.box_pools.begin_at.Goals as goal

pub returns-clause-fits : goal.returns-clause-fits
returns-clause-fits c =
    new_fits c.args.p.now c.in_ok-part.part c.in_ok-bounds.bounds c.in_ok-at.field-0
    c.in_ok-part.ensures.fits c.in_ok-bounds.ensures.fits c.in_ok-at.ensures.new
