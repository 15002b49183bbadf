use Rattle.std.proofs.Common.{subst}
use Rattle.std.specs.Prelude.{Option}
use Rattle.box_pool.specs.declared.open_box.BoxView.{BoxView}
use Rattle.box_pool.specs.Pools.{Looks}
use Rattle.box_pool.proofs.StillFits.{seen_fits}
use Rattle.search_tests.proofs.box_pools.look.Goals as goal

pub returns : goal.returns
returns c = seen_fits c.args.p.now c.args.pool.now c.args.n c.in-Some.view c.requires.fits (subst (λ (o : Option BoxView). Looks c.args.p.now c.args.pool.now c.args.n o) c.in-Some.is c.in_ok-view.ensures)
