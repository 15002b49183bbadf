use Rattle.std.proofs.Common.{Some, None}
use Rattle.box_pool.specs.Origins.{origin_of}
use Rattle.box_pool.proofs.Pooled.{there}
use Rattle.box_pool.proofs.pool.Pool.look.Goals as goal

pub view-requires : goal.view-requires
view-requires c =
    c.requires.fits c.args.id (origin_of c.in-Some.spot)
    (there c.self.inside.tree c.self.inside.spots.items c.args.self.now c.args.id c.index.result.now (Some c.in-Some.spot) c.self.view_is c.self.invariant c.requires.id c.index.ensures c.in-Some.is)

pub returns-in-None : goal.returns-in-None
returns-in-None c = there c.self.inside.tree c.self.inside.spots.items c.args.self.now c.args.id c.index.result.now None c.self.view_is c.self.invariant c.requires.id c.index.ensures c.in-None.is

pub returns-in_ok-view-in-Some : goal.returns-in_ok-view-in-Some
returns-in_ok-view-in-Some c = (
  origin_of c.in-Some.spot,
  there c.self.inside.tree c.self.inside.spots.items c.args.self.now c.args.id c.index.result.now (Some c.in-Some.spot) c.self.view_is c.self.invariant c.requires.id c.index.ensures c.in-Some.is,
  c.in_ok-view-in-Some.ensures,
)
