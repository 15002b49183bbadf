use Rattle.tree_pool.proofs.Earliest.{better_stays, better_moves, better_keeps}
use Rattle.tree_pool.proofs.pool.better.Goals as goal

pub returns-then-not-waits-clause-first : goal.returns-then-not-waits-clause-first
returns-then-not-waits-clause-first c =
    better_stays c.args.places.now c.args.nodes.now c.requires.sized c.requires.apart c.args.i c.args.best c.index-nodes-i.result c.requires.within c.index-nodes-i.is
    (let a = c.waits.ensures in let b = c.if-not-waits.true in cc) c.requires.before

pub returns-in-Less-clause-first : goal.returns-in-Less-clause-first
returns-in-Less-clause-first c =
    better_moves c.args.places.now c.args.nodes.now c.requires.sized c.requires.apart c.args.i c.args.best c.index-nodes-i.result c.requires.within c.index-nodes-i.is
    (let a = c.waits.ensures in let b = c.if-not-waits.false in cc) (let a = c.compare.ensures in let b = c.in-Less.is in cc) c.requires.before

pub returns-in_default-clause-first : goal.returns-in_default-clause-first
returns-in_default-clause-first c =
    better_keeps c.args.places.now c.args.nodes.now c.requires.sized c.requires.apart c.args.i c.args.best c.index-nodes-i.result c.requires.within c.index-nodes-i.is
    (λ e. c.in_default.not-Less (let a = c.compare.ensures in cc)) c.requires.before
