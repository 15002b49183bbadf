use Rattle.std.proofs.Common.{◌-◌, inl, inr, arith}
use Rattle.std.proofs.lemmas.Bool.Decides.{nat_tests}
use Rattle.tree_pool.proofs.pool.stays_in_order.Goals as goal

pub returns-then-last-eq0 : goal.returns-then-last-eq0
returns-then-last-eq0 c so = (let a = c.if-not-in_order.false in grind arith, inl (let a = c.if-last-eq0.true in let b = c.requires.count in let d = c.requires.within in omega arith))

pub at-requires : goal.at-requires
at-requires c = let b = c.requires.count in let d = c.requires.within in omega arith

pub returns : goal.returns
returns c so =
    let b = c.requires.count in
    let d = c.requires.within in (
      let a = c.if-not-in_order.false in grind arith,
      inr (c.at.result.nth, c.at.result.parent, c.args.count - 1, grind (arith, nat_tests), omega arith, c.at.ensures.path c.if-last-eq0.false),
    )
