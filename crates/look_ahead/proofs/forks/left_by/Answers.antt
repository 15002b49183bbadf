use Rattle.std.proofs.Common.{◌<◌, subst, sym, length}
use Rattle.std.specs.Prelude.{List, Option, get_or}
use Rattle.tree_cert.specs.declared.line.Head.{Head}
use Rattle.tree_cert.specs.declared.line.Head.TheVariants.{Take}
use Rattle.box_pool.specs.declared.forks.Children.{Children}
use Rattle.box_pool.specs.Forks.{HasChildren}
use Rattle.look_ahead.specs.Views.{CanBegin}
use Rattle.look_ahead.proofs.Begins.{child_begins}
use Rattle.look_ahead.proofs.forks.left_by.Goals as goal

pub stays_open-requires-clause-begins : goal.stays_open-requires-clause-begins
stays_open-requires-clause-begins c =
    let are = subst (λ (o : Option Children). HasChildren c.args.p.now c.deref.result.now c.args.fork o) c.in-Some.is c.in_ok-children.ensures.children in
    let heads = c.as_slice-head-items.ensures in
    let index : c.loop-head.head-index < length c.in-Some.children.heads = rw heads at c.loop-head-test.true in
    subst (λ (hs : List Head). CanBegin c.args.p.now c.args.view.now (get_or hs c.loop-head.head-index (Take 0 0))) (sym heads)
    (child_begins c.args.p.now c.args.view.now c.args.fork c.deref.result.now c.in-Some.children c.loop-head.head-index c.requires.fork c.deref.ensures are index)
