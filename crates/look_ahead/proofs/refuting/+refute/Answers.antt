use Rattle.std.proofs.Common.{◌<◌, subst, sym, length}
use Rattle.std.specs.Prelude.{List, get_or}
use Rattle.std.proofs.lemmas.List.Elements.{All-get_or}
use Rattle.tree_cert.specs.declared.line.Head.{Head}
use Rattle.tree_cert.specs.declared.line.Head.TheVariants.{Take}
use Rattle.look_ahead.specs.declared.refuting.End.{End}
use Rattle.look_ahead.specs.Ends.{Leaves}
use Rattle.look_ahead.specs.Views.{CanBegin}
use Rattle.look_ahead.proofs.refuting.+refute.Goals as goal

pub child_of-requires-clause-begins : goal.child_of-requires-clause-begins
child_of-requires-clause-begins t c =
    let end = subst (λ (e : End). Leaves c.args.p.now c.work.new.view e) c.in-Split.is c.in_ok-work.ensures.end in
    let heads = c.as_slice-head-items.ensures in
    let index : c.loop-head.head-index < length c.in-Split.children.heads = rw heads at c.loop-head-test.true in
    subst (λ (hs : List Head). CanBegin c.args.p.now c.work.new.view (get_or hs c.loop-head.head-index (Take 0 0))) (sym heads)
    (All-get_or (CanBegin c.args.p.now c.work.new.view) c.in-Split.children.heads c.loop-head.head-index (Take 0 0) index end.1)
