use Rattle.std.proofs.Common.{◌≡◌, subst, None}
use Rattle.std.specs.Prelude.{Option}
use Rattle.box_pool.specs.declared.forks.Children.{Children}
use Rattle.box_pool.proofs.StillFits.{has_fork, not_least, split_fits}
use Rattle.search_tests.proofs.box_pools.split.Goals as goal

pub children_of-requires : goal.children_of-requires
children_of-requires c =
    let view = c.in_ok-view.view in
    let fits = c.in_ok-view.ensures in
    let has = has_fork c.args.p.now view c.deref.result.now c.deref-2.result.now c.deref-3.result.now c.branch-fork.result c.deref.ensures c.deref-2.ensures c.deref-3.ensures fits c.branch-fork.ensures in
    c.forks_are_of_the_problem.ensures c.args.p.now view.part.value view.bounds.value view.turn c.branch-fork.result c.requires.within fits.bounds has

pub give_back-requires-clause-end : goal.give_back-requires-clause-end
give_back-requires-clause-end c =
    let view = c.in_ok-view.view in
    let fits = c.in_ok-view.ensures in
    let has = has_fork c.args.p.now view c.deref.result.now c.deref-2.result.now c.deref-3.result.now c.branch-fork.result c.deref.ensures c.deref-2.ensures c.deref-3.ensures fits c.branch-fork.ensures in
    let of = c.forks_are_of_the_problem.ensures c.args.p.now view.part.value view.bounds.value view.turn c.branch-fork.result c.requires.within fits.bounds has in
    let wide = not_least c.branch-fork.result c.in-Some.children (λ e. subst (λ (o : Option Children). o ≡ None) c.in-Some.is (c.in_ok-children.ensures.least e)) in
    (fits, of, has, wide)

pub returns : goal.returns
returns c =
    let view = c.in_ok-view.view in
    let fits = c.in_ok-view.ensures in
    let has = has_fork c.args.p.now view c.deref.result.now c.deref-2.result.now c.deref-3.result.now c.branch-fork.result c.deref.ensures c.deref-2.ensures c.deref-3.ensures fits c.branch-fork.ensures in
    let wide = not_least c.branch-fork.result c.in-Some.children (λ e. subst (λ (o : Option Children). o ≡ None) c.in-Some.is (c.in_ok-children.ensures.least e)) in
    split_fits c.args.p.now c.args.pool.now c.give_back.new.self c.args.n c.new.result c.branch-fork.result view c.requires.within fits has wide c.requires.fits c.in_ok-give_back.ensures.ok
