use Rattle.std.proofs.Common.{sym, ◌∙◌}
use Rattle.box_pool.specs.Grid.{pool_scale}
use Rattle.nom_search.proofs.Views.{comes_of, stays, settled_by}
use Rattle.nom_search.proofs.searching.settled.Goals as goal

pub settle_child-requires-clause-comes : goal.settle_child-requires-clause-comes
settle_child-requires-clause-comes c = comes_of c.args.p.now c.args.view.now c.deref-3.result.now c.in_ok-bounds.bounds c.deref-3.ensures (c.in_ok-bounds.ensures ∙ c.deref.ensures) c.requires.comes

pub move_to-requires : goal.move_to-requires
move_to-requires c = λ none.
    stays c.args.p.now pool_scale c.deref-3.result.now c.in_ok-bounds.bounds c.settle_child.new.b c.new-steps.result c.settle_child.new.out c.new-steps.ensures c.settle_child.ensures.extends (sym c.as_slice.ensures ∙ none)
    ∙ (c.in_ok-bounds.ensures ∙ c.deref.ensures)

pub returns-clause-settled : goal.returns-clause-settled
returns-clause-settled c =
    settled_by c.args.p.now c.args.view.now c.move_to.new.view c.deref-3.result.now c.in_ok-bounds.bounds c.settle_child.new.b c.new-steps.result c.settle_child.new.out c.in_ok-end.end c.deref-3.ensures
    (c.in_ok-bounds.ensures ∙ c.deref.ensures) c.new-steps.ensures c.in_ok-move_to.ensures.part c.in_ok-move_to.ensures.shape c.in_ok-move_to.ensures.turn c.in_ok-move_to.ensures.bounds c.requires.fits
    c.settle_child.ensures.bounds c.settle_child.ensures.extends c.in_ok-end.ensures.settled
