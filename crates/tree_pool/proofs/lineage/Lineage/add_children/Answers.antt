use Rattle.std.proofs.Common.{◌++◌, ap, ◌∙◌}
use Rattle.tree_pool.proofs.PathsOf.{arena_done, hung_done}
use Rattle.tree_pool.proofs.lineage.Lineage.add_children.Goals as goal

pub invariant_of-self-2 : goal.invariant_of-self-2
invariant_of-self-2 c =
    arena_done c.self.inside.places.items c.append_places.new.places.items c.args.id c.args.count c.args.self.now c.self.view_is c.self.invariant c.requires.within c.requires.room
    (c.in_ok-append_places.ensures.ok ∙ ap (λ fresh. c.self.inside.places.items ++ fresh) c.in_ok-fresh.ensures)

pub returns-clause-ok : goal.returns-clause-ok
returns-clause-ok c =
    hung_done c.self.inside.places.items c.append_places.new.places.items c.args.id c.args.count c.args.self.now c.self.view_is c.requires.within
    (c.in_ok-append_places.ensures.ok ∙ ap (λ fresh. c.self.inside.places.items ++ fresh) c.in_ok-fresh.ensures)
