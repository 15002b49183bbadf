use Rattle.std.proofs.Common.{ap, ◌∙◌}
use Rattle.box_pool.specs.declared.open_box.ParentBox.{ParentBox}
use Rattle.box_pool.specs.Pools.{base_of}
use Rattle.box_pool.specs.Origins.{child_origins}
use Rattle.box_pool.proofs.Pooled.{split_length, split_sized, split_origins}
use Rattle.box_pool.proofs.pool.Pool.split.Goals as goal

pub invariant_of-self-in-Ok : goal.invariant_of-self-in-Ok
invariant_of-self-in-Ok c =
    let base = base_of c.args.left c.args.children.by c.args.children.next in
    split_sized c.self.inside.tree c.self.inside.spots.items c.in_ok-fresh.fresh.items c.append.new.self.items c.args.self.now c.args.id c.self.view_is c.self.invariant c.requires.held c.in_ok-append.ensures.items
    base c.args.children.heads c.give_back.new.self (c.in_ok-fresh.ensures ∙ ap (λ (b : ParentBox). child_origins b c.as_slice.result.now) c.base_of-base.ensures ∙ ap (child_origins base) c.as_slice.ensures)
    (split_length c.self.inside.tree c.give_back.new.self c.args.id c.args.steps c.args.children.by c.args.children.heads c.in-Ok.ensures.ok)

pub returns-clause-origins : goal.returns-clause-origins
returns-clause-origins c =
    let base = base_of c.args.left c.args.children.by c.args.children.next in
    split_origins c.self.inside.tree c.self.inside.spots.items c.in_ok-fresh.fresh.items c.append.new.self.items c.args.self.now c.args.id c.self.view_is c.self.invariant c.requires.held c.in_ok-append.ensures.items
    base c.args.children.heads (c.in_ok-fresh.ensures ∙ ap (λ (b : ParentBox). child_origins b c.as_slice.result.now) c.base_of-base.ensures ∙ ap (child_origins base) c.as_slice.ensures)
