use Rattle.std.proofs.Common.{◌≡◌, length, ◌<◌, [], ◌∷◌, ◌++◌, ap, ◌∙◌, sym, subst}
use Rattle.std.proofs.Common.{Vec, Global}
use Rattle.box_split.specs.declared.forks.Fork.{Fork}
use Rattle.box_split.specs.declared.forks.Fork.TheVariants.{Group}
use Rattle.look_ahead.specs.Views.{CanForkAll}
use Rattle.look_ahead.proofs.Begins.{group_can, one_more}
use Rattle.look_ahead.proofs.forks.add_groups.Goals as goal
use Rattle.look_ahead.proofs.forks.add_groups.Goals.{then-not-is_picked+in_ok-push, else-not-is_picked}

pub loop-group-preserved : goal.loop-group-preserved
loop-group-preserved c =
    elim c.if-not-is_picked.branch [
      | then-not-is_picked+in_ok-push w ↦
          let lt : c.loop-group.group < length c.args.p.now.groups = rw c.groups.ensures.rows at c.loop-group-test.true in
          let items : c.if-not-is_picked.forks.items ≡ c.loop-group.forks.items ++ Group c.loop-group.group ∷ [] = ap (λ (v : Vec Fork Global). v.items) w.forks-is ∙ w.in_ok-push.ensures.items in
          subst (CanForkAll c.args.p.now c.args.view.now) (sym items)
          (one_more c.args.p.now c.args.view.now c.loop-group.forks.items (Group c.loop-group.group) c.loop-group.invariant (group_can c.args.p.now c.args.view.now c.loop-group.group c.requires.view lt))
      | else-not-is_picked w ↦ subst (λ (v : Vec Fork Global). CanForkAll c.args.p.now c.args.view.now v.items) (sym w.forks-is) c.loop-group.invariant
    ]
