use Rattle.std.proofs.Common.{◌≡◌, length, ◌<◌, [], ◌∷◌, ◌++◌, ap, ◌∙◌, sym, subst}
use Rattle.std.proofs.Common.{Vec, Global}
use Rattle.box_split.specs.declared.forks.Fork.{Fork}
use Rattle.box_split.specs.declared.forks.Fork.TheVariants.{Free}
use Rattle.look_ahead.specs.Views.{CanForkAll}
use Rattle.look_ahead.proofs.Begins.{arc_can, one_more}
use Rattle.look_ahead.proofs.forks.add_arcs.Goals as goal
use Rattle.look_ahead.proofs.forks.add_arcs.Goals.{then-is_free+in_ok-push, else-is_free}

pub loop-arc-preserved : goal.loop-arc-preserved
loop-arc-preserved c =
    elim c.if-is_free.branch [
      | then-is_free+in_ok-push w ↦
          let lt : c.loop-arc.arc < length c.args.p.now.arcs = rw c.arcs.ensures.rows at c.loop-arc-test.true in
          let items : c.if-is_free.forks.items ≡ c.loop-arc.forks.items ++ Free c.loop-arc.arc ∷ [] = ap (λ (v : Vec Fork Global). v.items) w.forks-is ∙ w.in_ok-push.ensures.items in
          subst (CanForkAll c.args.p.now c.args.view.now) (sym items)
          (one_more c.args.p.now c.args.view.now c.loop-arc.forks.items (Free c.loop-arc.arc) c.loop-arc.invariant (arc_can c.args.p.now c.args.view.now c.loop-arc.arc c.requires.view lt))
      | else-is_free w ↦ subst (λ (v : Vec Fork Global). CanForkAll c.args.p.now c.args.view.now v.items) (sym w.forks-is) c.loop-arc.invariant
    ]
