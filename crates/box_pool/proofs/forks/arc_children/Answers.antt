use Rattle.std.proofs.Common.{refl, ap, sym, ◌∙◌, map}
use Rattle.std.specs.Prelude.{get_or, []}
use Rattle.std.specs.Option.{option_map_or}
use Rattle.std.proofs.lemmas.Option.{slice_get-get_or}
use Rattle.tree_cert.specs.declared.line.Head.TheVariants.{State}
use Rattle.box_pool.specs.Forks.{state_heads}
use Rattle.topo.specs.Graphs.{no_arc}
use Rattle.box_pool.proofs.forks.arc_children.Goals as goal

pub returns : goal.returns
returns c =
    let row = get_or c.args.p.now.arcs c.args.arc no_arc in
    let here = slice_get-get_or c.args.p.now.arcs c.args.arc no_arc c.requires in
    let left = c.in_ok-states.ensures row here in
    record {
      by = refl;
      heads =
          c.in_ok-state_heads.ensures ∙ ap (map (State c.args.arc)) (c.deref.ensures.value ∙ left)
          ∙ sym (ap (λ o. option_map_or (state_heads c.args.p.now c.args.part.now c.args.arc) o []) here);
      next = refl;
    }
