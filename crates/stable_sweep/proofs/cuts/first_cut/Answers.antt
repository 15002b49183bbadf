use Rattle.std.proofs.Common.{◌∙◌, ap, length}
use Rattle.stable_sweep.proofs.ComponentCuts.{roots_known, roots_within, is_cut, none_cuts, nodes_with}
use Rattle.stable_sweep.proofs.cuts.first_cut.Goals as goal

pub supplies-requires-clause-count : goal.supplies-requires-clause-count
supplies-requires-clause-count c = roots_known _ _ _ c.requires.1

pub supplies-requires-clause-roots : goal.supplies-requires-clause-roots
supplies-requires-clause-roots c = roots_within _ _ _ c.requires.1

pub returns-in_default : goal.returns-in_default
returns-in_default c = λ part shape. none_cuts c.args.p.now part c.args.shape.now c.in_ok-all.all.items shape c.in_ok-all.ensures (rw c.as_slice.ensures.value at c.in_default.ensures)

pub returns : goal.returns
returns c = λ part shape. is_cut c.args.p.now part c.args.shape.now c.in_ok-all.all.items c.in-Some.root _ c.nodes.ensures.within shape c.in_ok-all.ensures (rw c.as_slice.ensures.value at c.in-Some.ensures) (c.in_ok-nodes_of.ensures ∙ ap (λ xs. nodes_with c.args.shape.now.root_of c.in-Some.root (length xs)) c.nodes.ensures.rows)
