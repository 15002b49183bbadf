use Rattle.std.proofs.Common.{sym, ap, ◌∙◌, subst, ◌≤◌, List, length}
use Rattle.base_types.specs.declared.variables.Var.{Var}
use Rattle.box_split.specs.Forks.{AreVars}
use Rattle.box_split.specs.Parts.{halving}
use Rattle.box_split.proofs.Others.{fork_halving}
use Rattle.box_split.proofs.Listed.{split_vars, split_few}
use Rattle.box_split.proofs.forks.branch.Goals as goal

pub halving-requires-clause-few : goal.halving-requires-clause-few
halving-requires-clause-few g c = subst (λ (xs : List Var). length xs ≤ 6000) (sym c.split_list.ensures) (split_few c.args.p.now c.args.state.now c.args.shape.now c.args.b.now c.in_default-first_free_arc.ensures.within c.requires.shape c.requires.fits)

pub halving-requires-clause-vars : goal.halving-requires-clause-vars
halving-requires-clause-vars g c = subst (AreVars c.args.b.now) (sym c.split_list.ensures) (split_vars c.args.p.now c.args.state.now c.args.shape.now c.args.b.now c.in_default-first_free_arc.ensures.within c.requires.shape c.requires.fits)

pub returns : goal.returns
returns g c =
    c.halving.ensures ∙ ap (λ (xs : List Var). halving c.args.p.now xs c.args.b.now c.args.turn) c.split_list.ensures
    ∙ fork_halving c.args.p.now c.args.shape.now.split_list c.args.state.now c.args.b.now c.args.turn (sym c.in_default.ensures) (sym c.in_default-first_free_arc.ensures.first)
