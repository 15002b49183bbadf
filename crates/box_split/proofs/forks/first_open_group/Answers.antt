use Rattle.std.proofs.Common.{length, ◌<◌, ℕ, sym, ap, ◌∙◌, arith, is_none, not, List, Option}
use Rattle.gas_model.specs.Rulings.{pick_in}
use Rattle.box_split.proofs.Firsts.{first_some, first_none}
use Rattle.box_split.proofs.forks.first_open_group.Goals as goal

pub returns-then-is_none : goal.returns-then-is_none
returns-then-is_none c =
    let long = ap length c.groups-k-end.ensures.rows in
    sym (first_some (λ k. is_none (pick_in c.args.state.now.picks k)) (length c.args.p.now.groups) c.loop-k.k (omega arith) (ap (λ (xs : List (Option ℕ)). is_none (pick_in xs c.loop-k.k)) (sym c.as_slice-picks.ensures) ∙ ap not (c.is_none.ensures ∙ ap not c.if-is_none.true)) c.loop-k.invariant)

pub returns : goal.returns
returns c =
    let long = ap length c.groups-k-end.ensures.rows in
    sym (first_none (λ k. is_none (pick_in c.args.state.now.picks k)) (length c.args.p.now.groups) (λ k h. c.loop-k.invariant k (omega arith)))
