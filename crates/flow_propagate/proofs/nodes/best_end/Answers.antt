use Rattle.std.proofs.Common.{◌≡◌, true, false, to_z, of_z, to_z-of_z, rules, FitsSigned}
use Rattle.std.specs.Int.{w128}
use Rattle.tight_steps.specs.Best.{IsBest, HasNoBest}
use Rattle.tree_rules.specs.Looser.{reaches}
use Rattle.tight_steps.proofs.FirstEnds.{first_low, first_high, first_none, best_same, none_same}
use Rattle.box_rules.specs.Balance.{balance_lets}
use Rattle.flow_propagate.proofs.nodes.best_end.Goals as goal

pub returns-in-Some : goal.returns-in-Some
returns-in-Some c =
    let q = c.args.q in
    let test = balance_lets c.args.leaves c.args.supply c.args.net q in
    let bound : FitsSigned w128 c.balance_bound.result = search rules in
    let value : FitsSigned w128 c.in-Some.value = search rules in
    let raw_best : IsBest true q (reaches true (to_z w128 (of_z w128 c.balance_bound.result))) c.in-Some.value = c.in-Some.ensures in
    let best : IsBest true q (reaches true c.balance_bound.result) c.in-Some.value = simp (to_z-of_z, bound) at raw_best in
    simp (to_z-of_z, value) (first_low q test c.in-Some.value (best_same true q (reaches true c.balance_bound.result) (test true) c.in-Some.value c.balance_bound.ensures best))

pub returns-in_err-value : goal.returns-in_err-value
returns-in_err-value c =
    let q = c.args.q in
    let test = balance_lets c.args.leaves c.args.supply c.args.net q in
    let bound : FitsSigned w128 c.balance_bound.result = search rules in
    let other : FitsSigned w128 c.balance_bound-2.result = search rules in
    let raw_low : HasNoBest true q (reaches true (to_z w128 (of_z w128 c.balance_bound.result))) = c.in_default.ensures in
    let low : HasNoBest true q (reaches true c.balance_bound.result) = simp (to_z-of_z, bound) at raw_low in
    let raw_high : HasNoBest false q (reaches false (to_z w128 (of_z w128 c.balance_bound-2.result))) = c.in_err-value.ensures in
    let high : HasNoBest false q (reaches false c.balance_bound-2.result) = simp (to_z-of_z, other) at raw_high in
    rw c.from_residual.ensures (first_none q test (none_same true q (reaches true c.balance_bound.result) (test true) c.balance_bound.ensures low) (none_same false q (reaches false c.balance_bound-2.result) (test false) c.balance_bound-2.ensures high))

pub returns : goal.returns
returns c =
    let q = c.args.q in
    let test = balance_lets c.args.leaves c.args.supply c.args.net q in
    let bound : FitsSigned w128 c.balance_bound.result = search rules in
    let other : FitsSigned w128 c.balance_bound-2.result = search rules in
    let value : FitsSigned w128 c.in_ok-value.value = search rules in
    let raw_low : HasNoBest true q (reaches true (to_z w128 (of_z w128 c.balance_bound.result))) = c.in_default.ensures in
    let low : HasNoBest true q (reaches true c.balance_bound.result) = simp (to_z-of_z, bound) at raw_low in
    let raw_best : IsBest false q (reaches false (to_z w128 (of_z w128 c.balance_bound-2.result))) c.in_ok-value.value = c.in_ok-value.ensures in
    let best : IsBest false q (reaches false c.balance_bound-2.result) c.in_ok-value.value = simp (to_z-of_z, other) at raw_best in
    simp (to_z-of_z, value) (first_high q test c.in_ok-value.value (none_same true q (reaches true c.balance_bound.result) (test true) c.balance_bound.ensures low) (best_same false q (reaches false c.balance_bound-2.result) (test false) c.in_ok-value.value c.balance_bound-2.ensures best))
