use Rattle.std.proofs.Common.{◌≡◌, true, false, to_z, of_z, to_z-of_z, rules, FitsSigned}
use Rattle.std.specs.Int.{w128}
use Rattle.pressure_propagate.specs.SquareRules.{square_at, HasNoRule, IsFirstRule}
use Rattle.pressure_propagate.proofs.SquareMoves.{low_found, high_found, neither_found}
use Rattle.pressure_propagate.proofs.ends.first_end.Goals as goal

pub returns-in-Some : goal.returns-in-Some
returns-in-Some c =
    let form = c.args.form.now in
    let e = c.args.e in
    let x = square_at c.args.from in
    let value : FitsSigned w128 c.in-Some.found.value = search rules in
    let raw_first : IsFirstRule form (to_z w128 (of_z w128 c.args.scale)) e x true c.in-Some.found = c.in-Some.ensures in
    let first : IsFirstRule form c.args.scale e x true c.in-Some.found = simp (to_z-of_z, c.ranges.scale) at raw_first in
    simp (to_z-of_z, value) (low_found form c.args.scale e x c.in-Some.found first)

pub returns-in_err-found : goal.returns-in_err-found
returns-in_err-found c =
    let form = c.args.form.now in
    let e = c.args.e in
    let x = square_at c.args.from in
    let raw_low : HasNoRule form (to_z w128 (of_z w128 c.args.scale)) e x true = c.in_default.ensures in
    let low : HasNoRule form c.args.scale e x true = simp (to_z-of_z, c.ranges.scale) at raw_low in
    let raw_high : HasNoRule form (to_z w128 (of_z w128 c.args.scale)) e x false = c.in_err-found.ensures in
    let high : HasNoRule form c.args.scale e x false = simp (to_z-of_z, c.ranges.scale) at raw_high in
    rw c.from_residual.ensures (neither_found form c.args.scale e x low high)

pub returns : goal.returns
returns c =
    let form = c.args.form.now in
    let e = c.args.e in
    let x = square_at c.args.from in
    let value : FitsSigned w128 c.in_ok-found.found.value = search rules in
    let raw_low : HasNoRule form (to_z w128 (of_z w128 c.args.scale)) e x true = c.in_default.ensures in
    let low : HasNoRule form c.args.scale e x true = simp (to_z-of_z, c.ranges.scale) at raw_low in
    let raw_first : IsFirstRule form (to_z w128 (of_z w128 c.args.scale)) e x false c.in_ok-found.found = c.in_ok-found.ensures in
    let first : IsFirstRule form c.args.scale e x false c.in_ok-found.found = simp (to_z-of_z, c.ranges.scale) at raw_first in
    simp (to_z-of_z, value) (high_found form c.args.scale e x c.in_ok-found.found low first)
