use Rattle.std.proofs.Common.{◌≡◌, ◌≤◌, ◌<◌, ◌^◌, arith}
use Rattle.std.proofs.lemmas.Bool.{eqb-true, eqb-false}
use Rattle.gas_units.proofs.Sizes.{pow_most}
use Rattle.gas_units.proofs.Rounding.{divided, quotient_small}
use Rattle.gas_units.proofs.grid.part_size.Goals as goal

pub returns-then-place-gt38 : goal.returns-then-place-gt38
returns-then-place-gt38 c =
    let big : 10 ^ 39 ≤ 10 ^ c.args.place = pow_most 39 c.args.place (omega (arith, c.if-place-gt38.true)) in
    let small : c.args.digits < 2 ^ 128 = c.ranges.digits.fits in
    record {
      at_most = omega arith;
      greatest = omega (arith, big, small);
      exact = λ e. let k : c.args.digits ≡ 0 = eqb-true _ _ e in omega arith;
      rest = λ e. let k = eqb-false c.args.digits 0 e in omega arith;
      small = omega arith;
    }

pub pow-den-requires : goal.pow-den-requires
pow-den-requires c = let le : 10 ^ c.args.place ≤ 10 ^ 38 = pow_most c.args.place 38 (omega (arith, c.if-place-gt38.false)) in omega (arith, le)

pub nonzero_div-result : goal.nonzero_div-result
nonzero_div-result c = let le : 10 ^ 0 ≤ 10 ^ c.args.place = pow_most 0 c.args.place (omega arith) in omega (arith, le, c.pow-den.ensures)

pub nonzero_rem-result : goal.nonzero_rem-result
nonzero_rem-result c = let le : 10 ^ 0 ≤ 10 ^ c.args.place = pow_most 0 c.args.place (omega arith) in omega (arith, le, c.pow-den.ensures)

pub returns : goal.returns
returns c =
    let le : 10 ^ 1 ≤ 10 ^ c.args.place = pow_most 1 c.args.place (omega (arith, c.requires)) in
    let small : c.args.digits < 2 ^ 128 = c.ranges.digits.fits in
    rw c.pow-den.ensures (divided c.args.digits (10 ^ c.args.place) (omega (arith, le)) (quotient_small c.args.digits (10 ^ c.args.place) le small))
