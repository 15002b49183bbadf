use Rattle.std.proofs.Common.{arith}
use Rattle.gas_units.proofs.Rounding.{past_by_place, past_by_digits, exact_size}
use Rattle.gas_units.proofs.grid.whole_size.Goals as goal
use Rattle.gas_units.proofs.grid.whole_size.Goals.{then-place-gt18-via-then-place-gt18, then-place-gt18-via-else-place-gt18+then-digits-gt10000000000000000000}

pub returns-then-place-gt18 : goal.returns-then-place-gt18
returns-then-place-gt18 c =
    elim c.then-place-gt18.branch [
      | then-place-gt18-via-then-place-gt18 w ↦ past_by_place c.args.digits c.args.place (omega (arith, c.if-digits-eq0.false)) w.if-place-gt18.true
      | then-place-gt18-via-else-place-gt18+then-digits-gt10000000000000000000 w ↦ past_by_digits c.args.digits c.args.place (omega (arith, w.if-digits-gt10000000000000000000.true))
    ]

pub returns : goal.returns
returns c =
    rw c.pow.ensures (exact_size c.args.digits c.args.place (omega (arith, c.if-digits-gt10000000000000000000.false)) (omega (arith, c.if-place-gt18.false)))
