use Rattle.std.proofs.Common.{sym}
use Rattle.gas_units.proofs.Sizes.{room, sized_on, passed_on}
use Rattle.gas_units.proofs.decimal.size_of.Goals as goal
use Rattle.gas_units.proofs.decimal.size_of.Goals.{then-is_ascii_digit, else-is_ascii_digit}

pub loop-b-preserved : goal.loop-b-preserved
loop-b-preserved c = elim c.if-is_ascii_digit.branch [
  | then-is_ascii_digit w ↦ rw (w.size-is, w.with_digit-size.ensures) (sized_on c.args.bytes.now c.loop-b.b-index c.loop-b.size c.loop-b.invariant c.loop-b-test.true (sym w.if-is_ascii_digit.ensures.value))
  | else-is_ascii_digit w ↦ rw w.size-is (passed_on c.args.bytes.now c.loop-b.b-index c.loop-b.size c.loop-b.invariant c.loop-b-test.true (sym w.if-is_ascii_digit.ensures.value))
]

pub with_digit-size-requires-clause-room : goal.with_digit-size-requires-clause-room
with_digit-size-requires-clause-room c = room c.args.bytes.now c.loop-b.b-index c.loop-b.size c.loop-b.invariant c.loop-b-test.true (sym c.if-is_ascii_digit.ensures.value) c.requires
