use Rattle.std.proofs.Common.{◌≡◌, ◌≤◌, arith, to_z, FitsSigned, pos, negsuc, ◌-ℤ◌, ◌≤ℤ◌, refl}
use Rattle.std.specs.Int.{w32}
use Rattle.std.proofs.lemmas.Int.{to_z_pos, to_z-of_z}
use Rattle.integer_laws.proofs.Ring.{linear}
use Rattle.gas_units.specs.Decimals.{digit_count, mantissa, places}
use Rattle.gas_units.proofs.Shifts.{places_few, long_not}
use Rattle.gas_units.proofs.decimal.decimal_of.Goals as goal

pub overflow_cast-shift : goal.overflow_cast-shift
overflow_cast-shift c =
    let few : digit_count (places (mantissa c.args.bytes.now)) ≤ 30 = omega (arith, places_few (mantissa c.args.bytes.now), (long_not c.args.bytes.now c.requires).0) in
    let n : c.digit_count.result ≤ 30 = rw (c.digit_count.ensures, c.places.ensures, c.mantissa-front.ensures) few in
    omega (arith, linear, n)

pub overflow_sub-shift : goal.overflow_sub-shift
overflow_sub-shift c =
    let few : digit_count (places (mantissa c.args.bytes.now)) ≤ 30 = omega (arith, places_few (mantissa c.args.bytes.now), (long_not c.args.bytes.now c.requires).0) in
    let n : c.digit_count.result ≤ 30 = rw (c.digit_count.ensures, c.places.ensures, c.mantissa-front.ensures) few in
    let lo : negsuc 98 ≤ℤ c.power_of-power.result = c.power_of-power.ensures.small.1 in
    let hi : c.power_of-power.result ≤ℤ pos 99 = c.power_of-power.ensures.small.0 in
    let f : FitsSigned w32 c.power_of-power.result = omega (arith, linear, lo, hi) in
    let q : to_z w32 c.digit_count.result ≡ pos c.digit_count.result = to_z_pos w32 c.digit_count.result (omega (arith, n)) in
    rw (to_z-of_z w32 c.power_of-power.result f, q) (omega (arith, linear, lo, hi, n))

pub returns : goal.returns
returns c =
    let few : digit_count (places (mantissa c.args.bytes.now)) ≤ 30 = omega (arith, places_few (mantissa c.args.bytes.now), (long_not c.args.bytes.now c.requires).0) in
    let n : c.digit_count.result ≤ 30 = rw (c.digit_count.ensures, c.places.ensures, c.mantissa-front.ensures) few in
    let lo : negsuc 98 ≤ℤ c.power_of-power.result = c.power_of-power.ensures.small.1 in
    let hi : c.power_of-power.result ≤ℤ pos 99 = c.power_of-power.ensures.small.0 in
    let f : FitsSigned w32 c.power_of-power.result = omega (arith, linear, lo, hi) in
    let q : to_z w32 c.digit_count.result ≡ pos c.digit_count.result = to_z_pos w32 c.digit_count.result (omega (arith, n)) in
    let g : FitsSigned w32 (c.power_of-power.result -ℤ pos c.digit_count.result) = omega (arith, linear, lo, hi, n) in
    rw (to_z-of_z w32 c.power_of-power.result f, q, to_z-of_z w32 (c.power_of-power.result -ℤ pos c.digit_count.result) g)
    (rw (c.has_minus-negative.ensures, c.size_of-digits.ensures.exact, c.power_of-power.ensures.exact, c.exponent.ensures, c.digit_count.ensures, c.places.ensures, c.mantissa-front.ensures) refl)
