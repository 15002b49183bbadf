-- What the first empty variable of a box says of its variables.
use Rattle.std.proofs.Common.{◌≡◌, arith, ℕ, ◌<◌, ◌≤◌, Bool, ◌≤ℤ◌, ◌<ℤ◌, List, length, get_or, Some, None, true, false}
use Rattle.std.specs.List.{position, position_or_len}
use Rattle.std.proofs.lemmas.Grind.{common_steps}
use Rattle.std.proofs.lemmas.List.Quantifiers.{position-Some}
use Rattle.std.proofs.lemmas.List.Sums.{fails_before_first}
use borrow.Author.Tests.{ltb-true, lt-ltb}
use Rattle.integer_laws.proofs.Ring.{linear}
use Rattle.gas_model.specs.declared.rows.Ends.{Ends}
use Rattle.base_types.specs.declared.variables.Var.TheVariants.{Flow, Square}
use Rattle.gas_model.specs.Boxes.{Bounds, no_ends, is_empty, ends_of}
use Rattle.box_ends.specs.Empty.{LeavesAll, LeavesNone}

-- none of them is empty
none_at : (p : Ends → Bool) (all : List Ends) → position p all ≡ None → (i : ℕ) → i < length all → p (get_or all i no_ends) ≡ false
none_at p all e i l =
    let past : length all ≤ position_or_len p all = grind (arith, common_steps) in
    fails_before_first p all i no_ends (omega arith)

none_empty : (all : List Ends) → position is_empty all ≡ None → (i : ℕ) → i < length all → is_empty (get_or all i no_ends) ≡ false
none_empty all e i l = none_at is_empty all e i l

ordered : (e : Ends) → is_empty e ≡ false → e.lo ≤ℤ e.hi
ordered e t = omega (arith, linear, t)

crossed : (e : Ends) → is_empty e ≡ true → e.hi <ℤ e.lo
crossed e t = omega (arith, linear, t)

pub leaves_all : (b : Bounds) → position is_empty b.flows ≡ None → position is_empty b.squares ≡ None → LeavesAll b
leaves_all b f s (Flow a) t = ordered (ends_of b (Flow a)) (none_empty b.flows f a (ltb-true a (length b.flows) t))
leaves_all b f s (Square n) t = ordered (ends_of b (Square n)) (none_empty b.squares s n (ltb-true n (length b.squares) t))

pub flow_left_none : (b : Bounds) (a : ℕ) → position is_empty b.flows ≡ Some a → LeavesNone b (Flow a)
flow_left_none b a e =
    let f = position-Some is_empty b.flows a no_ends e in
    record { inside = lt-ltb a (length b.flows) f.0; crossed = crossed (ends_of b (Flow a)) f.1 }

pub square_left_none : (b : Bounds) (n : ℕ) → position is_empty b.squares ≡ Some n → LeavesNone b (Square n)
square_left_none b n e =
    let f = position-Some is_empty b.squares n no_ends e in
    record { inside = lt-ltb n (length b.squares) f.0; crossed = crossed (ends_of b (Square n)) f.1 }
