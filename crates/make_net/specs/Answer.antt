-- What is answered for a number.
use Rattle.std.specs.Prelude.{◌≡◌, ℕ, ◌&&◌, nat_le, Bool, true, false, Result, Ok, Err, is_ok}
use Rattle.gas_model.specs.Rows.{Network, problem_of}
use Rattle.make_net.specs.declared.making.MakeFault.{MakeFault}
use Rattle.make_net.specs.declared.making.MakeFault.TheVariants as fault
use Rattle.make_net.specs.Made.{made_rows}

-- the numbers of nodes for which there is a problem
abbrev pub is_count : ℕ → Bool
is_count count = nat_le 1 count && nat_le count 2000

-- the rows of each of these numbers make a problem
abbrev pub EachMakesOne : Type 0
EachMakesOne = (count : ℕ) → is_count count ≡ true → is_ok (problem_of (made_rows count)) ≡ true

-- the problem of the stated rows, or that the number is out of range, where it is, or want of memory, where it isn't
abbrev pub IsMade : ℕ → Result Network MakeFault → Type 0
IsMade count (Ok p) = (is_count count ≡ true) × (problem_of (made_rows count) ≡ Ok p)
IsMade count (Err fault.OutOfRange) = is_count count ≡ false
IsMade count (Err fault.NoMemory) = is_count count ≡ true
