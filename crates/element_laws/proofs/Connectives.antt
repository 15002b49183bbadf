-- What the first test of two decides, and what a test chooses.
use Rattle.std.proofs.Common.{◌≡◌, Bool, true, false, cond, ◌&&◌, arith}
use Rattle.std.specs.Prelude.{◌||◌}

pub and_first : (a b : Bool) → a ≡ false → a ≡ (a && b)
and_first a b h = grind arith

pub and_second : (a b : Bool) → a ≡ true → b ≡ (a && b)
and_second a b h = grind arith

pub or_first : (a b : Bool) → a ≡ true → a ≡ (a || b)
or_first a b h = grind arith

pub or_second : (a b : Bool) → a ≡ false → b ≡ (a || b)
or_second a b h = grind arith

-- what a test chooses
pub chosen_first : (b x y : Bool) → b ≡ true → x ≡ cond b x y
chosen_first b x y h = grind arith

pub chosen_second : (b x y : Bool) → b ≡ false → y ≡ cond b x y
chosen_second b x y h = grind arith
