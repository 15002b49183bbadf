-- The tightest value that a test allows an end, where it shrinks the width by an eighth.
use Rattle.std.specs.Prelude.{◌↔◌, ◌*◌, ◌^◌, ℤ, pos, ◌+ℤ◌, ◌-ℤ◌, ◌*ℤ◌, ◌≤ℤ◌, ◌<ℤ◌, int_le, ◌&&◌, Bool, true, false, Option, MatchOption, IsTrue}
use Rattle.std.specs.Int.{int_min, int_max}
use Rattle.integer_laws.specs.Sizes.{IsWithin}
use Rattle.gas_model.specs.declared.rows.Ends.{Ends}
use Rattle.gas_model.specs.Boxes.{width_of, may_become}
use Rattle.tree_rules.specs.Looser.{IsNoTighter, reaches}

-- how far the lower (`low`) or the upper end moves inward where it becomes C
abbrev pub gain : (low : Bool) → (C : ℤ) → Ends → ℤ
gain true C e = C -ℤ e.lo
gain false C e = e.hi -ℤ C

-- it moves by at least one, and by at least an eighth of the width
abbrev pub shrinks : (low : Bool) → (C : ℤ) → Ends → Bool
shrinks low C e = int_le (pos 1) (gain low C e) && int_le (width_of e) (pos 8 *ℤ gain low C e)

-- C shrinks the width by an eighth, and each value that does so is no looser
pub record IsLoosest (low : Bool) (e : Ends) (C : ℤ) : Type 0 where
  pub within : IsTrue (may_become low C e)
  pub gains : IsTrue (shrinks low C e)
  pub loosest : (B : ℤ) → IsTrue (may_become low B e) → IsTrue (shrinks low B e) → IsNoTighter low C B

-- C is allowed and shrinks the width by an eighth, and each value that is allowed is no tighter
pub record IsBest (low : Bool) (e : Ends) (test : ℤ → Bool) (C : ℤ) : Type 0 where
  pub within : IsTrue (may_become low C e)
  pub allowed : IsTrue (test C)
  pub shrinks : IsTrue (shrinks low C e)
  pub tightest : (B : ℤ) → IsTrue (may_become low B e) → IsTrue (test B) → IsNoTighter low B C

-- no value that is allowed shrinks the width by an eighth
pub record HasNoBest (low : Bool) (e : Ends) (test : ℤ → Bool) : Type 0 where
  pub none : (C : ℤ) → IsTrue (may_become low C e) → IsTrue (test C) → IsTrue (shrinks low C e) → ⊥

-- the best value, where there is one
abbrev pub Best : (low : Bool) → Ends → (ℤ → Bool) → Option ℤ → Type 0
Best low e test result = MatchOption result (HasNoBest low e test) (IsBest low e test)

-- the loosest value that shrinks the width by an eighth is allowed
pub record CanShrink (low : Bool) (e : Ends) (test : ℤ → Bool) : Type 0 where
  pub value : ℤ
  pub loosest : IsLoosest low e value
  pub allowed : IsTrue (test value)

-- of the values that an end may be given, the test allows those up to the bound
pub record IsBound (low : Bool) (e : Ends) (test : ℤ → Bool) (bound : ℤ) : Type 0 where
  pub is : (C : ℤ) → IsTrue (may_become low C e) → IsTrue (test C) ↔ IsTrue (reaches low bound C)

-- the bound, or one past the other end where that comes first
abbrev pub cut : (low : Bool) → Ends → (bound : ℤ) → ℤ
cut true e bound = int_min bound (e.hi +ℤ pos 1)
cut false e bound = int_max bound (e.lo -ℤ pos 1)

-- ends of flows and squares, in sixteenths too
pub record AreSmallEnds (e : Ends) : Type 0 where
  pub lo : IsWithin (2 ^ 60) e.lo
  pub hi : IsWithin (2 ^ 60) e.hi
