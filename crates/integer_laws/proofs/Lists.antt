-- What stands at the places of lists.
use Rattle.std.proofs.Common.{◌≡◌, ℕ, zero, suc, ◌+◌, ◌<◌, refl, ap, arith, List, [], ◌∷◌, length, map, Option, Some}
use Rattle.std.specs.Prelude.{slice_get}

-- each place of a list has an item
pub there : {A : Type 0} (xs : List A) (k : ℕ) → k < length xs → (x : A) × (slice_get xs k ≡ Some x)
there [] k lt = absurd (omega arith)
there (x ∷ xs) zero lt = (x, refl)
there (x ∷ xs) (suc k) lt = there xs k (omega arith)

-- what stands at a place of a mapped list comes from what stood there
pub from_map : {A B : Type 0} (f : A → B) (xs : List A) (k : ℕ) (y : B) → slice_get (map f xs) k ≡ Some y → (x : A) × (slice_get xs k ≡ Some x) × (f x ≡ y)
from_map f [] k y h = absurd cc
from_map f (x ∷ xs) zero y h = (x, refl, cc)
from_map f (x ∷ xs) (suc k) y h = from_map f xs k y h

-- one item stands at a place
pub same_row : {A : Type 0} (xs : List A) (m n : ℕ) (x y : A) → slice_get xs m ≡ Some x → slice_get xs n ≡ Some y → m ≡ n → x ≡ y
same_row xs m n x y h g e = cc
