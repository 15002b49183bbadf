use Rattle.std.specs.Prelude.{ℕ, ◌+◌, ◌≤◌, ◌≡◌, List, length, slice_index_or}

-- the numbers from 0 to the size, in order
pub record IsNumbered (size : ℕ) (xs : List ℕ) : Type 0 where
  pub count : length xs ≡ size + 1
  pub each : (i : ℕ) → i ≤ size → slice_index_or xs i 0 ≡ i
