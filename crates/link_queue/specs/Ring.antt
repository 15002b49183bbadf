-- The slots of a queue, linked by index both ways.
use Rattle.std.specs.Prelude.{ℕ, zero, suc, ◌+◌, ◌≤◌, ◌≡◌, ◌==◌, List, [], ◌∷◌, length, slice_index_or, if◌then◌else◌}
use Rattle.link_queue.specs.Queue.{AreApart}

-- the number behind i, on the way from `at` along the list to `end`; a number that is off the way leads to itself
abbrev pub leads : ℕ → List ℕ → ℕ → ℕ → ℕ
leads at [] end i = if i == at then end else i
leads at (x ∷ xs) end i = if i == at then x else leads x xs end i

-- the numbers from `at` on, in at most k steps, up to `end`
abbrev pub walk : ℕ → List ℕ → ℕ → ℕ → List ℕ
walk zero next end at = []
walk (suc k) next end at = if at == end then [] else at ∷ walk k next end (slice_index_or next at 0)

abbrev pub held_by : ℕ → List ℕ → List ℕ
held_by size next = walk size next size (slice_index_or next size 0)

-- slot `size` is both ends of the ring, each held number's slot is linked to its neighbours', and each other one to itself
pub record IsRing (size : ℕ) (next prev held : List ℕ) : Type 0 where
  pub next_length : length next ≡ size + 1
  pub prev_length : length prev ≡ size + 1
  pub apart : AreApart size held
  pub next_is : (i : ℕ) → i ≤ size → slice_index_or next i 0 ≡ leads size held size i
  pub prev_below : (i : ℕ) → i ≤ size → slice_index_or prev i 0 ≤ size
  pub back : (i : ℕ) → i ≤ size → slice_index_or prev (slice_index_or next i 0) 0 ≡ i
  pub forth : (i : ℕ) → i ≤ size → slice_index_or next (slice_index_or prev i 0) 0 ≡ i
