-- An arena of places, each with its parent's number and its own child number: their paths.
use Rattle.std.specs.Prelude.{◌≡◌, ℕ, zero, suc, ◌<◌, ◌^◌, List, [], ◌∷◌, ◌++◌, length, Option, Some, None, slice_get}
use Rattle.tree_pool.specs.declared.lineage.Place.{Place}

-- the path of a place below a parent; the root has none
abbrev pub path_below : Option (List ℕ) → ℕ → List ℕ
path_below None nth = []
path_below (Some p) nth = nth ∷ p

-- the paths of places that stand after others
abbrev pub paths_after : List (List ℕ) → List Place → List (List ℕ)
paths_after done [] = []
paths_after done (x ∷ xs) = path_below (slice_get done x.parent) x.nth ∷ paths_after (done ++ path_below (slice_get done x.parent) x.nth ∷ []) xs

abbrev pub paths_of : List Place → List (List ℕ)
paths_of xs = paths_after [] xs

-- the paths of so many children of a path, from child number k on
abbrev pub children_from : List ℕ → ℕ → ℕ → List (List ℕ)
children_from p k zero = []
children_from p k (suc c) = (k ∷ p) ∷ children_from p (suc k) c

pub record IsArena (xs : List Place) : Type 0 where
  pub some : 0 < length xs
  pub small : length xs < 2 ^ 32
  pub lower : (m : ℕ) (x : Place) → slice_get xs (suc m) ≡ Some x → x.parent < suc m

-- the places of so many children of a number, from child number k on
abbrev pub places_of : ℕ → ℕ → ℕ → List Place
places_of parent k zero = []
places_of parent k (suc c) = (record { parent = parent; nth = k }) ∷ places_of parent (suc k) c
