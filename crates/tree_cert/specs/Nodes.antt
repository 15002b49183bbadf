-- The nodes of a cut, one after the other.
use Rattle.std.specs.Prelude.{ℕ, List, [], ◌∷◌, ◌++◌, Option, Some, None}
use Rattle.line_text.specs.Long.{position_at}
use Rattle.line_text.specs.Words.{◌>>=◌, bytes_at}

-- nodes and one more, where all of them fit
abbrev pub with_node : Option (List ℕ) → Option ℕ → Option (List ℕ)
with_node (Some ns) (Some n) = Some (ns ++ n ∷ [])
with_node ns n = None

-- the digits of a node, the node, and what comes after it
unfoldable pub node_field : List ℕ → Option (List ℕ × Option ℕ × List ℕ)
node_field bytes = do
  word ← bytes_at bytes
  n ← position_at word.0
  Some (word.0, n, word.1)
