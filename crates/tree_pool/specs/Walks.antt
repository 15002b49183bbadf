-- The next box in the order of the text.
use Rattle.std.specs.Prelude.{◌≡◌, ℕ, ◌+◌, ◌<◌, ◌≤◌, true, List, [], length, get_or, Option, Some, IfSome}
use Rattle.tree_cert.specs.declared.line.Line.{Line}
use Rattle.tree_pool.specs.declared.node.Node.{Node}
use Rattle.tree_pool.specs.Shown.{works}
use Rattle.tree_pool.specs.Lines.{After, Remains, Pending, is_before, from_root, ahead, own_lines}
use Rattle.tree_pool.specs.Nodes.{rows_of}
use Rattle.tree_pool.specs.Calls.{IfRow}

-- This box comes next after box n and all that is below it, or none does.
pub record IsAfter (paths : List (List ℕ)) (ns : List Node) (n : ℕ) (next : Option ℕ) : Type 0 where
  pub follows : (rest : List Line) → After (works (rows_of paths ns)) (get_or paths n []) rest → Pending (rows_of paths ns) next rest
  pub within : IfSome next (λ m. m < length ns)
  pub later : IfSome next (λ m. is_before (from_root (get_or paths n []) []) (from_root (get_or paths m []) []) ≡ true)

-- This box comes next after box n, or none does; and from it on there are fewer lines.
pub record IsNext (paths : List (List ℕ)) (ns : List Node) (n : ℕ) (next : Option ℕ) : Type 0 where
  pub follows : (rest : List Line) → IfRow (rows_of paths ns) n (λ r. Remains (rows_of paths ns) r rest) → Pending (rows_of paths ns) next rest
  pub within : IfSome next (λ m. m < length ns)
  pub nearer : IfRow (rows_of paths ns) n (λ r. ahead (rows_of paths ns) next + length (own_lines r) ≤ ahead (rows_of paths ns) (Some n))
