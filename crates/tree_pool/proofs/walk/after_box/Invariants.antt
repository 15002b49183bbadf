use Rattle.std.proofs.Common.{◌≡◌, ◌<◌, ◌++◌, ℕ, List, [], length, get_or}
use Rattle.tree_cert.specs.declared.line.Line.{Line}
use Rattle.tree_pool.specs.Shown.{works}
use Rattle.tree_pool.specs.Lines.{After}
use Rattle.tree_pool.specs.Nodes.{rows_of}
use Rattle.tree_pool.proofs.walk.after_box.Given as goal

abbrev pub invariant-loop-n : goal.invariant-loop-n
invariant-loop-n l = record {
  within : l.n < length l.nodes;
  follows : (rest : List Line) → After (works (rows_of l.places l.nodes)) (get_or l.places l.fn.n []) rest → After (works (rows_of l.places l.nodes)) (get_or l.places l.n []) rest;
  above : (s : List ℕ) × (get_or l.places l.fn.n [] ≡ s ++ get_or l.places l.n []);
}

abbrev pub decreases-loop-n : goal.decreases-loop-n
decreases-loop-n l = l.n
