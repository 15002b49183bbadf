use Rattle.std.proofs.Common.{◌≡◌, ◌+◌, ◌<◌, ◌≤◌, List, length}
use Rattle.std.specs.Prelude.{IfSome}
use Rattle.tree_cert.specs.declared.line.Line.{Line}
use Rattle.tree_pool.specs.Lines.{Pending, ahead, all_lines}
use Rattle.tree_pool.specs.Nodes.{rows_of}
use Rattle.tree_pool.proofs.walk.count_lines.Given as goal

abbrev pub invariant-boxes : goal.invariant-boxes
invariant-boxes l = record {
  within : IfSome l.next (λ n. n < length l.nodes);
  so_far : (ls : List Line) → Pending (rows_of l.places l.nodes) l.fn.next ls → (rest : List Line) × Pending (rows_of l.places l.nodes) l.next rest × (length ls ≡ l.count + length rest);
  few : l.count + ahead (rows_of l.places l.nodes) l.next ≤ all_lines (rows_of l.places l.nodes);
}

abbrev pub decreases-boxes : goal.decreases-boxes
decreases-boxes l = ahead (rows_of l.places l.nodes) l.next
