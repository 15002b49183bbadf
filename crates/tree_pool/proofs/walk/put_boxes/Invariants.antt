use Rattle.std.proofs.Common.{◌≡◌, ◌++◌, ◌<◌, List, length, Some}
use Rattle.std.specs.Prelude.{IfSome}
use Rattle.tree_cert.specs.declared.line.Line.{Line}
use Rattle.tree_pool.specs.Lines.{Pending, Writes, ahead}
use Rattle.tree_pool.specs.Nodes.{rows_of}
use Rattle.tree_pool.proofs.walk.put_boxes.Given as goal

abbrev pub invariant-boxes : goal.invariant-boxes
invariant-boxes l = record {
  within : IfSome l.next (λ n. n < length l.nodes);
  so_far : (ls : List Line) → Pending (rows_of l.places l.nodes) (Some 0) ls → (done : List Line) × (rest : List Line) × Pending (rows_of l.places l.nodes) l.next rest × (ls ≡ done ++ rest) × Writes l.fn.out l.out done;
}

abbrev pub decreases-boxes : goal.decreases-boxes
decreases-boxes l = ahead (rows_of l.places l.nodes) l.next
