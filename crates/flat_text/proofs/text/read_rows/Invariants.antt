use Rattle.std.proofs.Common.{◌≡◌, ◌+◌, ◌≤◌, length, []}
use Rattle.flat_text.specs.Draft.{part_of}
use Rattle.flat_text.specs.Text.{items_at, rows_at}
use Rattle.flat_text.proofs.Passing.{with_draft}
use Rattle.flat_text.proofs.text.read_rows.Given as goal

abbrev pub invariant-loop-text : goal.invariant-loop-text
invariant-loop-text l = record {
  so_far : with_draft l.draft (items_at l.line (part_of l.draft.tail) [] l.rest) ≡ rows_at l.fn.bytes;
  room : l.line + length l.rest ≤ 2 + length l.fn.bytes;
}

abbrev pub decreases-loop-text : goal.decreases-loop-text
decreases-loop-text l = length l.rest
