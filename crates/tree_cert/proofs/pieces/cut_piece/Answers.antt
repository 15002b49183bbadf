use Rattle.std.proofs.Common.{sym, ◌∙◌}
use Rattle.tree_cert.proofs.TextLines.{line_parts, line_piece, last_piece}
use Rattle.tree_cert.proofs.pieces.cut_piece.Goals as goal

pub returns-in-Some-clause-piece : goal.returns-in-Some-clause-piece
returns-in-Some-clause-piece c = rw c.split_at.ensures.front (line_piece c.args.bytes.now c.in-Some.line.now c.in-Some.rest.now c.in-Some.ensures.0 c.in-Some.ensures.1)

pub returns-in-Some-clause-parts : goal.returns-in-Some-clause-parts
returns-in-Some-clause-parts c = rw c.split_at.ensures.front (line_parts c.args.bytes.now c.in-Some.line.now c.in-Some.rest.now c.in-Some.ensures.0)

pub returns-in-None-clause-piece : goal.returns-in-None-clause-piece
returns-in-None-clause-piece c = rw c.split_at-in-None.ensures.back (last_piece c.args.bytes.now c.in-None.ensures (sym c.is_empty.ensures ∙ c.if-is_empty.false))
