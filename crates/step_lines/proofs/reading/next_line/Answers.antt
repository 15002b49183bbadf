use Rattle.step_lines.proofs.Spelled.{line_is_next}
use Rattle.step_lines.proofs.reading.next_line.Goals as goal

pub returns-in-Some : goal.returns-in-Some
returns-in-Some c = line_is_next c.args.bytes.now c.in-Some.rest.now c.in-Some.line c.in-Some.ensures
