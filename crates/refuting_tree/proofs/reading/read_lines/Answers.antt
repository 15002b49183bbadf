use Rattle.refuting_tree.proofs.LinesRead.{none_read, next_line_of, all_read}
use Rattle.refuting_tree.proofs.reading.read_lines.Goals as goal

pub loop-given-init : goal.loop-given-init
loop-given-init c = rw (c.new-lines.ensures) (none_read c.args.text.now c.requires)

pub line_read-requires : goal.line_read-requires
line_read-requires c =
    let l = c.loop-given in
    let n = next_line_of c.args.text.now l.rest.now c.in-Some.after.now l.lines c.in-Some.given l.invariant c.in-Some.ensures in
    (n.line, n.gives)

pub loop-given-preserved : goal.loop-given-preserved
loop-given-preserved c =
    let l = c.loop-given in
    let n = next_line_of c.args.text.now l.rest.now c.in-Some.after.now l.lines c.in-Some.given l.invariant c.in-Some.ensures in
    rw (c.in_ok-push.ensures.ok, c.in_ok-line_read.ensures n.line n.gives) n.more

pub returns : goal.returns
returns c = all_read c.args.text.now c.loop-given.rest.now c.loop-given.lines c.loop-given.invariant c.in_default.ensures
