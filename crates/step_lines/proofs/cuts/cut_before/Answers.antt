use Rattle.step_lines.proofs.NodesRead.{cut_text}
use Rattle.step_lines.proofs.cuts.cut_before.Goals as goal

pub returns : goal.returns
returns c = cut_text c.args.bytes.now c.in_ok-nodes.nodes c.in_ok-nodes.rest.now c.in_ok-tail.tail.now c.in_ok-tail.ensures c.in_ok-nodes.ensures
