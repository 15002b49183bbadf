use Rattle.tree_rules.specs.Branches.{rules_of}
use Rattle.tree_trim.specs.Kept.{kept_of}
use Rattle.tree_trim.proofs.Refuting.{lines_so}
use Rattle.tree_trim.proofs.trimming.pass.Goals as goal

pub returns : goal.returns
returns c =
    lines_so (rules_of c.args.p.now) c.in_ok-text.text (kept_of c.args.lines.now c.args.left_out.now) c.refutes.result c.in_ok-text.ensures
    (rw c.as_slice.ensures at c.refutes.ensures)
