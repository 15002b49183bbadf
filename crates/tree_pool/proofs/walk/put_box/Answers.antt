use Rattle.std.proofs.Common.{[], ◌∷◌, ◌++◌}
use Rattle.tree_pool.specs.Nodes.{standing_of}
use Rattle.tree_pool.specs.Shown.{end_of}
use Rattle.tree_pool.specs.Lines.{head_lines, step_lines, end_line}
use Rattle.tree_pool.proofs.Texts.{writes_both, writes_steps}
use Rattle.tree_pool.proofs.walk.put_box.Goals as goal

pub returns : goal.returns
returns c =
    let x = c.args.node.now in
    let e = end_line (end_of (standing_of x.standing)) ∷ [] in
    writes_both c.args.out.now c.put_head.new.out c.put_end.new.out (head_lines x.head) (step_lines x.steps ++ e) c.in_ok-put_head.ensures
    (writes_both c.put_head.new.out c.put_steps.new.out c.put_end.new.out (step_lines x.steps) e
    (writes_steps c.put_head.new.out c.put_steps.new.out x.steps (rw c.as_slice.ensures at c.in_ok-put_steps.ensures.text) (rw c.as_slice.ensures at c.in_ok-put_steps.ensures.spelled)) c.in_ok-put_end.ensures)
