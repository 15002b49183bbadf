use Rattle.std.proofs.Common.{◌≡◌, ◌-◌, suc, arith, subst}
use Rattle.tree_rules.specs.Branches.{rules_of}
use Rattle.tree_trim.proofs.Marking.{Tried, one_tried}
use Rattle.tree_trim.proofs.trimming.left_out.Goals as goal

pub loop-i-preserved : goal.loop-i-preserved
loop-i-preserved c =
    let l = c.loop-i in
    let k = l.i - 1 in
    let more : l.i ≡ suc (l.i - 1) = let t = c.loop-i-test.true in omega (arith, t) in
    one_tried (rules_of c.args.p.now) c.args.lines.now (l.i - 1) l.left_out c.try_line.new.left_out
    (subst (λ n. Tried (rules_of c.args.p.now) c.args.lines.now n l.left_out) more l.invariant)
    c.in_ok-try_line.ensures
