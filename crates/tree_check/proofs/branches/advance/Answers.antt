use Rattle.std.proofs.Common.{◌≡◌, rules, true, []}
use Rattle.tree_cert.specs.declared.line.Head.TheVariants.{Take, Half}
use Rattle.tree_check.proofs.Heads.{after_decision, head_fits}
use Rattle.tree_check.proofs.branches.advance.Goals as goal

pub returns-then-eq-clause-after : goal.returns-then-eq-clause-after
returns-then-eq-clause-after c =
    let same : c.args.head ≡ Take c.in-Decisions.group c.in-Decisions.next = search rules in
    rw c.in-Decisions.is (after_decision c.args.b.now c.in-Decisions.group c.in-Decisions.next c.in-Decisions.count c.args.head c.if-next-count.true same)

pub returns-then-eq-3-clause-after : goal.returns-then-eq-3-clause-after
returns-then-eq-3-clause-after c =
    let same : c.args.head ≡ Half c.in-UpperHalf.var true c.in-UpperHalf.value = search rules in
    rw c.in-UpperHalf.is (head_fits c.args.b.now c.args.head (Half c.in-UpperHalf.var true c.in-UpperHalf.value) [] same)
