use Rattle.std.proofs.Common.{◌≡◌, ◌+◌, ◌≤◌, length}
use Rattle.tree_cert.specs.Texts.{lines_in}
use Rattle.tree_cert.proofs.Judged.{judge, judge_all}
use Rattle.tree_rules.specs.Branches.{rules_of}
use Rattle.tree_check.specs.Reading.{place_of, IsReaderOf}
use Rattle.tree_check.proofs.check.judge.Given as goal

abbrev pub invariant-loop-given : goal.invariant-loop-given
invariant-loop-given l =
    (judge_all (rules_of l.p) (lines_in l.text) ≡ judge (rules_of l.p) (place_of l.p l.r) l.number l.first_open (lines_in l.rest))
    × IsReaderOf l.p l.r × (l.number + length l.rest ≤ length l.text + 1)

abbrev pub decreases-loop-given : goal.decreases-loop-given
decreases-loop-given l = length l.rest
