use Rattle.std.proofs.Common.{ℕ, List}
use Rattle.res_table.specs.declared.rows.ResWord.{ResWord}
use Rattle.network.specs.Table.{takes}
use Rattle.network.specs.Marks.{is_marked}
use Rattle.network.proofs.Kept.{Noted}
use Rattle.network.proofs.table.taken_rows.Given as goal

abbrev pub invariant-loop-arc : goal.invariant-loop-arc
invariant-loop-arc l = Noted (λ (q : ResWord × List ℕ) a. takes q.0 q.1 a) (λ q. is_marked l.taken q.0 q.1) l.arcs l.arc-index
