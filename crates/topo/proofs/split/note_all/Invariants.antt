use Rattle.std.proofs.Common.{ℕ, ◌++◌, List, length, take}
use Rattle.topo.specs.Split.{HasFirsts}
use Rattle.topo.proofs.split.note_all.Given as goal

abbrev pub invariant-loop-node : goal.invariant-loop-node
invariant-loop-node l = (nodes : List ℕ) → HasFirsts (length l.initial.has) nodes l.initial.list.items l.initial.has → HasFirsts (length l.initial.has) (nodes ++ take l.node-index l.more) l.list.items l.has
