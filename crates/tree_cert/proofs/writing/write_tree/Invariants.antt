use Rattle.std.proofs.Common.{take}
use Rattle.tree_cert.specs.Spelling.{AreLines}
use Rattle.tree_cert.proofs.writing.write_tree.Given as goal

abbrev pub invariant-loop-line : goal.invariant-loop-line
invariant-loop-line l = AreLines l.out (take l.line-index l.lines)
