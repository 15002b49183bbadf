use Rattle.std.specs.Str.{bytes_eq}
use Rattle.name_places.specs.ByName.{look}
use Rattle.network.proofs.Kept.{Kept}
use Rattle.network.proofs.nominations.node_words.Given as goal

abbrev pub invariant-loop-node : goal.invariant-loop-node
invariant-loop-node l = Kept (λ id n. bytes_eq id n.id) (λ n. n.word) (look l.words) l.nodes l.node-index
