use Rattle.std.specs.Str.{bytes_eq}
use Rattle.name_places.specs.ByName.{look}
use Rattle.network.proofs.Kept.{Kept}
use Rattle.network.proofs.decisions.arc_words.Given as goal

abbrev pub invariant-loop-arc : goal.invariant-loop-arc
invariant-loop-arc l = Kept (λ id a. bytes_eq id a.id) (λ a. a.word) (look l.words) l.arcs l.arc-index
