use Rattle.std.proofs.Common.{[], length, ap, arith}
use Rattle.tree_pool.proofs.PathsOf.{length-paths}
use Rattle.tree_pool.proofs.lineage.Lineage.compare.Goals as goal

pub compare_places-requires-clause-within : goal.compare_places-requires-clause-within
compare_places-requires-clause-within c =
    let a = length-paths [] c.self.inside.places.items in
    let b = ap length c.self.view_is in
    let d = c.requires.within.0 in
    let e = c.requires.within.1 in
    (omega arith, omega arith)
