use Rattle.std.proofs.Common.{[], length, ap, arith}
use Rattle.tree_pool.proofs.PathsOf.{length-paths}
use Rattle.tree_pool.proofs.lineage.Lineage.depth.Goals as goal

pub depth_in-requires-clause-within : goal.depth_in-requires-clause-within
depth_in-requires-clause-within c =
    let a = length-paths [] c.self.inside.places.items in
    let b = ap length c.self.view_is in
    let d = c.requires in
    omega arith
