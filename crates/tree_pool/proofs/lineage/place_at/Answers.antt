use Rattle.std.proofs.Common.{get_or}
use Rattle.std.proofs.lemmas.Option.{slice_get-get_or}
use Rattle.tree_pool.proofs.PathsOf.{lower_at, path_below_parent}
use Rattle.tree_pool.proofs.lineage.place_at.Goals as goal

pub returns-clause-path : goal.returns-clause-path
returns-clause-path c ne =
    let xs = c.args.places.now in
    path_below_parent xs c.args.n (get_or xs c.args.n (record { parent = 0; nth = 0 })) c.requires.arena ne (slice_get-get_or xs c.args.n (record { parent = 0; nth = 0 }) c.requires.within)

pub returns-clause-lower : goal.returns-clause-lower
returns-clause-lower c ne =
    let xs = c.args.places.now in
    lower_at xs c.args.n (get_or xs c.args.n (record { parent = 0; nth = 0 })) c.requires.arena ne (slice_get-get_or xs c.args.n (record { parent = 0; nth = 0 }) c.requires.within)
