use Rattle.std.proofs.Common.{◌≡◌, [], length, get_or, ap, arith}
use Rattle.std.proofs.lemmas.Option.{slice_get-get_or}
use Rattle.tree_pool.specs.declared.lineage.Place.{Place}
use Rattle.tree_pool.specs.Lineages.{paths_of}
use Rattle.tree_pool.proofs.PathsOf.{lower_at, path_short, path_root, path_below_parent}
use Rattle.tree_pool.proofs.lineage.depth_in.Goals as goal

pub overflow_add-depth : goal.overflow_add-depth
overflow_add-depth c =
    let xs = c.args.places.now in
    let x : Place = get_or xs c.loop-n.n (record { parent = 0; nth = 0 }) in
    let h = slice_get-get_or xs c.loop-n.n (record { parent = 0; nth = 0 }) c.loop-n.invariant.within in
    let a = ap length (path_below_parent xs c.loop-n.n x c.requires.arena c.loop-n-test.true h) in
    let b = path_short xs c.args.n c.args.n (omega arith) c.requires.arena c.requires.within in
    let d = c.requires.arena.small in
    let e = c.loop-n.invariant.so_far in
    let i = c.requires.within in
    omega arith

pub loop-n-smaller : goal.loop-n-smaller
loop-n-smaller c =
    let xs = c.args.places.now in
    lower_at xs c.loop-n.n (get_or xs c.loop-n.n (record { parent = 0; nth = 0 })) c.requires.arena c.loop-n-test.true (slice_get-get_or xs c.loop-n.n (record { parent = 0; nth = 0 }) c.loop-n.invariant.within)

pub loop-n-preserved : goal.loop-n-preserved
loop-n-preserved c =
    let xs = c.args.places.now in
    let x : Place = get_or xs c.loop-n.n (record { parent = 0; nth = 0 }) in
    let h = slice_get-get_or xs c.loop-n.n (record { parent = 0; nth = 0 }) c.loop-n.invariant.within in
    let a = ap length (path_below_parent xs c.loop-n.n x c.requires.arena c.loop-n-test.true h) in
    let low = lower_at xs c.loop-n.n x c.requires.arena c.loop-n-test.true h in
    let e = c.loop-n.invariant.so_far in
    let i = c.loop-n.invariant.within in
    record { within = omega (arith, low); so_far = omega arith }

pub returns : goal.returns
returns c =
    let zero = c.loop-n-test.false in
    let e = path_root c.args.places.now in
    let f : get_or (paths_of c.args.places.now) c.loop-n.n [] ≡ [] = rw zero e in
    let a = ap length f in
    let d = c.loop-n.invariant.so_far in
    omega arith
