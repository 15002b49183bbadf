use Rattle.std.proofs.Common.{◌++◌, ◌∷◌, [], refl, arith}
use Rattle.tree_pool.proofs.NextBoxes.{goes_at, climbs_at, above_at, next_fits, ends_at_root}
use Rattle.tree_pool.proofs.walk.after_box.Goals as goal

pub loop-n-init : goal.loop-n-init
loop-n-init c = record { within = c.requires.within; follows = λ rest h. h; above = ([], refl) }

pub count_at-count-requires : goal.count_at-count-requires
count_at-count-requires c = let a = c.at-place.ensures.lower c.loop-n-test.true in let b = c.loop-n.invariant.within in omega arith

pub overflow_add-next : goal.overflow_add-next
overflow_add-next c =
    let ps = c.args.places.now in
    let ns = c.args.nodes.now in
    let low = c.at-place.ensures.lower c.loop-n-test.true in
    let inside = c.loop-n.invariant.within in
    let after = goes_at ps ns c.requires.rows c.args.n c.loop-n.n c.at-place.result.nth c.at-place.result.parent c.count_at-count.result c.loop-n.invariant.above.0 inside (omega arith) c.count_at-count.ensures
    (c.at-place.ensures.path c.loop-n-test.true) (c.has_later.ensures.some c.if-has_later.true) c.loop-n.invariant.above.1 c.loop-n.invariant.follows in
    let fits = next_fits ps ns c.requires.rows c.args.n c.loop-n.n after in
    omega arith

pub returns-then-has_later : goal.returns-then-has_later
returns-then-has_later c =
    let ps = c.args.places.now in
    let ns = c.args.nodes.now in
    let low = c.at-place.ensures.lower c.loop-n-test.true in
    let inside = c.loop-n.invariant.within in
    goes_at ps ns c.requires.rows c.args.n c.loop-n.n c.at-place.result.nth c.at-place.result.parent c.count_at-count.result c.loop-n.invariant.above.0 inside (omega arith) c.count_at-count.ensures
    (c.at-place.ensures.path c.loop-n-test.true) (c.has_later.ensures.some c.if-has_later.true) c.loop-n.invariant.above.1 c.loop-n.invariant.follows

pub loop-n-smaller : goal.loop-n-smaller
loop-n-smaller c = c.at-place.ensures.lower c.loop-n-test.true

pub loop-n-preserved : goal.loop-n-preserved
loop-n-preserved c =
    let ps = c.args.places.now in
    let ns = c.args.nodes.now in
    let low = c.at-place.ensures.lower c.loop-n-test.true in
    let inside = c.loop-n.invariant.within in
    let path = c.at-place.ensures.path c.loop-n-test.true in
    record {
      within = omega arith;
      follows = climbs_at ps ns c.requires.rows c.args.n c.loop-n.n c.at-place.result.nth c.at-place.result.parent c.count_at-count.result (omega arith) c.count_at-count.ensures path (c.has_later.ensures.none c.if-has_later.false) c.loop-n.invariant.follows;
      above = (c.loop-n.invariant.above.0 ++ c.at-place.result.nth ∷ [], above_at ps ns c.requires.rows c.args.n c.loop-n.n c.at-place.result.nth c.at-place.result.parent c.loop-n.invariant.above.0 path c.loop-n.invariant.above.1);
    }

pub returns : goal.returns
returns c =
    let zero = c.loop-n-test.false in
    let some = c.requires.within in
    ends_at_root c.args.places.now c.args.nodes.now c.requires.rows c.args.n (rw zero at c.loop-n.invariant.follows) (omega arith)
