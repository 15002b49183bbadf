use Rattle.std.proofs.Common.{◌≡◌, List, length, ap, subst, sym, arith, length-append}
use Rattle.std.specs.Prelude.{slice_get}
use Rattle.tree_cert.specs.declared.line.Head.{Head}
use Rattle.tree_cert.specs.Tree.{ByHalves}
use Rattle.tree_cert.proofs.Options.{holds_some}
use Rattle.tree_pool.specs.Rows.{Row, Splits, fill, after}
use Rattle.tree_pool.specs.Calls.{IsHeld}
use Rattle.tree_pool.proofs.StillHeld.{held_after, length-after}
use Rattle.search_tests.proofs.tree_pools.halve.Goals as goal

pub returns-clause-others : goal.returns-clause-others
returns-clause-others c m ne held =
    let rows = c.args.pool.now in
    let f = fill c.args.steps (Splits (ByHalves c.args.var) (length rows) (length c.push-2.new.self)) in
    let h = holds_some (slice_get rows c.args.n) (λ (r : Row). c.give_back.new.self ≡ after rows c.args.n r.path f c.push-2.new.self) c.in_ok-give_back.ensures.ok in
    subst (λ (rs : List Row). IsHeld rs m) (sym h.2) (held_after rows c.args.n m h.0.path f c.push-2.new.self ne held)

pub returns-clause-count : goal.returns-clause-count
returns-clause-count c =
    let rows = c.args.pool.now in
    let f = fill c.args.steps (Splits (ByHalves c.args.var) (length rows) (length c.push-2.new.self)) in
    let h = holds_some (slice_get rows c.args.n) (λ (r : Row). c.give_back.new.self ≡ after rows c.args.n r.path f c.push-2.new.self) c.in_ok-give_back.ensures.ok in
    let a = ap length h.2 in
    let b = length-after rows c.args.n h.0.path f c.push-2.new.self in
    let d = ap length c.in_ok-push.ensures.ok in
    let e = ap length c.in_ok-push-2.ensures.ok in
    let k = ap length c.new-heads.ensures in
    omega (arith, length-append {A = Head})
