use Rattle.std.proofs.Common.{◌≡◌, ◌≢◌, ℕ, [], get_or, sym, ◌∙◌, ap, subst, arith}
use Rattle.std.proofs.lemmas.Option.{slice_get-get_or}
use Rattle.tree_pool.specs.declared.lineage.Place.{Place}
use Rattle.tree_pool.specs.Order.{order, or_then}
use Rattle.tree_pool.specs.Lineages.{paths_of}
use Rattle.tree_pool.proofs.PathsOf.{a_ends, b_ends, goes_up, lower_at, order_equal}
use Rattle.tree_pool.proofs.lineage.compare_places.Goals as goal

pub returns-then-a-eq0 : goal.returns-then-a-eq0
returns-then-a-eq0 c =
    let ps = paths_of c.args.places.now in
    let zero : c.loop-a.a ≡ 0 = c.if-a-eq0.true in
    let e = subst (λ (a : ℕ). order (get_or ps c.args.a []) (get_or ps c.args.b []) ≡ or_then (order (get_or ps a []) (get_or ps c.loop-a.b [])) c.loop-a.below) zero c.loop-a.invariant.so_far in
    let ne : c.loop-a.b ≢ 0 = λ b. c.loop-a-test.true (zero ∙ sym b) in
    a_ends c.args.places.now c.loop-a.b c.loop-a.below c.requires.arena c.loop-a.invariant.right ne ∙ sym e

pub returns-then-b-eq0 : goal.returns-then-b-eq0
returns-then-b-eq0 c =
    let ps = paths_of c.args.places.now in
    let zero : c.loop-a.b ≡ 0 = c.if-b-eq0.true in
    let e = subst (λ (b : ℕ). order (get_or ps c.args.a []) (get_or ps c.args.b []) ≡ or_then (order (get_or ps c.loop-a.a []) (get_or ps b [])) c.loop-a.below) zero c.loop-a.invariant.so_far in
    b_ends c.args.places.now c.loop-a.a c.loop-a.below c.requires.arena c.loop-a.invariant.left c.if-a-eq0.false ∙ sym e

pub loop-a-smaller : goal.loop-a-smaller
loop-a-smaller c =
    lower_at c.args.places.now c.loop-a.a (get_or c.args.places.now c.loop-a.a (record { parent = 0; nth = 0 })) c.requires.arena c.if-a-eq0.false
    (slice_get-get_or c.args.places.now c.loop-a.a (record { parent = 0; nth = 0 }) c.loop-a.invariant.left)

pub loop-a-preserved : goal.loop-a-preserved
loop-a-preserved c =
    let xs = c.args.places.now in
    let x : Place = get_or c.args.places.now c.loop-a.a (record { parent = 0; nth = 0 }) in
    let y : Place = get_or c.args.places.now c.loop-a.b (record { parent = 0; nth = 0 }) in
    let hx = slice_get-get_or c.args.places.now c.loop-a.a (record { parent = 0; nth = 0 }) c.loop-a.invariant.left in
    let hy = slice_get-get_or c.args.places.now c.loop-a.b (record { parent = 0; nth = 0 }) c.loop-a.invariant.right in
    let lx = lower_at c.args.places.now c.loop-a.a x c.requires.arena c.if-a-eq0.false hx in
    let ly = lower_at c.args.places.now c.loop-a.b y c.requires.arena c.if-b-eq0.false hy in
    record {
      left = (let a = c.loop-a.invariant.left in omega (arith, lx));
      right = (let a = c.loop-a.invariant.right in omega (arith, ly));
      so_far =
          c.loop-a.invariant.so_far
          ∙ goes_up c.args.places.now c.loop-a.a c.loop-a.b x y c.loop-a.below c.requires.arena c.loop-a.invariant.left c.loop-a.invariant.right c.if-a-eq0.false c.if-b-eq0.false hx hy
          ∙ ap (λ o. or_then (order (get_or (paths_of c.args.places.now) x.parent []) (get_or (paths_of c.args.places.now) y.parent [])) o) (sym (c.first_of-below.ensures ∙ ap (λ o. or_then o c.loop-a.below) c.cmp.ensures));
    }

pub returns : goal.returns
returns c =
    order_equal c.args.places.now c.loop-a.a c.loop-a.b c.loop-a.below c.loop-a-test.false ∙ sym c.loop-a.invariant.so_far
