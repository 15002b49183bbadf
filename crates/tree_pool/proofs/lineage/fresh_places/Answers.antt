use Rattle.std.proofs.Common.{◌≡◌, ◌∷◌, [], ◌++◌, ◌+◌, List, ap, sym, ◌∙◌, arith}
use Rattle.tree_pool.specs.declared.lineage.Place.{Place}
use Rattle.tree_pool.specs.Lineages.{places_of}
use Rattle.tree_pool.proofs.PathsOf.{places_more}
use Rattle.tree_pool.proofs.lineage.fresh_places.Goals as goal

pub loop-nth-preserved : goal.loop-nth-preserved
loop-nth-preserved c =
    let e : 0 + c.loop-nth.nth ≡ c.loop-nth.nth = omega arith in
    c.in-Ok.ensures.items ∙ ap (λ (ps : List Place). ps ++ (record { parent = c.args.parent; nth = c.loop-nth.nth }) ∷ []) c.loop-nth.invariant
    ∙ sym (places_more c.args.parent 0 c.loop-nth.nth ∙ ap (λ k. places_of c.args.parent 0 c.loop-nth.nth ++ (record { parent = c.args.parent; nth = k }) ∷ []) e)
