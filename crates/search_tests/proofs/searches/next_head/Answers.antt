use Rattle.std.proofs.Common.{length, ap, ◌∙◌, arith}
use Rattle.std.proofs.lemmas.Option.{slice_get_within}
use Rattle.tree_rules.specs.Branches.{root_box}
use Rattle.tree_pool.specs.Rows.{Held, stand}
use Rattle.tree_pool.proofs.Lists.{length-update}
use Rattle.box_pool.specs.Grid.{pool_scale}
use Rattle.nom_search.proofs.RootBox.{new_begins}
use Rattle.search_tests.proofs.searches.next_head.Goals as goal

pub search-requires-clause-begins : goal.search-requires-clause-begins
search-requires-clause-begins c = (root_box pool_scale c.args.p.now, new_begins c.args.p.now c.in_ok-pool.pool c.in_ok-pool.ensures.new)

pub look-requires-clause-id : goal.look-requires-clause-id
look-requires-clause-id c =
    let some = c.in-Some.ensures.some in
    let a = slice_get_within c.search.new.pool.rows c.in-Some.id some.0.row some.0.here in
    let b = ap length some.1 ∙ length-update c.search.new.pool.rows c.in-Some.id (stand Held) in
    omega arith

pub look-requires-clause-fits : goal.look-requires-clause-fits
look-requires-clause-fits c =
    let root = root_box pool_scale c.args.p.now in
    (c.take.ensures.keeps c.args.p.now root (c.search.ensures.keeps root (new_begins c.args.p.now c.in_ok-pool.pool c.in_ok-pool.ensures.new))).fits
