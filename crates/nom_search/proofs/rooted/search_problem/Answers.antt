use Rattle.std.proofs.Common.{pos}
use Rattle.tree_rules.specs.Branches.{root_box}
use Rattle.box_pool.specs.Grid.{pool_scale}
use Rattle.nom_search.specs.Halted.{Answers, IsAnswerOf}
use Rattle.box_pool.proofs.KeptOf.{if_ok_map}
use Rattle.nom_search.proofs.RootBox.{new_begins}
use Rattle.nom_search.proofs.rooted.search_problem.Goals as goal

pub search-requires-clause-begins : goal.search-requires-clause-begins
search-requires-clause-begins c = (root_box pool_scale c.args.p.now, new_begins c.args.p.now c.in_ok-pool.pool c.in_ok-pool.ensures.new)

pub returns : goal.returns
returns c =
    if_ok_map c.search.result (Answers c.args.p.now (pos c.args.tol) (root_box pool_scale c.args.p.now) c.args.boxes c.search.new.pool) (IsAnswerOf c.args.p.now (pos c.args.tol) c.args.boxes)
    (λ f h. (c.search.new.pool, h)) (c.search.ensures.answers (root_box pool_scale c.args.p.now) (new_begins c.args.p.now c.in_ok-pool.pool c.in_ok-pool.ensures.new))
