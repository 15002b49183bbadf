use Rattle.std.proofs.Common.{List, length, ap, subst, arith}
use Rattle.tree_pool.specs.Rows.{Row, IsMap}
use Rattle.tree_pool.specs.Laws.{ShowOneTree, IsWholeWhereNoneOpen}
use Rattle.tree_pool.specs.Nodes.{rows_of}
use Rattle.tree_pool.proofs.NodeList.{length-rows}
use Rattle.tree_pool.proofs.Single.{show_one_tree, whole_where_none_open}
use Rattle.tree_pool.proofs.pool.TreePool.shows_one_tree.Goals as goal

pub returns-clause-map : goal.returns-clause-map
returns-clause-map c = subst (λ (rs : List Row). IsMap rs) c.self.view_is c.self.invariant.map

pub returns-clause-small : goal.returns-clause-small
returns-clause-small c =
    let a = length-rows c.self.inside.places c.self.inside.nodes.items c.self.invariant.sized in
    let b = ap length c.self.view_is in
    let d = c.self.invariant.small in
    omega arith

pub returns-clause-one : goal.returns-clause-one
returns-clause-one c = subst (λ (rs : List Row). ShowOneTree rs) c.self.view_is (show_one_tree (rows_of c.self.inside.places c.self.inside.nodes.items) c.self.invariant.map)

pub returns-clause-whole : goal.returns-clause-whole
returns-clause-whole c = subst (λ (rs : List Row). IsWholeWhereNoneOpen rs) c.self.view_is (whole_where_none_open (rows_of c.self.inside.places c.self.inside.nodes.items) c.self.invariant.map)
