use Rattle.std.proofs.Common.{◌≡◌, ◌≤◌, ◌+◌, ◌-◌, ◌<◌, ℕ, Bool, List, [], Option, Some, length, sym, ap, subst, ◌∙◌, arith}
use Rattle.tree_cert.specs.declared.line.Line.{Line}
use Rattle.tree_cert.specs.Tree.{Tree}
use Rattle.tree_cert.specs.TreeRules.{Holds}
use Rattle.tree_pool.specs.declared.node.Node.{Node}
use Rattle.tree_pool.specs.Rows.{Row}
use Rattle.tree_pool.specs.Shown.{works, Shows}
use Rattle.tree_pool.specs.Lines.{Remains, Pending, IsLineOf}
use Rattle.tree_pool.specs.Nodes.{rows_of, AreRows, IsPool}
use Rattle.tree_pool.specs.Walks.{IsNext}
use Rattle.tree_pool.proofs.NodeList.{length-rows}
use Rattle.tree_pool.proofs.NextBoxes.{row_of_number}
use Rattle.tree_pool.proofs.Onward.{line_number}
use Rattle.tree_pool.proofs.pool.TreePool.line_of.Goals as goal

-- what was read of the nodes is all of them
read_rows : (ps : List (List ℕ)) (ns seen : List Node) (from : ℕ) (in_order : Bool) (branched count : ℕ) → seen ≡ ns → IsPool ps ns from in_order branched count → AreRows ps seen
read_rows ps ns seen from in_order branched count is pool = subst (λ (l : List Node). AreRows ps l) (sym is) (record { sized = pool.sized; small = pool.small; map = pool.map; cuts = pool.cuts })

read_view : (ps : List (List ℕ)) (ns seen : List Node) (rows : List Row) → seen ≡ ns → rows_of ps ns ≡ rows → rows_of ps seen ≡ rows
read_view ps ns seen rows is view = ap (λ (l : List Node). rows_of ps l) is ∙ view

-- a number of a row is one of a node
number_in : (ps : List (List ℕ)) (ns : List Node) → AreRows ps ns → (rows : List Row) → rows_of ps ns ≡ rows → (n : ℕ) → n < length rows → n < length ns
number_in ps ns are rows view n lt =
    let a = length-rows ps ns are.sized in
    let b = ap length view in
    omega arith

-- the number of a box's line, by paths and nodes
line_found : (ps : List (List ℕ)) (ns : List Node) → AreRows ps ns → (rows : List Row) → rows_of ps ns ≡ rows → (n : ℕ) → n < length rows → (all below : ℕ) (next : Option ℕ)
    → ((ls : List Line) → Pending (rows_of ps ns) (Some 0) ls → all ≡ length ls) → IsNext ps ns n next → ((ls : List Line) → Pending (rows_of ps ns) next ls → below ≡ length ls)
    → (below ≤ all) × ((t : Tree) → Shows (works rows) [] t → IsLineOf rows n (all - below + 1) t)
line_found ps ns are rows view n lt all below next counted step after =
    let lr = length-rows ps ns are.sized in
    let lv = ap length view in
    let q = row_of_number ps ns are n (omega arith) in
    subst (λ (rs : List Row). (below ≤ all) × ((t : Tree) → Shows (works rs) [] t → IsLineOf rs n (all - below + 1) t)) view
    (line_number (rows_of ps ns) are.map n q.0 q.1 all below counted
    (λ rest h. after rest (step.follows rest (subst (λ (o : Option Row). Holds o (λ r. Remains (rows_of ps ns) r rest)) (sym q.1) h))))

pub next_box-next-requires-clause-within : goal.next_box-next-requires-clause-within
next_box-next-requires-clause-within c =
    let i = c.self.inside in
    let is = c.as_slice-nodes.ensures.value in
    let are = read_rows i.places i.nodes.items c.as_slice-nodes.result.now i.from i.in_order i.branched i.lines is c.self.invariant in
    number_in i.places c.as_slice-nodes.result.now are c.args.self.now (read_view i.places i.nodes.items c.as_slice-nodes.result.now c.args.self.now is c.self.view_is) c.args.id c.requires

pub overflow_sub-result : goal.overflow_sub-result
overflow_sub-result c =
    let i = c.self.inside in
    let is = c.as_slice-nodes.ensures.value in
    let are = read_rows i.places i.nodes.items c.as_slice-nodes.result.now i.from i.in_order i.branched i.lines is c.self.invariant in
    (line_found i.places c.as_slice-nodes.result.now are c.args.self.now (read_view i.places i.nodes.items c.as_slice-nodes.result.now c.args.self.now is c.self.view_is) c.args.id c.requires
    c.count_lines-all.result c.count_lines-below.result c.next_box-next.result c.count_lines-all.ensures.number c.next_box-next.ensures c.count_lines-below.ensures.number).0

pub returns : goal.returns
returns c =
    let i = c.self.inside in
    let is = c.as_slice-nodes.ensures.value in
    let are = read_rows i.places i.nodes.items c.as_slice-nodes.result.now i.from i.in_order i.branched i.lines is c.self.invariant in
    (line_found i.places c.as_slice-nodes.result.now are c.args.self.now (read_view i.places i.nodes.items c.as_slice-nodes.result.now c.args.self.now is c.self.view_is) c.args.id c.requires
    c.count_lines-all.result c.count_lines-below.result c.next_box-next.result c.count_lines-all.ensures.number c.next_box-next.ensures c.count_lines-below.ensures.number).1
