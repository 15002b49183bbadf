use Rattle.std.proofs.Common.{◌∙◌, ◌++◌, List, length, ap, arith, length-append}
use Rattle.tree_pool.specs.declared.node.Node.{Node}
use Rattle.tree_pool.specs.Calls.{fresh_nodes}
use Rattle.tree_pool.specs.Nodes.{rows_of}
use Rattle.tree_pool.proofs.NodeList.{length-rows}
use Rattle.tree_pool.proofs.Totals.{splits_few}
use Rattle.tree_pool.proofs.PoolCalls.{held_within, split_done}
use Rattle.tree_pool.proofs.pool.TreePool.split.Goals as goal

pub stays_in_order-in_order-requires-clause-within : goal.stays_in_order-in_order-requires-clause-within
stays_in_order-in_order-requires-clause-within c =
    let i = c.self.inside in
    let a = held_within i.places i.nodes.items c.self.invariant.sized c.args.self.now c.self.view_is c.args.id c.requires.held in
    let b = c.self.invariant.sized in
    omega arith

pub add_children-requires-clause-within : goal.add_children-requires-clause-within
add_children-requires-clause-within c =
    let i = c.self.inside in
    let a = held_within i.places i.nodes.items c.self.invariant.sized c.args.self.now c.self.view_is c.args.id c.requires.held in
    let b = c.self.invariant.sized in
    omega arith

pub add_children-requires-clause-room : goal.add_children-requires-clause-room
add_children-requires-clause-room c =
    let i = c.self.inside in
    let a = length-rows i.places i.nodes.items c.self.invariant.sized in
    let b = c.self.invariant.sized in
    let d = ap length c.self.view_is in
    let e = ap length c.as_slice.ensures in
    let room = c.requires.room in
    omega arith

pub index_mut-requires : goal.index_mut-requires
index_mut-requires c =
    let i = c.self.inside in
    let a = held_within i.places i.nodes.items c.self.invariant.sized c.args.self.now c.self.view_is c.args.id c.requires.held in
    let b = ap length c.in_ok-append_nodes.ensures.ok in
    let d = length-append i.nodes.items c.in_ok-fresh.fresh.items in
    omega (arith, c.append_nodes.new.nodes.ok.0)

pub overflow_add-self : goal.overflow_add-self
overflow_add-self c =
    let i = c.self.inside in
    let a = length-rows i.places i.nodes.items c.self.invariant.sized in
    let b = c.self.invariant.small in
    let d = c.self.invariant.counted in
    let e = splits_few (rows_of i.places i.nodes.items) in
    omega arith

pub invariant_of-self-in-Ok-1 : goal.invariant_of-self-in-Ok-1
invariant_of-self-in-Ok-1 c =
    let i = c.self.inside in
    (split_done i.places i.nodes.items i.from i.in_order i.branched i.lines c.self.invariant c.args.id c.add_children.new.self c.append_nodes.new.nodes.items c.index_mut.result.now c.fill_node.new.node c.args.self.now c.self.view_is c.requires.held
    c.args.heads (length c.as_slice.result.now) (ap length c.as_slice.ensures) (c.in-Ok.ensures.ok) (c.in_ok-append_nodes.ensures.ok ∙ ap (λ (ns : List Node). i.nodes.items ++ ns) (c.in_ok-fresh.ensures ∙ ap fresh_nodes c.as_slice-3.ensures)) c.index_mut.ensures.value
    c.args.steps c.args.by c.len-first.result (c.len-first.ensures ∙ i.nodes.ok.0) c.fill_node.ensures c.stays_in_order-in_order.result c.stays_in_order-in_order.ensures c.requires.room c.in_ok-lines.lines
    (let a = c.in_ok-lines.ensures.sum in let d = ap length c.as_slice-2.ensures in omega arith) c.in_ok-lines.ensures.fits).0

pub returns-in-Ok-clause-ok : goal.returns-in-Ok-clause-ok
returns-in-Ok-clause-ok c =
    let i = c.self.inside in
    (split_done i.places i.nodes.items i.from i.in_order i.branched i.lines c.self.invariant c.args.id c.add_children.new.self c.append_nodes.new.nodes.items c.index_mut.result.now c.fill_node.new.node c.args.self.now c.self.view_is c.requires.held
    c.args.heads (length c.as_slice.result.now) (ap length c.as_slice.ensures) (c.in-Ok.ensures.ok) (c.in_ok-append_nodes.ensures.ok ∙ ap (λ (ns : List Node). i.nodes.items ++ ns) (c.in_ok-fresh.ensures ∙ ap fresh_nodes c.as_slice-3.ensures)) c.index_mut.ensures.value
    c.args.steps c.args.by c.len-first.result (c.len-first.ensures ∙ i.nodes.ok.0) c.fill_node.ensures c.stays_in_order-in_order.result c.stays_in_order-in_order.ensures c.requires.room c.in_ok-lines.lines
    (let a = c.in_ok-lines.ensures.sum in let d = ap length c.as_slice-2.ensures in omega arith) c.in_ok-lines.ensures.fits).1
