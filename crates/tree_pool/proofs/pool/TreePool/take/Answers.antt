use Rattle.std.proofs.Common.{◌≡◌, ◌<◌, ◌∙◌, ℕ, ap, List, length, subst, arith}
use Rattle.tree_pool.specs.Rows.{Row, NoneWaits}
use Rattle.tree_pool.specs.Calls.{NodesPass}
use Rattle.tree_pool.proofs.PoolKeeps.{pool_from, first_found, none_waits}
use Rattle.tree_pool.proofs.PoolCalls.{took}
use Rattle.tree_pool.proofs.pool.TreePool.take.Goals as goal

pub next_waiting-from-requires : goal.next_waiting-from-requires
next_waiting-from-requires c = rw c.as_slice-nodes.ensures.value c.self.invariant.within

pub earliest-n-requires-clause-before : goal.earliest-n-requires-clause-before
earliest-n-requires-clause-before c =
    let i = c.self.inside in
    let e = c.as_slice-nodes.ensures.value in
    let a = c.next_waiting-from.ensures.within in
    let lt : c.next_waiting-from.result < length i.nodes.items = rw (← e) (let ne = c.if-from-count.false in omega arith) in
    rw e (first_found i.places i.nodes.items i.from i.in_order i.branched i.lines c.self.invariant c.next_waiting-from.result (rw e at c.next_waiting-from.ensures.passed) lt (rw e at c.next_waiting-from.ensures.waits))

pub invariant_of-self : goal.invariant_of-self
invariant_of-self c =
    let i = c.self.inside in
    let e = c.as_slice-nodes.ensures.value in
    pool_from i.places i.nodes.items i.from i.in_order i.branched i.lines c.self.invariant c.next_waiting-from.result (rw e at c.next_waiting-from.ensures.within.1) (rw e at c.next_waiting-from.ensures.passed)

pub invariant_of-self-2 : goal.invariant_of-self-2
invariant_of-self-2 c =
    let i = c.self.inside in
    let e = c.as_slice-nodes.ensures.value in
    (took i.places i.nodes.items i.from i.in_order i.branched i.lines c.self.invariant c.next_waiting-from.result (rw e at c.next_waiting-from.ensures.passed) (rw e at c.next_waiting-from.ensures.within.1)
    c.earliest-n.result c.index_mut.result.now c.set_standing.new.node c.args.self.now c.self.view_is (rw e at c.earliest-n.ensures.first) c.index_mut.ensures.value c.set_standing.ensures).0

pub returns-then-from-count-clause-none : goal.returns-then-from-count-clause-none
returns-then-from-count-clause-none c =
    let i = c.self.inside in
    let e = c.as_slice-nodes.ensures.value in
    let k : c.next_waiting-from.result ≡ length i.nodes.items = c.if-from-count.true ∙ ap length e in
    let pass = rw e at c.next_waiting-from.ensures.passed in (
      subst (λ (rs : List Row). NoneWaits rs) c.self.view_is (none_waits i.places i.nodes.items i.from i.in_order i.branched i.lines c.self.invariant (subst (λ (n : ℕ). NodesPass i.nodes.items i.from n) k pass)),
      c.self.view_is,
    )

pub returns-clause-some : goal.returns-clause-some
returns-clause-some c =
    let i = c.self.inside in
    let e = c.as_slice-nodes.ensures.value in
    let z = took i.places i.nodes.items i.from i.in_order i.branched i.lines c.self.invariant c.next_waiting-from.result (rw e at c.next_waiting-from.ensures.passed) (rw e at c.next_waiting-from.ensures.within.1)
    c.earliest-n.result c.index_mut.result.now c.set_standing.new.node c.args.self.now c.self.view_is (rw e at c.earliest-n.ensures.first) c.index_mut.ensures.value c.set_standing.ensures in
    (z.1, z.2)
