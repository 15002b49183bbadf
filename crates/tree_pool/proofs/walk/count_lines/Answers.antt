use Rattle.std.proofs.Common.{◌<◌, Option, ℕ, length, subst, arith}
use Rattle.std.specs.Prelude.{IfSome}
use Rattle.tree_pool.specs.Nodes.{rows_of}
use Rattle.tree_pool.proofs.Ahead.{ahead_few}
use Rattle.tree_pool.proofs.NextBoxes.{counts_begin, counts_on, size_ahead, size_small}
use Rattle.tree_pool.proofs.walk.count_lines.Goals as goal

pub boxes-init : goal.boxes-init
boxes-init c =
    record {
      within = c.requires.within;
      so_far = counts_begin c.args.places.now c.args.nodes.now c.requires.rows c.args.next;
      few = (let a = ahead_few (rows_of c.args.places.now c.args.nodes.now) c.args.next in omega arith);
    }

pub bounds-nodes-n : goal.bounds-nodes-n
bounds-nodes-n c = subst (λ (o : Option ℕ). IfSome o (λ n. n < length c.args.nodes.now)) c.in-Some.is c.boxes.invariant.within

pub next_box-next-requires-clause-within : goal.next_box-next-requires-clause-within
next_box-next-requires-clause-within c = subst (λ (o : Option ℕ). IfSome o (λ n. n < length c.args.nodes.now)) c.in-Some.is c.boxes.invariant.within

pub count_own-own-requires : goal.count_own-own-requires
count_own-own-requires c =
    let ps = c.args.places.now in
    let ns = c.args.nodes.now in
    let lt = subst (λ (o : Option ℕ). IfSome o (λ n. n < length ns)) c.in-Some.is c.boxes.invariant.within in
    let a = size_small ps ns c.requires.rows c.in-Some.n c.index-nodes-n.result lt c.index-nodes-n.is in
    let few = rw c.in-Some.is at c.boxes.invariant.few in
    let all = c.requires.few in
    omega arith

pub overflow_add-count : goal.overflow_add-count
overflow_add-count c =
    let ps = c.args.places.now in
    let ns = c.args.nodes.now in
    let lt = subst (λ (o : Option ℕ). IfSome o (λ n. n < length ns)) c.in-Some.is c.boxes.invariant.within in
    let a = size_small ps ns c.requires.rows c.in-Some.n c.index-nodes-n.result lt c.index-nodes-n.is in
    let few = rw c.in-Some.is at c.boxes.invariant.few in
    let all = c.requires.few in
    let own = c.count_own-own.ensures in
    omega arith

pub boxes-preserved : goal.boxes-preserved
boxes-preserved c =
    let ps = c.args.places.now in
    let ns = c.args.nodes.now in
    let lt = subst (λ (o : Option ℕ). IfSome o (λ n. n < length ns)) c.in-Some.is c.boxes.invariant.within in
    let so_far = rw c.in-Some.is at c.boxes.invariant.so_far in
    let few = rw c.in-Some.is at c.boxes.invariant.few in
    let a = size_ahead ps ns c.requires.rows c.next_box-next.result c.in-Some.n c.index-nodes-n.result lt c.index-nodes-n.is c.next_box-next.ensures in
    let own = c.count_own-own.ensures in
    record {
      within = c.next_box-next.ensures.within;
      so_far = rw own (counts_on ps ns c.requires.rows c.args.next c.next_box-next.result c.in-Some.n c.boxes.count c.index-nodes-n.result lt c.index-nodes-n.is c.next_box-next.ensures so_far);
      few = omega arith;
    }

pub boxes-smaller : goal.boxes-smaller
boxes-smaller c =
    let ps = c.args.places.now in
    let ns = c.args.nodes.now in
    let lt = subst (λ (o : Option ℕ). IfSome o (λ n. n < length ns)) c.in-Some.is c.boxes.invariant.within in
    let a = size_ahead ps ns c.requires.rows c.next_box-next.result c.in-Some.n c.index-nodes-n.result lt c.index-nodes-n.is c.next_box-next.ensures in
    rw c.in-Some.is (omega arith)
