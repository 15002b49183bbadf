use Rattle.std.proofs.Common.{◌<◌, Option, ℕ, length, subst, arith}
use Rattle.std.specs.Prelude.{IfSome}
use Rattle.tree_pool.proofs.NextBoxes.{writes_begin, writes_on, size_ahead, cut_of, some_node}
use Rattle.tree_pool.proofs.walk.put_boxes.Goals as goal

pub boxes-init : goal.boxes-init
boxes-init c = record { within = some_node c.args.places.now c.args.nodes.now c.requires.rows; so_far = writes_begin c.args.places.now c.args.nodes.now c.requires.rows c.args.out.now }

pub bounds-nodes-n : goal.bounds-nodes-n
bounds-nodes-n c = subst (λ (o : Option ℕ). IfSome o (λ n. n < length c.args.nodes.now)) c.in-Some.is c.boxes.invariant.within

pub next_box-next-requires-clause-within : goal.next_box-next-requires-clause-within
next_box-next-requires-clause-within c = subst (λ (o : Option ℕ). IfSome o (λ n. n < length c.args.nodes.now)) c.in-Some.is c.boxes.invariant.within

pub put_box-requires : goal.put_box-requires
put_box-requires c =
    let lt = subst (λ (o : Option ℕ). IfSome o (λ n. n < length c.args.nodes.now)) c.in-Some.is c.boxes.invariant.within in
    cut_of c.args.places.now c.args.nodes.now c.requires.rows c.in-Some.n c.index-nodes-n.result lt c.index-nodes-n.is

pub boxes-preserved : goal.boxes-preserved
boxes-preserved c =
    let ps = c.args.places.now in
    let ns = c.args.nodes.now in
    let lt = subst (λ (o : Option ℕ). IfSome o (λ n. n < length ns)) c.in-Some.is c.boxes.invariant.within in
    let so_far = rw c.in-Some.is at c.boxes.invariant.so_far in
    record {
      within = c.next_box-next.ensures.within;
      so_far = writes_on ps ns c.requires.rows c.next_box-next.result c.in-Some.n c.index-nodes-n.result c.args.out.now c.boxes.out c.put_box.new.out lt c.index-nodes-n.is c.next_box-next.ensures so_far c.in_ok-put_box.ensures;
    }

pub boxes-smaller : goal.boxes-smaller
boxes-smaller c =
    let ps = c.args.places.now in
    let ns = c.args.nodes.now in
    let lt = subst (λ (o : Option ℕ). IfSome o (λ n. n < length ns)) c.in-Some.is c.boxes.invariant.within in
    let a = size_ahead ps ns c.requires.rows c.next_box-next.result c.in-Some.n c.index-nodes-n.result lt c.index-nodes-n.is c.next_box-next.ensures in
    rw c.in-Some.is (omega arith)
