use Rattle.std.proofs.Common.{rules, refl, List, ◌-ℤ◌, ◌+ℤ◌, arith, ◌≡◌, ℕ, ℤ, suc, ◌<◌, ◌+◌, ◌-◌, length, pos, sym, ap, ◌∙◌, subst, set, FitsSigned, to_z-of_z, get_or-set_other}
use Rattle.std.specs.Int.{w128}
use Rattle.gas_model.specs.Near.{number_at}
use Rattle.topo.specs.Graphs.{graph_of}
use Rattle.topo.specs.Walks.{step_at}
use Rattle.probe_point.specs.Probes.{box_at, nearest, taking_up, AreSmall}
use Rattle.probe_point.proofs.Settled.{Settled, loop_step, all_given, none_given, needs_out, small_given, small_flow}
use Rattle.probe_point.proofs.flows.tree_flows.Goals as goal

last : (n : ℕ) → 0 < n → n ≡ suc (n - 1)
last n h = omega arith

pub loop-left-init : goal.loop-left-init
loop-left-init c = record {
  within = omega arith;
  small = let e : 2001 + (length c.args.walk.now - length c.args.walk.now) ≡ 2001 = omega arith in subst (λ (m : ℕ). AreSmall m c.args.need.now) (sym e) c.requires.need;
  flows = c.requires.flows;
  settled = λ supply n. none_given c.args.arcs.now (box_at c.args.boxes.now) supply c.args.walk.now (number_at c.args.flows.now) c.args.need.now c.requires.none n;
  others = λ a h. refl;
}

pub loop-left-preserved : goal.loop-left-preserved
loop-left-preserved c =
    let s = c.loop-left.invariant in
    let i : ℕ = c.loop-left.left - 1 in
    let g = graph_of c.args.arcs.now in
    let lt : i < length c.args.walk.now = (let h = c.loop-left-test.true in let w = s.within in omega arith) in
    let a : ℕ = (step_at c.args.walk.now i).0 in
    let ha : a < length c.args.arcs.now = c.requires.walk.arc i lt in
    let long : length c.loop-left.flows ≡ length c.args.flows.now = c.loop-left.auto.flows in
    let size : length c.loop-left.need ≡ length c.args.need.now = c.loop-left.auto.need in
    let fits : FitsSigned w128 c.balancing-flow.result = search rules in
    let e1 = simp to_z-of_z at c.give.ensures.flows in
    let e2 = simp to_z-of_z at c.give.ensures.need in
    let value = c.balancing-flow.ensures.value ∙ ap (λ (v : ℕ). nearest (box_at c.args.boxes.now a) (taking_up g a v (number_at c.loop-left.need v))) c.far-node.ensures in
    record {
      within = omega arith;
      small =
          let f = c.requires.ends.from a ha in
          let t = c.requires.ends.to a ha in
          let more : 2001 + (length c.args.walk.now - c.loop-left.left) + 1 ≡ 2001 + (length c.args.walk.now - i) = (let h = c.loop-left-test.true in let w = s.within in omega arith) in
          rw e2 (subst (λ (m : ℕ). AreSmall m (set (set c.loop-left.need (g.from a) (number_at c.loop-left.need (g.from a) -ℤ c.balancing-flow.result)) (g.to a) (number_at c.loop-left.need (g.to a) +ℤ c.balancing-flow.result))) more (small_given _ (g.from a) (g.to a) c.loop-left.need c.balancing-flow.result (omega arith) (omega arith) (c.requires.ends.apart a ha) c.balancing-flow.ensures.size s.small));
      flows = rw e1 (small_flow 1 a c.loop-left.flows c.balancing-flow.result (let l = c.requires.flow_of_each in omega arith) (let h = c.balancing-flow.ensures.size in omega arith) s.flows);
      settled = λ supply n. loop_step g (box_at c.args.boxes.now) supply c.args.walk.now c.loop-left.flows c.give.new.flows c.loop-left.need c.give.new.need i c.balancing-flow.result c.requires.walk lt (long ∙ c.requires.flow_of_each)
          (λ b hb. let f = c.requires.ends.from b hb in let t = c.requires.ends.to b hb in (omega arith, omega arith)) c.requires.ends.apart
          (subst (Settled g (box_at c.args.boxes.now) supply c.args.walk.now (number_at c.loop-left.flows) c.loop-left.need) (last c.loop-left.left c.loop-left-test.true) (s.settled supply n)) value e1 e2;
      others = λ b h. ap (λ (xs : List ℤ). number_at xs b) e1 ∙ get_or-set_other c.loop-left.flows a b c.balancing-flow.result (pos 0) (h i lt) ∙ s.others b h;
    }

pub returns-clause-tree : goal.returns-clause-tree
returns-clause-tree c supply n =
    let zero_left : c.loop-left.left ≡ 0 = omega arith in
    all_given c.args.arcs.now (box_at c.args.boxes.now) supply c.args.walk.now (number_at c.loop-left.flows) c.loop-left.need (subst (Settled (graph_of c.args.arcs.now) (box_at c.args.boxes.now) supply c.args.walk.now (number_at c.loop-left.flows) c.loop-left.need) zero_left (c.loop-left.invariant.settled supply n))

pub returns-clause-need : goal.returns-clause-need
returns-clause-need c supply n = needs_out c.args.arcs.now supply (number_at c.loop-left.flows) c.loop-left.need (c.loop-left.invariant.settled supply n).needs
