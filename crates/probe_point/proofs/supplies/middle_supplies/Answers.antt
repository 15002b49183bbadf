use Rattle.std.proofs.Common.{◌≡◌, ℕ, refl, sym, ap, ◌∙◌, arith, List, [], ◌∷◌, ◌++◌, length, map, take, get_or, Some, ℤ, FitsSigned, to_z-of_z}
use Rattle.std.specs.Int.{w128}
use Rattle.std.specs.Prelude.{slice_get}
use Rattle.std.proofs.Math.Seq.{take-length}
use Rattle.std.proofs.lemmas.List.{map_more}
use Rattle.std.proofs.lemmas.Option.{slice_get_read}
use Rattle.gas_model.proofs.LimitFacts.{node_supplies}
use Rattle.probe_point.specs.Points.{middle_supply}
use Rattle.probe_point.proofs.SizeFacts.{fits_in}
use Rattle.probe_point.proofs.NumberFacts.{small_push}
use Rattle.probe_point.proofs.supplies.middle_supplies.Goals as goal

pub middle_supply-requires-clause-low : goal.middle_supply-requires-clause-low
middle_supply-requires-clause-low c =
    let nodes = c.nodes-node-items.result.now in
    let node = c.node-item.result in
    let here : slice_get nodes c.loop-node.node-index ≡ Some node = slice_get_read nodes (length nodes) c.loop-node.node-index node refl c.loop-node-test.true c.node-item.is in
    (node_supplies node (c.nodes-node-items.ensures.within.nodes c.loop-node.node-index node (rw c.nodes-node-items.ensures.rows at here))).0

pub middle_supply-requires-clause-high : goal.middle_supply-requires-clause-high
middle_supply-requires-clause-high c =
    let nodes = c.nodes-node-items.result.now in
    let node = c.node-item.result in
    let here : slice_get nodes c.loop-node.node-index ≡ Some node = slice_get_read nodes (length nodes) c.loop-node.node-index node refl c.loop-node-test.true c.node-item.is in
    (node_supplies node (c.nodes-node-items.ensures.within.nodes c.loop-node.node-index node (rw c.nodes-node-items.ensures.rows at here))).1

pub loop-node-preserved : goal.loop-node-preserved
loop-node-preserved c =
    let nodes = c.nodes-node-items.result.now in
    let node = c.node-item.result in
    let i : ℕ = c.loop-node.node-index in
    let s = c.loop-node.invariant in
    let x : ℤ = c.middle_supply.result in
    let is : x ≡ middle_supply (get_or nodes i node) = c.middle_supply.ensures.value ∙ ap middle_supply c.node-item.is in
    let fits : FitsSigned w128 x = fits_in 1000000000000 x (omega arith) c.middle_supply.ensures.size in
    let here : c.push.new.self.items ≡ c.loop-node.all.items ++ x ∷ [] = simp to_z-of_z at c.in_ok-push.ensures.items in
    rw here (record {
      value = ap (λ (xs : List ℤ). xs ++ x ∷ []) s.value ∙ ap (λ (y : ℤ). map middle_supply (take i nodes) ++ y ∷ []) is ∙ sym (map_more middle_supply nodes i node c.loop-node-test.true);
      size = small_push 1 c.loop-node.all.items x (let h = c.middle_supply.ensures.size in omega arith) s.size;
    })

pub returns-clause-value : goal.returns-clause-value
returns-clause-value c =
    let nodes = c.nodes-node-items.result.now in
    let done : c.loop-node.node-index ≡ length nodes = omega arith in
    c.loop-node.invariant.value ∙ ap (map middle_supply) (ap (λ (k : ℕ). take k nodes) done ∙ take-length nodes ∙ c.nodes-node-items.ensures.rows)
