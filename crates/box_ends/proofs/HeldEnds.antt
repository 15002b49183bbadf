-- Lists of ends that are held: those of a problem's bounds, and those of which one moved.
use Rattle.std.proofs.Common.{◌≡◌, inl, inr, sym, ap, ◌∙◌, subst, arith, ℕ, ◌<◌, ◌≤◌, ℤ, pos, ◌+ℤ◌, ◌-ℤ◌, ◌≤ℤ◌, ◌<ℤ◌, List, length, map, Bool, true, false, Some, IsTrue}
use Rattle.std.specs.Prelude.{slice_get}
use Rattle.std.proofs.lemmas.List.{length-map, get_or-map}
use Rattle.std.proofs.lemmas.Option.{slice_get_cases}
use Rattle.integer_laws.proofs.Ring.{linear}
use Rattle.gas_model.specs.declared.rows.Ends.{Ends}
use Rattle.gas_model.specs.Rows.{Network}
use Rattle.gas_model.specs.Within.{IsWithin}
use Rattle.gas_model.specs.Boxes.{no_ends, flow_ends, square_ends, with_end, may_become}
use Rattle.base_types.specs.declared.variables.Var.{Var}
use Rattle.base_types.specs.declared.variables.Var.TheVariants.{Flow, Square}
use Rattle.gas_model.specs.BoxLimits.{IsScale, LieWithin, AreFlowEnds, AreSquareEnds, AreLimited}
use Rattle.gas_model.proofs.LimitFacts.{row_flows, node_pressures}
use Rattle.box_ends.specs.Scaled.{AreHeld}
use Rattle.box_ends.proofs.EndFits.{flow_ends_limited, square_ends_limited}

-- what f gives of each row is within the limits
pub held_map : {X : Type 0} (limits : Ends → Type 0) (f : X → Ends) (rows : List X) → length rows ≤ 2000
    → ((i : ℕ) (x : X) → slice_get rows i ≡ Some x → limits (f x)) → AreHeld limits (map f rows)
held_map {X} limits f rows few each = record {
  few = omega (arith, length-map rows f);
  each = λ i l.
      let within : i < length rows = omega (arith, length-map rows f) in
      elim (slice_get_cases rows i).1 [
        | inl (x, _, here, value) ↦ subst limits (sym (get_or-map f rows i x no_ends within ∙ ap f value)) (each i x here)
        | inr past ↦ absurd (omega (arith, past.0))
      ];
}

pub held_flows : (p : Network) (K : ℤ) → IsScale K → IsWithin p → AreHeld (AreFlowEnds K) (map (flow_ends K) p.arcs)
held_flows p K k w =
    held_map (AreFlowEnds K) (flow_ends K) p.arcs w.few_arcs (λ a row e. let q = row_flows row (w.arcs a row e) in flow_ends_limited K row k q.0 q.1)

pub held_squares : (p : Network) (K : ℤ) → IsScale K → IsWithin p → AreHeld (AreSquareEnds K) (map (square_ends K) p.nodes)
held_squares p K k w =
    held_map (AreSquareEnds K) (square_ends K) p.nodes w.few_nodes (λ n node e. let q = node_pressures node (w.nodes n node e) in square_ends_limited K node k q.0 q.1)

-- an end moves inward, at most one past the other
moved_within : (least most : ℤ) (low : Bool) (C : ℤ) (e : Ends) → LieWithin least most e → IsTrue (may_become low C e) → LieWithin least most (with_end low C e)
moved_within least most true C e h t =
    let above : e.lo <ℤ C = grind (arith, linear) in
    let below : C ≤ℤ (e.hi +ℤ pos 1) = grind (arith, linear) in
    record {
      low_from = omega (arith, linear, h.low_from);
      low_to = omega (arith, linear, h.high_to);
      high_from = h.high_from;
      high_to = h.high_to;
    }
moved_within least most false C e h t =
    let above : (e.lo -ℤ pos 1) ≤ℤ C = grind (arith, linear) in
    let below : C <ℤ e.hi = grind (arith, linear) in
    record {
      low_from = h.low_from;
      low_to = h.low_to;
      high_from = omega (arith, linear, h.low_from);
      high_to = omega (arith, linear, h.high_to);
    }

-- the ends of a variable, of which one moves inward
pub end_moved : (K : ℤ) (var : Var) (low : Bool) (C : ℤ) (e : Ends) → AreLimited K var e → IsTrue (may_become low C e) → AreLimited K var (with_end low C e)
end_moved K (Flow a) low C e h t = moved_within _ _ low C e h t
end_moved K (Square n) low C e h t = moved_within _ _ low C e h t
