-- When no law waits, the box is stable; and a closing that is tried and holds says that it isn't.
use Rattle.std.proofs.Common.{ℕ, ◌<◌, refl, sym, ap, ◌∙◌, inl, inr, arith, ℤ, Bool, ◌&&◌, ◌==◌, not, IsTrue, [], length, eq-eqb}
use Rattle.std.specs.Prelude.{slice_get}
use Rattle.std.proofs.lemmas.Bool.{false≢true, and_parts}
use Rattle.std.proofs.lemmas.Option.{slice_get_within}
use Rattle.integer_laws.proofs.Ring.{linear}
use Rattle.base_types.specs.declared.variables.Var.{Var}
use Rattle.gas_model.specs.declared.rows.NodeRow.{NodeRow}
use Rattle.gas_model.specs.Rows.{Network}
use Rattle.gas_model.specs.Boxes.{BoxFits, ends_of, is_var, is_empty}
use Rattle.box_ends.specs.Empty.{LeavesAll}
use Rattle.tree_cert.specs.declared.line.Rule.{Rule}
use Rattle.tree_cert.specs.declared.line.Rule.TheVariants.{Balance, Pipe, Equal, Zero, Way, Inner, Fall, Order, Rise, Ratio, Sign, Reach, Along, Drop}
use Rattle.tree_cert.specs.declared.line.Closing.{Closing}
use Rattle.tree_cert.specs.declared.line.Closing.TheVariants.{Empty, Cut, At}
use Rattle.tree_rules.specs.NodeRules.{balance_closing}
use Rattle.tree_rules.specs.Rules.{PartBox, flow_lo, flow_hi, node_step, row_step, rule_holds, row_closing, closing_at, closing_holds}
use Rattle.tree_rules.proofs.StepSound.{some_is}
use Rattle.tight_steps.specs.declared.law.Law.{Law}
use Rattle.tight_steps.specs.declared.law.Law.TheVariants.{AtNode, AtArc}
use Rattle.tight_steps.specs.Moves.{is_balance, is_of_law, is_law, IsQuiet}
use Rattle.tight_steps.proofs.ArcMoves.{step_parts, rule_at_arc}
use Rattle.tight_steps.proofs.OtherArcs.{closing_at_arc}
use Rattle.stable_sweep.specs.Components.{IsTried, NoneCuts}
use Rattle.stable_sweep.specs.Settling.{IsStable, AreSettled}
use Rattle.stable_sweep.proofs.Sweeps.{in_box}

-- the law of a rule at a place, if the problem has it
record HasLaw (p : Network) (rule : Rule) (place : ℕ) : Type 0 where
  law : Law
  of_law : IsTrue (is_of_law law rule place)
  known : is_law (length p.nodes) (length p.arcs) law

node_law : (p : Network) (n : ℕ) → n < length p.nodes → HasLaw p Balance n
node_law p n h = record { law = AtNode n; of_law = eq-eqb n n refl; known = h }

arc_law : (p : Network) (rule : Rule) (a : ℕ) → IsTrue (not (is_balance rule)) → a < length p.arcs → HasLaw p rule a
arc_law p rule a t h = record { law = AtArc a; of_law = ap (λ (b : Bool). b && (a == a)) t ∙ eq-eqb a a refl; known = h }

by_arc : (p : Network) (b : PartBox) (rule : Rule) (a : ℕ) (v : Var) (low : Bool) (C : ℤ) → IsTrue (not (is_balance rule)) → IsTrue (rule_holds p b rule a v low C) → HasLaw p rule a
by_arc p b rule a v low C t h =
    let r = some_is (slice_get p.arcs a) (row_step p b rule a v low C) (sym (rule_at_arc p b rule a v low C t) ∙ h) in
    arc_law p rule a t (slice_get_within p.arcs a r.0 r.1)

of_step : (p : Network) (b : PartBox) (rule : Rule) (place : ℕ) (v : Var) (low : Bool) (C : ℤ) → IsTrue (rule_holds p b rule place v low C) → HasLaw p rule place
of_step p b Balance place v low C h = let r = some_is (slice_get p.nodes place) (node_step p b place v low C) h in node_law p place (slice_get_within p.nodes place r.0 r.1)
of_step p b Pipe place v low C h = by_arc p b Pipe place v low C refl h
of_step p b Equal place v low C h = by_arc p b Equal place v low C refl h
of_step p b Zero place v low C h = by_arc p b Zero place v low C refl h
of_step p b Way place v low C h = by_arc p b Way place v low C refl h
of_step p b Inner place v low C h = by_arc p b Inner place v low C refl h
of_step p b Fall place v low C h = by_arc p b Fall place v low C refl h
of_step p b Order place v low C h = by_arc p b Order place v low C refl h
of_step p b Rise place v low C h = by_arc p b Rise place v low C refl h
of_step p b Ratio place v low C h = by_arc p b Ratio place v low C refl h
of_step p b Sign place v low C h = by_arc p b Sign place v low C refl h
of_step p b Reach place v low C h = by_arc p b Reach place v low C refl h
of_step p b Along place v low C h = by_arc p b Along place v low C refl h
of_step p b Drop place v low C h = by_arc p b Drop place v low C refl h

closing_arc : (p : Network) (b : PartBox) (rule : Rule) (a : ℕ) → IsTrue (not (is_balance rule)) → IsTrue (closing_at p b rule a) → HasLaw p rule a
closing_arc p b rule a t h =
    let r = some_is (slice_get p.arcs a) (row_closing p b rule a) (sym (closing_at_arc p b rule a t) ∙ h) in
    arc_law p rule a t (slice_get_within p.arcs a r.0 r.1)

of_closing : (p : Network) (b : PartBox) (rule : Rule) (place : ℕ) → IsTrue (closing_at p b rule place) → HasLaw p rule place
of_closing p b Balance place h =
    let r = some_is (slice_get p.nodes place) (λ (node : NodeRow). balance_closing node b.scale (flow_lo b.bounds) (flow_hi b.bounds) place p.arcs) h in
    node_law p place (slice_get_within p.nodes place r.0 r.1)
of_closing p b Pipe place h = closing_arc p b Pipe place refl h
of_closing p b Equal place h = closing_arc p b Equal place refl h
of_closing p b Zero place h = closing_arc p b Zero place refl h
of_closing p b Way place h = closing_arc p b Way place refl h
of_closing p b Inner place h = closing_arc p b Inner place refl h
of_closing p b Fall place h = closing_arc p b Fall place refl h
of_closing p b Order place h = closing_arc p b Order place refl h
of_closing p b Rise place h = closing_arc p b Rise place refl h
of_closing p b Ratio place h = closing_arc p b Ratio place refl h
of_closing p b Sign place h = closing_arc p b Sign place refl h
of_closing p b Reach place h = closing_arc p b Reach place refl h
of_closing p b Along place h = closing_arc p b Along place refl h
of_closing p b Drop place h = closing_arc p b Drop place refl h

-- each law is quiet where none waits
quiet : (p : Network) (b : PartBox) (law : Law) → AreSettled p b [] → is_law (length p.nodes) (length p.arcs) law → IsQuiet p b law
quiet p b law s i = elim (s.each law i) [ inl w ↦ absurd (false≢true w) | inr q ↦ q ]

pub stable : (p : Network) (b : PartBox) → BoxFits p b.bounds → AreSettled p b [] → LeavesAll b.bounds → NoneCuts p b.part → IsStable p b
stable p b f s all none = record {
  filled = all;
  open_still = open_still;
  no_move = λ m i. let l = of_step p b m.rule m.place m.var m.low m.value (step_parts p b m i.holds).rule in (quiet p b l.law s l.known).no_move m l.of_law i;
}
  where
    open_still : (c : Closing) → IsTried p b.part c → IsTrue (closing_holds p b c) → ⊥
    open_still (Empty v) t h =
        let parts = and_parts (is_var p v) (is_empty (ends_of b.bounds v)) h in
        let filled = all v (in_box p b.bounds v f parts.0) in
        absurd (omega (arith, linear, parts.1, filled))
    open_still (Cut ns) t h = none.none t.0 ns t.1 h
    open_still (At rule place) t h = let l = of_closing p b rule place h in (quiet p b l.law s l.known).open_still rule place l.of_law h
