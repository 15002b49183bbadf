-- On each way down there are no more boxes than groups, loose arcs and halvings.
use Rattle.std.proofs.Common.{◌≡◌, ℕ, suc, ◌+◌, ◌<◌, ◌≤◌, refl, sym, ap, subst, ◌∙◌, ◌⊎◌, inl, inr, arith, ℤ, Bool, true, List, [], ◌∷◌, map, length, Option, Some}
use Rattle.std.specs.Prelude.{slice_get}
use Rattle.std.specs.Option.{option_map_or}
use Rattle.gas_model.specs.declared.rows.ArcRow.{ArcRow}
use Rattle.gas_model.specs.declared.rows.Group.{Group}
use Rattle.gas_model.specs.declared.rows.PartState.{PartState}
use Rattle.base_types.specs.declared.variables.Var.{Var}
use Rattle.gas_model.specs.Rows.{Network}
use Rattle.gas_model.specs.Boxes.{BoxFits}
use Rattle.gas_model.specs.Choices.{allowed_states}
use Rattle.tree_cert.specs.declared.line.Head.{Head}
use Rattle.tree_cert.specs.declared.line.Head.TheVariants.{Take, State, Half}
use Rattle.tree_rules.specs.Rules.{PartBox}
use Rattle.tree_rules.specs.Branches.{with_pick, decision_heads}
use Rattle.stable_sweep.specs.Runs.{after}
use Rattle.box_split.specs.declared.forks.Fork.{Fork}
use Rattle.box_pool.specs.Forks.{state_heads, heads_of}
use Rattle.search_reach.specs.Budgets.{variables}
use Rattle.search_reach.specs.Depth.{loose_arcs}
use Rattle.search_reach.specs.Widths.{is_half}
use Rattle.search_reach.proofs.BudgetCounts.{IsOneOf, AreOf, is_variable}
use Rattle.box_split.proofs.ForkCases.{ByGroup as GroupCase, ByArc as ArcCase, ByHalf as HalfCase}
use Rattle.search_reach.proofs.DepthKids.{HasHead, group_child, arc_child}
use Rattle.search_reach.proofs.DepthParts.{IsAt, group_is, group_next, half_next, arc_next, still_loose}
use Rattle.search_reach.proofs.DepthTree.{cases_of}
use Rattle.search_reach.proofs.WidthEnds.{steps_same_part, wide_in_box}
use Rattle.search_reach.proofs.WidthHalves.{count, count_this}
use Rattle.search_reach.proofs.WidthWays.{IsBelow, Led, led_fits, IsQuiet, child_cases, half_head}
use Rattle.tree_pool.proofs.Lists.{there}
use Rattle.search_reach.proofs.WidthTurns.{half_part}
use Rattle.search_reach.proofs.StepPairs.{after_fits}

-- A child at depth d + 1: it is one of its depth, and it has a pick or a state, while there are groups or loose arcs, or a
-- half.
pub record IsNext (p : Network) (d : ℕ) (h : Head) (part : PartState) : Type 0 where
  pub at : IsAt p (suc d) part
  pub by : (d < length p.groups + length (loose_arcs p)) ⊎ (is_half h ≡ true)

half_is : (v : Var) (low : Bool) (C : ℤ) (h : Head) → h ≡ Half v low C → is_half h ≡ true
half_is v low C h e = rw e refl

module _ (p : Network) (c : PartBox) (turn : ℕ) (h : Head) (b : PartBox) (next d : ℕ) (below : IsBelow p c turn h b next) (at : IsAt p d c.part) where
  has_head : (heads : List Head) → heads_of p c.part below.fork ≡ heads → HasHead c heads below.nth b
  has_head heads e = record { head = h; here = sym (ap (λ ys. slice_get ys below.nth) e) ∙ below.among; is = below.box }

  next_by_group : GroupCase p c.part below.fork → IsNext p d h b.part
  next_by_group by =
      let same : by.group ≡ d = group_is p d c.part at by.group by.found in
      let g = there p.groups by.group by.found.within in
      let heads : heads_of p c.part below.fork ≡ decision_heads by.group g.0 = ap (heads_of p c.part) by.is ∙ ap (λ (o : Option Group). option_map_or (decision_heads by.group) o []) g.1 in
      let kid = group_child c by.group g.0 below.nth b (has_head (decision_heads by.group g.0) heads) in
      let row : slice_get p.groups d ≡ Some g.0 = subst (λ (i : ℕ). slice_get p.groups i ≡ Some g.0) same g.1 in
      let lt : d < length p.groups = (let a = by.found.within in omega arith) in
      record {
        at = subst (IsAt p (suc d)) (sym (kid.2 ∙ ap (λ (i : ℕ). with_pick c.part i kid.0) same)) (group_next p d c.part at kid.0 g.0 row kid.1 lt);
        by = inl (omega arith);
      }

  next_by_arc : ArcCase p c.part below.fork → IsNext p d h b.part
  next_by_arc by =
      let row = there p.arcs by.arc by.found.within in
      let states = allowed_states p c.part by.arc row.0 in
      let heads : heads_of p c.part below.fork ≡ map (State by.arc) states = ap (heads_of p c.part) by.is ∙ ap (λ (o : Option ArcRow). option_map_or (state_heads p c.part by.arc) o []) row.1 in
      let kid = arc_child c by.arc states below.nth b (has_head (map (State by.arc) states) heads) in
      record {
        at = subst (IsAt p (suc d)) (sym kid.2) (arc_next p d c.part at by.picked by.arc row.0 row.1 by.found.within by.found.passes kid.1 kid.0);
        by = inl (still_loose p d c.part at by.picked by.arc row.0 row.1 by.found.within by.found.passes kid.1);
      }

  next_by_half : HalfCase p c.part below.fork → IsNext p d h b.part
  next_by_half by =
      let v = by.half.var in
      let among = subst (λ (f : Fork). slice_get (heads_of p c.part f) below.nth ≡ Some h) by.half.is below.among in
      let head = half_head p c.part v by.half.at by.half.next below.nth h among in
      let part : b.part ≡ c.part = ap (λ (x : PartBox). x.part) below.box ∙ half_part c v head.0 by.half.at h head.1 in
      record {
        at = subst (IsAt p (suc d)) (sym part) (half_next p d c.part at by.picked by.fixed);
        by = inr (half_is v head.0 by.half.at h head.1);
      }

  next_is : IsNext p d h b.part
  next_is =
      elim (cases_of p c.part c.bounds turn below.fork below.has below.wide) [
        | inl g ↦ next_by_group g
        | inr e ↦ elim e [ inl a ↦ next_by_arc a | inr f ↦ next_by_half f ]
      ]

-- a way has no more heads than there are groups, loose arcs, and halvings on it
pub way_short : (p : Network) (root : PartBox) (hs : List Head) (b : PartBox) (turn : ℕ) → IsAt p 0 root.part → Led p root hs b turn
    → IsAt p (length hs) b.part × (length hs ≤ length p.groups + length (loose_arcs p) + count is_half hs)
way_short p root [] b turn at led = (subst (λ (x : PartBox). IsAt p 0 x.part) (sym led) at, omega arith)
way_short p root (h ∷ hs) b turn at led =
    let l = led.0 in
    let up = way_short p root hs l.above l.from at led.1 in
    let c = after l.above l.steps in
    let here : IsAt p (length hs) c.part = subst (IsAt p (length hs)) (sym (steps_same_part l.above l.steps)) up.0 in
    let n = next_is p c l.from h b turn (length hs) l.below here in (
      n.at,
      elim n.by [
        | inl few ↦ omega arith
        | inr half ↦ let m = count_this is_half h hs half in let u = up.1 in omega arith
      ],
    )

-- ---- the variables that are halved
quiet_one : (vs : List Var) (h : Head) → IsQuiet h → IsOneOf vs h
quiet_one vs (Take k j) q = tt
quiet_one vs (State a s) q = tt
quiet_one vs (Half v low C) q = absurd q

one_halved : (p : Network) (c : PartBox) (turn : ℕ) (h : Head) (b : PartBox) (next : ℕ) → BoxFits p c.bounds → IsBelow p c turn h b next → IsOneOf (variables p) h
one_halved p c turn h b next fits below =
    elim (child_cases p c turn h b next below) [
      | inl e ↦ quiet_one (variables p) h e.quiet
      | inr s ↦ subst (IsOneOf (variables p)) (sym s.head) (is_variable p c.bounds s.var fits (wide_in_box c.bounds s.var s.wide))
    ]

pub all_halved : (p : Network) (root : PartBox) (hs : List Head) (b : PartBox) (turn : ℕ) → BoxFits p root.bounds → Led p root hs b turn → AreOf (variables p) hs
all_halved p root [] b turn fits led = tt
all_halved p root (h ∷ hs) b turn fits led =
    let l = led.0 in
    let up = led_fits p root hs l.above l.from fits led.1 in
    (one_halved p (after l.above l.steps) l.from h b turn (after_fits p l.above l.steps up) l.below, all_halved p root hs l.above l.from fits led.1)
