-- A fork has no more children than its depth allows.
use Rattle.std.proofs.Common.{◌≡◌, ℕ, zero, suc, ◌+◌, ◌<◌, ◌≤◌, [], map, length, Option, Some, refl, ap, subst, ◌∙◌, ◌⊎◌, inl, inr, arith}
use Rattle.std.proofs.lemmas.Bool.Decides.{nat_tests}
use Rattle.std.proofs.lemmas.List.{length-map}
use Rattle.std.proofs.lemmas.Option.{slice_get_past}
use Rattle.std.specs.Prelude.{slice_get}
use Rattle.std.specs.List.{range_with_len}
use Rattle.std.specs.Option.{option_map_or}
use Rattle.gas_model.specs.declared.rows.ArcRow.{ArcRow}
use Rattle.gas_model.specs.declared.rows.Group.{Group}
use Rattle.gas_model.specs.declared.rows.PartState.{PartState}
use Rattle.gas_model.specs.Rows.{Network}
use Rattle.gas_model.specs.Choices.{states_of, picks_allow, allowed_states}
use Rattle.tree_cert.specs.declared.line.Head.TheVariants.{Take, State}
use Rattle.tree_rules.specs.Branches.{decision_heads}
use Rattle.box_split.specs.declared.forks.Fork.{Fork}
use Rattle.box_pool.specs.Forks.{heads_of, state_heads}
use Rattle.search_reach.specs.Depth.{children_at, children_behind, loose_arcs}
use Rattle.box_split.proofs.ForkCases.{ByGroup, ByArc, ByHalf}
use Rattle.search_reach.proofs.DepthParts.{IsAt, group_is, behind_groups, still_loose}
use Rattle.tree_pool.proofs.Lists.{there}
use Rattle.nom_search.proofs.Runs.{few_states, filter_short}

length-range : (a n : ℕ) → length (range_with_len a n) ≡ n
length-range a zero = refl
length-range a (suc n) = ap suc (length-range (a + 1) n)

at_no_group : (p : Network) (d : ℕ) → length p.groups ≤ d → children_at p d ≡ children_behind p d
at_no_group p d le = ap (λ (o : Option Group). option_map_or (λ g. length g.decisions) o (children_behind p d)) (slice_get_past p.groups d le)

at_group : (p : Network) (d : ℕ) (g : Group) → slice_get p.groups d ≡ Some g → children_at p d ≡ length g.decisions
at_group p d g row = ap (λ (o : Option Group). option_map_or (λ x. length x.decisions) o (children_behind p d)) row

two_behind : (p : Network) (d : ℕ) → 2 ≤ children_behind p d
two_behind p d = grind (arith, nat_tests)

three_where : (p : Network) (d : ℕ) → d < length p.groups + length (loose_arcs p) → 3 ≤ children_behind p d
three_where p d lt = grind (arith, nat_tests)

zero_or : (n : ℕ) → (n ≡ 0) ⊎ (0 < n)
zero_or zero = inl refl
zero_or (suc n) = inr (omega arith)

module _ (p : Network) (d : ℕ) (part : PartState) (at : IsAt p d part) (fork : Fork) where
  group_width : ByGroup p part fork → length (heads_of p part fork) ≤ children_at p d
  group_width by =
      let same : by.group ≡ d = group_is p d part at by.group by.found in
      let g = there p.groups by.group by.found.within in
      let row : slice_get p.groups by.group ≡ Some g.0 = g.1 in
      let there_too : slice_get p.groups d ≡ Some g.0 = subst (λ (k : ℕ). slice_get p.groups k ≡ Some g.0) same row in
      let bound : children_at p d ≡ length g.0.decisions = at_group p d g.0 there_too in
      let heads : heads_of p part fork ≡ decision_heads by.group g.0 = ap (heads_of p part) by.is ∙ ap (λ (o : Option Group). option_map_or (decision_heads by.group) o []) row in
      let count : length (heads_of p part fork) ≡ length g.0.decisions = ap length heads ∙ length-map (range_with_len 0 (length g.0.decisions)) (Take by.group) ∙ length-range 0 (length g.0.decisions) in
      omega arith

  half_width : ByHalf p part fork → length (heads_of p part fork) ≤ children_at p d
  half_width by =
      let le = behind_groups p d part at by.picked in
      let bound = at_no_group p d le in
      let two = two_behind p d in
      let count : length (heads_of p part fork) ≡ 2 = ap (λ (f : Fork). length (heads_of p part f)) by.half.is in
      omega arith

  arc_width : ByArc p part fork → length (heads_of p part fork) ≤ children_at p d
  arc_width by =
      let row = there p.arcs by.arc by.found.within in
      let here : slice_get p.arcs by.arc ≡ Some row.0 = row.1 in
      let heads : heads_of p part fork ≡ map (State by.arc) (allowed_states p part by.arc row.0) = ap (heads_of p part) by.is ∙ ap (λ (o : Option ArcRow). option_map_or (state_heads p part by.arc) o []) here in
      let count : length (heads_of p part fork) ≡ length (allowed_states p part by.arc row.0) = ap length heads ∙ length-map (allowed_states p part by.arc row.0) (State by.arc) in
      let few : length (allowed_states p part by.arc row.0) ≤ 3 = (let a = filter_short (picks_allow p.groups part.picks by.arc) (states_of row.0.kind) in let b = few_states row.0.kind in omega arith) in
      let le = behind_groups p d part at by.picked in
      let bound = at_no_group p d le in
      elim (zero_or (length (allowed_states p part by.arc row.0))) [
        | inl none ↦ omega arith
        | inr some ↦
            let lt = still_loose p d part at by.picked by.arc row.0 here by.found.within by.found.passes some in
            let three = three_where p d lt in
            omega arith
      ]

  pub few_heads : ByGroup p part fork ⊎ (ByArc p part fork ⊎ ByHalf p part fork) → length (heads_of p part fork) ≤ children_at p d
  few_heads cases =
      elim cases [
        | inl g ↦ group_width g
        | inr c ↦ elim c [ inl a ↦ arc_width a | inr h ↦ half_width h ]
      ]
