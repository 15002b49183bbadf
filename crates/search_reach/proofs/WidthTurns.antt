-- Behind the groups and the states variables are halved in turn, so that each wide one of the split list comes in each
-- round.
use Rattle.std.proofs.Common.{◌≡◌, ℕ, zero, suc, ◌+◌, ◌*◌, ◌<◌, ◌≤◌, refl, sym, ap, subst, ◌∙◌, ◌⊎◌, inl, inr, arith, ℤ, pos, ◌≤ℤ◌, Bool, true, false, List, [], ◌∷◌, length, get_or, Option, Some, None}
use Rattle.std.proofs.lemmas.Bool.{cases_lt}
use Rattle.integer_laws.proofs.Ring.{linear, le_test}
use Rattle.base_types.specs.declared.variables.Var.{Var}
use Rattle.gas_model.specs.declared.rows.PartState.{PartState}
use Rattle.gas_model.specs.Rows.{Network}
use Rattle.gas_model.specs.Boxes.{Bounds, BoxFits, ends_of, width_of}
use Rattle.topo.specs.Shapes.{Layout, IsShapeOf}
use Rattle.topo.proofs.OnlyOne.{one_shape}
use Rattle.tree_cert.specs.declared.line.Head.{Head}
use Rattle.tree_cert.specs.declared.line.Head.TheVariants.{Half}
use Rattle.tree_rules.specs.Rules.{PartBox}
use Rattle.tree_rules.specs.Branches.{headed}
use Rattle.stable_sweep.specs.Runs.{after}
use Rattle.box_split.specs.declared.forks.Fork.{Fork}
use Rattle.box_split.specs.declared.forks.Fork.TheVariants.{Halve}
use Rattle.box_ends.specs.Middle.{middle}
use Rattle.box_split.specs.Forks.{first, if_none, halved, is_wide, at_turn, round, start, no_var}
use Rattle.box_ends.specs.Middle.{middle}
use Rattle.box_split.specs.Forks.{after as after_place}
use Rattle.box_split.proofs.Firsts.{all_false, found}
use Rattle.search_reach.specs.Widths.{is_half, halves, width_in}
use Rattle.search_reach.proofs.WidthEnds.{var_self, steps_narrow, steps_same_part}
use Rattle.box_split.proofs.Halvings.{Done, by_var, flows}
use Rattle.search_reach.proofs.WidthWays.{Led, led_fits, child_cases, quiet_is}
use Rattle.search_reach.proofs.WidthHalves.{count, count_this, count_other, child_narrow}
use Rattle.search_reach.proofs.WidthRounds.{IsAhead, reached, nearer, IsCounted, none_counted, this_counted, other_counted}

-- ---- the part state
pub half_part : (c : PartBox) (v : Var) (low : Bool) (C : ℤ) (h : Head) → h ≡ Half v low C → (headed c h).part ≡ c.part
half_part c v low C h e = rw e refl

-- while anything was left to pick or to fix, nothing was halved
fresh : (p : Network) (root : PartBox) (hs : List Head) (b : PartBox) (turn : ℕ) → Led p root hs b turn → Done p b.part ⊎ (count is_half hs ≡ 0)
fresh p root [] b turn led = inr refl
fresh p root (h ∷ hs) b turn led =
    let l = led.0 in
    elim (child_cases p (after l.above l.steps) l.from h b turn l.below) [
      | inl e ↦
          elim (fresh p root hs l.above l.from led.1) [
            | inl done ↦ absurd (e.undone (subst (Done p) (sym (steps_same_part l.above l.steps)) done))
            | inr none ↦ inr (count_other is_half h hs (quiet_is h e.quiet) ∙ none)
          ]
      | inr s ↦
          let part : b.part ≡ (after l.above l.steps).part = ap (λ (x : PartBox). x.part) l.below.box ∙ half_part (after l.above l.steps) s.var s.low (middle (ends_of (after l.above l.steps).bounds s.var)) h s.head in
          inl (subst (Done p) (sym part) s.done)
    ]

more_times : (n a b : ℕ) → a ≤ b → n * a ≤ n * b
more_times n zero b le = omega arith
more_times n (suc a) zero le = absurd (omega arith)
more_times n (suc a) (suc b) le = let r = more_times n a b (omega arith) in let e : n * suc a ≡ n * a + n = omega arith in let f : n * suc b ≡ n * b + n = omega arith in omega arith

-- ---- which variable is halved
pub record IsTurnOf (split : List Var) (turn : ℕ) (d : ℕ) (var : Var) (next : ℕ) : Type 0 where
  pub place : ℕ
  pub near : place ≤ d
  pub var_is : var ≡ at_turn split turn place
  pub next_is : next ≡ after_place (length split) (round (length split) (start (length split) turn) place)

by_first : (split : List Var) (b : Bounds) (turn d : ℕ) (var : Var) (C : ℤ) (next : ℕ) (rest : Fork) → d < length split → is_wide b (at_turn split turn d) ≡ true
    → (o : Option ℕ) → first (λ k. is_wide b (at_turn split turn k)) (length split) ≡ o
    → if_none o (λ k. halved b (at_turn split turn k) (after_place (length split) (round (length split) (start (length split) turn) k))) rest ≡ Halve var C next → IsTurnOf split turn d var next
by_first split b turn d var C next rest within wide None e is =
    absurd (let f = all_false (λ k. is_wide b (at_turn split turn k)) (length split) e d within in cc)
by_first split b turn d var C next rest within wide (Some k) e is =
    let z = found (λ k. is_wide b (at_turn split turn k)) (length split) k e in
    elim (cases_lt d k) [
      | inl before ↦ absurd (let f = z.before d before in cc)
      | inr near ↦ record { place = k; near = near; var_is = cc; next_is = cc }
    ]

turn_of : (p : Network) (split : List Var) (b : Bounds) (turn d : ℕ) (var : Var) (C : ℤ) (next : ℕ) → d < length split → is_wide b (at_turn split turn d) ≡ true
    → by_var p split b turn ≡ Halve var C next → IsTurnOf split turn d var next
turn_of p split b turn d var C next within wide is =
    by_first split b turn d var C next (flows p split b turn) within wide (first (λ k. is_wide b (at_turn split turn k)) (length split)) refl is

-- ---- halvings in turn
pub more_halves : (v : Var) (h : Head) (hs : List Head) → count (halves v) hs ≤ count (halves v) (h ∷ hs)
more_halves v h hs = by (halves v h) refl
  where
    by : (t : Bool) → halves v h ≡ t → count (halves v) hs ≤ count (halves v) (h ∷ hs)
    by true e = let c = count_this (halves v) h hs e in omega arith
    by false e = let c = count_other (halves v) h hs e in omega arith

step_counted : (split : List Var) (j : ℕ) (h : Head) (hs : List Head) (from next : ℕ) (var : Var) (low : Bool) (C : ℤ) → j < length split → h ≡ Half var low C
    → (c : IsCounted (length split) (count is_half hs) (count (halves (get_or split j no_var)) hs) from j) → IsTurnOf split from c.distance var next
    → IsCounted (length split) (count is_half (h ∷ hs)) (count (halves (get_or split j no_var)) (h ∷ hs)) next j
step_counted split j h hs from next var low C lt head c t =
    let v = get_or split j no_var in
    let half : is_half h ≡ true = rw head refl in
    let all = count_this is_half h hs half in
    elim (cases_lt t.place c.distance) [
      | inl before ↦
          let z = nearer (length split) from j c.distance t.place lt c.ahead before in
          let le = more_halves v h hs in
          let a : IsAhead (length split) next j z.0 = subst (λ (x : ℕ). IsAhead (length split) x j z.0) (sym t.next_is) z.2 in
          rw all (other_counted (length split) (count is_half hs) (count (halves v) hs) (count (halves v) (h ∷ hs)) from next j z.0 c z.1 a le (more_times (length split) (count (halves v) hs) (count (halves v) (h ∷ hs)) le))
      | inr last ↦
          let place : t.place ≡ c.distance = let n = t.near in omega arith in
          let at : round (length split) (start (length split) from) t.place ≡ j = ap (round (length split) (start (length split) from)) place ∙ reached (length split) from j c.distance lt c.ahead in
          let same : var ≡ v = t.var_is ∙ ap (λ (i : ℕ). get_or split i no_var) at in
          let this : halves v h ≡ true = rw (head, same) (var_self v) in
          rw (all, count_this (halves v) h hs this) (this_counted (length split) (count is_half hs) (count (halves v) hs) from next j lt c)
    ]

wide_test : (b : Bounds) (v : Var) → pos 2 ≤ℤ width_of (ends_of b v) → is_wide b v ≡ true
wide_test b v h = le_test (pos 2) (width_of (ends_of b v)) h

-- where the variable of place j of the split list is still wide, it was halved in each round
pub in_turn : (p : Network) (root : PartBox) (shape : Layout) (j : ℕ) (hs : List Head) (b : PartBox) (turn : ℕ) → BoxFits p root.bounds → j < length shape.split_list → IsShapeOf p b.part shape
    → pos 2 ≤ℤ width_in b (get_or shape.split_list j no_var) → Led p root hs b turn
    → IsCounted (length shape.split_list) (count is_half hs) (count (halves (get_or shape.split_list j no_var)) hs) turn j
in_turn p root shape j [] b turn fits lt is wide led = none_counted (length shape.split_list) 0 turn j lt
in_turn p root shape j (h ∷ hs) b turn fits lt is wide led =
    let l = led.0 in
    let v = get_or shape.split_list j no_var in
    let c = after l.above l.steps in
    elim (child_cases p c l.from h b turn l.below) [
      | inl e ↦
          elim (fresh p root hs l.above l.from led.1) [
            | inl done ↦ absurd (e.undone (subst (Done p) (sym (steps_same_part l.above l.steps)) done))
            | inr none ↦
                let all : count is_half (h ∷ hs) ≡ 0 = count_other is_half h hs (quiet_is h e.quiet) ∙ none in
                rw all (none_counted (length shape.split_list) (count (halves v) (h ∷ hs)) turn j lt)
          ]
      | inr s ↦
          let C = middle (ends_of c.bounds s.var) in
          let part : b.part ≡ c.part = ap (λ (x : PartBox). x.part) l.below.box ∙ half_part c s.var s.low C h s.head in
          let same : l.below.has.shape ≡ shape = one_shape p c.part l.below.has.shape shape l.below.has.is_shape (subst (λ (x : PartState). IsShapeOf p x shape) part is) in
          let narrow = child_narrow p c l.from h b turn v l.below in
          let steps = steps_narrow p l.above l.steps v (led_fits p root hs l.above l.from fits led.1) l.turns in
          let here : pos 2 ≤ℤ width_in c v = omega (arith, linear) in
          let up = in_turn p root shape j hs l.above l.from fits lt (subst (λ (x : PartState). IsShapeOf p x shape) (part ∙ steps_same_part l.above l.steps) is) (omega (arith, linear)) led.1 in
          let at : at_turn shape.split_list l.from up.distance ≡ v = ap (λ (i : ℕ). get_or shape.split_list i no_var) (reached (length shape.split_list) l.from j up.distance lt up.ahead) in
          let there : is_wide c.bounds (at_turn shape.split_list l.from up.distance) ≡ true = ap (is_wide c.bounds) at ∙ wide_test c.bounds v here in
          let fork = subst (λ (x : Layout). by_var p x.split_list c.bounds l.from ≡ Halve s.var C turn) same s.fork in
          let t = turn_of p shape.split_list c.bounds l.from up.distance s.var C turn up.ahead.within there fork in
          step_counted shape.split_list j h hs l.from turn s.var s.low C lt s.head up t
    ]
