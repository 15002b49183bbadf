-- Ways down from a root: steps in a box, and then one of the children that its fork gives it, and so on.
use Rattle.std.proofs.Common.{◌≡◌, ◌≢◌, ℕ, zero, suc, refl, sym, ap, subst, ◌∙◌, ◌⊎◌, inl, inr, ℤ, Bool, true, false, List, [], ◌∷◌, map, Option, Some, None}
use Rattle.std.specs.Prelude.{slice_get}
use Rattle.std.specs.Option.{option_map_or}
use Rattle.std.specs.List.{range_with_len}
use Rattle.gas_model.specs.declared.rows.ArcRow.{ArcRow}
use Rattle.gas_model.specs.declared.rows.Group.{Group}
use Rattle.gas_model.specs.declared.rows.PartState.{PartState}
use Rattle.base_types.specs.declared.variables.Var.{Var}
use Rattle.gas_model.specs.Rows.{Network}
use Rattle.gas_model.specs.Choices.{allowed_states}
use Rattle.gas_model.specs.Boxes.{BoxFits, ends_of}
use Rattle.gas_model.proofs.BoxFacts.{tightened_fits}
use Rattle.tree_cert.specs.declared.line.Head.{Head}
use Rattle.tree_cert.specs.declared.line.Head.TheVariants.{Take, State, Half}
use Rattle.tree_cert.specs.declared.line.Step.{Step}
use Rattle.tree_rules.specs.Rules.{PartBox}
use Rattle.tree_rules.specs.Branches.{headed, decision_heads}
use Rattle.stable_sweep.specs.Runs.{after, AreTurns}
use Rattle.box_split.specs.declared.forks.Fork.{Fork}
use Rattle.box_split.specs.declared.forks.Fork.TheVariants.{Group as ByGroup, Free as ByArc, Halve, Least}
use Rattle.box_ends.specs.Middle.{middle}
use Rattle.box_split.specs.Forks.{is_wide}
use Rattle.box_pool.specs.Forks.{state_heads, heads_of, next_of, HasFork}
use Rattle.search_reach.specs.Widths.{is_half, halves}
use Rattle.box_split.proofs.Halvings.{Done, IsEarlyFork, by_var, halving_is, fork_cases}
use Rattle.search_reach.proofs.StepPairs.{after_fits}

-- a child of the box c with this turn: its head, its box and its turn
pub record IsBelow (p : Network) (c : PartBox) (turn : ℕ) (h : Head) (b : PartBox) (next : ℕ) : Type 0 where
  pub fork : Fork
  pub has : HasFork p c.part c.bounds turn fork
  pub wide : fork ≢ Least
  pub nth : ℕ
  pub among : slice_get (heads_of p c.part fork) nth ≡ Some h
  pub box : b ≡ headed c h
  pub turned : next ≡ next_of fork

-- a child of what the steps leave of the box above it
pub record Link (p : Network) (h : Head) (b : PartBox) (turn : ℕ) : Type 0 where
  pub above : PartBox
  pub from : ℕ
  pub steps : List Step
  pub turns : AreTurns p above steps
  pub below : IsBelow p (after above steps) from h b turn

-- a way with these heads, the last one first, leads to this box with this turn; the root may have any turn
abbrev pub Led : (p : Network) (root : PartBox) → List Head → PartBox → ℕ → Type 0
Led p root [] b turn = b ≡ root
Led p root (h ∷ hs) b turn = (l : Link p h b turn) × Led p root hs l.above l.from

headed_fits : (p : Network) (c : PartBox) (h : Head) → BoxFits p c.bounds → BoxFits p (headed c h).bounds
headed_fits p c (Take k j) fits = fits
headed_fits p c (State a s) fits = fits
headed_fits p c (Half v low C) fits = tightened_fits p c.bounds v low C fits

pub led_fits : (p : Network) (root : PartBox) (hs : List Head) (b : PartBox) (turn : ℕ) → BoxFits p root.bounds → Led p root hs b turn → BoxFits p b.bounds
led_fits p root [] b turn fits led = subst (λ (x : PartBox). BoxFits p x.bounds) (sym led) fits
led_fits p root (h ∷ hs) b turn fits led =
    let l = led.0 in
    let up = led_fits p root hs l.above l.from fits led.1 in
    subst (λ (x : PartBox). BoxFits p x.bounds) (sym l.below.box) (headed_fits p (after l.above l.steps) h (after_fits p l.above l.steps up))

-- ---- heads that aren't of halves
abbrev pub IsQuiet : Head → Type 0
IsQuiet (Take k j) = Unit {0}
IsQuiet (State a s) = Unit {0}
IsQuiet (Half v low C) = ⊥

pub quiet_is : (h : Head) → IsQuiet h → is_half h ≡ false
quiet_is (Take k j) q = refl
quiet_is (State a s) q = refl
quiet_is (Half v low C) q = absurd q

pub quiet_of : (v : Var) (h : Head) → IsQuiet h → halves v h ≡ false
quiet_of v (Take k j) q = refl
quiet_of v (State a s) q = refl
quiet_of v (Half w low C) q = absurd q

pub quiet_bounds : (c : PartBox) (h : Head) → IsQuiet h → (headed c h).bounds ≡ c.bounds
quiet_bounds c (Take k j) q = refl
quiet_bounds c (State a s) q = refl
quiet_bounds c (Half v low C) q = absurd q

quiet_map : {A : Type 0} (f : A → Head) (xs : List A) (n : ℕ) (h : Head) → ((x : A) → IsQuiet (f x)) → slice_get (map f xs) n ≡ Some h → IsQuiet h
quiet_map f [] n h all e = absurd cc
quiet_map f (x ∷ xs) zero h all e = let same : f x ≡ h = cc in subst IsQuiet same (all x)
quiet_map f (x ∷ xs) (suc n) h all e = quiet_map f xs n h all e

quiet_group : (k n : ℕ) (h : Head) (o : Option Group) → slice_get (option_map_or (decision_heads k) o []) n ≡ Some h → IsQuiet h
quiet_group k n h None e = absurd cc
quiet_group k n h (Some g) e = quiet_map (Take k) (range_with_len 0 _) n h (λ j. tt) e

quiet_arc : (p : Network) (part : PartState) (a n : ℕ) (h : Head) (o : Option ArcRow) → slice_get (option_map_or (state_heads p part a) o []) n ≡ Some h → IsQuiet h
quiet_arc p part a n h None e = absurd cc
quiet_arc p part a n h (Some row) e = quiet_map (State a) (allowed_states p part a row) n h (λ s. tt) e

early_quiet : (p : Network) (part : PartState) (fork : Fork) (n : ℕ) (h : Head) → IsEarlyFork fork → slice_get (heads_of p part fork) n ≡ Some h → IsQuiet h
early_quiet p part (ByGroup k) n h early e = quiet_group k n h (slice_get p.groups k) e
early_quiet p part (ByArc a) n h early e = quiet_arc p part a n h (slice_get p.arcs a) e
early_quiet p part (Halve v C next) n h early e = absurd early
early_quiet p part Least n h early e = absurd early

early_next : (fork : Fork) → IsEarlyFork fork → next_of fork ≡ 0
early_next (ByGroup k) early = refl
early_next (ByArc a) early = refl
early_next (Halve v C next) early = absurd early
early_next Least early = absurd early

pub half_head : (p : Network) (part : PartState) (v : Var) (C : ℤ) (next n : ℕ) (h : Head) → slice_get (heads_of p part (Halve v C next)) n ≡ Some h → (low : Bool) × (h ≡ Half v low C)
half_head p part v C next zero h e = (false, cc)
half_head p part v C next (suc zero) h e = (true, cc)
half_head p part v C next (suc (suc n)) h e = absurd cc

-- ---- the two kinds of children
-- while not all groups are picked, or not all states are fixed
pub record IsEarlyChild (p : Network) (c : PartBox) (h : Head) (next : ℕ) : Type 0 where
  pub quiet : IsQuiet h
  pub undone : Done p c.part → ⊥
  pub turned : next ≡ 0

-- and then: a half of a wide variable
pub record IsHalf (p : Network) (split : List Var) (c : PartBox) (turn : ℕ) (h : Head) (next : ℕ) : Type 0 where
  pub done : Done p c.part
  pub var : Var
  pub low : Bool
  pub head : h ≡ Half var low (middle (ends_of c.bounds var))
  pub wide : is_wide c.bounds var ≡ true
  pub fork : by_var p split c.bounds turn ≡ Halve var (middle (ends_of c.bounds var)) next

pub child_cases : (p : Network) (c : PartBox) (turn : ℕ) (h : Head) (b : PartBox) (next : ℕ) → (below : IsBelow p c turn h b next)
    → IsEarlyChild p c h next ⊎ IsHalf p below.has.shape.split_list c turn h next
child_cases p c turn h b next below =
    let split = below.has.shape.split_list in
    elim (fork_cases p split c.part c.bounds turn below.fork below.has.fork_is) [
      | inl e ↦ inl (record { quiet = early_quiet p c.part below.fork below.nth h e.early below.among; undone = e.undone; turned = below.turned ∙ early_next below.fork e.early })
      | inr l ↦
          let z = halving_is p split c.bounds turn (λ none. below.wide (l.is ∙ none)) in
          let is : below.fork ≡ Halve z.var (middle (ends_of c.bounds z.var)) z.next = l.is ∙ z.is in
          let head = half_head p c.part z.var (middle (ends_of c.bounds z.var)) z.next below.nth h (subst (λ (f : Fork). slice_get (heads_of p c.part f) below.nth ≡ Some h) is below.among) in
          let turned : next ≡ z.next = below.turned ∙ ap next_of is in
          inr (record { done = l.done; var = z.var; low = head.0; head = head.1; wide = z.wide; fork = z.is ∙ ap (Halve z.var (middle (ends_of c.bounds z.var))) (sym turned) })
    ]
