-- Where a search halts for want of a finer grid, each variable of each box that is left open is at most one sixteenth wide.
use Rattle.std.proofs.Common.{◌≡◌, ℕ, refl, sym, ap, subst, ◌∙◌, ℤ, List, [], ◌∷◌, Some}
use Rattle.std.specs.Prelude.{slice_get}
use Rattle.gas_model.specs.Rows.{Network}
use Rattle.gas_model.specs.Boxes.{BoxFits}
use Rattle.gas_model.proofs.BoxFacts.{opening_fits}
use Rattle.tree_cert.specs.declared.line.Head.{Head}
use Rattle.tree_cert.specs.declared.line.Head.TheVariants.{Take, State, Half}
use Rattle.tree_cert.specs.declared.line.Step.{Step}
use Rattle.tree_rules.specs.Rules.{PartBox, stepped}
use Rattle.tree_rules.specs.Branches.{headed, root_box}
use Rattle.tree_pool.specs.Rows.{Row, Standing, Quit}
use Rattle.stable_sweep.specs.Runs.{after}
use Rattle.search_order.specs.Searches.{KnownAt}
use Rattle.box_pool.specs.Grid.{pool_scale}
use Rattle.nom_search.specs.declared.searching.Why.TheVariants.{Budget, Grid}
use Rattle.nom_search.specs.Halted.{Halted}
use Rattle.nom_search.specs.Sought.{sought}
use Rattle.search_reach.specs.Finest.{IsFinest, LeftBoxesAreFinest}
use Rattle.search_reach.specs.Widths.{heads_to}
use Rattle.search_reach.proofs.FinestBoxes.{none_is_wide, at_most_one}
use Rattle.search_reach.proofs.StepPairs.{after_fits}
use Rattle.search_reach.proofs.WidthRows.{halted_known, left_is, way_to}
use Rattle.search_reach.proofs.WidthWays.{Led, led_fits}

-- ---- the scale of a box stays that of the root
after_scale : (b : PartBox) (ss : List Step) → (after b ss).scale ≡ b.scale
after_scale b [] = refl
after_scale b (s ∷ ss) = after_scale (stepped b s) ss

headed_scale : (c : PartBox) (h : Head) → (headed c h).scale ≡ c.scale
headed_scale c (Take k j) = refl
headed_scale c (State a s) = refl
headed_scale c (Half v low C) = refl

led_scale : (p : Network) (root : PartBox) (hs : List Head) (b : PartBox) (turn : ℕ) → Led p root hs b turn → b.scale ≡ root.scale
led_scale p root [] b turn led = ap (λ (x : PartBox). x.scale) led
led_scale p root (h ∷ hs) b turn led =
    let l = led.0 in
    ap (λ (x : PartBox). x.scale) l.below.box ∙ headed_scale (after l.above l.steps) h ∙ after_scale l.above l.steps ∙ led_scale p root hs l.above l.from led.1

-- ---- the boxes that are left
left_finest : (p : Network) (tol : ℤ) (budget : ℕ) (rows : List Row) (text : List ℕ) (line : ℕ) → (h : Halted p tol (root_box pool_scale p) budget Grid rows text line)
    → (n : ℕ) (r : Row) → (here : slice_get rows n ≡ Some r) → r.standing ≡ Quit → IsFinest (h.halts.0.known n r here).box
left_finest p tol budget rows text line h n r here quit =
    let root = root_box pool_scale p in
    let k = h.halts.0.known n r here in
    let left = k.left in
    let known = halted_known p tol root budget Grid rows h.boxes h.turns h.named h.map h.halts in
    let led = way_to p tol root rows h.boxes h.turns h.map h.of_root known r.path n r left.start k.turn here left.here (λ t e. let g = left.turned in cc) refl in
    let same : k.box ≡ after left.start r.steps = left_is p tol h.boxes h.turns n r.steps k.turn k.box left in
    let start : BoxFits p left.start.bounds = led_fits p root (heads_to rows r.path) left.start k.turn (opening_fits pool_scale p) led in
    let fits : BoxFits p k.box.bounds = subst (λ (x : PartBox). BoxFits p x.bounds) (sym same) (after_fits p left.start r.steps start) in
    let least = (subst (λ (s : Standing). KnownAt (sought p tol) rows h.turns s k.turn k.box) quit k.known).1 in
    let none = none_is_wide p least.shape.split_list k.box.part k.box.bounds k.turn least.fork_is in
    record {
      counts = ap (λ (x : PartBox). x.scale) same ∙ after_scale left.start r.steps ∙ led_scale p root (heads_to rows r.path) left.start k.turn led;
      narrow = at_most_one p k.box.bounds fits none;
    }

pub left_are_finest : LeftBoxesAreFinest
left_are_finest p tol budget Budget rows text line h = tt
left_are_finest p tol budget Grid rows text line h = left_finest p tol budget rows text line h
