-- Where a search halts, the halvings of a variable are few on the way to each box; where it stops for want of budget, the
-- box that it names is narrow.
use Rattle.std.proofs.Common.{◌≡◌, ℕ, ◌≤◌, ◌*◌, ◌^◌, refl, sym, ap, subst, ◌∙◌, inl, inr, arith, true, List, Some, length, get_or, ℤ, pos, ◌-ℤ◌, ◌*ℤ◌, ◌≤ℤ◌}
use Rattle.std.specs.List.{list_any}
use Rattle.std.proofs.Math.Nat.{pow-le-pow_right}
use Rattle.std.proofs.lemmas.Nat.{pow_pos}
use Rattle.integer_laws.proofs.Ring.{linear, mul_le_left, mul_le_right, sub_mul, one_mul, mul_zero, le_or_lt}
use Rattle.gas_model.specs.declared.rows.PartState.{PartState}
use Rattle.base_types.specs.declared.variables.Var.{Var}
use Rattle.std.specs.Prelude.{slice_get}
use Rattle.std.proofs.lemmas.Option.{slice_get_within}
use Rattle.gas_model.specs.Rows.{Network}
use Rattle.gas_model.specs.Boxes.{BoxFits}
use Rattle.topo.specs.Shapes.{Layout, IsShapeOf}
use Rattle.tree_cert.specs.declared.line.Head.{Head}
use Rattle.tree_rules.specs.Rules.{PartBox}
use Rattle.tree_rules.specs.Branches.{same_var, root_box, rules_of}
use Rattle.tree_pool.specs.Rows.{Row, IsMap}
use Rattle.tree_pool.specs.Rules.{IsOf}
use Rattle.stable_sweep.specs.Runs.{after}
use Rattle.box_split.specs.Forks.{no_var}
use Rattle.tree_rules.proofs.CutSound.{get_some}
use Rattle.box_pool.specs.Grid.{pool_scale}
use Rattle.search_order.specs.Searches.{IsLeft}
use Rattle.nom_search.specs.declared.searching.Why.{Why}
use Rattle.nom_search.specs.declared.searching.Why.TheVariants.{Budget, Grid}
use Rattle.nom_search.specs.Halted.{Halted}
use Rattle.nom_search.specs.Sought.{sought}
use Rattle.search_reach.specs.Widths.{is_half, halves, heads_to, width_in, HalvingsAreFewIn, FewHalvingsWhereHalted, FewHalvingsWhereRefuted, IsNarrowed, NamedIsNarrow, NamedBoxesAreNarrow}
use Rattle.search_reach.proofs.WidthRows.{SplitsAreKnown, halted_known, left_is, turn_there, way_to}
use Rattle.search_reach.proofs.WidthEnds.{steps_narrow, steps_same_part}
use Rattle.search_reach.proofs.WidthWays.{Led, led_fits}
use Rattle.search_reach.proofs.WidthHalves.{count, Shrunk, shrunk, narrower, halvings_few}
use Rattle.search_reach.proofs.WidthRounds.{rounds_give}
use Rattle.search_reach.proofs.WidthTurns.{in_turn}
use Rattle.gas_model.proofs.BoxFacts.{opening_fits}
use Rattle.box_split.proofs.Others.{place_in}

few_halvings_in : (p : Network) (tol : ℤ) (rows : List Row) (boxes : List PartBox) (turns : List ℕ) → IsMap rows → IsOf (rules_of p) (root_box pool_scale p) rows boxes → SplitsAreKnown p tol rows boxes turns → HalvingsAreFewIn p rows
few_halvings_in p tol rows boxes turns map pool known n r here v m at_most =
    let root = root_box pool_scale p in
    let b = get_some boxes n (let a = slice_get_within rows n r here in let e = pool.count in omega arith) in
    let t = turn_there (slice_get turns n) in
    let led = way_to p tol root rows boxes turns map pool known r.path n r b.0 t.0 here b.1 t.1 refl in
    halvings_few p root (heads_to rows r.path) b.0 t.0 v m (opening_fits pool_scale p) led at_most

pub few_halvings_where_halted : FewHalvingsWhereHalted
few_halvings_where_halted p tol budget why rows text line halted =
    few_halvings_in p tol rows halted.boxes halted.turns halted.map halted.of_root
    (halted_known p tol (root_box pool_scale p) budget why rows halted.boxes halted.turns halted.named halted.map halted.halts)

pub few_halvings_where_refuted : FewHalvingsWhereRefuted
few_halvings_where_refuted p tol budget rows text refuted =
    let worked = refuted.worked in
    few_halvings_in p tol rows refuted.boxes refuted.turns worked.map worked.pool (λ n r f first count here split. worked.known n r here)

-- ---- whole numbers
-- a number that isn't positive, times a power of two
not_more : (r : ℕ) (x : ℤ) → x ≤ℤ pos 0 → (pos (2 ^ r) *ℤ x) ≤ℤ x
not_more r x h =
    let one = pow_pos r in
    let a = mul_le_left (pos (2 ^ r) -ℤ pos 1) x (pos 0) (omega (arith, linear)) h in
    let b = sub_mul (pos (2 ^ r)) (pos 1) x in
    omega (arith, linear, a, b, one_mul x, mul_zero (pos (2 ^ r) -ℤ pos 1))

fewer_times : (r m : ℕ) (x y first : ℤ) → r ≤ m → pos 0 ≤ℤ x → x ≤ℤ (y -ℤ pos 1) → Shrunk m y first → (pos (2 ^ r) *ℤ x) ≤ℤ first
fewer_times r m x y first le some less s =
    let more : 2 ^ r ≤ 2 ^ m = pow-le-pow_right {n = 2} (omega arith) le in
    let a = mul_le_right x (pos (2 ^ r)) (pos (2 ^ m)) some (omega (arith, linear)) in
    let b = mul_le_left (pos (2 ^ m)) x (y -ℤ pos 1) (omega (arith, linear)) less in
    omega (arith, linear, a, b, s.is)

-- ---- the box that a way leads to
narrow_at : (p : Network) (root : PartBox) (shape : Layout) (hs : List Head) (b : PartBox) (turn : ℕ) (w : ℤ) (v : Var) (r : ℕ) → BoxFits p root.bounds → IsShapeOf p b.part shape
    → list_any (same_var v) shape.split_list ≡ true → Led p root hs b turn → w ≤ℤ width_in b v → length shape.split_list * r ≤ count is_half hs → (pos (2 ^ r) *ℤ (w -ℤ pos 1)) ≤ℤ width_in root v
narrow_at p root shape hs b turn w v r fits is among led less enough =
    elim (le_or_lt (pos 2) w) [
      | inl wide ↦
          let at = place_in v shape.split_list among in
          let there : pos 2 ≤ℤ width_in b v = omega (arith, linear) in
          let c = in_turn p root shape at.0 hs b turn fits at.1 is (subst (λ (x : Var). pos 2 ≤ℤ width_in b x) (sym at.2) there) led in
          let few : r ≤ count (halves v) hs = subst (λ (x : Var). r ≤ count (halves x) hs) at.2 (rounds_give (length shape.split_list) (count is_half hs) (count (halves (get_or shape.split_list at.0 no_var)) hs) turn at.0 r c enough) in
          fewer_times r (count (halves v) hs) (w -ℤ pos 1) (width_in b v) (width_in root v) few (omega (arith, linear)) (omega (arith, linear)) (shrunk p root hs b turn v fits led)
      | inr small ↦
          let n = narrower p root hs b turn v fits led in
          let m = not_more r (w -ℤ pos 1) (omega (arith, linear)) in
          omega (arith, linear)
    ]

-- each box, as its steps leave it
narrow_left : (p : Network) (tol : ℤ) (rows : List Row) (boxes : List PartBox) (turns : List ℕ) → IsMap rows → IsOf (rules_of p) (root_box pool_scale p) rows boxes → SplitsAreKnown p tol rows boxes turns
    → (n : ℕ) (r : Row) (turn : ℕ) (box : PartBox) → slice_get rows n ≡ Some r → IsLeft (sought p tol) boxes turns n r.steps turn box → IsNarrowed p rows r.path box
narrow_left p tol rows boxes turns map pool known n r turn box here left shape is v among times enough =
    let root = root_box pool_scale p in
    let led = way_to p tol root rows boxes turns map pool known r.path n r left.start turn here left.here (λ t e. let g = left.turned in cc) refl in
    let same : box ≡ after left.start r.steps = left_is p tol boxes turns n r.steps turn box left in
    let part : box.part ≡ left.start.part = ap (λ (x : PartBox). x.part) same ∙ steps_same_part left.start r.steps in
    let steps = steps_narrow p left.start r.steps v (led_fits p root (heads_to rows r.path) left.start turn (opening_fits pool_scale p) led) left.moves in
    narrow_at p root shape (heads_to rows r.path) left.start turn (width_in box v) v times (opening_fits pool_scale p) (subst (λ (x : PartState). IsShapeOf p x shape) part is) among led
    (rw same steps) enough

named_narrow : (p : Network) (tol : ℤ) (budget : ℕ) (why : Why) (rows : List Row) (text : List ℕ) (line : ℕ) → (h : Halted p tol (root_box pool_scale p) budget why rows text line)
    → SplitsAreKnown p tol rows h.boxes h.turns → NamedIsNarrow p tol budget why rows text line h
named_narrow p tol budget Budget rows text line h known =
    let stop = h.halts in
    narrow_left p tol rows h.boxes h.turns h.map h.of_root known h.named stop.row stop.turn stop.box stop.here stop.left
named_narrow p tol budget Grid rows text line h known =
    let row = h.halts.2.row in
    let k = h.halts.0.known h.named row h.halts.2.here in
    narrow_left p tol rows h.boxes h.turns h.map h.of_root known h.named row k.turn k.box h.halts.2.here k.left

pub narrow_named : NamedBoxesAreNarrow
narrow_named p tol budget why rows text line h =
    named_narrow p tol budget why rows text line h (halted_known p tol (root_box pool_scale p) budget why rows h.boxes h.turns h.named h.map h.halts)
