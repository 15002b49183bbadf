-- Enough budgets suffice.
use Rattle.std.proofs.Common.{refl, arith}
use Rattle.tree_rules.specs.Branches.{root_box}
use Rattle.box_pool.specs.Grid.{pool_scale}
use Rattle.nom_search.specs.declared.searching.Why.TheVariants.{Budget}
use Rattle.search_reach.specs.Budgets.{doublings, variables, last_depth, BudgetsSuffice}
use Rattle.search_reach.specs.Widths.{halves, heads_to, width_in}
use Rattle.search_reach.proofs.BudgetCounts.{sum_less, halvings_add, wide_enough}
use Rattle.search_reach.proofs.BudgetWays.{way_short, all_halved}
use Rattle.search_reach.proofs.DepthLaw.{deep_stops}
use Rattle.search_reach.proofs.DepthParts.{root_at}
use Rattle.search_reach.proofs.WidthHalves.{count, halvings_few}
use Rattle.search_reach.proofs.WidthRows.{halted_known, way_to, heads_length}
use Rattle.gas_model.proofs.BoxFacts.{opening_fits}

pub budgets_suffice : BudgetsSuffice
budgets_suffice p tol budget rows text line paid halted =
    let root = root_box pool_scale p in
    let stop = halted.halts in
    let left = stop.left in
    let path = stop.row.path in
    let hs = heads_to rows path in
    let deep = deep_stops p tol budget rows text line halted (last_depth p) paid in
    let known = halted_known p tol root budget Budget rows halted.boxes halted.turns halted.named halted.map stop in
    let long = heads_length p tol root rows halted.boxes halted.turns halted.map halted.of_root known path halted.named stop.row stop.here refl in
    let led = way_to p tol root rows halted.boxes halted.turns halted.map halted.of_root known path halted.named stop.row left.start stop.turn stop.here left.here (λ t e. let g = left.turned in cc) refl in
    let short = (way_short p root hs left.start stop.turn (root_at p) led).1 in
    let all = halvings_add hs (variables p) (all_halved p root hs left.start stop.turn (opening_fits pool_scale p) led) in
    let each =
    sum_less (λ v. count (halves v) hs) (λ v. doublings (width_in root v)) (variables p)
    (λ v. halvings_few p root hs left.start stop.turn v (doublings (width_in root v)) (opening_fits pool_scale p) led (wide_enough (width_in root v))) in
    omega arith
