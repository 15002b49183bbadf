-- On the way to each box of a search a variable is tightened at most 320 times.
use Rattle.std.proofs.Common.{◌≡◌, ℕ, sym, subst, inl, inr, ℤ, List, Some}
use Rattle.std.specs.Prelude.{slice_get}
use Rattle.gas_model.specs.Rows.{Network}
use Rattle.gas_model.specs.Within.{IsWithin}
use Rattle.tree_cert.specs.declared.line.Step.{Step}
use Rattle.tree_rules.specs.Rules.{PartBox}
use Rattle.tree_rules.specs.Branches.{root_box, rules_of}
use Rattle.tree_pool.specs.Rows.{Row, IsMap}
use Rattle.tree_pool.specs.Rules.{IsOf}
use Rattle.search_order.specs.Searches.{IsLeft, IsWorked, StopsAt}
use Rattle.search_order.proofs.PathOrder.{total}
use Rattle.stable_sweep.specs.Runs.{AreTurns}
use Rattle.box_pool.specs.Grid.{pool_scale}
use Rattle.nom_search.specs.declared.searching.Why.{Why}
use Rattle.nom_search.specs.declared.searching.Why.TheVariants.{Budget, Grid}
use Rattle.nom_search.specs.Sought.{sought}
use Rattle.nom_search.specs.Halted.{HaltsAt}
use Rattle.search_reach.specs.StepPaths.{StepsAreFewIn, FewWhereHalted, FewWhereRefuted, FewWhereWorked}
use Rattle.search_reach.proofs.StepWidths.{opening_narrow}
use Rattle.search_reach.proofs.StepRows.{HaveTurns, steps_are_few_in}
use Rattle.gas_model.proofs.BoxFacts.{opening_fits}

from_root : (p : Network) (rows : List Row) (boxes : List PartBox) → IsWithin p → IsMap rows → IsOf (rules_of p) (root_box pool_scale p) rows boxes → HaveTurns p rows boxes → StepsAreFewIn rows
from_root p rows boxes within map pool turns = steps_are_few_in p (root_box pool_scale p) rows boxes map pool turns (opening_fits pool_scale p) (opening_narrow p within)

left_turns : (p : Network) (tol : ℤ) (boxes : List PartBox) (turns : List ℕ) (n : ℕ) (steps : List Step) (turn : ℕ) (box b : PartBox) → IsLeft (sought p tol) boxes turns n steps turn box → slice_get boxes n ≡ Some b → AreTurns p b steps
left_turns p tol boxes turns n steps turn box b left there =
    let same : left.start ≡ b = (let e = left.here in cc) in
    subst (λ (x : PartBox). AreTurns p x steps) same left.moves

worked_turns : (p : Network) (tol : ℤ) (root : PartBox) (budget : ℕ) (rows : List Row) (boxes : List PartBox) (turns : List ℕ) → IsWorked (sought p tol) root budget rows boxes turns → HaveTurns p rows boxes
worked_turns p tol root budget rows boxes turns worked n r b here there =
    let k = worked.known n r here in
    left_turns p tol boxes turns n r.steps k.turn k.box b k.left there

stopped_turns : (p : Network) (tol : ℤ) (budget : ℕ) (rows : List Row) (boxes : List PartBox) (turns : List ℕ) (named : ℕ) → IsMap rows → StopsAt (sought p tol) budget rows boxes turns named → HaveTurns p rows boxes
stopped_turns p tol budget rows boxes turns named map stop n r b here there =
    elim (total r.path stop.row.path) [
      | inl before ↦ let k = (stop.before n r here before).1 in left_turns p tol boxes turns n r.steps k.turn k.box b k.left there
      | inr rest ↦ elim rest [
        | inl same ↦
            let number = map.distinct n named r stop.row here stop.here same in
            let one : stop.row ≡ r = (let e = stop.here in cc) in
            let at : slice_get boxes named ≡ Some b = subst (λ (m : ℕ). slice_get boxes m ≡ Some b) number there in
            subst (λ (x : Row). AreTurns p b x.steps) one (left_turns p tol boxes turns named stop.row.steps stop.turn stop.box b stop.left at)
        | inr behind ↦ let none = (stop.behind n r here behind).1 in subst (AreTurns p b) (sym none) tt
      ]
    ]

pub few_where_worked : FewWhereWorked
few_where_worked p tol budget rows boxes turns within worked =
    from_root p rows boxes within worked.map worked.pool (worked_turns p tol (root_box pool_scale p) budget rows boxes turns worked)

pub few_where_refuted : FewWhereRefuted
few_where_refuted p tol budget rows text within refuted = few_where_worked p tol budget rows refuted.boxes refuted.turns within refuted.worked

halted_turns : (p : Network) (tol : ℤ) (root : PartBox) (budget : ℕ) (why : Why) (rows : List Row) (boxes : List PartBox) (turns : List ℕ) (named : ℕ) → IsMap rows → HaltsAt p tol root budget why rows boxes turns named → HaveTurns p rows boxes
halted_turns p tol root budget Budget rows boxes turns named map halts = stopped_turns p tol budget rows boxes turns named map halts
halted_turns p tol root budget Grid rows boxes turns named map halts = worked_turns p tol root budget rows boxes turns halts.0

pub few_where_halted : FewWhereHalted
few_where_halted p tol budget why rows text line within halted =
    from_root p rows halted.boxes within halted.map halted.of_root
    (halted_turns p tol (root_box pool_scale p) budget why rows halted.boxes halted.turns halted.named halted.map halted.halts)
