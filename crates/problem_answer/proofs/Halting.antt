-- The text with which a search halts passes but for open boxes, and the search has come as far as it reaches.
use Rattle.std.proofs.Common.{◌≡◌, refl, ap, sym, subst, ℕ, ℤ, pos, List}
use Rattle.std.specs.Prelude.{Option, Some, None, slice_get}
use Rattle.gas_model.specs.Rows.{Network}
use Rattle.gas_model.specs.Within.{IsWithin}
use Rattle.tree_cert.specs.Texts.{PassesPartText, first_open}
use Rattle.tree_cert.specs.Tree.{IsClosed, tree_lines}
use Rattle.tree_cert.proofs.Opens.{closed_trees_have_no_open_line}
use Rattle.tree_rules.specs.Branches.{root_box, rules_of}
use Rattle.tree_rules.specs.Rules.{PartBox}
use Rattle.tree_pool.specs.Rows.{Row, Quit}
use Rattle.tree_pool.specs.Shown.{end_of}
use Rattle.tree_pool.proofs.Ruled.{shown_pass}
use Rattle.tree_pool.proofs.Single.{whole_where_none_open}
use Rattle.box_pool.specs.Grid.{pool_scale, pool_line}
use Rattle.nom_search.specs.declared.searching.Why.{Why}
use Rattle.nom_search.specs.declared.searching.Why.TheVariants.{Budget, Grid}
use Rattle.nom_search.specs.Halted.{Halted, HaltsAt}
use Rattle.search_reach.proofs.Reaching.{halted_reach}
use Rattle.command_core.specs.declared.status.UndecidedBy.{UndecidedBy}
use Rattle.problem_answer.specs.Found.{HaltsWith, why_of}

-- the box that is named was left open
record IsLeft (rows : List Row) (n : ℕ) : Type 0 where
  row : Row
  here : slice_get rows n ≡ Some row
  quit : row.standing ≡ Quit

named_left : (p : Network) (tol : ℤ) (root : PartBox) (budget : ℕ) (why : Why) (rows : List Row) (boxes : List PartBox) (turns : List ℕ) (n : ℕ) → HaltsAt p tol root budget why rows boxes turns n → IsLeft rows n
named_left p tol root budget Budget rows boxes turns n h = record { row = h.row; here = h.here; quit = h.quit }
named_left p tol root budget Grid rows boxes turns n h = record { row = h.2.row; here = h.2.here; quit = h.2.quit }

some_line : (o : Option ℕ) → (o ≡ None → ⊥) → (n : ℕ) × (o ≡ Some n)
some_line None h = absurd (h refl)
some_line (Some n) h = (n, refl)

pub halted_passes : (p : Network) (tol : ℤ) (budget : ℕ) (why : Why) (rows : List Row) (text : List ℕ) (line : ℕ) → Halted p tol (root_box pool_scale p) budget why rows text line
    → (first : ℕ) × PassesPartText (rules_of p) text first
halted_passes p tol budget why rows text line h =
    let left = named_left p tol (root_box pool_scale p) budget why rows h.boxes h.turns h.named h.halts in
    let t = h.tree in
    let open_there : IsClosed t → ⊥ = λ c. (whole_where_none_open rows h.map t h.is_text.shows).0 c h.named left.row left.here (ap end_of left.quit) in
    let first = some_line (first_open (tree_lines pool_line t)) (λ e. open_there ((closed_trees_have_no_open_line pool_line t).1 e)) in (
      first.0,
      record {
        lines = tree_lines pool_line t;
        text = h.is_text.lines;
        tree = t;
        passes = record { first = pool_line; passes = shown_pass (rules_of p) (root_box pool_scale p) rows h.boxes h.map h.of_root t h.is_text.shows; lines = refl };
        opened = first.1;
      },
    )

-- what is said of the search, by the reason that is answered
pub halts_with : (by : UndecidedBy) (tol boxes : ℕ) (p : Network) (why : Why) (rows : List Row) (text : List ℕ) (line : ℕ) → IsWithin p → why_of by ≡ why
    → Halted p (pos tol) (root_box pool_scale p) boxes why rows text line → HaltsWith by tol boxes p text line
halts_with by tol boxes p why rows text line within is h =
    let passes = halted_passes p (pos tol) boxes why rows text line h in
    let halted : Halted p (pos tol) (root_box pool_scale p) boxes (why_of by) rows text line = subst (λ (w : Why). Halted p (pos tol) (root_box pool_scale p) boxes w rows text line) (sym is) h in
    record {
      rows = rows;
      halted = halted;
      reached = halted_reach p (pos tol) boxes (why_of by) rows text line within halted;
      first_open = passes.0;
      passes = passes.1;
    }
