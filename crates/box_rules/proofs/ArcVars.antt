-- The variables of an arc are in the box.
use Rattle.std.proofs.Common.{◌≡◌, ◌<◌, ℕ, arith, length, Some, IsTrue}
use Rattle.std.specs.Prelude.{slice_get}
use Rattle.std.proofs.lemmas.Option.{slice_get_within}
use borrow.Author.Tests.{lt-ltb}
use Rattle.gas_model.specs.declared.rows.ArcRow.{ArcRow}
use Rattle.gas_model.specs.declared.rows.ArcKind.TheVariants as kinds
use Rattle.base_types.specs.declared.variables.Var.TheVariants.{Flow, Square}
use Rattle.gas_model.specs.Rows.{Network}
use Rattle.gas_model.specs.Boxes.{Bounds, BoxFits, is_in_box}
use Rattle.gas_model.specs.Within.{IsWithin}

-- the variables of an arc are in the box
pub record ArcVars (b : Bounds) (a : ℕ) (row : ArcRow) : Type 0 where
  pub q : IsTrue (is_in_box b (Flow a))
  pub u : IsTrue (is_in_box b (Square row.from))
  pub v : IsTrue (is_in_box b (Square row.to))

pub arc_vars : (p : Network) (b : Bounds) (a : ℕ) (row : ArcRow) → IsWithin p → BoxFits p b → slice_get p.arcs a ≡ Some row → ArcVars b a row
arc_vars p b a row w h e =
    let la : a < length p.arcs = slice_get_within p.arcs a row e in
    let lu : row.from < length p.nodes = w.from a row e in
    let lv : row.to < length p.nodes = w.to a row e in
    let fa : length b.flows ≡ length p.arcs = h.flows in
    let fs : length b.squares ≡ length p.nodes = h.squares in
    record {
      q = lt-ltb a (length b.flows) (omega (arith, la, fa));
      u = lt-ltb row.from (length b.squares) (omega (arith, lu, fs));
      v = lt-ltb row.to (length b.squares) (omega (arith, lv, fs));
    }
