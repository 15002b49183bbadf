-- A box keeps the variables of its problem, whatever ends they get.
use Rattle.std.proofs.Common.{◌∙◌, arith, IsTrue}
use Rattle.std.proofs.lemmas.Bool.Decides.{nat_tests}
use Rattle.std.proofs.lemmas.List.{length-set, length-map}
use Rattle.std.specs.Prelude.{Bool, ℤ}
use Rattle.gas_model.specs.declared.rows.Ends.{Ends}
use Rattle.base_types.specs.declared.variables.Var.{Var}
use Rattle.base_types.specs.declared.variables.Var.TheVariants.{Flow, Square}
use Rattle.gas_model.specs.Rows.{Network}
use Rattle.gas_model.specs.Boxes.{Bounds, BoxFits, flow_ends, square_ends, opening, ends_of, is_in_box, is_var, with_end, with_ends, tightened}

pub still_fits : (p : Network) (b : Bounds) (v : Var) (e : Ends) → BoxFits p b → BoxFits p (with_ends b v e)
still_fits p b (Flow a) e f = record { flows = length-set b.flows a e ∙ f.flows; squares = f.squares }
still_fits p b (Square n) e f = record { flows = f.flows; squares = length-set b.squares n e ∙ f.squares }

-- the box after a tightening is one of the same problem
pub tightened_fits : (p : Network) (b : Bounds) (v : Var) (low : Bool) (C : ℤ) → BoxFits p b → BoxFits p (tightened b v low C)
tightened_fits p b v low C f = still_fits p b v (with_end low C (ends_of b v)) f

-- the variables of a problem are those of its box
pub in_box : (p : Network) (b : Bounds) (v : Var) → BoxFits p b → IsTrue (is_var p v) → IsTrue (is_in_box b v)
in_box p b (Flow a) f t = grind (arith, nat_tests, f.flows)
in_box p b (Square n) f t = grind (arith, nat_tests, f.squares)

-- the opening box is one of its problem
pub opening_fits : (K : ℤ) (p : Network) → BoxFits p (opening K p)
opening_fits K p = record { flows = length-map p.arcs (flow_ends K); squares = length-map p.nodes (square_ends K) }
