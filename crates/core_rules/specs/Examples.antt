-- What the lines of small trees cite.
use Rattle.std.specs.Prelude.{◌≡◌, ℕ, ℤ, pos, negsuc, Bool, [], ◌∷◌, codes, true, false}
use Rattle.gas_model.specs.declared.rows.ArcKind.TheVariants as kinds
use Rattle.base_types.specs.declared.variables.Var.{Var}
use Rattle.base_types.specs.declared.variables.Var.TheVariants.{Flow, Square}
use Rattle.gas_model.specs.Rows.{Network}
use Rattle.tree_cert.specs.declared.line.Closing.TheVariants.{Empty, Cut, At}
use Rattle.tree_cert.specs.declared.line.Head.TheVariants.{Half}
use Rattle.tree_cert.specs.declared.line.Rule.{Rule}
use Rattle.tree_cert.specs.declared.line.Rule.TheVariants as rules
use Rattle.tree_cert.specs.declared.line.Step.{Step}
use Rattle.tree_cert.specs.Tree.{Tree, ByHalves, Then, Shut as ShutBy, Split, NoChild, Child}
use Rattle.tree_rules.specs.declared.arc_vars.ArcVar.TheVariants.{OfFlow, OfFrom, OfTo}
use Rattle.gas_model.specs.declared.law_forms.LawForm.TheVariants.{Loses}
use Rattle.tree_rules.specs.Values.{at, at_back, reduced}
use Rattle.tree_rules.specs.Branches.{root_box}
use Rattle.tree_rules.specs.Examples.{node, arc, piped, flow_known}
use Rattle.core_rules.specs.Reads.{Supply, Law, End, step_reads, closing_reads, closing_ends, lower, upper}
use Rattle.core_rules.specs.Cores.{tree_cites}

abbrev pub step : Var → Bool → ℤ → Rule → ℕ → Step
step v low C rule place = record { var = v; low = low; value = C; rule = rule; place = place }

-- a pipe that is to carry 4, first by halves of its flow
abbrev pub halved : Tree
halved =
    Split (ByHalves (Flow 0)) (Child (Half (Flow 0) false (pos 0)) (ShutBy (At rules.Balance 0))
    (Child (Half (Flow 0) true (pos 0)) (flow_known (pos 4) (At rules.Pipe 0)) NoChild))

-- the same by the lower end of its flow alone, in sixteenths
abbrev pub in_sixteenths : Tree
in_sixteenths = Then (step (Flow 0) true (pos 64) rules.Balance 0) (ShutBy (At rules.Pipe 0))

-- two arcs in a row: of the second flow's end what the balance reads was not set
abbrev pub in_a_row : Network
in_a_row = record {
  nodes = node (codes "a") (pos 0) (pos 9) (pos 2) (pos 3) ∷ node (codes "b") (pos 0) (pos 9) (pos 0) (pos 0) ∷ [];
  arcs = arc (codes "p") (negsuc 9) (pos 10) kinds.Short ∷ arc (codes "q") (pos 1) (pos 4) kinds.Short ∷ [];
  groups = [];
}

-- Reads are cited unless a step or half above has set that end; a supply or a law is cited each time.
pub record TreesCiteWhatTheyRead : Type 0 where
  pub pipe : tree_cites piped [] (root_box (pos 1) piped) (flow_known (pos 4) (At rules.Pipe 0)) ≡ Supply 0 false ∷ Supply 0 true ∷ Law 0 ∷ End (Square 0) false ∷ End (Square 1) true ∷ []
  pub halves : tree_cites piped [] (root_box (pos 1) piped) halved ≡ Supply 0 true ∷ Supply 0 false ∷ Supply 0 true ∷ Law 0 ∷ End (Square 0) false ∷ End (Square 1) true ∷ []
  pub sixteenths : tree_cites piped [] (root_box (pos 16) piped) in_sixteenths ≡ Supply 0 true ∷ Law 0 ∷ End (Square 0) false ∷ End (Square 1) true ∷ []
  pub empty : tree_cites piped [] (root_box (pos 1) piped) (ShutBy (Empty (Square 0))) ≡ End (Square 0) true ∷ End (Square 0) false ∷ []
  pub balance : step_reads in_a_row rules.Balance 0 (Flow 0) true ≡ Supply 0 true ∷ End (Flow 1) false ∷ []
  pub entering : step_reads in_a_row rules.Balance 1 (Flow 1) true ≡ Supply 1 false ∷ End (Flow 0) false ∷ []
  pub equal : step_reads in_a_row rules.Equal 1 (Square 1) false ≡ End (Square 0) false ∷ []
  pub cut : closing_reads piped (root_box (pos 1) piped) (Cut (0 ∷ [])) ≡ Supply 0 true ∷ []
  pub cut_back : closing_reads piped (root_box (pos 1) piped) (Cut (1 ∷ [])) ≡ Supply 1 false ∷ []
  pub reach : closing_ends rules.Reach (Loses (pos 2) (pos 3)) (pos 1) (at (pos 50) (pos 16)) ≡ lower OfFrom ∷ upper OfTo ∷ []
  pub reach_back : closing_ends rules.Reach (Loses (pos 2) (pos 3)) (pos 1) (at (pos 16) (pos 50)) ≡ upper OfFrom ∷ lower OfTo ∷ []
  pub drop : closing_ends rules.Drop (Loses (pos 2) (pos 3)) (pos 1) (at (pos 35) (pos 16)) ≡ lower OfFlow ∷ upper OfFrom ∷ lower OfTo ∷ []
  pub drop_back : closing_ends rules.Drop (Loses (pos 2) (pos 3)) (pos 1) (at_back (pos 16) (pos 35)) ≡ upper OfFlow ∷ lower OfFrom ∷ upper OfTo ∷ []
  pub falls_little : closing_ends rules.Fall reduced (pos 1) (at (pos 35) (pos 16)) ≡ upper OfFrom ∷ lower OfTo ∷ []
  pub falls_much : closing_ends rules.Fall reduced (pos 1) (at (pos 50) (pos 16)) ≡ lower OfFrom ∷ upper OfTo ∷ []
