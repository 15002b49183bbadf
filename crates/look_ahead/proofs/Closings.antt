-- Closings that hold can be written.
use Rattle.std.proofs.Common.{◌≡◌, ℕ, true, ◌&&◌, not, List, [], ◌∷◌, length, refl}
use Rattle.std.specs.Prelude.{nat_lt, ◌||◌}
use Rattle.std.specs.List.{list_all}
use Rattle.std.proofs.lemmas.Bool.{and_parts}
use Rattle.gas_model.specs.Rows.{Network}
use Rattle.gas_model.specs.Choices.{fixed_state}
use Rattle.gas_model.specs.Laws.{is_shut}
use Rattle.tree_cert.specs.declared.line.Closing.{Closing}
use Rattle.tree_cert.specs.declared.line.Closing.TheVariants.{Empty, Cut, At}
use Rattle.tree_cert.specs.declared.line.Line.TheVariants as lines
use Rattle.tree_cert.specs.Spelling.{has_ordered_cut, is_node_list, ascends_after}
use Rattle.tree_rules.specs.NodeRules.{are_cut_nodes, all_arcs, crosses, is_unbalanced}
use Rattle.tree_rules.specs.Rules.{PartBox, closing_holds}

cut_nodes : (p : Network) (ns : List ℕ) → are_cut_nodes p.nodes ns ≡ true → is_node_list ns ≡ true
cut_nodes p [] h = absurd cc
cut_nodes p (n ∷ ns) h = (and_parts (ascends_after n ns) (list_all (λ m. nat_lt m (length p.nodes)) (n ∷ ns)) h).0

pub ordered_closing : (p : Network) (b : PartBox) (c : Closing) → closing_holds p b c ≡ true → has_ordered_cut (lines.Close c) ≡ true
ordered_closing p b (Empty v) h = refl
ordered_closing p b (At rule place) h = refl
ordered_closing p b (Cut ns) h =
    let front = and_parts (are_cut_nodes p.nodes ns && all_arcs (λ a row. not (crosses ns row) || is_shut (fixed_state p b.part a row)) 0 p.arcs) (is_unbalanced p.nodes ns) h in
    cut_nodes p ns (and_parts (are_cut_nodes p.nodes ns) (all_arcs (λ a row. not (crosses ns row) || is_shut (fixed_state p b.part a row)) 0 p.arcs) front.0).0
