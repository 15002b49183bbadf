-- What a search answers is decided.
use Rattle.std.proofs.Common.{refl, ℕ, ℤ, List, pos}
use Rattle.gas_model.specs.Rows.{Network}
use Rattle.tree_cert.specs.Texts.{PassesWholeText}
use Rattle.tree_cert.specs.Tree.{tree_lines}
use Rattle.tree_rules.specs.Branches.{root_box, rules_of}
use Rattle.tree_pool.specs.Rows.{Row}
use Rattle.box_pool.specs.Grid.{pool_scale, pool_line}
use Rattle.nom_search.specs.Halted.{Refutes, IsAnswerOf}
use Rattle.nom_search.specs.declared.searching.Found.{Found}
use Rattle.nom_search.specs.declared.searching.Found.TheVariants.{Carried, Refuted, Left}
use Rattle.decide.specs.Decided.{IsDecided}

-- the text of a tree that refutes passes
passes_whole : (p : Network) (tol : ℤ) (budget : ℕ) (rows : List Row) (text : List ℕ) → Refutes p tol (root_box pool_scale p) budget rows text → PassesWholeText (rules_of p) text
passes_whole p tol budget rows text r = record {
  lines = tree_lines pool_line r.tree;
  text = r.is_text.lines;
  passes = (r.tree, record { first = pool_line; passes = r.passes; lines = refl }, r.closed);
}

pub is_decided : (p : Network) (tol boxes : ℕ) (found : Found) → IsAnswerOf p (pos tol) boxes found → IsDecided p tol boxes found
is_decided p tol boxes (Carried s) h = h.1
is_decided p tol boxes (Refuted text) h = passes_whole p (pos tol) boxes h.0.rows text h.1
is_decided p tol boxes (Left why text line) h = h
