-- A setting's data nests three deep.
use Rattle.std.proofs.Common.{◌≤◌, List, [], ◌∷◌, ℤ, arith}
use Rattle.gas_model.specs.declared.rows.ArcRow.{ArcRow}
use Rattle.base_types.specs.declared.states.ArcState.{ArcState}
use Rattle.gas_model.specs.declared.rows.Setting.{Setting}
use Rattle.gas_model.specs.Rows.{Network}
use Rattle.serde_json.specs.Data.{Data, depth, items_depth}
use Rattle.serde_json.specs.View.{items_of}
use Rattle.setting_text.specs.Writing.{group_data, node_data, arc_entries, entries, setting_data}

each : {A B : Type 0} (f : A → B → Data) (has : (x : A) (y : B) → depth (f x y) ≤ 1) (xs : List A) (ys : List B) → items_depth (items_of (entries f xs ys)) ≤ 1
each f has [] ys = omega arith
each f has (x ∷ xs) [] = omega arith
each f has (x ∷ xs) (y ∷ ys) = omega (arith, has x y, each f has xs ys)

each_arc : (arcs : List ArcRow) (states : List ArcState) (flows : List ℤ) → items_depth (items_of (arc_entries arcs states flows)) ≤ 1
each_arc [] states flows = omega arith
each_arc (a ∷ arcs) [] flows = omega arith
each_arc (a ∷ arcs) (state ∷ states) [] = omega arith
each_arc (a ∷ arcs) (state ∷ states) (flow ∷ flows) = omega (arith, each_arc arcs states flows)

pub shallow : (p : Network) (s : Setting) → depth (setting_data p s) ≤ 127
shallow p s = omega (arith, each_arc p.arcs s.states s.flows, each group_data (λ g pick. omega arith) p.groups s.picks, each node_data (λ n z. omega arith) p.nodes s.squares)
