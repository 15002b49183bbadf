-- A setting's data has no float.
use Rattle.std.proofs.Common.{◌≡◌, ℕ, List, [], ◌∷◌, false, ℤ, pos, negsuc, refl}
use Rattle.gas_model.specs.declared.rows.NodeRow.{NodeRow}
use Rattle.gas_model.specs.declared.rows.ArcRow.{ArcRow}
use Rattle.base_types.specs.declared.states.ArcState.{ArcState}
use Rattle.gas_model.specs.declared.rows.Group.{Group}
use Rattle.gas_model.specs.declared.rows.Setting.{Setting}
use Rattle.gas_model.specs.Rows.{Network}
use Rattle.serde_json.specs.Data.{Data}
use Rattle.serde_json.specs.Find.{is_float, of_integer}
use Rattle.serde_json.specs.View.{items_of}
use Rattle.serde_json.specs.Written.{has_float, items_have_float}
use Rattle.setting_text.specs.Writing.{arc_data, group_data, node_data, arc_entries, entries, setting_data}

whole : (z : ℤ) → is_float (of_integer z) ≡ false
whole (pos n) = refl
whole (negsuc n) = refl

arc : (a : ArcRow) (state : ArcState) (z : ℤ) → has_float (arc_data a state z) ≡ false
arc a state z = rw (whole z) refl

group : (g : Group) (pick : ℕ) → has_float (group_data g pick) ≡ false
group g pick = refl

node : (n : NodeRow) (z : ℤ) → has_float (node_data n z) ≡ false
node n z = rw (whole z) refl

each : {A B : Type 0} (f : A → B → Data) (has : (x : A) (y : B) → has_float (f x y) ≡ false) (xs : List A) (ys : List B) → items_have_float (items_of (entries f xs ys)) ≡ false
each f has [] ys = refl
each f has (x ∷ xs) [] = refl
each f has (x ∷ xs) (y ∷ ys) = rw (has x y) (each f has xs ys)

each_arc : (arcs : List ArcRow) (states : List ArcState) (flows : List ℤ) → items_have_float (items_of (arc_entries arcs states flows)) ≡ false
each_arc [] states flows = refl
each_arc (a ∷ arcs) [] flows = refl
each_arc (a ∷ arcs) (state ∷ states) [] = refl
each_arc (a ∷ arcs) (state ∷ states) (flow ∷ flows) = rw (arc a state flow) (each_arc arcs states flows)

pub no_float : (p : Network) (s : Setting) → has_float (setting_data p s) ≡ false
no_float p s = rw (each_arc p.arcs s.states s.flows, each group_data group p.groups s.picks, each node_data node p.nodes s.squares) refl
