-- The nodes and the arcs of a cut.
use Rattle.std.specs.Prelude.{◌≡◌, ℕ, ◌<◌, nat_lt, Bool, true, false, not, ◌||◌, List, [], ◌∷◌, length, slice_get, slice_index_or}
use Rattle.std.specs.List.{list_all}
use Rattle.std.specs.Option.{option_map_or}
use Rattle.gas_model.specs.declared.rows.ArcRow.{ArcRow}
use Rattle.gas_model.specs.declared.rows.PartState.{PartState}
use Rattle.gas_model.specs.Rows.{Network}
use Rattle.gas_model.specs.Choices.{fixed_state}
use Rattle.tree_cert.specs.Spelling.{ascends_after}
use Rattle.tree_rules.specs.NodeRules.{is_cut_node, crosses}
use Rattle.gas_model.specs.Laws.{is_shut}

-- at least one number, strictly ascending
abbrev pub ascends : List ℕ → Bool
ascends [] = false
ascends (n ∷ ns) = ascends_after n ns

-- all are below the count
abbrev pub all_inside : ℕ → List ℕ → Bool
all_inside count ns = list_all (λ n. nat_lt n count) ns

-- the arc a doesn't join these nodes to others, or is shut
abbrev pub is_cut_off : Network → PartState → List ℕ → ℕ → ArcRow → Bool
is_cut_off p part ns a row = not (crosses ns row) || is_shut (fixed_state p part a row)

-- the test of the arc a, if there is one
abbrev pub passes_at : (ℕ → ArcRow → Bool) → List ArcRow → ℕ → Bool
passes_at test arcs a = option_map_or (test a) (slice_get arcs a) true

-- of at most 2,000 nodes the marked ones are these
pub record AreMarks (marks : List Bool) (ns : List ℕ) : Type 0 where
  pub count : length marks ≡ 2000
  pub each : (n : ℕ) → n < 2000 → slice_index_or marks n false ≡ is_cut_node ns n
