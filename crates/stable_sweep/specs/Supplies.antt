-- The supplies of components.
use Rattle.std.specs.Prelude.{◌≡◌, ℕ, ◌<◌, ◌==◌, ◌||◌, pos, int_lt, Bool, true, false, List, length, slice_index_or}
use Rattle.gas_model.specs.declared.rows.NodeRow.{NodeRow}
use Rattle.topo.specs.Walks.{those}
use Rattle.tree_rules.specs.NodeRules.{sum_nodes, least_supply, greatest_supply}
use Rattle.stable_sweep.specs.declared.cuts.Supply.{Supply}

abbrev pub no_supply : Supply
no_supply = record { least = pos 0; greatest = pos 0 }

-- it brings in something at least, or wants something at least
abbrev pub cannot_balance : Supply → Bool
cannot_balance s = int_lt (pos 0) s.least || int_lt s.greatest (pos 0)

-- the supply of those of the first k nodes that have this root
pub record IsSupply (nodes : List NodeRow) (root_of : List ℕ) (root k : ℕ) (s : Supply) : Type 0 where
  pub least : s.least ≡ sum_nodes (least_supply nodes) (those (λ n. slice_index_or root_of n 0 == root) k)
  pub greatest : s.greatest ≡ sum_nodes (greatest_supply nodes) (those (λ n. slice_index_or root_of n 0 == root) k)

pub record AreSupplies (nodes : List NodeRow) (root_of : List ℕ) (k : ℕ) (all : List Supply) : Type 0 where
  pub count : length all ≡ length nodes
  pub each : (root : ℕ) → root < length nodes → IsSupply nodes root_of root k (slice_index_or all root no_supply)

-- none of them is unbalanced, or this one is, the first of them
pub record NoneUnbalanced (all : List Supply) : Type 0 where
  pub none : (i : ℕ) → i < length all → cannot_balance (slice_index_or all i no_supply) ≡ false

pub record IsUnbalanced (all : List Supply) (i : ℕ) : Type 0 where
  pub within : i < length all
  pub first : (j : ℕ) → j < i → cannot_balance (slice_index_or all j no_supply) ≡ false
  pub is : cannot_balance (slice_index_or all i no_supply) ≡ true
