-- The decisions of a group, and rows that were looked up.
use Rattle.std.proofs.Common.{◌≡◌, ℕ, ◌<◌, ◌≤◌, List, length, arith, IsTrue}
use Rattle.std.specs.Prelude.{slice_get, Some, get_or}
use Rattle.std.proofs.lemmas.Option.{slice_get-get_or}
use Rattle.gas_model.specs.declared.rows.ArcRow.{ArcRow}
use Rattle.gas_model.specs.declared.rows.Group.{Group}
use Rattle.gas_model.specs.Rows.{Network}
use Rattle.gas_model.specs.Within.{IsWithin, is_group_within}

few : (arcs : List ArcRow) (g : Group) → IsTrue (is_group_within arcs g) → length g.decisions ≤ 1024
few arcs g t = grind arith

pub few_decisions : (p : Network) (k : ℕ) (g : Group) → IsWithin p → slice_get p.groups k ≡ Some g → length g.decisions ≤ 1024
few_decisions p k g w e = few p.arcs g (w.groups k g e)

-- a row that was looked up stands there
pub read_at : {A : Type 0} (xs ys : List A) (i : ℕ) (d : A) → ys ≡ xs → i < length xs → slice_get xs i ≡ Some (get_or ys i d)
read_at xs ys i d e lt = rw e (slice_get-get_or xs i d lt)
