-- A part state in which nothing is picked and no state is named fits its problem.
use Rattle.std.proofs.Common.{◌≡◌, ℕ, zero, suc, Option, None, Some, length, replicate}
use Rattle.std.specs.Prelude.{slice_get}
use Rattle.std.proofs.lemmas.List.{length-replicate}
use Rattle.gas_model.specs.Rows.{Network}
use Rattle.gas_model.specs.Choices.{PartFits, fresh_part}

none_in : {A : Type 0} (n k : ℕ) (x : A) → slice_get (replicate n None) k ≡ Some (Some x) → ⊥
none_in zero k x h = cc
none_in (suc n) zero x h = cc
none_in (suc n) (suc k) x h = none_in n k x h

pub fresh_fits : (p : Network) → PartFits p (fresh_part p)
fresh_fits p = record {
  picks = length-replicate _ _;
  states = length-replicate _ _;
  within = λ k g j at picked. absurd (none_in (length p.groups) k j picked);
  kinds = λ a row state at named. absurd (none_in (length p.arcs) a state named);
}
