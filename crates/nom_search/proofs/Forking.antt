-- The fork of a view; work on a box.
use Rattle.std.proofs.Common.{◌≡◌, ◌≢◌, ℕ, List, Some, sym, subst}
use Rattle.std.specs.Prelude.{slice_get}
use Rattle.gas_model.specs.Rows.{Network}
use Rattle.gas_model.specs.Within.{IsWithin}
use Rattle.box_split.specs.declared.forks.Fork.{Fork}
use Rattle.box_split.specs.declared.forks.Fork.TheVariants.{Least}
use Rattle.box_pool.specs.declared.open_box.BoxView.{BoxView}
use Rattle.box_pool.specs.Forks.{IsForkOf, HasFork}
use Rattle.tree_cert.specs.declared.line.Step.{Step}
use Rattle.box_pool.specs.declared.pool.WorkEnd.{WorkEnd}
use Rattle.box_pool.specs.Origins.{Origin}
use Rattle.box_pool.specs.Pools.{Boxed, ViewFits}
use Rattle.box_pool.specs.PoolOf.{ClosingHolds, IsWorkOn}
use Rattle.nom_search.specs.Searched.{LeadsTo}
use Rattle.box_pool.proofs.ForkOf.{fork_is_of}

pub can_split : (p : Network) (v : BoxView) (fork : Fork) → IsWithin p → ViewFits p v → HasFork p v.part.value v.bounds.value v.turn fork → fork ≢ Least
    → ViewFits p v × IsForkOf p fork × HasFork p v.part.value v.bounds.value v.turn fork × (fork ≢ Least)
can_split p v fork within fits has wide = (fits, subst (IsForkOf p) (sym has.fork_is) (fork_is_of p v.part.value has.shape v.bounds.value within has.is_shape fits.bounds v.turn), has, wide)

pub work_on : (p : Network) (pool : Boxed) (n : ℕ) (steps : List Step) (end : WorkEnd) (v : BoxView) → (o : Origin) × (slice_get pool.origins n ≡ Some (Some o)) × LeadsTo p o steps v → ClosingHolds p v end → IsWorkOn p pool n steps end v
work_on p pool n steps end v led holds = record { origin = led.0; here = led.1; turn = led.2.turn; after = led.2.after; holds = holds }
