-- Pools of which each box can be made, and the views of their boxes.
use Rattle.std.proofs.Common.{◌≡◌, ◌≢◌, ℕ, zero, suc, List, [], ◌∷◌, length, Option, Some, None, refl, sym, ap, subst, ◌∙◌, inl, inr, length-set}
use Rattle.std.specs.Prelude.{slice_get, slice_set, replicate, option_map, IfSome, true, false}
use Rattle.std.specs.Rc.{rc_value}
use Rattle.std.proofs.lemmas.List.{length-map, length-replicate}
use Rattle.gas_model.specs.Rows.{Network}
use Rattle.gas_model.specs.Within.{IsWithin}
use Rattle.gas_model.specs.Boxes.{Bounds, BoxFits, opening, flow_ends, square_ends}
use Rattle.base_types.specs.declared.variables.Var.TheVariants.{Flow, Square}
use Rattle.gas_model.specs.declared.rows.PartState.{PartState}
use Rattle.gas_model.specs.Choices.{PartFits, fresh_part}
use Rattle.tree_cert.specs.declared.line.Step.{Step}
use Rattle.tree_cert.specs.declared.line.Head.{Head}
use Rattle.tree_cert.specs.declared.line.Head.TheVariants.{Take, State, Half}
use Rattle.tree_pool.proofs.Lists.{appended_cases, from_map, set_cases}
use Rattle.box_split.specs.declared.forks.Fork.{Fork}
use Rattle.box_split.specs.declared.forks.Fork.TheVariants.{Group, Free, Halve, Least}
use Rattle.box_split.specs.Forks.{fork_of}
use Rattle.box_pool.specs.declared.pool.WorkEnd.TheVariants.{Split}
use Rattle.box_pool.specs.declared.forks.Children.{Children}
use Rattle.box_pool.specs.declared.open_box.BoxView.{BoxView}
use Rattle.box_pool.specs.Grid.{pool_scale}
use Rattle.topo.specs.Shapes.{Layout, IsShapeOf}
use Rattle.box_pool.specs.Forks.{by_of, heads_of, next_of, HasFork}
use Rattle.box_pool.specs.Origins.{Origin, origin_by, part_by, bounds_by, CanPick, IsOrigin, IsViewOf}
use Rattle.box_pool.specs.Pools.{Boxed, IsNew, PoolFits, Looks, ViewFits, IsGiven, for_halves, base_of, new_origins}
use Rattle.box_pool.proofs.Forked.{forks_are_expected}

-- ---- a new pool

alone : (o q : Origin) (n : ℕ) → slice_get (Some o ∷ []) n ≡ Some (Some q) → o ≡ q
alone o q zero h = cc
alone o q (suc n) h = absurd cc

pub new_fits : (p : Network) (part : PartState) (b : Bounds) (pool : Boxed) → PartFits p part → BoxFits p b → IsNew p part b pool → PoolFits p pool
new_fits p part b pool part_fits box_fits is n o here =
    let root : Origin = record { part = part; shape = Some is.shape; bounds = b; next = 0; head = None } in
    let origins : pool.origins ≡ Some root ∷ [] = is.origins in
    subst (IsOrigin p) (alone root o n (rw origins at here)) (record { part = part_fits; shape = is.is_shape; bounds = box_fits; picks = tt; halves = tt })

pub same_fits : (p : Network) (old new : Boxed) → new.origins ≡ old.origins → PoolFits p old → PoolFits p new
same_fits p old new same fits n o here = fits n o (rw same at here)

-- ---- views

pub bounds_fit : (p : Network) (b : Bounds) (h : Option Head) → BoxFits p b → BoxFits p (bounds_by b h)
bounds_fit p b None fits = fits
bounds_fit p b (Some (Take k j)) fits = fits
bounds_fit p b (Some (State a s)) fits = fits
bounds_fit p b (Some (Half (Flow a) low C)) fits = record { flows = length-set _ _ _ ∙ fits.flows; squares = fits.squares }
bounds_fit p b (Some (Half (Square n) low C)) fits = record { flows = fits.flows; squares = length-set _ _ _ ∙ fits.squares }

pub part_fits : (p : Network) (part : PartState) (h : Option Head) → PartFits p part → CanPick p part h → PartFits p (part_by part h)
part_fits p part None fits can = fits
part_fits p part (Some (Take k j)) fits can = can.1
part_fits p part (Some (State a s)) fits can = can.1
part_fits p part (Some (Half v low C)) fits can = fits

-- a view of a box that can be made fits the problem
pub view_fits : (p : Network) (o : Origin) (v : BoxView) → IsOrigin p o → IsViewOf p o v → ViewFits p v
view_fits p o v is view =
    record {
      part = subst (PartFits p) (sym view.part) (part_fits p o.part o.head is.part is.picks);
      shape = view.shape;
      bounds = subst (BoxFits p) (sym view.bounds) (bounds_fit p o.bounds o.head is.bounds);
    }

pub seen_fits : (p : Network) (pool : Boxed) (n : ℕ) (v : BoxView) → PoolFits p pool → Looks p pool n (Some v) → ViewFits p v
seen_fits p pool n v fits looks = view_fits p looks.0 v (fits n looks.0 looks.1) looks.2

-- ---- a box that was split

-- the shape that halves have in common is their own
pub kept_shape : (p : Network) (v : BoxView) (fork : Fork) (k : ℕ) (h : Head) → slice_get (heads_of p v.part.value fork) k ≡ Some h → IsShapeOf p v.part.value v.shape.value
    → IfSome (option_map rc_value (for_halves (by_of fork) v.shape)) (IsShapeOf p (part_by v.part.value (Some h)))
kept_shape p v (Group j) k h at is = tt
kept_shape p v (Free a) k h at is = tt
kept_shape p v (Halve x at next) zero h here is = let e : Half x false at ≡ h = cc in rw (← e) is
kept_shape p v (Halve x at next) (suc zero) h here is = let e : Half x true at ≡ h = cc in rw (← e) is
kept_shape p v (Halve x at next) (suc (suc k)) h here is = absurd cc
kept_shape p v Least k h at is = tt

pub split_fits : (p : Network) (old new : Boxed) (n : ℕ) (steps : List Step) (fork : Fork) (v : BoxView) → IsWithin p → ViewFits p v → HasFork p v.part.value v.bounds.value v.turn fork → fork ≢ Least
    → PoolFits p old → IsGiven p old new n steps (Split fork) v → PoolFits p new
split_fits p old new n steps fork v within fits has wide all given m o here =
    elim (appended_cases (slice_set old.origins n None) (new_origins p v (Split fork)) m (Some o) (let a = given.origins in rw a at here)) [
      | inl before ↦ elim (set_cases old.origins n m None (Some o) before) [ inl e ↦ absurd (let a = e.1 in cc) | inr h ↦ all m o h ]
      | inr child ↦
          let (k, sum, at) = child in
          let z = from_map (λ h. Some (origin_by (base_of v (by_of fork) (next_of fork)) (Some h))) (heads_of p v.part.value fork) k (Some o) at in
          let can = (forks_are_expected p pool_scale v.part.value v.bounds.value v.turn fork within fits.part fits.bounds has wide).1 k z.0 z.1 in
          let e : origin_by (base_of v (by_of fork) (next_of fork)) (Some z.0) ≡ o = (let t = z.2 in cc) in
          subst (IsOrigin p) e (record { part = fits.part; shape = kept_shape p v fork k z.0 z.1 fits.shape; bounds = fits.bounds; picks = can.0; halves = can.1 })
    ]

-- ---- the fork of a view

pub has_fork : (p : Network) (v : BoxView) (s : Layout) (part : PartState) (b : Bounds) (fork : Fork) → s ≡ v.shape.value → part ≡ v.part.value → b ≡ v.bounds.value → ViewFits p v → fork ≡ fork_of p s.split_list part b v.turn
    → HasFork p v.part.value v.bounds.value v.turn fork
has_fork p v s part b fork same_shape same_part same_bounds fits is =
    record { shape = v.shape.value; is_shape = fits.shape; fork_is = rw (← same_shape, ← same_part, ← same_bounds) is }

-- a fork that has children
pub not_least : (fork : Fork) (c : Children) → (fork ≡ Least → Some c ≡ None) → fork ≢ Least
not_least fork c h e = let n = h e in absurd cc
