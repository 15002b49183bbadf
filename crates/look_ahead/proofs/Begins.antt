-- Children of stable boxes can be settled, and forks whose children can be made.
use Rattle.std.proofs.Common.{◌≡◌, ◌≢◌, ℕ, ◌<◌, length, refl, sym, subst, ◌∙◌, ap, arith, IsTrue}
use Rattle.std.specs.Prelude.{Option, Some, List, [], ◌∷◌, ◌++◌, get_or}
use Rattle.std.specs.List.{All}
use Rattle.std.proofs.lemmas.List.Elements.{All-from_get_or, All-get_or, All-push}
use Rattle.std.proofs.lemmas.Option.{slice_get-get_or}
use Rattle.base_types.specs.declared.variables.Var.{Var}
use Rattle.base_types.specs.declared.variables.Var.TheVariants.{Flow, Square}
use Rattle.gas_model.specs.declared.rows.PartState.{PartState}
use Rattle.gas_model.specs.Rows.{Network}
use Rattle.gas_model.specs.Within.{IsWithin}
use Rattle.gas_model.specs.Boxes.{Bounds, BoxFits, is_in_box, is_var}
use Rattle.gas_model.specs.Choices.{PartFits}
use Rattle.topo.specs.Shapes.{Layout, IsShapeOf}
use Rattle.tree_cert.specs.declared.line.Head.{Head}
use Rattle.tree_cert.specs.declared.line.Head.TheVariants.{Take, State, Half}
use Rattle.box_split.specs.declared.forks.Fork.{Fork}
use Rattle.box_split.specs.declared.forks.Fork.TheVariants.{Group, Free, Halve, Least}
use Rattle.box_split.specs.Forks.{fork_of}
use Rattle.stable_sweep.specs.Children.{ComesBy, IsHeadOf}
use Rattle.stable_sweep.specs.Settling.{IsStable}
use Rattle.box_pool.specs.declared.open_box.BoxView.{BoxView}
use Rattle.box_pool.specs.Grid.{pool_scale}
use Rattle.box_pool.specs.declared.forks.Children.{Children}
use Rattle.box_pool.specs.Forks.{AreChildren, IsForkOf, HasFork, heads_of}
use Rattle.box_pool.specs.Origins.{bounds_by, part_by}
use Rattle.box_pool.specs.Expected.{CanBegin as ForkBegins}
use Rattle.box_pool.specs.Pools.{ViewFits, box_of_view}
use Rattle.box_pool.proofs.ForkOf.{fork_is_of}
use Rattle.box_pool.proofs.ForkKids.{arc_begins, group_begins}
use Rattle.box_pool.proofs.Forked.{forks_are_expected}
use Rattle.box_pool.proofs.StillFits.{bounds_fit, part_fits}
use Rattle.look_ahead.specs.Views.{CanBegin, CanFork, CanForkAll, IsReady, IsStableView, KeepsShape}

-- ---- the child of a stable box

boxed : (p : Network) (b : Bounds) (v : Var) → BoxFits p b → IsTrue (is_in_box b v) → IsTrue (is_var p v)
boxed p b (Flow a) fits h = let e = fits.flows in rw (← e) h
boxed p b (Square n) fits h = let e = fits.squares in rw (← e) h

known_head : (p : Network) (v : BoxView) (h : Head) → ViewFits p v → CanBegin p v h → IsHeadOf p (Some h)
known_head p v (Take k j) fits can = tt
known_head p v (State a s) fits can = let e = fits.part.states in let c = can.picks.0 in omega arith
known_head p v (Half w low C) fits can = boxed p v.bounds.value w fits.bounds can.halves.0

-- a box with this part state and these ends comes from a stable one by this head
comes : (p : Network) (v : BoxView) (h : Head) → IsStable p (box_of_view v)
    → ComesBy p (record { scale = pool_scale; part = part_by v.part.value (Some h); bounds = bounds_by v.bounds.value (Some h) }) (Some h)
comes p v (Take k j) stable = record { parent = box_of_view v; stable = stable; child = refl }
comes p v (State a s) stable = record { parent = box_of_view v; stable = stable; child = refl }
comes p v (Half w low C) stable = record { parent = box_of_view v; stable = stable; child = refl }

pub is_ready : (p : Network) (v child : BoxView) (h : Head) → IsStableView p v → CanBegin p v h → child.part.value ≡ part_by v.part.value (Some h)
    → child.bounds.value ≡ bounds_by v.bounds.value (Some h) → child.head ≡ Some h → IsShapeOf p child.part.value child.shape.value → IsReady p child
is_ready p v child h view can part bounds head shape =
    record {
      fits = record {
        part = subst (PartFits p) (sym part) (part_fits p v.part.value (Some h) view.fits.part can.picks);
        shape = shape;
        bounds = subst (BoxFits p) (sym bounds) (bounds_fit p v.bounds.value (Some h) view.fits.bounds);
      };
      head = subst (IsHeadOf p) (sym head) (known_head p v h view.fits can);
      comes =
          subst (λ (o : Option Head). ComesBy p (box_of_view child) o) (sym head)
          (subst (λ (part : PartState). ComesBy p (record { scale = pool_scale; part = part; bounds = child.bounds.value }) (Some h)) (sym part)
          (subst (λ (b : Bounds). ComesBy p (record { scale = pool_scale; part = part_by v.part.value (Some h); bounds = b }) (Some h)) (sym bounds)
          (comes p v h view.stable)));
    }

-- a half has the part state, and so the shape, of its box
pub keeps_shape : (p : Network) (v : BoxView) (h : Head) (part : PartState) → IsStableView p v → part ≡ part_by v.part.value (Some h) → KeepsShape p v.shape.value part h
keeps_shape p v (Take k j) part view is = tt
keeps_shape p v (State a s) part view is = tt
keeps_shape p v (Half w low C) part view is = subst (λ (x : PartState). IsShapeOf p x v.shape.value) (sym is) view.fits.shape

-- ---- forks

all_begin : (p : Network) (v : BoxView) (fork : Fork) → ForkBegins p v.part.value v.bounds.value fork → All (CanBegin p v) (heads_of p v.part.value fork)
all_begin p v fork begin =
    All-from_get_or (CanBegin p v) (heads_of p v.part.value fork) (Take 0 0)
    (λ k lt.
    let b = begin k (get_or (heads_of p v.part.value fork) k (Take 0 0)) (slice_get-get_or (heads_of p v.part.value fork) k (Take 0 0) lt) in
    record { picks = b.0; halves = b.1 })

pub group_can : (p : Network) (v : BoxView) (k : ℕ) → IsStableView p v → k < length p.groups → CanFork p v (Group k)
group_can p v k view lt = record { of_problem = lt; begin = all_begin p v (Group k) (group_begins p v.part.value v.bounds.value k view.fits.part lt) }

pub arc_can : (p : Network) (v : BoxView) (a : ℕ) → IsStableView p v → a < length p.arcs → CanFork p v (Free a)
arc_can p v a view lt = record { of_problem = lt; begin = all_begin p v (Free a) (arc_begins p v.part.value v.bounds.value a view.fits.part lt) }

branch_begins : (p : Network) (v : BoxView) (fork : Fork) → IsWithin p → IsStableView p v → HasFork p v.part.value v.bounds.value v.turn fork → fork ≢ Least → All (CanBegin p v) (heads_of p v.part.value fork)
branch_begins p v fork within view has wide =
    all_begin p v fork (forks_are_expected p pool_scale v.part.value v.bounds.value v.turn fork within view.fits.part view.fits.bounds has wide).1

any_begins : (p : Network) (v : BoxView) (fork : Fork) → IsWithin p → IsStableView p v → HasFork p v.part.value v.bounds.value v.turn fork → All (CanBegin p v) (heads_of p v.part.value fork)
any_begins p v (Group k) within view has = branch_begins p v (Group k) within view has (λ e. cc)
any_begins p v (Free a) within view has = branch_begins p v (Free a) within view has (λ e. cc)
any_begins p v (Halve w at next) within view has = branch_begins p v (Halve w at next) within view has (λ e. cc)
any_begins p v Least within view has = λ k d lt. absurd (omega arith)

pub branch_can : (p : Network) (v : BoxView) (fork : Fork) → IsWithin p → IsStableView p v → fork ≡ fork_of p v.shape.value.split_list v.part.value v.bounds.value v.turn → CanFork p v fork
branch_can p v fork within view is =
    record {
      of_problem = subst (IsForkOf p) (sym is) (fork_is_of p v.part.value v.shape.value v.bounds.value within view.fits.shape view.fits.bounds v.turn);
      begin = any_begins p v fork within view (record { shape = v.shape.value; is_shape = view.fits.shape; fork_is = is });
    }

-- the children of a fork are those that can be made
pub children_begin : (p : Network) (v : BoxView) (fork : Fork) (part : PartState) (c : Children) → CanFork p v fork → part ≡ v.part.value → AreChildren p part fork c → All (CanBegin p v) c.heads
children_begin p v fork part c can same are =
    let heads : c.heads ≡ heads_of p v.part.value fork = are.heads ∙ ap (λ (x : PartState). heads_of p x fork) same in
    subst (All (CanBegin p v)) (sym heads) can.begin

pub child_begins : (p : Network) (v : BoxView) (fork : Fork) (part : PartState) (c : Children) (i : ℕ) → CanFork p v fork → part ≡ v.part.value → AreChildren p part fork c → i < length c.heads
    → CanBegin p v (get_or c.heads i (Take 0 0))
child_begins p v fork part c i can same are lt = All-get_or (CanBegin p v) c.heads i (Take 0 0) lt (children_begin p v fork part c can same are)

pub branch_can_at : (p : Network) (v : BoxView) (fork : Fork) (s : Layout) (part : PartState) (b : Bounds) → IsWithin p → IsStableView p v → s ≡ v.shape.value → part ≡ v.part.value → b ≡ v.bounds.value
    → fork ≡ fork_of p s.split_list part b v.turn → CanFork p v fork
branch_can_at p v fork s part b within view same_shape same_part same_bounds is = branch_can p v fork within view (rw (← same_shape, ← same_part, ← same_bounds) is)

-- ---- lists of forks

pub none_yet : (p : Network) (v : BoxView) → CanForkAll p v []
none_yet p v = record { each = λ k d lt. absurd (omega arith) }

pub one_more : (p : Network) (v : BoxView) (forks : List Fork) (fork : Fork) → CanForkAll p v forks → CanFork p v fork → CanForkAll p v (forks ++ fork ∷ [])
one_more p v forks fork all can = record { each = All-push (CanFork p v) forks fork all.each can }

pub one_of : (p : Network) (v : BoxView) (forks : List Fork) (k : ℕ) (d : Fork) → CanForkAll p v forks → k < length forks → CanFork p v (get_or forks k d)
one_of p v forks k d all lt = All-get_or (CanFork p v) forks k d lt all.each
