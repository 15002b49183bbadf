-- Views of boxes, before they are worked and after.
use Rattle.std.proofs.Common.{◌≡◌, ℕ, ◌<◌, ℤ, List, [], Option, Some, None, refl, sym, ap, subst, ◌∙◌, length-set}
use Rattle.std.specs.Prelude.{slice_get}
use Rattle.std.specs.Rc.{rc_value}
use Rattle.gas_model.specs.Rows.{Network}
use Rattle.gas_model.specs.Boxes.{Bounds, BoxFits}
use Rattle.base_types.specs.declared.variables.Var.TheVariants.{Flow, Square}
use Rattle.gas_model.specs.declared.rows.PartState.{PartState}
use Rattle.gas_model.specs.Choices.{PartFits}
use Rattle.tree_cert.specs.declared.line.Step.{Step}
use Rattle.tree_cert.specs.declared.line.Head.{Head}
use Rattle.tree_cert.specs.declared.line.Head.TheVariants.{Take, State, Half}
use Rattle.tree_rules.specs.Rules.{PartBox}
use Rattle.tree_rules.specs.Branches.{rules_of}
use Rattle.tree_pool.specs.Rules.{after_steps}
use Rattle.tight_steps.specs.Moves.{part_box}
use Rattle.stable_sweep.specs.declared.sweep.Settled.{Settled}
use Rattle.stable_sweep.specs.Runs.{after, AreTurns, Extends}
use Rattle.stable_sweep.specs.Children.{ComesBy, IsHeadOf}
use Rattle.stable_sweep.specs.Settling.{IsStable, SettledAs}
use Rattle.stable_sweep.proofs.Sweeps.{var_of}
use Rattle.box_pool.specs.declared.open_box.BoxView.{BoxView}
use Rattle.box_pool.specs.Grid.{pool_scale}
use Rattle.box_pool.specs.Origins.{Origin, part_by, bounds_by, box_of, CanPick, CanHalve, IsOrigin, IsViewOf}
use Rattle.box_pool.specs.Pools.{Boxed, PoolFits, Looks, ViewFits, box_of_view}
use Rattle.nom_search.specs.Searched.{IsOfStable, AreOfStable, LeadsTo, IsSettled}
use Rattle.nom_search.proofs.Runs.{turns_lead}
use Rattle.box_pool.proofs.StillFits.{view_fits}

-- without a step the ends are as they were
pub stays : (p : Network) (K : ℤ) (part : PartState) (a b : Bounds) (none steps : List Step) → none ≡ [] → Extends p (part_box K part a) (part_box K part b) none steps → steps ≡ [] → b ≡ a
stays p K part a b none steps empty e no_steps =
    let added : e.added ≡ [] = (let l = e.list in cc) in
    let box : part_box K part b ≡ after (part_box K part a) e.added = e.box in
    ap (λ (q : PartBox). q.bounds) (rw added at box)

-- what settling leaves of a view
pub settled_by : (p : Network) (v w : BoxView) (part : PartState) (a b : Bounds) (none steps : List Step) (end : Settled) → part ≡ v.part.value → a ≡ v.bounds.value → none ≡ [] → w.part ≡ v.part → w.shape ≡ v.shape → w.turn ≡ v.turn
    → w.bounds.value ≡ b → ViewFits p v → BoxFits p b → Extends p (part_box pool_scale part a) (part_box pool_scale part b) none steps → SettledAs p (part_box pool_scale part b) end → IsSettled p v w steps end
settled_by p v w part a b none steps end part_is bounds_is empty same_part same_shape same_turn moved fits box_fits e ends =
    let of : w.part.value ≡ v.part.value = ap rc_value same_part in
    let old : part_box pool_scale part a ≡ box_of_view v = rw (part_is, bounds_is) refl in
    let new : part_box pool_scale part b ≡ box_of_view w = rw (part_is, of, moved) refl in
    let list : steps ≡ e.added = (let l = e.list in rw empty at l) in
    let turns : AreTurns p (box_of_view v) e.added = subst (λ (q : PartBox). AreTurns p q e.added) old e.turns in
    let box : box_of_view w ≡ after (box_of_view v) e.added = sym new ∙ e.box ∙ ap (λ (q : PartBox). after q e.added) old in
    record {
      fits = record { part = rw of fits.part; shape = rw (of, ap rc_value same_shape) fits.shape; bounds = rw moved box_fits };
      part = same_part;
      shape = same_shape;
      turn = same_turn;
      moves = subst (AreTurns p (box_of_view v)) (sym list) turns;
      after = subst (λ (ss : List Step). after_steps (rules_of p) (box_of_view v) ss ≡ Some (box_of_view w)) (sym list) (turns_lead p (box_of_view v) e.added turns ∙ ap Some (sym box));
      ends = subst (λ (q : PartBox). SettledAs p q end) new ends;
    }

view_box : (p : Network) (o : Origin) (v : BoxView) → IsViewOf p o v → box_of_view v ≡ box_of pool_scale o
view_box p o v view =
    ap (λ (part : PartState). record { scale = pool_scale; part = part; bounds = v.bounds.value }) view.part
    ∙ ap (λ (b : Bounds). record { scale = pool_scale; part = part_by o.part o.head; bounds = b }) view.bounds

-- ---- the head of a view

known_head : (p : Network) (part : PartState) (b : Bounds) (h : Option Head) → PartFits p part → BoxFits p b → CanPick p part h → CanHalve b h → IsHeadOf p h
known_head p part b None fits box_fits can halves = tt
known_head p part b (Some (Take k j)) fits box_fits can halves = tt
known_head p part b (Some (State a s)) fits box_fits can halves = subst (λ (n : ℕ). a < n) fits.states can.0
known_head p part b (Some (Half v low C)) fits box_fits can halves = var_of p b v box_fits halves.0

head_comes : (p : Network) (part : PartState) (b : Bounds) (h : Option Head) → ((x : Head) → h ≡ Some x → IsStable p (record { scale = pool_scale; part = part; bounds = b }))
    → ComesBy p (record { scale = pool_scale; part = part_by part h; bounds = bounds_by b h }) h
head_comes p part b None stable = tt
head_comes p part b (Some (Take k j)) stable = record { parent = record { scale = pool_scale; part = part; bounds = b }; stable = stable (Take k j) refl; child = refl }
head_comes p part b (Some (State a s)) stable = record { parent = record { scale = pool_scale; part = part; bounds = b }; stable = stable (State a s) refl; child = refl }
head_comes p part b (Some (Half v low C)) stable = record { parent = record { scale = pool_scale; part = part; bounds = b }; stable = stable (Half v low C) refl; child = refl }

view_comes : (p : Network) (o : Origin) (v : BoxView) → IsOfStable p o → IsViewOf p o v → ComesBy p (box_of_view v) v.head
view_comes p o v stable view =
    subst (λ (b : PartBox). ComesBy p b v.head) (sym (view_box p o v view)) (subst (λ (h : Option Head). ComesBy p (box_of pool_scale o) h) (sym view.head) (head_comes p o.part o.bounds o.head stable))

pub comes_of : (p : Network) (v : BoxView) (part : PartState) (b : Bounds) → part ≡ v.part.value → b ≡ v.bounds.value → ComesBy p (box_of_view v) v.head → ComesBy p (part_box pool_scale part b) v.head
comes_of p v part b e f h = subst (λ (q : PartState). ComesBy p (part_box pool_scale q b) v.head) (sym e) (subst (λ (x : Bounds). ComesBy p (part_box pool_scale v.part.value x) v.head) (sym f) h)

-- a view that was settled is led to from where its box comes from
pub leads_to : (p : Network) (o : Origin) (v w : BoxView) (steps : List Step) (end : Settled) → IsViewOf p o v → IsSettled p v w steps end → LeadsTo p o steps w
leads_to p o v w steps end view settled =
    let same = view_box p o v view in
    record {
      fits = settled.fits;
      turn = settled.turn ∙ view.turn;
      moves = subst (λ (b : PartBox). AreTurns p b steps) same settled.moves;
      after = subst (λ (b : PartBox). after_steps (rules_of p) b steps ≡ Some (box_of_view w)) same settled.after;
    }

-- what looking shows, where something is there
pub seen : (p : Network) (pool : Boxed) (n : ℕ) (o : Option BoxView) (v : BoxView) → o ≡ Some v → Looks p pool n o → (from : Origin) × (slice_get pool.origins n ≡ Some (Some from)) × IsViewOf p from v
seen p pool n o v is looks = subst (Looks p pool n) is looks

pub seen_head : (p : Network) (pool : Boxed) (n : ℕ) (o : Option BoxView) (v : BoxView) → PoolFits p pool → o ≡ Some v → Looks p pool n o → IsHeadOf p v.head
seen_head p pool n o v fits is looks =
    let s = seen p pool n o v is looks in
    let f = fits n s.0 s.1 in
    subst (IsHeadOf p) (sym s.2.head) (known_head p s.0.part s.0.bounds s.0.head f.part f.bounds f.picks f.halves)

pub seen_comes : (p : Network) (pool : Boxed) (n : ℕ) (o : Option BoxView) (v : BoxView) → AreOfStable p pool → o ≡ Some v → Looks p pool n o → ComesBy p (box_of_view v) v.head
seen_comes p pool n o v stable is looks = let s = seen p pool n o v is looks in view_comes p s.0 v (stable n s.0 s.1) s.2

pub seen_fits : (p : Network) (pool : Boxed) (n : ℕ) (o : Option BoxView) (v : BoxView) → PoolFits p pool → o ≡ Some v → Looks p pool n o → ViewFits p v
seen_fits p pool n o v fits is looks = let s = seen p pool n o v is looks in view_fits p s.0 v (fits n s.0 s.1) s.2

-- where a box comes from whose view was settled
pub seen_leads : (p : Network) (pool : Boxed) (n : ℕ) (o : Option BoxView) (v w : BoxView) (steps : List Step) (end : Settled) → o ≡ Some v → Looks p pool n o → IsSettled p v w steps end
    → (from : Origin) × (slice_get pool.origins n ≡ Some (Some from)) × LeadsTo p from steps w
seen_leads p pool n o v w steps end is looks settled = let s = seen p pool n o v is looks in (s.0, s.1, leads_to p s.0 v w steps end s.2 settled)
