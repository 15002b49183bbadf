-- The children of a fork are those that its branch waits for, and each can be made.
use Rattle.std.proofs.Common.{◌≡◌, ℕ, zero, suc, ◌+◌, ◌<◌, Bool, true, false, cond, ◌&&◌, List, [], ◌∷◌, map, filter, length, Option, Some, None, refl, sym, ap, subst, ◌∙◌, ◌⊎◌, inl, inr, arith, ℤ, pos, ◌+ℤ◌, ◌-ℤ◌, ◌*ℤ◌, ◌<ℤ◌, IsTrue, length-set}
use Rattle.std.proofs.lemmas.Bool.{and_parts, and_from}
use Rattle.std.proofs.lemmas.List.Folds.{list_all-append}
use Rattle.integer_laws.proofs.Ring.{linear, mul_add, mul_one}
use Rattle.std.specs.Prelude.{◌==◌, slice_get, slice_set, is_none, is_some, int_lt, int_le}
use Rattle.std.specs.List.{list_all, range_with_len}
use Rattle.std.proofs.lemmas.Int.{ints}
use Rattle.base_types.specs.declared.states.Allow.{Allow}
use Rattle.gas_model.specs.declared.rows.ArcKind.{ArcKind}
use Rattle.gas_model.specs.declared.rows.ArcKind.TheVariants as kinds
use Rattle.gas_model.specs.declared.rows.ArcRow.{ArcRow}
use Rattle.base_types.specs.declared.states.ArcState.{ArcState}
use Rattle.gas_model.specs.declared.rows.Decision.{Decision}
use Rattle.gas_model.specs.declared.rows.Group.{Group}
use Rattle.gas_model.specs.declared.rows.PartState.{PartState}
use Rattle.gas_model.specs.declared.rows.Ruling.{Ruling}
use Rattle.gas_model.specs.declared.rows.Ends.{Ends}
use Rattle.base_types.specs.declared.variables.Var.{Var}
use Rattle.gas_model.specs.Rows.{Network}
use Rattle.gas_model.specs.Boxes.{Bounds, is_var, is_in_box, ends_of, width_of, may_become}
use Rattle.gas_model.specs.Choices.{states_of, has_state, allowed_states, picks_allow, fixed_state, PartFits}
use Rattle.gas_model.specs.Rulings.{pick_in, is_free, rulings_in, rulings_by, rulings_from}
use Rattle.tree_cert.specs.declared.line.Head.{Head}
use Rattle.tree_cert.specs.declared.line.Head.TheVariants.{Take, State, Half}
use Rattle.tree_rules.specs.Rules.{PartBox}
use Rattle.tree_rules.specs.Branches.{Heads, Halves, with_pick, with_state, headed, decision_heads, after_head, same_head, same_var, lies_inside, lower_half, upper_half, rules_of}
use Rattle.tree_rules.proofs.SameHeads.{heads_are_told_apart}
use Rattle.tree_pool.specs.Rules.{AreExpected}
use Rattle.tree_pool.proofs.Lists.{from_map, set_cases, there}
use Rattle.topo.specs.States.{fixed_at}
use Rattle.box_split.specs.declared.forks.Fork.TheVariants.{Group as GroupFork, Free, Halve}
use Rattle.box_ends.specs.Middle.{middle}
use Rattle.box_split.specs.Forks.{is_wide}
use Rattle.std.specs.Int.{int_rem_euclid}
use Rattle.gas_units.proofs.Quotients.{euclid_divides}
use Rattle.box_pool.specs.Origins.{CanPick, CanHalve}
use Rattle.box_pool.specs.Expected.{kids_of, IsExpected, CanBegin}

-- heads that are waited for in order
heads_expected : (p : Network) (b : PartBox) (heads : List Head) → AreExpected (rules_of p) (Heads b heads) (kids_of b heads)
heads_expected p b [] = refl
heads_expected p b (h ∷ heads) =
    let same : same_head h h ≡ true = (heads_are_told_apart h h).1 refl in
    (refl, rw same (refl, heads_expected p b heads))

pub in_range : (a n k j : ℕ) → slice_get (range_with_len a n) k ≡ Some j → j < a + n
in_range a zero k j h = absurd cc
in_range a (suc n) zero j h = let e : a ≡ j = cc in omega arith
in_range a (suc n) (suc k) j h = let e = in_range (a + 1) n k j h in omega arith

some_of : {A : Type 0} (o : Option A) → is_none o ≡ true → is_some o ≡ false
some_of None h = refl
some_of (Some x) h = absurd cc

none_some : {A : Type 0} (o : Option A) → is_none o ≡ false → is_some o ≡ true
none_some None h = absurd cc
none_some (Some x) h = refl

-- ---- the decisions of a group

pub group_expected : (p : Network) (b : PartBox) (k : ℕ) → k < length p.groups → is_none (pick_in b.part.picks k) ≡ true → IsExpected p b (GroupFork k)
group_expected p b k lt open_still =
    let g = there p.groups k lt in
    let row : slice_get p.groups k ≡ Some g.0 = g.1 in
    let unpicked = some_of (pick_in b.part.picks k) open_still in
    rw (unpicked, row) (heads_expected p b (decision_heads k g.0))

pick_fits : (p : Network) (part : PartState) (k j : ℕ) (g : Group) → PartFits p part → slice_get p.groups k ≡ Some g → j < length g.decisions → PartFits p (with_pick part k j)
pick_fits p part k j g fits row few =
    record {
      picks = length-set part.picks k (Some j) ∙ fits.picks;
      states = fits.states;
      within = λ i h n at picked.
          elim (set_cases part.picks k i (Some j) (Some n) picked) [
            | inl this ↦
                let a = this.0 in
                let b : j ≡ n = (let c = this.1 in cc) in
                let same : g ≡ h = cc in
                subst (λ (x : Group). n < length x.decisions) same (omega arith)
            | inr old ↦ fits.within i h n at old
          ];
      kinds = fits.kinds;
    }

pub group_begins : (p : Network) (part : PartState) (b : Bounds) (k : ℕ) → PartFits p part → k < length p.groups → CanBegin p part b (GroupFork k)
group_begins p part b k fits lt i h at =
    let g = there p.groups k lt in
    let row : slice_get p.groups k ≡ Some g.0 = g.1 in
    let heads : slice_get (decision_heads k g.0) i ≡ Some h = (rw row at at) in
    let z = from_map (Take k) (range_with_len 0 (length g.0.decisions)) i h heads in
    let few : z.0 < length g.0.decisions = (let a = in_range 0 (length g.0.decisions) i z.0 z.1 in omega arith) in
    subst (λ (x : Head). CanPick p part (Some x) × CanHalve b (Some x)) z.2 (((let a = fits.picks in omega arith), pick_fits p part k z.0 g.0 fits row few), tt)

-- ---- the states of an arc

one_more : (t : Ruling → Bool) (r : Ruling) (rest : List Ruling) (b : Bool) → t r ≡ true → list_all t rest ≡ true → list_all t (cond b (r ∷ rest) rest) ≡ true
one_more t r rest true own more = and_from _ _ own more
one_more t r rest false own more = more

rulings_in_below : (t : Ruling → Bool) (a k j : ℕ) (sets : List (ℕ × Allow)) → ((r : Ruling) → r.group ≡ k → t r ≡ true) → list_all t (rulings_in a k j sets) ≡ true
rulings_in_below t a k j [] all = refl
rulings_in_below t a k j (s ∷ sets) all =
    let r : Ruling = record { group = k; decision = j; allow = s.1 } in
    one_more t r (rulings_in a k j sets) (s.0 == a) (all r refl) (rulings_in_below t a k j sets all)

rulings_by_below : (t : Ruling → Bool) (a k j : ℕ) (decisions : List Decision) → ((r : Ruling) → r.group ≡ k → t r ≡ true) → list_all t (rulings_by a k j decisions) ≡ true
rulings_by_below t a k j [] all = refl
rulings_by_below t a k j (d ∷ decisions) all =
    list_all-append t (rulings_in a k j d.sets) (rulings_by a k (j + 1) decisions)
    ∙ and_from _ _ (rulings_in_below t a k j d.sets all) (rulings_by_below t a k (j + 1) decisions all)

rulings_below : (t : Ruling → Bool) (a k : ℕ) (groups : List Group) → ((r : Ruling) → r.group < k + length groups → t r ≡ true) → list_all t (rulings_from a k groups) ≡ true
rulings_below t a k [] all = refl
rulings_below t a k (g ∷ groups) all =
    list_all-append t (rulings_by a k 0 g.decisions) (rulings_from a (k + 1) groups)
    ∙ and_from _ _ (rulings_by_below t a k 0 g.decisions (λ r is. all r (omega arith))) (rulings_below t a (k + 1) groups (λ r lt. all r (omega arith)))

-- an arc whose state isn't fixed, where all groups are picked
free : (p : Network) (part : PartState) (a : ℕ) (row : ArcRow) → is_none (fixed_state p part a row) ≡ true → ((k : ℕ) → k < length p.groups → is_none (pick_in part.picks k) ≡ false) → is_free p part a row ≡ true
free p part a row loose picked =
    and_from _ _ loose
    (rulings_below (λ r. is_some (pick_in part.picks r.group)) a 0 p.groups (λ r lt. none_some (pick_in part.picks r.group) (picked r.group (omega arith))))

fixed_here : (p : Network) (part : PartState) (a : ℕ) (row : ArcRow) → slice_get p.arcs a ≡ Some row → is_none (fixed_at p part a) ≡ true → is_none (fixed_state p part a row) ≡ true
fixed_here p part a row at h = rw at at h

pub arc_expected : (p : Network) (b : PartBox) (a : ℕ) → a < length p.arcs → is_none (fixed_at p b.part a) ≡ true → ((k : ℕ) → k < length p.groups → is_none (pick_in b.part.picks k) ≡ false) → IsExpected p b (Free a)
arc_expected p b a lt loose picked =
    let r = there p.arcs a lt in
    let row : slice_get p.arcs a ≡ Some r.0 = r.1 in
    let is : is_free p b.part a r.0 ≡ true = free p b.part a r.0 (fixed_here p b.part a r.0 row loose) picked in
    rw (row, is) (heads_expected p b (map (State a) (allowed_states p b.part a r.0)))

state_filter : (test : ArcState → Bool) (kind : ArcKind) (states : List ArcState) (k : ℕ) (s : ArcState) → list_all (has_state kind) states ≡ true → slice_get (filter test states) k ≡ Some s → has_state kind s ≡ true
state_filter test kind [] k s t h = absurd cc
state_filter test kind (x ∷ states) k s t h = by (test x) k refl (and_parts (has_state kind x) (list_all (has_state kind) states) t).0 (λ i e. state_filter test kind states i s (and_parts (has_state kind x) (list_all (has_state kind) states) t).1 e) h
  where
    by : (b : Bool) (i : ℕ) → i ≡ i → has_state kind x ≡ true → ((j : ℕ) → slice_get (filter test states) j ≡ Some s → has_state kind s ≡ true) → slice_get (cond b (x ∷ filter test states) (filter test states)) i ≡ Some s → has_state kind s ≡ true
    by true zero e own rest g = (let same : x ≡ s = cc in rw (← same) own)
    by true (suc i) e own rest g = rest i g
    by false i e own rest g = rest i g

own_states : (kind : ArcKind) → list_all (has_state kind) (states_of kind) ≡ true
own_states (kinds.Pipe law) = refl
own_states kinds.Short = refl
own_states (kinds.Resist law) = refl
own_states (kinds.Loss low high) = refl
own_states kinds.Valve = refl
own_states (kinds.Control a b x y) = refl
own_states (kinds.Station a b x y r) = refl

state_fits : (p : Network) (part : PartState) (a : ℕ) (row : ArcRow) (s : ArcState) → PartFits p part → slice_get p.arcs a ≡ Some row → has_state row.kind s ≡ true → PartFits p (with_state part a s)
state_fits p part a row s fits at has =
    record {
      picks = fits.picks;
      states = length-set part.states a (Some s) ∙ fits.states;
      within = fits.within;
      kinds = λ i r t here named.
          elim (set_cases part.states a i (Some s) (Some t) named) [
            | inl this ↦
                let b = this.0 in
                let c : s ≡ t = (let d = this.1 in cc) in
                let same : row ≡ r = cc in
                rw (← same, ← c) has
            | inr old ↦ fits.kinds i r t here old
          ];
    }

pub arc_begins : (p : Network) (part : PartState) (b : Bounds) (a : ℕ) → PartFits p part → a < length p.arcs → CanBegin p part b (Free a)
arc_begins p part b a fits lt i h at =
    let r = there p.arcs a lt in
    let row : slice_get p.arcs a ≡ Some r.0 = r.1 in
    let heads : slice_get (map (State a) (allowed_states p part a r.0)) i ≡ Some h = (rw row at at) in
    let z = from_map (State a) (allowed_states p part a r.0) i h heads in
    let has = state_filter (picks_allow p.groups part.picks a) r.0.kind (states_of r.0.kind) i z.0 (own_states r.0.kind) z.1 in
    subst (λ (x : Head). CanPick p part (Some x) × CanHalve b (Some x)) z.2 (((let c = fits.states in omega arith), state_fits p part a r.0 z.0 fits row has), tt)

-- ---- the halves of a variable

twice : (q : ℤ) → q *ℤ pos 2 ≡ q +ℤ q
twice q = let e = mul_add q (pos 1) (pos 1) in let f = mul_one q in e ∙ (rw f refl)

halves_inside : (e : Ends) → int_le (pos 2) (width_of e) ≡ true → (e.lo <ℤ middle e) × (middle e <ℤ e.hi)
halves_inside e wide =
    let d = euclid_divides (e.lo +ℤ e.hi) (pos 2) (omega (arith, ints)) in
    let t = twice (middle e) in
    let whole : middle e +ℤ middle e +ℤ int_rem_euclid (e.lo +ℤ e.hi) (pos 2) ≡ e.lo +ℤ e.hi = ap (λ (x : ℤ). x +ℤ int_rem_euclid (e.lo +ℤ e.hi) (pos 2)) (sym t) ∙ d.whole in
    let low = d.low in
    let high = d.high in
    (omega (arith, linear, wide), omega (arith, linear, wide))

inside : (e : Ends) (C : ℤ) → e.lo <ℤ C → C <ℤ e.hi → lies_inside e C ≡ true
inside e C p q = and_from (int_lt e.lo C) (int_lt C e.hi) (omega (arith, linear)) (omega (arith, linear))

low_within : (e : Ends) (C : ℤ) → e.lo <ℤ C → C <ℤ e.hi → IsTrue (may_become true C e)
low_within e C p q = and_from (int_lt e.lo C) (int_le C (e.hi +ℤ pos 1)) (omega (arith, linear)) (omega (arith, linear))

high_within : (e : Ends) (C : ℤ) → e.lo <ℤ C → C <ℤ e.hi → IsTrue (may_become false C e)
high_within e C p q = and_from (int_le (e.lo -ℤ pos 1) C) (int_lt C e.hi) (omega (arith, linear)) (omega (arith, linear))

var_self : (v : Var) → same_var v v ≡ true
var_self v =
    let same : same_head (Half v true (pos 0)) (Half v true (pos 0)) ≡ true = (heads_are_told_apart (Half v true (pos 0)) (Half v true (pos 0))).1 refl in
    (and_parts (same_var v v) true (and_parts (same_var v v && true) true same).0).0

pub half_expected : (p : Network) (b : PartBox) (v : Var) (next : ℕ) → IsTrue (is_var p v) → is_wide b.bounds v ≡ true → IsExpected p b (Halve v (middle (ends_of b.bounds v)) next)
half_expected p b v next var wide =
    let z = halves_inside (ends_of b.bounds v) wide in
    let C = middle (ends_of b.bounds v) in
    let i : lies_inside (ends_of b.bounds v) C ≡ true = inside (ends_of b.bounds v) C z.0 z.1 in
    let s = var_self v in
    let is : is_var p v ≡ true = var in
    let first : after_head (Halves b v) (lower_half v C) ≡ Some (headed b (lower_half v C), Heads b (upper_half v C ∷ [])) = rw (s, i) refl in
    rw is (refl, rw first (refl, heads_expected p b (upper_half v C ∷ [])))

pub half_begins : (p : Network) (part : PartState) (b : Bounds) (v : Var) (next : ℕ) → IsTrue (is_in_box b v) → is_wide b v ≡ true → CanBegin p part b (Halve v (middle (ends_of b v)) next)
half_begins p part b v next var wide zero h at =
    let z = halves_inside (ends_of b v) wide in
    let C = middle (ends_of b v) in
    let is : lower_half v C ≡ h = cc in
    subst (λ (x : Head). CanPick p part (Some x) × CanHalve b (Some x)) is (tt, (var, high_within (ends_of b v) C z.0 z.1))
half_begins p part b v next var wide (suc zero) h at =
    let z = halves_inside (ends_of b v) wide in
    let C = middle (ends_of b v) in
    let is : upper_half v C ≡ h = cc in
    subst (λ (x : Head). CanPick p part (Some x) × CanHalve b (Some x)) is (tt, (var, low_within (ends_of b v) C z.0 z.1))
half_begins p part b v next var wide (suc (suc i)) h at = absurd cc
