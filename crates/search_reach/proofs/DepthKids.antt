-- The part states of the children of a split box, by its fork.
use Rattle.std.proofs.Common.{◌≡◌, ℕ, zero, suc, ◌<◌, Bool, true, false, not, ◌&&◌, List, [], ◌∷◌, map, length, Option, Some, None, refl, sym, ap, subst, ◌∙◌, arith, ℤ}
use Rattle.std.specs.Prelude.{slice_get, is_some, option_map, option_and_then, if◌then◌else◌}
use Rattle.std.specs.List.{range_with_len}
use Rattle.gas_model.specs.declared.rows.ArcRow.{ArcRow}
use Rattle.base_types.specs.declared.states.ArcState.{ArcState}
use Rattle.gas_model.specs.declared.rows.Group.{Group}
use Rattle.base_types.specs.declared.variables.Var.{Var}
use Rattle.gas_model.specs.Rows.{Network}
use Rattle.gas_model.specs.Boxes.{ends_of, is_var}
use Rattle.gas_model.specs.Rulings.{pick_in, is_free}
use Rattle.gas_model.specs.Choices.{allowed_states}
use Rattle.tree_cert.specs.declared.line.Head.{Head}
use Rattle.tree_cert.specs.declared.line.Head.TheVariants.{Take, State, Half}
use Rattle.tree_cert.specs.declared.line.Step.{Step}
use Rattle.tree_cert.specs.Tree.{ByGroup, ByArc, ByHalves}
use Rattle.tree_cert.specs.TreeRules.{Holds}
use Rattle.tree_pool.specs.Rules.{after_steps, AreExpected}
use Rattle.tree_rules.specs.Rules.{PartBox, step_holds, stepped}
use Rattle.tree_rules.specs.Branches.{Wait, Heads, Halves, with_pick, with_state, headed, decision_heads, state_heads, after_branch, after_head, same_head, same_var, lies_inside, lower_half, upper_half, rules_of}
use Rattle.tree_pool.proofs.Lists.{from_map}
use Rattle.box_pool.proofs.ForkKids.{in_range}

-- steps change no part state
one_step : (p : Network) (c : PartBox) (b : PartBox) (x : Step) (xs : List Step) (held : Bool) → ((d : PartBox) → after_steps (rules_of p) d xs ≡ Some c → c.part ≡ d.part)
    → option_and_then (λ next. after_steps (rules_of p) next xs) (if held then Some (stepped b x) else None) ≡ Some c → c.part ≡ b.part
one_step p c b x xs true rest h = rest (stepped b x) h
one_step p c b x xs false rest h = absurd cc

pub steps_keep_part : (p : Network) (c b : PartBox) (xs : List Step) → after_steps (rules_of p) b xs ≡ Some c → c.part ≡ b.part
steps_keep_part p c b [] h = let e : b ≡ c = cc h in ap (λ (x : PartBox). x.part) (sym e)
steps_keep_part p c b (x ∷ xs) h = one_step p c b x xs (step_holds p b x) (λ d e. steps_keep_part p c d xs e) h

-- a child has the box of one of the heads
pub record HasHead (b : PartBox) (heads : List Head) (k : ℕ) (box : PartBox) : Type 0 where
  pub head : Head
  pub here : slice_get heads k ≡ Some head
  pub is : box ≡ headed b head

later : (b : PartBox) (h : Head) (heads : List Head) (k : ℕ) (box : PartBox) → HasHead b heads k box → HasHead b (h ∷ heads) (suc k) box
later b h heads k box has = record { head = has.head; here = has.here; is = has.is }

heads_by : (p : Network) (b : PartBox) (e : Head) (es : List Head) (kid : Head × PartBox) (kids : List (Head × PartBox)) (same : Bool)
    → (AreExpected (rules_of p) (Heads b es) kids → (k : ℕ) (one : Head × PartBox) → slice_get kids k ≡ Some one → HasHead b es k one.1)
    → Holds {A = PartBox × Wait} (if same then Some (headed b e, Heads b es) else None) (λ next. (next.0 ≡ kid.1) × AreExpected (rules_of p) next.1 kids)
    → (k : ℕ) (one : Head × PartBox) → slice_get (kid ∷ kids) k ≡ Some one → HasHead b (e ∷ es) k one.1
heads_by p b e es kid kids true rest h zero one here =
    let this : kid ≡ one = cc here in
    record { head = e; here = refl; is = sym (h.0 ∙ ap (λ (x : Head × PartBox). x.1) this) }
heads_by p b e es kid kids true rest h (suc k) one here = later b e es k one.1 (rest h.1 k one here)
heads_by p b e es kid kids false rest h k one here = absurd h

pub heads_give : (p : Network) (b : PartBox) (heads : List Head) (kids : List (Head × PartBox)) → AreExpected (rules_of p) (Heads b heads) kids
    → (k : ℕ) (one : Head × PartBox) → slice_get kids k ≡ Some one → HasHead b heads k one.1
heads_give p b heads [] h k one here = absurd cc
heads_give p b [] (kid ∷ kids) h k one here = absurd (let e : true ≡ false = h.0 in cc)
heads_give p b (e ∷ es) (kid ∷ kids) h k one here = heads_by p b e es kid kids (same_head kid.0 e) (λ g. heads_give p b es kids g) h.1 k one here

-- the halves of a variable have the part state of the box
upper_part : (b : PartBox) (v : Var) (C : ℤ) (k : ℕ) (box : PartBox) → HasHead b (upper_half v C ∷ []) k box → box.part ≡ b.part
upper_part b v C zero box has =
    let e : upper_half v C ≡ has.head = (let f = has.here in cc f) in
    ap (λ (x : PartBox). x.part) (has.is ∙ ap (headed b) (sym e))
upper_part b v C (suc k) box has = absurd (let f = has.here in cc)

halves_by : (p : Network) (b : PartBox) (v : Var) (C : ℤ) (kid : Head × PartBox) (kids : List (Head × PartBox)) (fits : Bool)
    → Holds {A = PartBox × Wait} (if fits then Some (headed b (lower_half v C), Heads b (upper_half v C ∷ [])) else None) (λ next. (next.0 ≡ kid.1) × AreExpected (rules_of p) next.1 kids)
    → (k : ℕ) (one : Head × PartBox) → slice_get (kid ∷ kids) k ≡ Some one → one.1.part ≡ b.part
halves_by p b v C kid kids true h zero one here =
    let this : kid ≡ one = cc here in
    ap (λ (x : PartBox). x.part) (sym (h.0 ∙ ap (λ (x : Head × PartBox). x.1) this))
halves_by p b v C kid kids true h (suc k) one here = upper_part b v C k one.1 (heads_give p b (upper_half v C ∷ []) kids h.1 k one here)
halves_by p b v C kid kids false h k one here = absurd h

halves_of : (p : Network) (b : PartBox) (v : Var) (h : Head) (box : PartBox) (kids : List (Head × PartBox))
    → Holds (after_head (Halves b v) h) (λ next. (next.0 ≡ box) × AreExpected (rules_of p) next.1 kids)
    → (k : ℕ) (one : Head × PartBox) → slice_get ((h, box) ∷ kids) k ≡ Some one → one.1.part ≡ b.part
halves_of p b v (Take g j) box kids h = absurd h
halves_of p b v (State a s) box kids h = absurd h
halves_of p b v (Half w low C) box kids h = halves_by p b v C (Half w low C, box) kids (same_var w v && not low && lies_inside (ends_of b.bounds v) C) h

pub halves_keep : (p : Network) (b : PartBox) (v : Var) (kids : List (Head × PartBox)) → AreExpected (rules_of p) (Halves b v) kids
    → (k : ℕ) (one : Head × PartBox) → slice_get kids k ≡ Some one → one.1.part ≡ b.part
halves_keep p b v [] h k one here = absurd cc
halves_keep p b v (kid ∷ kids) h k one here = halves_of p b v kid.0 kid.1 kids h.1 k one here

-- what a branch by a variable, a group or an arc waits for
if_holds : {A : Type 0} (t : Bool) (w : A) (P : A → Type 0) → Holds (if t then Some w else None) P → P w
if_holds true w P h = h
if_holds false w P h = absurd h

pub by_var : (p : Network) (b : PartBox) (v : Var) (P : Wait → Type 0) → Holds (after_branch p b (ByHalves v)) P → P (Halves b v)
by_var p b v P h = if_holds (is_var p v) (Halves b v) P h

unless_holds : {A : Type 0} (t : Bool) (xs : List Head) (f : List Head → A) (P : A → Type 0) → Holds (option_map f (if t then None else Some xs)) P → P (f xs)
unless_holds true xs f P h = absurd h
unless_holds false xs f P h = h

when_holds : {A : Type 0} (t : Bool) (xs : List Head) (f : List Head → A) (P : A → Type 0) → Holds (option_map f (if t then Some xs else None)) P → P (f xs)
when_holds true xs f P h = h
when_holds false xs f P h = absurd h

pub by_group : (p : Network) (b : PartBox) (k : ℕ) (g : Group) (P : Wait → Type 0) → slice_get p.groups k ≡ Some g → Holds (after_branch p b (ByGroup k)) P → P (Heads b (decision_heads k g))
by_group p b k g P row h =
    unless_holds (is_some (pick_in b.part.picks k)) (decision_heads k g) (Heads b) P
    (subst (λ (o : Option Group). Holds (option_map (Heads b) (if is_some (pick_in b.part.picks k) then None else option_map (decision_heads k) o)) P) row h)

pub by_arc : (p : Network) (b : PartBox) (a : ℕ) (row : ArcRow) (P : Wait → Type 0) → slice_get p.arcs a ≡ Some row → Holds (after_branch p b (ByArc a)) P
    → P (Heads b (map (State a) (allowed_states p b.part a row)))
by_arc p b a row P here h =
    when_holds (is_free p b.part a row) (map (State a) (allowed_states p b.part a row)) (Heads b) P
    (subst (λ (o : Option ArcRow). Holds (option_map (Heads b) (option_and_then (state_heads p b.part a) o)) P) here h)

pub group_child : (b : PartBox) (k : ℕ) (g : Group) (i : ℕ) (box : PartBox) → HasHead b (decision_heads k g) i box → (j : ℕ) × (j < length g.decisions) × (box.part ≡ with_pick b.part k j)
group_child b k g i box has =
    let z = from_map (Take k) (range_with_len 0 (length g.decisions)) i has.head has.here in
    (z.0, (let a = in_range 0 (length g.decisions) i z.0 z.1 in omega arith), ap (λ (x : PartBox). x.part) (has.is ∙ ap (headed b) (sym z.2)))

some_there : {A : Type 0} (xs : List A) (k : ℕ) (x : A) → slice_get xs k ≡ Some x → 0 < length xs
some_there [] k x h = absurd cc
some_there (y ∷ xs) k x h = omega arith

pub arc_child : (b : PartBox) (a : ℕ) (states : List ArcState) (i : ℕ) (box : PartBox) → HasHead b (map (State a) states) i box → (s : ArcState) × (0 < length states) × (box.part ≡ with_state b.part a s)
arc_child b a states i box has =
    let z = from_map (State a) states i has.head has.here in
    (z.0, some_there states i z.0 z.1, ap (λ (x : PartBox). x.part) (has.is ∙ ap (headed b) (sym z.2)))
