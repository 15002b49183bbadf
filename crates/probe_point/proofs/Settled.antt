-- The tree flows, from the last step of the walk to the first.
use Rattle.std.proofs.Common.{◌≡◌, ◌≢◌, ℕ, suc, ◌<◌, ◌≤◌, ◌+◌, ◌*◌, ◌==◌, inl, inr, refl, sym, ap, ◌∙◌, arith, Bool, true, false, IsTrue, subst, List, length, set, cond, ℤ, pos, ◌+ℤ◌, ◌-ℤ◌, get_or-set_same, get_or-set_other, length-set}
use Rattle.std.specs.Prelude.{if◌then◌else◌, unsigned_abs}
use Rattle.std.proofs.lemmas.Bool.{cases_eq}
use Rattle.std.proofs.lemmas.Bool.Decides.{nat_tests}
use Rattle.std.proofs.lemmas.Int.{ints}
use Rattle.integer_laws.proofs.Ring.{linear}
use Rattle.gas_model.specs.declared.rows.ArcRow.{ArcRow}
use Rattle.gas_model.specs.declared.rows.Ends.{Ends}
use Rattle.gas_model.specs.Near.{number_at as at}
use Rattle.topo.specs.Graphs.{Graph, graph_of, is_at}
use Rattle.topo.specs.Walks.{far, Step, step_at, InOrder}
use Rattle.topo.specs.Walks as walks
use Rattle.probe_point.specs.Probes.{nearest, but, taking_up, AreNeeds, AreSmall, HasTreeFlows}
use Rattle.probe_point.proofs.Nets.{net, part, net_same, net_given, net_is}

abbrev pub far_of : Graph → List Step → ℕ → ℕ
far_of g walk i = walks.far_of g (step_at walk i)

abbrev pub balanced : Graph → ℤ → (ℕ → ℤ) → ℕ → ℕ → ℤ
balanced g supply q a v = taking_up g a v (supply -ℤ net g (but a q) v g.arcs)

abbrev pub NeedsIn : Graph → (ℕ → ℤ) → (ℕ → ℤ) → List ℤ → Type 0
NeedsIn g supply q need = (v : ℕ) → v < length need → at need v ≡ supply v -ℤ net g q v g.arcs

-- from the step `left` on the flows are given
pub record Settled (g : Graph) (box : ℕ → Ends) (supply : ℕ → ℤ) (walk : List Step) (q : ℕ → ℤ) (need : List ℤ) (left : ℕ) : Type 0 where
  pub within : left ≤ length walk
  pub needs : NeedsIn g supply q need
  pub todo : (i : ℕ) → i < left → q (step_at walk i).0 ≡ pos 0
  pub given : (i : ℕ) → left ≤ i → i < length walk → q (step_at walk i).0 ≡ nearest (box (step_at walk i).0) (balanced g (supply (far_of g walk i)) q (step_at walk i).0 (far_of g walk i))

but_same : (q r : ℕ → ℤ) (a i : ℕ) → (i ≢ a → q i ≡ r i) → but a q i ≡ but a r i
but_same q r a i h = elim (cases_eq i a) [
  | inl e ↦ let t : (i == a) ≡ true = grind (arith, nat_tests) in ap (λ (b : Bool). if b then pos 0 else q i) t ∙ sym (ap (λ (b : Bool). if b then pos 0 else r i) t)
  | inr e ↦ ap (λ (x : ℤ). if i == a then pos 0 else x) (h e)
]

but_none : (q : ℕ → ℤ) (a i : ℕ) → q a ≡ pos 0 → but a q i ≡ q i
but_none q a i z = elim (cases_eq i a) [
  | inl e ↦ let t : (i == a) ≡ true = grind (arith, nat_tests) in ap (λ (b : Bool). if b then pos 0 else q i) t ∙ sym z ∙ ap q (sym e)
  | inr e ↦ let t : (i == a) ≡ false = grind (arith, nat_tests) in ap (λ (b : Bool). if b then pos 0 else q i) t
]

part_to : (b c : Bool) (x : ℤ) → b ≡ false → c ≡ true → ((if b then x else pos 0) -ℤ (if c then x else pos 0)) ≡ pos 0 -ℤ x
part_to b c x e f = rw (e, f) refl

part_from : (b c : Bool) (x : ℤ) → b ≡ true → c ≡ false → ((if b then x else pos 0) -ℤ (if c then x else pos 0)) ≡ x -ℤ pos 0
part_from b c x e f = rw (e, f) refl

part_off : (b c : Bool) (x : ℤ) → b ≡ false → c ≡ false → ((if b then x else pos 0) -ℤ (if c then x else pos 0)) ≡ pos 0 -ℤ pos 0
part_off b c x e f = rw (e, f) refl

far_at : (g : Graph) (a n : ℕ) → IsTrue (is_at g n a) → is_at g (far g a n) a ≡ true
far_at g a n h = grind (arith, nat_tests)

-- what the flows of the arcs at v are without a, where only they count
pub balanced_same : (g : Graph) (supply : ℤ) (q r : ℕ → ℤ) (a v : ℕ) → ((i : ℕ) → i ≢ a → is_at g v i ≡ true → q i ≡ r i) → balanced g supply q a v ≡ balanced g supply r a v
balanced_same g supply q r a v h =
    let e : net g (but a q) v g.arcs ≡ net g (but a r) v g.arcs = net_same g (but a q) (but a r) v g.arcs (λ i hi t. but_same q r a i (λ ne. h i ne t)) in
    ap (λ (n : ℤ). taking_up g a v (supply -ℤ n)) e

not_both : (b : Bool) → b ≡ true → b ≡ false → ⊥
not_both b e f = cc

apart : (g : Graph) (walk : List Step) (o : InOrder g walk) (i j : ℕ) → i < j → j < length walk → (step_at walk i).0 ≢ (step_at walk j).0
apart g walk o i j h hj e = not_both _ (subst (λ (a : ℕ). is_at g (far_of g walk j) a ≡ true) (sym e) (far_at g (step_at walk j).0 (step_at walk j).1 (o.near j hj))) (o.onward i j h hj)

pub settled_step : (g : Graph) (box : ℕ → Ends) (supply : ℕ → ℤ) (walk : List Step) (q r : ℕ → ℤ) (need new : List ℤ) (i : ℕ) → InOrder g walk → Settled g box supply walk q need (suc i) → NeedsIn g supply r new → ((a : ℕ) → a ≢ (step_at walk i).0 → r a ≡ q a) → r (step_at walk i).0 ≡ nearest (box (step_at walk i).0) (balanced g (supply (far_of g walk i)) q (step_at walk i).0 (far_of g walk i)) → Settled g box supply walk r new i
settled_step g box supply walk q r need new i o s needs other here = record {
  within = let h = s.within in omega arith;
  needs = needs;
  todo = λ j hj. other _ (apart g walk o j i hj s.within) ∙ s.todo j (omega arith);
  given = λ j hj hl. elim (cases_eq j i) [
    | inl e ↦ subst (λ (k : ℕ). r (step_at walk k).0 ≡ nearest (box (step_at walk k).0) (balanced g (supply (far_of g walk k)) r (step_at walk k).0 (far_of g walk k))) (sym e)
        (here ∙ ap (nearest (box (step_at walk i).0)) (balanced_same g (supply (far_of g walk i)) q r (step_at walk i).0 (far_of g walk i) (λ a ne t. sym (other a ne))))
    | inr e ↦
        let lt : i < j = omega arith in
        other _ (λ e1. apart g walk o i j lt hl (sym e1)) ∙ s.given j lt hl ∙ ap (nearest (box (step_at walk j).0)) (balanced_same g (supply (far_of g walk j)) q r (step_at walk j).0 (far_of g walk j) (λ a ne t. sym (other a (λ e1. not_both _ (subst (λ (k : ℕ). is_at g (far_of g walk j) k ≡ true) e1 t) (o.onward i j lt hl)))))
  ];
}

-- the flow that is computed from the need of the far node
pub from_need : (g : Graph) (supply : ℕ → ℤ) (q : ℕ → ℤ) (need : List ℤ) (a v : ℕ) → NeedsIn g supply q need → v < length need → q a ≡ pos 0 → balanced g (supply v) q a v ≡ taking_up g a v (at need v)
from_need g supply q need a v n h z =
    let e : net g (but a q) v g.arcs ≡ net g q v g.arcs = net_same g (but a q) q v g.arcs (λ i hi t. but_none q a i z) in
    ap (λ (n : ℤ). taking_up g a v (supply v -ℤ n)) e ∙ ap (taking_up g a v) (sym (n v h))

-- both ends of an arc that is given a flow
pub needs_given : (g : Graph) (supply : ℕ → ℤ) (q r : ℕ → ℤ) (need : List ℤ) (a : ℕ) → a < g.arcs → g.from a < length need → g.to a < length need → g.from a ≢ g.to a → q a ≡ pos 0 → ((i : ℕ) → i ≢ a → r i ≡ q i) → NeedsIn g supply q need → NeedsIn g supply r (set (set need (g.from a) (at need (g.from a) -ℤ r a)) (g.to a) (at need (g.to a) +ℤ r a))
needs_given g supply q r need a ha hf ht ne z other n v hv =
    let one : List ℤ = set need (g.from a) (at need (g.from a) -ℤ r a) in
    let long : length one ≡ length need = length-set need (g.from a) _ in
    let hv1 : v < length need = let l2 = length-set one (g.to a) (at need (g.to a) +ℤ r a) in omega arith in
    let more = net_given g q r v a g.arcs ha z other in
    let old = n v hv1 in
    elim (cases_eq v (g.to a)) [
      | inl e ↦
          let value : at (set one (g.to a) (at need (g.to a) +ℤ r a)) v ≡ at need v +ℤ r a = ap (at (set one (g.to a) (at need (g.to a) +ℤ r a))) e ∙ get_or-set_same one (g.to a) _ (pos 0) (omega arith) ∙ ap (λ (k : ℕ). at need k +ℤ r a) (sym e) in
          let p : part g a v (r a) ≡ pos 0 -ℤ r a = part_to (g.from a == v) (g.to a == v) (r a) (grind (arith, nat_tests)) (grind (arith, nat_tests)) in
          omega (arith, linear, value, p, more, old)
      | inr e ↦ elim (cases_eq v (g.from a)) [
        | inl e1 ↦
            let value : at (set one (g.to a) (at need (g.to a) +ℤ r a)) v ≡ at need v -ℤ r a = get_or-set_other one (g.to a) v _ (pos 0) e ∙ ap (at one) e1 ∙ get_or-set_same need (g.from a) _ (pos 0) hf ∙ ap (λ (k : ℕ). at need k -ℤ r a) (sym e1) in
            let p : part g a v (r a) ≡ r a -ℤ pos 0 = part_from (g.from a == v) (g.to a == v) (r a) (grind (arith, nat_tests)) (grind (arith, nat_tests)) in
            omega (arith, linear, value, p, more, old)
        | inr e1 ↦
            let value : at (set one (g.to a) (at need (g.to a) +ℤ r a)) v ≡ at need v = get_or-set_other one (g.to a) v _ (pos 0) e ∙ get_or-set_other need (g.from a) v _ (pos 0) e1 in
            let p : part g a v (r a) ≡ pos 0 -ℤ pos 0 = part_off (g.from a == v) (g.to a == v) (r a) (grind (arith, nat_tests)) (grind (arith, nat_tests)) in
            omega (arith, linear, value, p, more, old)
      ]
    ]

pub step_far : (g : Graph) (walk : List Step) (i nodes : ℕ) → InOrder g walk → i < length walk → ((a : ℕ) → a < g.arcs → (g.from a < nodes) × (g.to a < nodes)) → far_of g walk i < nodes
step_far g walk i nodes o hi ends = let e = ends (step_at walk i).0 (o.arc i hi) in elim (g.from (step_at walk i).0 == (step_at walk i).1) as (λ b. cond b (g.to (step_at walk i).0) (g.from (step_at walk i).0) < nodes) [ true ↦ e.1 | false ↦ e.0 ]

-- one step of the loop, which takes the step i of the walk
pub loop_step : (g : Graph) (box : ℕ → Ends) (supply : ℕ → ℤ) (walk : List Step) (flows new need less : List ℤ) (i : ℕ) (x : ℤ) → InOrder g walk → i < length walk → length flows ≡ g.arcs → ((a : ℕ) → a < g.arcs → (g.from a < length need) × (g.to a < length need)) → ((a : ℕ) → a < g.arcs → g.from a ≢ g.to a) → Settled g box supply walk (at flows) need (suc i)
    → x ≡ nearest (box (step_at walk i).0) (taking_up g (step_at walk i).0 (far_of g walk i) (at need (far_of g walk i)))
    → new ≡ set flows (step_at walk i).0 x → less ≡ set (set need (g.from (step_at walk i).0) (at need (g.from (step_at walk i).0) -ℤ x)) (g.to (step_at walk i).0) (at need (g.to (step_at walk i).0) +ℤ x)
    → Settled g box supply walk (at new) less i
loop_step g box supply walk flows new need less i x o hi long ends ne s e en el =
    let a : ℕ = (step_at walk i).0 in
    let v : ℕ = far_of g walk i in
    let ha : a < g.arcs = o.arc i hi in
    let here : at new a ≡ x = ap (λ (xs : List ℤ). at xs a) en ∙ get_or-set_same flows a x (pos 0) (omega arith) in
    let other : (j : ℕ) → j ≢ a → at new j ≡ at flows j = λ j hj. ap (λ (xs : List ℤ). at xs j) en ∙ get_or-set_other flows a j x (pos 0) hj in
    let hv : v < length need = step_far g walk i (length need) o hi ends in
    let needs : NeedsIn g supply (at new) less = subst (NeedsIn g supply (at new)) (ap (λ (y : ℤ). set (set need (g.from a) (at need (g.from a) -ℤ y)) (g.to a) (at need (g.to a) +ℤ y)) here ∙ sym el) (needs_given g supply (at flows) (at new) need a ha (ends a ha).0 (ends a ha).1 (ne a ha) (s.todo i (omega arith)) other s.needs) in
    settled_step g box supply walk (at flows) (at new) need less i o s needs other (here ∙ e ∙ ap (nearest (box a)) (sym (from_need g supply (at flows) need a v s.needs hv (s.todo i (omega arith)))))

-- needs by the sums of the problem, and by these
pub needs_in : (arcs : List ArcRow) (supply q : ℕ → ℤ) (need : List ℤ) → AreNeeds arcs supply q need → NeedsIn (graph_of arcs) supply q need
needs_in arcs supply q need n v h = n v h ∙ ap (λ (x : ℤ). supply v -ℤ x) (net_is arcs q v)

pub needs_out : (arcs : List ArcRow) (supply q : ℕ → ℤ) (need : List ℤ) → NeedsIn (graph_of arcs) supply q need → AreNeeds arcs supply q need
needs_out arcs supply q need n v h = n v h ∙ ap (λ (x : ℤ). supply v -ℤ x) (sym (net_is arcs q v))

-- all flows of the walk are given
pub all_given : (arcs : List ArcRow) (box : ℕ → Ends) (supply : ℕ → ℤ) (walk : List Step) (q : ℕ → ℤ) (need : List ℤ) → Settled (graph_of arcs) box supply walk q need 0 → HasTreeFlows arcs box supply walk q
all_given arcs box supply walk q need s i h = s.given i (omega arith) h ∙ ap (λ (x : ℤ). nearest (box (step_at walk i).0) (taking_up (graph_of arcs) (step_at walk i).0 (far_of (graph_of arcs) walk i) (supply (far_of (graph_of arcs) walk i) -ℤ x))) (sym (net_is arcs (but (step_at walk i).0 q) (far_of (graph_of arcs) walk i)))

-- no flow of the walk is given yet
pub none_given : (arcs : List ArcRow) (box : ℕ → Ends) (supply : ℕ → ℤ) (walk : List Step) (q : ℕ → ℤ) (need : List ℤ) → ((i : ℕ) → i < length walk → q (step_at walk i).0 ≡ pos 0) → AreNeeds arcs supply q need → Settled (graph_of arcs) box supply walk q need (length walk)
none_given arcs box supply walk q need z n = record { within = omega arith; needs = needs_in arcs supply q need n; todo = z; given = λ i lo hi. absurd (omega arith) }

-- what an arc is given makes needs larger by at most as much
abs_sum : (a b : ℤ) → unsigned_abs (a +ℤ b) ≤ unsigned_abs a + unsigned_abs b
abs_sum a b = omega (arith, ints)

abs_diff : (a b : ℤ) → unsigned_abs (a -ℤ b) ≤ unsigned_abs a + unsigned_abs b
abs_diff a b = omega (arith, ints)

small_set : (m n i : ℕ) (xs : List ℤ) (x : ℤ) → m ≤ n → i < length xs → unsigned_abs x ≤ n * 1000000000000 → AreSmall m xs → AreSmall n (set xs i x)
small_set m n i xs x le hi h s j hj = elim (cases_eq j i) [
  | inl e ↦ let same : at (set xs i x) j ≡ x = ap (at (set xs i x)) e ∙ get_or-set_same xs i x (pos 0) hi in subst (λ (y : ℤ). unsigned_abs y ≤ n * 1000000000000) (sym same) h
  | inr e ↦
      let same : at (set xs i x) j ≡ at xs j = get_or-set_other xs i j x (pos 0) e in
      let long = length-set xs i x in
      let old = s j (omega arith) in
      subst (λ (y : ℤ). unsigned_abs y ≤ n * 1000000000000) (sym same) (let more : m * 1000000000000 ≤ n * 1000000000000 = omega arith in omega arith)
]

pub small_given : (m f t : ℕ) (need : List ℤ) (x : ℤ) → f < length need → t < length need → f ≢ t → unsigned_abs x ≤ 1000000000000 → AreSmall m need → AreSmall (m + 1) (set (set need f (at need f -ℤ x)) t (at need t +ℤ x))
small_given m f t need x hf ht ne h s =
    let one : List ℤ = set need f (at need f -ℤ x) in
    let long : length one ≡ length need = length-set need f _ in
    let a = s f hf in
    let b = s t ht in
    let d = abs_diff (at need f) x in
    let e = abs_sum (at need t) x in
    small_set (m + 1) (m + 1) t one (at need t +ℤ x) (omega arith) (omega arith) (omega arith) (small_set m (m + 1) f need (at need f -ℤ x) (omega arith) hf (omega arith) s)

pub small_flow : (m a : ℕ) (flows : List ℤ) (x : ℤ) → a < length flows → unsigned_abs x ≤ m * 1000000000000 → AreSmall m flows → AreSmall m (set flows a x)
small_flow m a flows x h hx s = small_set m m a flows x (omega arith) h hx s
