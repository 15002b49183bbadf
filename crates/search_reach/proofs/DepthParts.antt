-- What the part state of a box says of its depth: the first groups are picked, in order, and then states are named for
-- loose arcs, until all states are fixed.
use Rattle.std.proofs.Common.{◌≡◌, ℕ, zero, suc, ◌+◌, ◌<◌, ◌≤◌, Bool, true, false, List, [], ◌∷◌, length, Option, Some, None, refl, sym, ap, subst, ◌∙◌, ◌⊎◌, inl, inr, arith, get_or, replicate}
use Rattle.std.proofs.lemmas.Bool.{cases_eq}
use Rattle.std.proofs.lemmas.List.{get_or-set_same, get_or-set_other, length-replicate}
use Rattle.std.proofs.Common.{length-set}
use Rattle.std.specs.Prelude.{slice_get, is_none, option_and_then}
use Rattle.std.specs.Option.{option_or}
use Rattle.gas_model.specs.declared.rows.ArcRow.{ArcRow}
use Rattle.base_types.specs.declared.states.ArcState.{ArcState}
use Rattle.gas_model.specs.declared.rows.Group.{Group}
use Rattle.gas_model.specs.declared.rows.PartState.{PartState}
use Rattle.gas_model.specs.Rows.{Network}
use Rattle.gas_model.specs.Choices.{states_of, only, named_state, fixed_state, fresh_part, allowed_states}
use Rattle.gas_model.specs.Rulings.{pick_in}
use Rattle.tree_rules.specs.Branches.{with_pick, with_state}
use Rattle.search_reach.specs.Depth.{is_loose, loose_arcs}
use Rattle.box_split.proofs.ForkCases.{unpicked, unfixed, AllPicked, AllFixed}
use Rattle.search_reach.proofs.DepthLoose.{IsPicked, loose, listed}
use Rattle.search_order.proofs.Members.{Member, Apart, pigeon}
use Rattle.box_split.proofs.Firsts.{IsFirst}

-- states are named for distinct loose arcs, of which there are as many as the depth wants
pub record NamesLoose (p : Network) (depth : ℕ) (part : PartState) : Type 0 where
  pub arcs : List ℕ
  pub apart : Apart arcs
  pub loose : (a : ℕ) → Member a arcs → Member a (loose_arcs p)
  pub named : (a : ℕ) → Member a arcs → (s : ArcState) × (named_state part.states a ≡ Some s)
  pub deep : depth ≤ length p.groups + length arcs

abbrev pub Way : Network → ℕ → PartState → Type 0
Way p depth part = (AllFixed p part × (length p.groups ≤ depth)) ⊎ NamesLoose p depth part

pub record IsAt (p : Network) (depth : ℕ) (part : PartState) : Type 0 where
  pub picks : length part.picks ≡ length p.groups
  pub states : length part.states ≡ length p.arcs
  pub done : (k : ℕ) → k < depth → k < length p.groups → IsPicked p.groups part.picks k
  pub open_still : (k : ℕ) → depth ≤ k → pick_in part.picks k ≡ None
  pub way : Way p depth part

none_at : {A : Type 0} (n k : ℕ) → get_or (replicate {A = Option A} n None) k None ≡ None
none_at zero k = refl
none_at (suc n) zero = refl
none_at (suc n) (suc k) = none_at n k

-- the root
pub root_at : (p : Network) → IsAt p 0 (fresh_part p)
root_at p =
    record {
      picks = length-replicate (length p.groups) None;
      states = length-replicate (length p.arcs) None;
      done = λ k lt within. absurd (omega arith);
      open_still = λ k le. none_at (length p.groups) k;
      way = inr (record { arcs = []; apart = tt; loose = λ a h. absurd h; named = λ a h. absurd h; deep = omega arith });
    }

less_or : (a b : ℕ) → (a < b) ⊎ (b ≤ a)
less_or zero zero = inr (omega arith)
less_or zero (suc b) = inl (omega arith)
less_or (suc a) zero = inr (omega arith)
less_or (suc a) (suc b) = elim (less_or a b) [ inl h ↦ inl (omega arith) | inr h ↦ inr (omega arith) ]

some_none : {A : Type 0} (o : Option A) (x : A) → o ≡ Some x → is_none o ≡ false
some_none o x h = ap is_none h

true_false : (b : Bool) → b ≡ true → b ≡ false → ⊥
true_false b t f = cc

module _ (p : Network) (depth : ℕ) (part : PartState) (at : IsAt p depth part) where
  -- where all groups are picked, the depth is at least their number
  pub behind_groups : AllPicked p part → length p.groups ≤ depth
  behind_groups picked =
      elim (less_or depth (length p.groups)) [
        | inl lt ↦ absurd (true_false (unpicked part depth) (ap is_none (at.open_still depth (omega arith))) (picked depth lt))
        | inr le ↦ le
      ]

  -- the first group that isn't picked is that of the depth
  pub group_is : (k : ℕ) → IsFirst (unpicked part) (length p.groups) k → k ≡ depth
  group_is k is =
      elim (less_or k depth) [
        | inl lt ↦ let z = at.done k lt is.within in absurd (true_false (unpicked part k) is.passes (ap is_none z.pick))
        | inr le ↦
            elim (less_or depth k) [
              | inl more ↦ absurd (true_false (unpicked part depth) (ap is_none (at.open_still depth (omega arith))) (is.before depth more))
              | inr same ↦ omega arith
            ]
      ]

  picked_after : (j : ℕ) (g : Group) → slice_get p.groups depth ≡ Some g → j < length g.decisions → depth < length p.groups
      → (k : ℕ) → k < suc depth → k < length p.groups → IsPicked p.groups (with_pick part depth j).picks k
  picked_after j g row few lt k less within =
      elim (cases_eq k depth) [
        | inl e ↦
            record {
              decision = j;
              group = g;
              pick = rw e (get_or-set_same part.picks depth (Some j) None (let a = at.picks in omega arith));
              row = rw e row;
              within = few;
            }
        | inr ne ↦
            let z = at.done k (omega arith) within in
            record {
              decision = z.decision;
              group = z.group;
              pick = get_or-set_other part.picks depth k (Some j) None ne ∙ z.pick;
              row = z.row;
              within = z.within;
            }
      ]

  -- a child by a decision of the group
  pub group_next : (j : ℕ) (g : Group) → slice_get p.groups depth ≡ Some g → j < length g.decisions → depth < length p.groups → IsAt p (suc depth) (with_pick part depth j)
  group_next j g row few lt =
      record {
        picks = length-set part.picks depth (Some j) ∙ at.picks;
        states = at.states;
        done = picked_after j g row few lt;
        open_still = λ k le. get_or-set_other part.picks depth k (Some j) None (omega arith) ∙ at.open_still k (omega arith);
        way =
            elim at.way [
              | inl all ↦ absurd (let a = all.1 in omega arith)
              | inr names ↦ inr (record { arcs = names.arcs; apart = names.apart; loose = names.loose; named = names.named; deep = omega arith })
            ];
      }

  -- a half of a variable
  pub half_next : AllPicked p part → AllFixed p part → IsAt p (suc depth) part
  half_next picked fixed =
      let le = behind_groups picked in
      record {
        picks = at.picks;
        states = at.states;
        done = λ k less within. at.done k (omega arith) within;
        open_still = λ k more. at.open_still k (omega arith);
        way = inl (fixed, omega arith);
      }

  pub all_done : AllPicked p part → (k : ℕ) → k < length p.groups → IsPicked p.groups part.picks k
  all_done picked k lt = let le = behind_groups picked in at.done k (omega arith) lt

  row_unfixed : (a : ℕ) (row : ArcRow) → slice_get p.arcs a ≡ Some row → unfixed p part a ≡ true → is_none (fixed_state p part a row) ≡ true
  row_unfixed a row here open_arc = subst (λ (o : Option ArcRow). is_none (option_and_then (fixed_state p part a) o) ≡ true) here open_arc

  -- an arc without a fixed state, to which states are left, is loose
  pub is_loose_arc : AllPicked p part → (a : ℕ) (row : ArcRow) → slice_get p.arcs a ≡ Some row → unfixed p part a ≡ true → 0 < length (allowed_states p part a row) → Member a (loose_arcs p)
  is_loose_arc picked a row here open_arc some =
      let is : is_loose p a row ≡ true = loose p part a row (all_done picked) (row_unfixed a row here open_arc) some in
      let place : 0 + a ≡ a = omega arith in
      subst (λ (n : ℕ). Member n (loose_arcs p)) place (listed p 0 p.arcs a row here (subst (λ (n : ℕ). is_loose p n row ≡ true) (sym place) is))

named_fixed : (x : Option ArcState) (s : ArcState) (y : Option ArcState) → is_none (option_or x (option_or (Some s) y)) ≡ false
named_fixed None s y = refl
named_fixed (Some x) s y = refl

named_is_fixed : (p : Network) (part : PartState) (a : ℕ) (row : ArcRow) (s : ArcState) → slice_get p.arcs a ≡ Some row → named_state part.states a ≡ Some s → unfixed p part a ≡ false
named_is_fixed p part a row s here named =
    subst (λ (o : Option ArcRow). is_none (option_and_then (fixed_state p part a) o) ≡ false) (sym here)
    (subst (λ (o : Option ArcState). is_none (option_or (only (states_of row.kind)) (option_or o (only (allowed_states p part a row)))) ≡ false) (sym named)
    (named_fixed (only (states_of row.kind)) s (only (allowed_states p part a row))))

module _ (p : Network) (depth : ℕ) (part : PartState) (at : IsAt p depth part) (picked : AllPicked p part) (a : ℕ) (row : ArcRow) (here : slice_get p.arcs a ≡ Some row)
    (lt : a < length p.arcs) (open_arc : unfixed p part a ≡ true) (some : 0 < length (allowed_states p part a row)) where
  names : NamesLoose p depth part
  names = elim at.way [ inl all ↦ absurd (true_false (unfixed p part a) open_arc (all.0 a lt)) | inr n ↦ n ]

  is_new : Member a names.arcs → ⊥
  is_new h = let z = names.named a h in true_false (unfixed p part a) open_arc (named_is_fixed p part a row z.0 here z.1)

  all_loose : (i : ℕ) → Member i (a ∷ names.arcs) → Member i (loose_arcs p)
  all_loose i h =
      elim h [
        | inl e ↦ subst (λ (x : ℕ). Member x (loose_arcs p)) (sym e) (is_loose_arc p depth part at picked a row here open_arc some)
        | inr m ↦ names.loose i m
      ]

  -- there are still loose arcs that no state is named for
  pub still_loose : depth < length p.groups + length (loose_arcs p)
  still_loose = let few = pigeon (a ∷ names.arcs) (loose_arcs p) (is_new, names.apart) all_loose in let le = names.deep in omega arith

  named_after : (s : ArcState) (i : ℕ) → Member i (a ∷ names.arcs) → (t : ArcState) × (named_state (with_state part a s).states i ≡ Some t)
  named_after s i h =
      elim (cases_eq i a) [
        | inl e ↦ (s, rw e (get_or-set_same part.states a (Some s) None (let b = at.states in omega arith)))
        | inr ne ↦ elim h [
          | inl e ↦ absurd (ne e)
          | inr m ↦ (let z = names.named i m in (z.0, get_or-set_other part.states a i (Some s) None ne ∙ z.1))
        ]
      ]

  -- a child by a state of the arc
  pub arc_next : (s : ArcState) → IsAt p (suc depth) (with_state part a s)
  arc_next s =
      let le = behind_groups p depth part at picked in
      record {
        picks = at.picks;
        states = length-set part.states a (Some s) ∙ at.states;
        done = λ k less within. at.done k (omega arith) within;
        open_still = λ k more. at.open_still k (omega arith);
        way = inr (record { arcs = a ∷ names.arcs; apart = (is_new, names.apart); loose = all_loose; named = named_after s; deep = (let d = names.deep in omega arith) });
      }
