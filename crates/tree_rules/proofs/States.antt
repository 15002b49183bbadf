-- Listed choices that agree with a part state are in the states that it fixes, and among those that it allows.
use Rattle.std.proofs.Common.{◌≡◌, ◌⊎◌, ℕ, zero, suc, inl, inr, refl, sym, ap, ◌∙◌, subst, arith, Bool, true, false, cond, IsTrue, List, [], ◌∷◌, map, slice_get, Option, Some, None}
use Rattle.std.specs.List.{filter}
use Rattle.std.specs.Option.{option_or}
use Rattle.std.proofs.lemmas.List.Folds.{list_all-append}
use Rattle.std.proofs.lemmas.Option.{slice_get_within}
use Rattle.std.proofs.lemmas.Bool.{and_parts, and_from}
use Rattle.gas_model.specs.declared.rows.ArcKind.{ArcKind}
use Rattle.gas_model.specs.declared.rows.ArcKind.TheVariants.{Pipe, Short, Resist, Loss, Valve, Control, Station}
use Rattle.gas_model.specs.declared.rows.ArcRow.{ArcRow}
use Rattle.base_types.specs.declared.states.ArcState.{ArcState}
use Rattle.base_types.specs.declared.states.ArcState.TheVariants.{Opened, Shut, Active, Bypass}
use Rattle.gas_model.specs.declared.rows.Group.{Group}
use Rattle.gas_model.specs.declared.rows.PartState.{PartState}
use Rattle.gas_model.specs.Rows.{Network}
use Rattle.gas_model.specs.Choices.{states_of, has_state, allows, words_if, words_for, IsListed, only, named_state, words_allow, allowed_states, fixed_state}
use Rattle.tree_rules.specs.Theorems.{Agrees}
use Rattle.tree_rules.proofs.CutSound.{get_some}

-- ---- lists of states
abbrev pub IsOneOf : ArcState → List ArcState → Type 0
IsOneOf t [] = ⊥
IsOneOf t (s ∷ ss) = (t ≡ s) ⊎ IsOneOf t ss

only_is : (ss : List ArcState) (s t : ArcState) → only ss ≡ Some s → IsOneOf t ss → t ≡ s
only_is [] s t e h = absurd h
only_is (r ∷ []) s t e (inl here) = cc
only_is (r ∷ []) s t e (inr none) = absurd none
only_is (r ∷ q ∷ ss) s t e h = absurd cc

one_of_kind : (kind : ArcKind) (t : ArcState) → IsTrue (has_state kind t) → IsOneOf t (states_of kind)
one_of_kind (Pipe law) Opened h = inl refl
one_of_kind Short Opened h = inl refl
one_of_kind (Resist law) Opened h = inl refl
one_of_kind (Loss low high) Opened h = inl refl
one_of_kind Valve Opened h = inl refl
one_of_kind Valve Shut h = inr (inl refl)
one_of_kind (Control in_min out_max red_min red_max) Active h = inl refl
one_of_kind (Control in_min out_max red_min red_max) Bypass h = inr (inl refl)
one_of_kind (Control in_min out_max red_min red_max) Shut h = inr (inr (inl refl))
one_of_kind (Station in_min out_max ratio_num ratio_den rise_max) Active h = inl refl
one_of_kind (Station in_min out_max ratio_num ratio_den rise_max) Bypass h = inr (inl refl)
one_of_kind (Station in_min out_max ratio_num ratio_den rise_max) Shut h = inr (inr (inl refl))
one_of_kind kind t h = absurd cc

kept_first : (test : Bool) (s t : ArcState) (ss : List ArcState) → t ≡ s → IsTrue test → IsOneOf t (cond test (s ∷ ss) ss)
kept_first true s t ss e h = inl e
kept_first false s t ss e h = absurd cc

kept_later : (test : Bool) (s t : ArcState) (ss : List ArcState) → IsOneOf t ss → IsOneOf t (cond test (s ∷ ss) ss)
kept_later true s t ss h = inr h
kept_later false s t ss h = h

one_filtered : (test : ArcState → Bool) (ss : List ArcState) (t : ArcState) → IsOneOf t ss → IsTrue (test t) → IsOneOf t (filter test ss)
one_filtered test [] t h p = h
one_filtered test (s ∷ ss) t (inl here) p = kept_first (test s) s t (filter test ss) here (subst (λ (r : ArcState). IsTrue (test r)) here p)
one_filtered test (s ∷ ss) t (inr later) p = kept_later (test s) s t (filter test ss) (one_filtered test ss t later p)

-- ---- the words of fewer picks are fewer
record Fewer (some : List (Option ℕ)) (picks : List ℕ) : Type 0 where
  at : (k j : ℕ) → slice_get some k ≡ Some (Some j) → slice_get picks k ≡ Some j

fewer_rest : (o : Option ℕ) (i : ℕ) (some : List (Option ℕ)) (picks : List ℕ) → Fewer (o ∷ some) (i ∷ picks) → Fewer some picks
fewer_rest o i some picks h = record { at = λ k j e. h.at (suc k) j e }

no_pick : (o : Option ℕ) (some : List (Option ℕ)) (k j : ℕ) → Fewer (o ∷ some) [] → slice_get some k ≡ Some (Some j) → ⊥
no_pick o some k j h e = let f : slice_get [] (suc k) ≡ Some j = h.at (suc k) j e in absurd cc

-- without picks there are no words
no_words : (groups : List Group) (some : List (Option ℕ)) (a : ℕ) → Fewer some [] → words_for groups some a ≡ []
no_words [] some a h = refl
no_words (g ∷ groups) [] a h = refl
no_words (g ∷ groups) (None ∷ some) a h = no_words groups some a (record { at = λ k j e. absurd (no_pick None some k j h e) })
no_words (g ∷ groups) (Some i ∷ some) a h = let f : slice_get [] 0 ≡ Some i = h.at 0 i refl in absurd cc

words_fewer : (groups : List Group) (some : List (Option ℕ)) (picks : List ℕ) (a : ℕ) (t : ArcState) → Fewer some picks → IsTrue (words_allow t (words_for groups (map Some picks) a)) → IsTrue (words_allow t (words_for groups some a))
words_fewer [] some picks a t h p = refl
words_fewer (g ∷ groups) [] picks a t h p = refl
words_fewer (g ∷ groups) (o ∷ some) [] a t h p = ap (words_allow t) (no_words (g ∷ groups) (o ∷ some) a h)
words_fewer (g ∷ groups) (None ∷ some) (i ∷ picks) a t h p =
    let parts = list_all-append (λ word. allows word t) (words_if (slice_get g.decisions i) a) (words_for groups (map Some picks) a) in
    words_fewer groups some picks a t (fewer_rest None i some picks h) (and_parts _ _ (sym parts ∙ p)).1
words_fewer (g ∷ groups) (Some j ∷ some) (i ∷ picks) a t h p =
    let parts = list_all-append (λ word. allows word t) (words_if (slice_get g.decisions i) a) (words_for groups (map Some picks) a) in
    let says = and_parts (words_allow t (words_if (slice_get g.decisions i) a)) (words_allow t (words_for groups (map Some picks) a)) (sym parts ∙ p) in
    let same : Some i ≡ Some j = h.at 0 j refl in
    let here : IsTrue (words_allow t (words_if (slice_get g.decisions j) a)) = subst (λ (k : ℕ). IsTrue (words_allow t (words_if (slice_get g.decisions k) a))) (let e : i ≡ j = cc in e) says.0 in
    let later = words_fewer groups some picks a t (fewer_rest (Some j) i some picks h) says.1 in
    list_all-append (λ word. allows word t) (words_if (slice_get g.decisions j) a) (words_for groups some a) ∙ and_from _ _ here later

-- ---- the state of an arc
-- it is one of its kind, and all words of the picked decisions allow it
pub record HasState (p : Network) (part : PartState) (a : ℕ) (row : ArcRow) (t : ArcState) : Type 0 where
  pub kind : IsTrue (has_state row.kind t)
  pub words : IsTrue (words_allow t (words_for p.groups part.picks a))

pub state_of : (p : Network) (part : PartState) (picks : List ℕ) (states : List ArcState) (a : ℕ) (row : ArcRow) → IsListed p picks states → Agrees part picks states → slice_get p.arcs a ≡ Some row
    → (t : ArcState) × (slice_get states a ≡ Some t) × HasState p part a row t
state_of p part picks states a row listed agrees at =
    let found = get_some states a (omega (arith, listed.one_each, slice_get_within p.arcs a row at)) in
    let may = and_parts (has_state row.kind found.0) (words_allow found.0 (words_for p.groups (map Some picks) a)) (listed.allowed a row found.0 at found.1) in
    (found.0, found.1, record { kind = may.0; words = words_fewer p.groups part.picks picks a found.0 (record { at = agrees.picked }) may.1 })

pub one_allowed : (p : Network) (part : PartState) (a : ℕ) (row : ArcRow) (t : ArcState) → HasState p part a row t → IsOneOf t (allowed_states p part a row)
one_allowed p part a row t h = one_filtered (λ state. words_allow state (words_for p.groups part.picks a)) (states_of row.kind) t (one_of_kind row.kind t h.kind) h.words

either_is : {X : Type 0} (o q : Option X) (x : X) → option_or o q ≡ Some x → (o ≡ Some x) ⊎ (q ≡ Some x)
either_is None q x e = inr e
either_is (Some y) q x e = inl e

named_is : (states : List (Option ArcState)) (a : ℕ) (s : ArcState) → named_state states a ≡ Some s → slice_get states a ≡ Some (Some s)
named_is [] a s e = absurd cc
named_is (o ∷ states) zero s e = ap Some e
named_is (o ∷ states) (suc a) s e = named_is states a s e

-- a fixed state is the one that the arc is in
pub fixed_is : (p : Network) (part : PartState) (picks : List ℕ) (states : List ArcState) (a : ℕ) (row : ArcRow) (s : ArcState) → IsListed p picks states → Agrees part picks states → slice_get p.arcs a ≡ Some row → fixed_state p part a row ≡ Some s
    → slice_get states a ≡ Some s
fixed_is p part picks states a row s listed agrees at e =
    let found = state_of p part picks states a row listed agrees at in
    let t = found.0 in
    let by_only : t ≡ s → slice_get states a ≡ Some s = λ (same : t ≡ s). found.1 ∙ ap Some same in
    elim (either_is (only (states_of row.kind)) (option_or (named_state part.states a) (only (allowed_states p part a row))) s e) [
      | inl one ↦ by_only (only_is (states_of row.kind) s t one (one_of_kind row.kind t found.2.kind))
      | inr more ↦ elim (either_is (named_state part.states a) (only (allowed_states p part a row)) s more) [
        | inl named ↦ agrees.fixed a s (named_is part.states a s named)
        | inr one ↦ by_only (only_is (allowed_states p part a row) s t one (one_allowed p part a row t found.2))
      ]
    ]
