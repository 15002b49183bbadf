-- Choices that are made fit the problem, and fix the state of each arc.
use Rattle.std.proofs.Common.{◌≡◌, ℕ, ◌<◌, refl, sym, ◌∙◌, ap, subst, arith, IsTrue, Bool, true, false, not, List, [], ◌∷◌, length, get_or, map, filter, cond}
use Rattle.std.specs.Prelude.{Option, Some, None, slice_get, slice_index_or, option_map, option_and_then, unwrap_or}
use Rattle.std.specs.Option.{option_or}
use Rattle.std.specs.List.{list_all}
use Rattle.std.proofs.lemmas.Bool.{and_parts, and_from}
use Rattle.std.proofs.lemmas.List.{length-map, get_or-map}
use Rattle.std.proofs.lemmas.Option.{slice_get-map, slice_get-get_or, slice_get_within, get_or_from_slice_get}
use Rattle.gas_model.specs.declared.rows.ArcKind.{ArcKind}
use Rattle.gas_model.specs.declared.rows.ArcKind.TheVariants.{Pipe, Short, Resist, Loss, Valve, Control, Station}
use Rattle.gas_model.specs.declared.rows.ArcRow.{ArcRow}
use Rattle.base_types.specs.declared.states.ArcState.{ArcState}
use Rattle.base_types.specs.declared.states.ArcState.TheVariants.{Opened, Shut, Active, Bypass}
use Rattle.gas_model.specs.declared.rows.Group.{Group}
use Rattle.gas_model.specs.declared.rows.PartState.{PartState}
use Rattle.gas_model.specs.Choices.{states_of, has_state, only, named_state, picks_allow, fixed_under, fixed_state, allowed_states, ArePicks, PartFits}
use Rattle.gas_model.specs.Points.{state_at}
use Rattle.gas_model.specs.Rows.{Network}
use Rattle.gas_model.specs.Within.{IsWithin, is_group_within}
use Rattle.topo.specs.Graphs.{no_arc}
use Rattle.gas_model.specs.Laws.{is_shut}
use Rattle.topo.specs.States.{fixed_at, is_there}
use Rattle.probe_point.specs.Chosen.{picks_of, with_picks, all_chosen, first_left, chosen_state, AreChosen}

-- ---- picks
unmapped : (o : Option ℕ) (j : ℕ) → option_map Some o ≡ Some (Some j) → o ≡ Some j
unmapped None j e = absurd cc
unmapped (Some x) j e = cc

pub picked_fits : (p : Network) (part : PartState) (picks : List ℕ) → PartFits p part → ArePicks p.groups picks → PartFits p (with_picks picks part)
picked_fits p part picks f a = record {
  picks = length-map picks Some ∙ a.one_each;
  states = f.states;
  within = λ k g j eg ej. a.within k g j eg (unmapped (slice_get picks k) j (sym (slice_get-map Some picks k) ∙ ej));
  kinds = f.kinds;
}

has_decision : (p : Network) (g : Group) → IsTrue (is_group_within p.arcs g) → 0 < length g.decisions
has_decision p g t = grind arith

first_pick : (o : Option (Option ℕ)) (j : ℕ) → option_map (λ pick. unwrap_or pick 0) o ≡ Some j → (x : Option ℕ) × (o ≡ Some x) × (unwrap_or x 0 ≡ j)
first_pick None j e = absurd cc
first_pick (Some x) j e = (x, refl, cc)

pub picks_fit : (p : Network) (part : PartState) → IsWithin p → PartFits p part → ArePicks p.groups (picks_of part)
picks_fit p part w f = record {
  one_each = length-map part.picks (λ (pick : Option ℕ). unwrap_or pick 0) ∙ f.picks;
  within = λ k g j eg ej.
      let x = first_pick (slice_get part.picks k) j (sym (slice_get-map (λ (pick : Option ℕ). unwrap_or pick 0) part.picks k) ∙ ej) in
      by k g j x.0 eg x.1 x.2;
}
  where
    by : (k : ℕ) (g : Group) (j : ℕ) (x : Option ℕ) → slice_get p.groups k ≡ Some g → slice_get part.picks k ≡ Some x → unwrap_or x 0 ≡ j → j < length g.decisions
    by k g j None eg ex e = subst (λ (n : ℕ). n < length g.decisions) e (has_decision p g (w.groups k g eg))
    by k g j (Some i) eg ex e = subst (λ (n : ℕ). n < length g.decisions) e (f.within k g i eg ex)

-- ---- states
kept_states : (test : ArcState → Bool) (kind : ArcKind) (states : List ArcState) → IsTrue (list_all (has_state kind) states) → IsTrue (list_all (has_state kind) (filter test states))
kept_states test kind [] t = t
kept_states test kind (s ∷ states) t = by (test s) (kept_states test kind states (and_parts (has_state kind s) (list_all (has_state kind) states) t).1)
  where
    by : (b : Bool) → IsTrue (list_all (has_state kind) (filter test states)) → IsTrue (list_all (has_state kind) (cond b (s ∷ filter test states) (filter test states)))
    by true rest = and_from (has_state kind s) (list_all (has_state kind) (filter test states)) (and_parts (has_state kind s) (list_all (has_state kind) states) t).0 rest
    by false rest = rest

own_states : (kind : ArcKind) → IsTrue (list_all (has_state kind) (states_of kind))
own_states (Pipe law) = refl
own_states Short = refl
own_states (Resist law) = refl
own_states (Loss low high) = refl
own_states Valve = refl
own_states (Control in_min out_max red_min red_max) = refl
own_states (Station in_min out_max ratio_num ratio_den rise_max) = refl

-- the state that is chosen, by what is named and what is left
abbrev chosen : ArcKind → Option ArcState → List ArcState → ArcState
chosen kind named left = unwrap_or (option_or (only (states_of kind)) (option_or named (only left))) (first_left kind left)

-- without a state that is fixed by the kind
many_have : (kind : ArcKind) (named : Option ArcState) (left : List ArcState) → only (states_of kind) ≡ None → IsTrue (has_state kind (slice_index_or (states_of kind) 0 Opened))
    → ((s : ArcState) → named ≡ Some s → IsTrue (has_state kind s)) → IsTrue (list_all (has_state kind) left) → IsTrue (has_state kind (chosen kind named left))
many_have kind named left e first h t = subst (λ (o : Option ArcState). IsTrue (has_state kind (unwrap_or (option_or o (option_or named (only left))) (first_left kind left)))) (sym e) (by named left h t)
  where
    by : (named : Option ArcState) (left : List ArcState) → ((s : ArcState) → named ≡ Some s → IsTrue (has_state kind s)) → IsTrue (list_all (has_state kind) left) → IsTrue (has_state kind (unwrap_or (option_or named (only left)) (first_left kind left)))
    by (Some s) left h t = h s refl
    by None [] h t = first
    by None (s ∷ []) h t = (and_parts (has_state kind s) (list_all (has_state kind) []) t).0
    by None (s ∷ r ∷ left) h t = (and_parts (has_state kind s) (list_all (has_state kind) (r ∷ left)) t).0

kind_has : (kind : ArcKind) (named : Option ArcState) (left : List ArcState) → ((s : ArcState) → named ≡ Some s → IsTrue (has_state kind s)) → IsTrue (list_all (has_state kind) left) → IsTrue (has_state kind (chosen kind named left))
kind_has (Pipe law) named left h t = refl
kind_has Short named left h t = refl
kind_has (Resist law) named left h t = refl
kind_has (Loss low high) named left h t = refl
kind_has Valve named left h t = many_have Valve named left refl refl h t
kind_has (Control in_min out_max red_min red_max) named left h t = many_have (Control in_min out_max red_min red_max) named left refl refl h t
kind_has (Station in_min out_max ratio_num ratio_den rise_max) named left h t = many_have (Station in_min out_max ratio_num ratio_den rise_max) named left refl refl h t

pub chosen_kind : (p : Network) (part : PartState) (a : ℕ) (row : ArcRow) → PartFits p part → slice_get p.arcs a ≡ Some row → IsTrue (has_state row.kind (chosen_state p part a row))
chosen_kind p part a row f here =
    let lt : a < length part.states = (let w = slice_get_within p.arcs a row here in let long = f.states in omega arith) in
    kind_has row.kind (named_state part.states a) (allowed_states p part a row) (λ s e. f.kinds a row s here (slice_get-get_or part.states a None lt ∙ ap Some e))
    (kept_states (picks_allow p.groups part.picks a) row.kind (states_of row.kind) (own_states row.kind))

-- ---- with all choices made
pub whole_fits : (p : Network) (part : PartState) (picks : List ℕ) (states : List ArcState) → PartFits p part → ArePicks p.groups picks → AreChosen p (with_picks picks part) states → PartFits p (all_chosen picks states)
whole_fits p part picks states f a c = record {
  picks = length-map picks Some ∙ a.one_each;
  states = length-map states Some ∙ c.count;
  within = λ k g j eg ej. a.within k g j eg (unmapped (slice_get picks k) j (sym (slice_get-map Some picks k) ∙ ej));
  kinds = λ i row s er es.
      let some : slice_get states i ≡ Some s = named (slice_get states i) s (sym (slice_get-map Some states i) ∙ es) in
      let lt = slice_get_within p.arcs i row er in
      let row_is : slice_index_or p.arcs i no_arc ≡ row = get_or_from_slice_get p.arcs i row no_arc er in
      let is : s ≡ chosen_state p (with_picks picks part) i row = sym (get_or_from_slice_get states i s Opened some) ∙ c.each i lt ∙ ap (chosen_state p (with_picks picks part) i) row_is in
      subst (λ (x : ArcState). IsTrue (has_state row.kind x)) (sym is) (chosen_kind p (with_picks picks part) i row (picked_fits p part picks f a) er);
}
  where
    named : (o : Option ArcState) (s : ArcState) → option_map Some o ≡ Some (Some s) → o ≡ Some s
    named None s e = absurd cc
    named (Some x) s e = cc

-- a state that was chosen is the one that is fixed when it is named
named_again : (kind : ArcKind) (named : Option ArcState) (left : List ArcState) (test : ArcState → Bool) (s : ArcState) → s ≡ chosen kind named left → fixed_under kind (Some s) test ≡ Some s
named_again (Pipe law) named left test s e = ap Some (sym e)
named_again Short named left test s e = ap Some (sym e)
named_again (Resist law) named left test s e = ap Some (sym e)
named_again (Loss low high) named left test s e = ap Some (sym e)
named_again Valve named left test s e = refl
named_again (Control in_min out_max red_min red_max) named left test s e = refl
named_again (Station in_min out_max ratio_num ratio_den rise_max) named left test s e = refl

pub fixed_whole : (p : Network) (part : PartState) (picks : List ℕ) (states : List ArcState) (a : ℕ) → AreChosen p part states → a < length p.arcs → fixed_at p (all_chosen picks states) a ≡ Some (state_at states a)
fixed_whole p part picks states a c lt =
    let row : ArcRow = get_or p.arcs a no_arc in
    let s : ArcState = state_at states a in
    let name : named_state (map Some states) a ≡ Some s = get_or-map Some states a Opened None (let long = c.count in omega arith) in
    ap (option_and_then (fixed_state p (all_chosen picks states) a)) (slice_get-get_or p.arcs a no_arc lt)
    ∙ ap (λ (o : Option ArcState). fixed_under row.kind o (picks_allow p.groups (map Some picks) a)) name
    ∙ named_again row.kind (named_state part.states a) (allowed_states p part a row) (picks_allow p.groups (map Some picks) a) s (c.each a lt)

-- an arc is away exactly where its state is shut
pub shut_away : (p : Network) (part : PartState) (picks : List ℕ) (states : List ArcState) (a : ℕ) → AreChosen p part states → a < length p.arcs → state_at states a ≡ Shut → is_there p (all_chosen picks states) a ≡ false
shut_away p part picks states a c lt e = ap (λ (o : Option ArcState). not (is_shut o)) (fixed_whole p part picks states a c lt ∙ ap Some e)

shut_only : (s : ArcState) → not (is_shut (Some s)) ≡ false → s ≡ Shut
shut_only Opened e = absurd cc
shut_only Shut e = refl
shut_only Active e = absurd cc
shut_only Bypass e = absurd cc

pub away_shut : (p : Network) (part : PartState) (picks : List ℕ) (states : List ArcState) (a : ℕ) → AreChosen p part states → a < length p.arcs → is_there p (all_chosen picks states) a ≡ false → state_at states a ≡ Shut
away_shut p part picks states a c lt e = shut_only (state_at states a) (sym (ap (λ (o : Option ArcState). not (is_shut o)) (fixed_whole p part picks states a c lt)) ∙ e)
