-- The first offence of groups, one group at a time.
use Rattle.std.proofs.Common.{◌≡◌, ℕ, ◌+◌, ◌<◌, List, [], ◌∷◌, ◌++◌, length, map, take, drop, get_or, None, Some, sym, ap, ◌∙◌}
use Rattle.std.specs.Option.{option_or}
use Rattle.std.proofs.lemmas.List.{drop_more, map-append}
use Rattle.gas_model.specs.declared.rows.ArcText.{ArcText}
use Rattle.gas_model.specs.declared.rows.GroupText.{GroupText}
use Rattle.gas_model.specs.declared.rows.ModelFault.{ModelFault}
use Rattle.gas_model.specs.declared.rows.ModelFault.TheVariants as fault
use Rattle.gas_model.specs.Rows.{group_ids, group_fault, group_fault_after, groups_fault, decided_by, first_offence, Tells}
use Rattle.base_types.specs.Names.{SameNames}
use Rattle.gas_model.proofs.Decided.{take_item, same_group}

-- the first offence from here on is that of this group, or one of the later groups
offence_turn : (arcs : List ArcText) (gs : List GroupText) (i : ℕ) (g : GroupText) → i < length gs → g ≡ get_or gs i g
    → first_offence (λ g. g) (group_fault arcs) (take i gs) (drop i gs) ≡ option_or (group_fault arcs (take i gs) g) (first_offence (λ g. g) (group_fault arcs) (take (i + 1) gs) (drop (i + 1) gs))
offence_turn arcs gs i g lt is =
    ap (first_offence (λ g. g) (group_fault arcs) (take i gs)) (drop_more gs i g lt ∙ ap (λ x. x ∷ drop (i + 1) gs) (sym is))
    ∙ ap (λ l. option_or (group_fault arcs (take i gs) g) (first_offence (λ g. g) (group_fault arcs) l (drop (i + 1) gs))) (sym (take_item gs i g lt is))

-- where a group stands among others
pub record IsTurn (arcs : List ArcText) (gs : List GroupText) (i : ℕ) (g : GroupText) (ids arcs_decided : List (List ℕ)) : Type 0 where
  pub before : i < length gs
  pub here : g ≡ get_or gs i g
  pub earlier : ids ≡ group_ids (take i gs)
  pub decided : SameNames arcs_decided (decided_by (take i gs))
  pub so_far : first_offence (λ g. g) (group_fault arcs) (take i gs) (drop i gs) ≡ groups_fault arcs gs

here_fault : (arcs : List ArcText) (gs : List GroupText) (i : ℕ) (g : GroupText) (earlier decided : List (List ℕ)) → IsTurn arcs gs i g earlier decided
    → group_fault_after arcs earlier decided g ≡ group_fault arcs (take i gs) g
here_fault arcs gs i g earlier decided t =
    ap (λ ids. group_fault_after arcs ids decided g) t.earlier ∙ same_group arcs (group_ids (take i gs)) decided (decided_by (take i gs)) g t.decided

-- the fault of this group is the first
pub told_here : (arcs : List ArcText) (gs : List GroupText) (i : ℕ) (g : GroupText) (earlier decided : List (List ℕ)) (e : ModelFault) → IsTurn arcs gs i g earlier decided
    → Tells e (group_fault_after arcs earlier decided g) → Tells e (groups_fault arcs gs)
told_here arcs gs i g earlier decided e t tells = by e tells
  where
    whole : (e : ModelFault) → group_fault_after arcs earlier decided g ≡ Some e → groups_fault arcs gs ≡ Some e
    whole e is =
        sym t.so_far ∙ offence_turn arcs gs i g t.before t.here
        ∙ ap (λ o. option_or o (first_offence (λ g. g) (group_fault arcs) (take (i + 1) gs) (drop (i + 1) gs))) (sym (here_fault arcs gs i g earlier decided t) ∙ is)

    by : (e : ModelFault) → Tells e (group_fault_after arcs earlier decided g) → Tells e (groups_fault arcs gs)
    by fault.NoMemory tells = tt
    by (fault.TooMany what) tells = whole (fault.TooMany what) tells
    by (fault.TwiceNamed id) tells = whole (fault.TwiceNamed id) tells
    by (fault.OverLimit id) tells = whole (fault.OverLimit id) tells
    by (fault.NoSuchNode arc id) tells = whole (fault.NoSuchNode arc id) tells
    by (fault.SameEnds arc) tells = whole (fault.SameEnds arc) tells
    by (fault.EmptyGroup group) tells = whole (fault.EmptyGroup group) tells
    by (fault.NoSuchArc group id) tells = whole (fault.NoSuchArc group id) tells
    by (fault.NotActive group arc) tells = whole (fault.NotActive group arc) tells
    by (fault.TwiceDecided arc) tells = whole (fault.TwiceDecided arc) tells

-- a group without a fault leaves the first offence to the later ones
pub clean_here : (arcs : List ArcText) (gs : List GroupText) (i : ℕ) (g : GroupText) (earlier decided : List (List ℕ)) → IsTurn arcs gs i g earlier decided
    → group_fault_after arcs earlier decided g ≡ None
    → first_offence (λ g. g) (group_fault arcs) (take (i + 1) gs) (drop (i + 1) gs) ≡ groups_fault arcs gs
clean_here arcs gs i g earlier decided t clean =
    let none : group_fault arcs (take i gs) g ≡ None = sym (here_fault arcs gs i g earlier decided t) ∙ clean in
    ap (λ o. option_or o (first_offence (λ g. g) (group_fault arcs) (take (i + 1) gs) (drop (i + 1) gs))) (sym none) ∙ sym (offence_turn arcs gs i g t.before t.here) ∙ t.so_far

-- a list made of the items so far, with one more
pub made_more : {X Y : Type 0} (f : X → Y) (xs : List X) (i : ℕ) (x : X) (ys next : List Y) → i < length xs → x ≡ get_or xs i x → ys ≡ map f (take i xs) → next ≡ ys ++ f x ∷ [] → next ≡ map f (take (i + 1) xs)
made_more f xs i x ys next lt is so_far e =
    e ∙ ap (λ l. l ++ f x ∷ []) so_far ∙ sym (map-append f (take i xs) (x ∷ [])) ∙ ap (map f) (sym (take_item xs i x lt is))
