-- What an item adds to the rows so far.
use Rattle.std.proofs.Common.{◌≡◌, ℕ, List, [], ◌∷◌, ◌++◌, true, refl, sym, ap, ◌∙◌, append_assoc}
use Rattle.std.proofs.lemmas.List.{append-nil}
use Rattle.gas_model.specs.declared.rows.DecisionText.{DecisionText}
use Rattle.gas_model.specs.declared.rows.GroupText.{GroupText}
use Rattle.gas_model.specs.declared.rows.SetText.{SetText}
use Rattle.gas_model.specs.declared.rows.Rows.{Rows}
use Rattle.flat_text.specs.declared.draft.Draft.{Draft}
use Rattle.flat_text.specs.declared.draft.Tail.{Tail}
use Rattle.flat_text.specs.declared.draft.Tail.TheVariants as tail
use Rattle.flat_text.specs.declared.line.Item.{Item}
use Rattle.flat_text.specs.declared.line.Item.TheVariants.{Decision, Set}
use Rattle.flat_text.specs.Line.{may_stand, part_after}
use Rattle.flat_text.specs.Items.{nodes_in, arcs_in, sets_before, decisions_before, groups_in}
use Rattle.flat_text.specs.Draft.{part_of, opened, with_decision, with_set, Adds}

-- the same nodes and arcs with other groups
abbrev with_groups : Draft → List Item → List GroupText → Rows
with_groups draft items groups = record { nodes = draft.nodes ++ nodes_in items; arcs = draft.arcs ++ arcs_in items; groups = draft.groups ++ (groups ++ groups_in items) }

decision_opens : (t : Tail) (id : List ℕ) → may_stand (part_of t) (Decision id) ≡ true → (items : List Item) → opened (with_decision t id) items ≡ opened t (Decision id ∷ items)
decision_opens tail.Nodes id stands items = absurd cc
decision_opens tail.Arcs id stands items = absurd cc
decision_opens (tail.Group g) id stands items = refl
decision_opens (tail.Decision g d) id stands items =
    let new : DecisionText = record { id = id; sets = sets_before items } in
    let closed : List DecisionText → List GroupText = λ ds. record { id = g.id; decisions = ds } ∷ [] in
    ap closed (append_assoc g.decisions (d ∷ []) (new ∷ decisions_before items))
    ∙ ap (λ (sets : List SetText). closed (g.decisions ++ record { id = d.id; sets = sets } ∷ new ∷ decisions_before items)) (sym (append-nil d.sets))

decision_part : (t : Tail) (id : List ℕ) → may_stand (part_of t) (Decision id) ≡ true → part_of (with_decision t id) ≡ part_after (Decision id)
decision_part tail.Nodes id stands = absurd cc
decision_part tail.Arcs id stands = absurd cc
decision_part (tail.Group g) id stands = refl
decision_part (tail.Decision g d) id stands = refl

pub decision_adds : (before : Draft) (id : List ℕ) (after : Tail) → may_stand (part_of before.tail) (Decision id) ≡ true → after ≡ with_decision before.tail id
    → Adds before (Decision id) (record before { tail = after })
decision_adds before id after stands is = record {
  rows = λ items. ap (λ (t : Tail). with_groups before items (opened t items)) is ∙ ap (with_groups before items) (decision_opens before.tail id stands items);
  part = ap part_of is ∙ decision_part before.tail id stands;
}

set_opens : (t : Tail) (s : SetText) → may_stand (part_of t) (Set s) ≡ true → (items : List Item) → opened (with_set t s) items ≡ opened t (Set s ∷ items)
set_opens tail.Nodes s stands items = absurd cc
set_opens tail.Arcs s stands items = absurd cc
set_opens (tail.Group g) s stands items = absurd cc
set_opens (tail.Decision g d) s stands items =
    ap (λ (sets : List SetText). record { id = g.id; decisions = g.decisions ++ record { id = d.id; sets = sets } ∷ decisions_before items } ∷ []) (append_assoc d.sets (s ∷ []) (sets_before items))

set_part : (t : Tail) (s : SetText) → may_stand (part_of t) (Set s) ≡ true → part_of (with_set t s) ≡ part_after (Set s)
set_part tail.Nodes s stands = absurd cc
set_part tail.Arcs s stands = absurd cc
set_part (tail.Group g) s stands = absurd cc
set_part (tail.Decision g d) s stands = refl

pub set_adds : (before : Draft) (s : SetText) (after : Tail) → may_stand (part_of before.tail) (Set s) ≡ true → after ≡ with_set before.tail s
    → Adds before (Set s) (record before { tail = after })
set_adds before s after stands is = record {
  rows = λ items. ap (λ (t : Tail). with_groups before items (opened t items)) is ∙ ap (with_groups before items) (set_opens before.tail s stands items);
  part = ap part_of is ∙ set_part before.tail s stands;
}
