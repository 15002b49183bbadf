-- Rows of problems of one shape.
use Rattle.std.proofs.Common.{◌≡◌, ℕ, refl, sym, ap, ◌∙◌, List, [], ◌∷◌, ◌++◌, map, slice_get, Some, option_map}
use Rattle.std.proofs.lemmas.Option.{slice_get-map}
use Rattle.gas_model.specs.declared.rows.ArcKind.{ArcKind}
use Rattle.gas_model.specs.declared.rows.ArcRow.{ArcRow}
use Rattle.gas_model.specs.declared.rows.PartState.{PartState}
use Rattle.gas_model.specs.Rows.{Network}
use Rattle.gas_model.specs.Choices.{states_of, allowed_states, fixed_state}
use Rattle.gas_model.specs.Laws.{form_of}
use Rattle.gas_model.specs.declared.law_forms.LawForm.{LawForm}
use Rattle.tree_rules.specs.Rules.{fixed_form}
use Rattle.tree_rules.proofs.StepSound.{map_is}
use Rattle.core_rules.specs.Reads.{Item}
use Rattle.core_rules.specs.Cores.{blank_kind, blank_arc, SameShape, Each}
use Rattle.core_rules.proofs.ArcReads.{blank_form, form_blank, states_blank}

-- ---- what holds of each item
pub each_parts : (P : Item → Type 0) (xs ys : List Item) → Each P (xs ++ ys) → Each P xs × Each P ys
each_parts P [] ys h = (tt, h)
each_parts P (x ∷ xs) ys h = let r = each_parts P xs ys h.1 in ((h.0, r.0), r.1)

-- ---- rows
pub matched : {A B : Type 0} (f : A → B) (xs ys : List A) (i : ℕ) (x : A) → map f xs ≡ map f ys → slice_get xs i ≡ Some x → (y : A) × (slice_get ys i ≡ Some y) × (f y ≡ f x)
matched f xs ys i x s e =
    map_is f (slice_get ys i) (f x) (sym (slice_get-map f ys i) ∙ ap (λ l. slice_get l i) (sym s) ∙ slice_get-map f xs i ∙ ap (option_map f) e)

-- the row of the other problem, which is the same but for its numbers
pub record Twin (p2 : Network) (a : ℕ) (row : ArcRow) : Type 0 where
  pub row2 : ArcRow
  pub is : slice_get p2.arcs a ≡ Some row2
  pub from : row.from ≡ row2.from
  pub to : row.to ≡ row2.to
  pub kind : blank_kind row.kind ≡ blank_kind row2.kind

pub twin_of : (p p2 : Network) (a : ℕ) (row : ArcRow) → SameShape p p2 → slice_get p.arcs a ≡ Some row → Twin p2 a row
twin_of p p2 a row s e =
    let m = matched blank_arc p.arcs p2.arcs a row s.arcs e in
    let same : blank_arc m.0 ≡ blank_arc row = m.2 in
    record {
      row2 = m.0;
      is = m.1;
      from = ap (λ (r : ArcRow). r.from) (sym same);
      to = ap (λ (r : ArcRow). r.to) (sym same);
      kind = ap (λ (r : ArcRow). r.kind) (sym same);
    }

-- ---- states
same_states : (kind kind2 : ArcKind) → blank_kind kind ≡ blank_kind kind2 → states_of kind ≡ states_of kind2
same_states kind kind2 s = sym (states_blank kind) ∙ ap states_of s ∙ states_blank kind2

pub fixed_same : (p p2 : Network) (part : PartState) (a : ℕ) (row row2 : ArcRow) → SameShape p p2 → blank_kind row.kind ≡ blank_kind row2.kind → fixed_state p part a row ≡ fixed_state p2 part a row2
fixed_same p p2 part a row row2 s k = rw (same_states row.kind row2.kind k, s.groups) refl

pub allowed_same : (p p2 : Network) (part : PartState) (a : ℕ) (row row2 : ArcRow) → SameShape p p2 → blank_kind row.kind ≡ blank_kind row2.kind → allowed_states p part a row ≡ allowed_states p2 part a row2
allowed_same p p2 part a row row2 s k = rw (same_states row.kind row2.kind k, s.groups) refl

-- the law of the other problem's row: the same but for its numbers, and the same where the kinds are
pub record TwinForm (p2 : Network) (part : PartState) (a : ℕ) (row row2 : ArcRow) (form : LawForm) : Type 0 where
  pub form2 : LawForm
  pub is : fixed_form p2 part a row2 ≡ Some form2
  pub blank : blank_form form ≡ blank_form form2
  pub same : row.kind ≡ row2.kind → form ≡ form2

pub twin_form : (p p2 : Network) (part : PartState) (a : ℕ) (row row2 : ArcRow) (form : LawForm) → SameShape p p2 → blank_kind row.kind ≡ blank_kind row2.kind → fixed_form p part a row ≡ Some form → TwinForm p2 part a row row2 form
twin_form p p2 part a row row2 form s k e =
    let found = map_is (form_of row.kind) (fixed_state p part a row) form e in
    let state = found.0 in
    let fixed : fixed_state p2 part a row2 ≡ Some state = sym (fixed_same p p2 part a row row2 s k) ∙ found.1 in
    record {
      form2 = form_of row2.kind state;
      is = ap (option_map (form_of row2.kind)) fixed;
      blank = ap blank_form (sym found.2) ∙ sym (form_blank row.kind state) ∙ ap (λ (z : ArcKind). form_of z state) k ∙ form_blank row2.kind state;
      same = λ same. sym found.2 ∙ ap (λ (z : ArcKind). form_of z state) same;
    }
