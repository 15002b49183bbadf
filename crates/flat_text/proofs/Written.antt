-- What a writer of a problem needs: that groups decide arcs of the problem, and what was written piece by piece.
use Rattle.std.proofs.Common.{◌≡◌, ◌<◌, ◌≤◌, ℕ, suc, zero, List, [], ◌∷◌, length, Bool, true, false, not, ◌&&◌, Option, Some, None, refl, sym, ap, ◌∙◌, inl, inr, ◌++◌, map, append_assoc, Result, Ok, Err}
use Rattle.std.specs.Prelude.{◌==◌, nat_le, slice_get, OnOk}
use Rattle.line_text.specs.Numerals.{signed_numeral}
use Rattle.std.specs.List.{list_all}
use Rattle.std.specs.Option.{option_map_or}
use Rattle.std.proofs.lemmas.Bool.Decides.{leb_tells}
use Rattle.std.proofs.lemmas.List.Concat.{flat_map-append}
use Rattle.std.proofs.lemmas.Option.{slice_get_within}
use Rattle.std.proofs.lemmas.Bool.{and_parts}
use Rattle.gas_model.specs.declared.rows.ArcRow.{ArcRow}
use Rattle.gas_model.specs.declared.rows.ArcText.{ArcText}
use Rattle.base_types.specs.declared.states.Allow.{Allow}
use Rattle.gas_model.specs.declared.rows.Decision.{Decision}
use Rattle.gas_model.specs.declared.rows.Group.{Group}
use Rattle.base_types.specs.Ids.{is_id}
use Rattle.gas_model.specs.Rows.{Network, takes}
use Rattle.gas_model.specs.Rulings.{GroupsDecideArcs}
use Rattle.gas_model.specs.Within.{is_set_within, is_decision_within, is_group_within, IsWithin}
use Rattle.line_text.specs.Words.{joined}
use Rattle.flat_text.specs.Spelling.{spaced, kind_word, kind_numbers, arc_fields, arc_line}

all_get : {A : Type 0} (p : A → Bool) (xs : List A) (i : ℕ) (x : A) → list_all p xs ≡ true → slice_get xs i ≡ Some x → p x ≡ true
all_get p [] i x all e = absurd cc
all_get p (y ∷ xs) zero x all e = let same : y ≡ x = cc in ap p (sym same) ∙ (and_parts (p y) (list_all p xs) all).0
all_get p (y ∷ xs) (suc i) x all e = all_get p xs i x (and_parts (p y) (list_all p xs) all).1 e

set_arc : (arcs : List ArcRow) (s : ℕ × Allow) → is_set_within arcs s ≡ true → s.0 < length arcs
set_arc arcs s e = by (slice_get arcs s.0) refl e
  where
    by : (o : Option ArcRow) → slice_get arcs s.0 ≡ o → option_map_or (λ row. takes row.kind s.1) o false ≡ true → s.0 < length arcs
    by None is h = absurd cc
    by (Some row) is h = slice_get_within arcs s.0 row is

sets_of : (arcs : List ArcRow) (d : Decision) → is_decision_within arcs d ≡ true → (i : ℕ) (s : ℕ × Allow) → slice_get d.sets i ≡ Some s → s.0 < length arcs
sets_of arcs d e i s at = set_arc arcs s (all_get (is_set_within arcs) d.sets i s (and_parts (is_id d.id) (list_all (is_set_within arcs) d.sets) e).1 at)

-- what a group within the limits keeps
record IsGroup (arcs : List ArcRow) (g : Group) : Type 0 where
  few : length g.decisions ≤ 1024
  decisions : list_all (is_decision_within arcs) g.decisions ≡ true

at_most : (m n : ℕ) → nat_le m n ≡ true → m ≤ n
at_most m n e = elim (leb_tells m n) [ inl h ↦ h.1 | inr h ↦ absurd (let f = h.0 in cc) ]

group_parts : (arcs : List ArcRow) (g : Group) → is_group_within arcs g ≡ true → IsGroup arcs g
group_parts arcs g e =
    let p = and_parts (is_id g.id && not (length g.decisions == 0) && nat_le (length g.decisions) 1024) (list_all (is_decision_within arcs) g.decisions) e in
    let q = and_parts (is_id g.id && not (length g.decisions == 0)) (nat_le (length g.decisions) 1024) p.0 in
    record { few = at_most (length g.decisions) 1024 q.1; decisions = p.1 }

pub groups_decide : (p : Network) → IsWithin p → GroupsDecideArcs (length p.arcs) p.groups
groups_decide p within = record {
  few = λ k g at. (group_parts p.arcs g ((within.groups k g at))).few;
  arcs = λ k g at j d there. sets_of p.arcs d (all_get (is_decision_within p.arcs) g.decisions j d (group_parts p.arcs g ((within.groups k g at))).decisions there);
}

-- fields that are written after others
joined_append : (word : List ℕ) (xs ys : List (List ℕ)) → joined word xs ++ spaced ys ≡ joined word (xs ++ ys)
joined_append word xs ys = append_assoc word (spaced xs) (spaced ys) ∙ ap (λ (l : List ℕ). word ++ l) (sym (flat_map-append (λ field. 32 ∷ field) xs ys))

-- an arc that was written piece by piece
pub arc_written : {A E : Type 0} (r : Result A E) (old words kind new : List ℕ) (a : ArcText) → words ≡ old ++ joined (kind_word a.kind) (a.id ∷ a.from ∷ a.to ∷ signed_numeral a.q_min ∷ signed_numeral a.q_max ∷ [])
    → kind ≡ words ++ spaced (map signed_numeral (kind_numbers a.kind)) → OnOk r (new ≡ kind ++ 10 ∷ []) → OnOk r (new ≡ old ++ arc_line a)
arc_written (Ok x) old words kind new a e1 e2 e3 =
    let fields : List (List ℕ) = a.id ∷ a.from ∷ a.to ∷ signed_numeral a.q_min ∷ signed_numeral a.q_max ∷ [] in
    let numbers : List (List ℕ) = map signed_numeral (kind_numbers a.kind) in
    let text : kind ≡ old ++ joined (kind_word a.kind) (arc_fields a) =
    e2 ∙ ap (λ (l : List ℕ). l ++ spaced numbers) e1 ∙ append_assoc old (joined (kind_word a.kind) fields) (spaced numbers) ∙ ap (λ (l : List ℕ). old ++ l) (joined_append (kind_word a.kind) fields numbers) in
    e3 ∙ ap (λ (l : List ℕ). l ++ 10 ∷ []) text ∙ append_assoc old (joined (kind_word a.kind) (arc_fields a)) (10 ∷ [])
arc_written (Err e) old words kind new a e1 e2 e3 = tt
