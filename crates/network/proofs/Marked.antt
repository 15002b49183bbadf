-- Ids that are marked, one at a time.
use Rattle.std.proofs.Common.{◌≡◌, ℕ, Bool, cond, not, ◌||◌, ◌&&◌, List, [], ◌∷◌, ◌++◌, Ok, Err, refl, sym, ap, ◌∙◌, arith}
use Rattle.std.specs.Prelude.{Result, IfOk, OnOk}
use Rattle.std.specs.Str.{bytes_eq}
use Rattle.std.proofs.lemmas.List.Folds.{list_any-append}
use Rattle.std.proofs.lemmas.List.{append-nil}
use Rattle.base_types.specs.declared.states.Allow.TheVariants.{Shut}
use Rattle.gas_model.specs.declared.rows.SetText.{SetText}
use Rattle.gas_model.proofs.Decided.{noted_turn}
use Rattle.base_types.specs.Names.{is_among}
use Rattle.res_table.specs.declared.rows.ResWord.{ResWord}
use Rattle.res_table.specs.declared.rows.ResWord.TheVariants.{Pipe, Resistor, Station}
use Rattle.network.specs.declared.marks.Marks.{Marks}
use Rattle.network.specs.Table.{is_word}
use Rattle.network.specs.Marks.{is_marked}
use Rattle.network.proofs.Kept.{or_false}

-- the ids after one was added where it wasn't there
pub added : (old next : List (List ℕ)) (name : List ℕ) (fresh : Bool) → fresh ≡ not (is_among old name) → next ≡ cond fresh (old ++ name ∷ []) old
    → (q : List ℕ) → is_among next q ≡ (is_among old q || bytes_eq q name)
added old next name fresh e n q =
    let s : SetText = record { arc = name; allow = Shut } in
    noted_turn old old next (s ∷ []) 0 s fresh (omega arith) refl (λ id. ap (λ l. is_among l id) (sym (append-nil old))) e n q
    ∙ list_any-append (bytes_eq q) old (name ∷ []) ∙ ap (λ b. is_among old q || b) (or_false (bytes_eq q name))

-- one more id under a word
abbrev pub IsMarkedWith : Marks → Marks → ResWord → List ℕ → Type 0
IsMarkedWith old next word id = (w : ResWord) (q : List ℕ) → is_marked next w q ≡ (is_marked old w q || (is_word w word && bytes_eq q id))

pub on_pipes : (m : Marks) (next : List (List ℕ)) (id : List ℕ) → ((q : List ℕ) → is_among next q ≡ (is_among m.pipes q || bytes_eq q id))
    → IsMarkedWith m (record { pipes = next; resistors = m.resistors; stations = m.stations }) Pipe id
on_pipes m next id e Pipe q = e q
on_pipes m next id e Resistor q = sym (or_false (is_among m.resistors q))
on_pipes m next id e Station q = sym (or_false (is_among m.stations q))

pub on_resistors : (m : Marks) (next : List (List ℕ)) (id : List ℕ) → ((q : List ℕ) → is_among next q ≡ (is_among m.resistors q || bytes_eq q id))
    → IsMarkedWith m (record { pipes = m.pipes; resistors = next; stations = m.stations }) Resistor id
on_resistors m next id e Pipe q = sym (or_false (is_among m.pipes q))
on_resistors m next id e Resistor q = e q
on_resistors m next id e Station q = sym (or_false (is_among m.stations q))

pub on_stations : (m : Marks) (next : List (List ℕ)) (id : List ℕ) → ((q : List ℕ) → is_among next q ≡ (is_among m.stations q || bytes_eq q id))
    → IsMarkedWith m (record { pipes = m.pipes; resistors = m.resistors; stations = next }) Station id
on_stations m next id e Pipe q = sym (or_false (is_among m.pipes q))
on_stations m next id e Resistor q = sym (or_false (is_among m.resistors q))
on_stations m next id e Station q = e q

-- what two facts of an answer give
pub when_ok : {E : Type 0} (r : Result Bool E) (F G : Bool → Type 0) (P : Type 0) → IfOk r F → IfOk r G → ((b : Bool) → F b → G b → P) → OnOk r P
when_ok (Ok b) F G P f g h = h b f g
when_ok (Err e) F G P f g h = tt
