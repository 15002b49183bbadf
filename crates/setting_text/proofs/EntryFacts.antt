-- An entry is read as what it says, and only a row's own entry is read.
use Rattle.std.proofs.Common.{◌≡◌, ℕ, suc, ◌^◌, ◌<◌, ◌≤◌, not, List, [], ◌∷◌, length, position, Bool, true, false, cond, Option, Some, None, option_and_then, Result, Ok, Err, ok_or, ℤ, pos, negsuc, bytes_eq, refl, sym, ap, ◌∙◌, subst, arith, lit<}
use Rattle.std.specs.Prelude.{◌==◌, int_le, nat_lt, slice_get}
use Rattle.std.specs.Option.{option_map_or}
use Rattle.std.proofs.lemmas.Bool.{and_parts, false≢true, eqb-true, leb-true, lt-ltb, ltb-true, eq-eqb}
use Rattle.std.proofs.lemmas.List.Quantifiers.{position-Some}
use Rattle.std.proofs.lemmas.Option.{cond_some, get_or_from_slice_get}
use Rattle.std.proofs.lemmas.Slice.Eq.{bytes_eq-Decides}
use Rattle.gas_model.specs.declared.rows.NodeRow.{NodeRow}
use Rattle.gas_model.specs.declared.rows.ArcKind.{ArcKind}
use Rattle.gas_model.specs.declared.rows.ArcRow.{ArcRow}
use Rattle.base_types.specs.declared.states.ArcState.{ArcState}
use Rattle.gas_model.specs.declared.rows.Decision.{Decision}
use Rattle.gas_model.specs.declared.rows.Group.{Group}
use Rattle.base_types.specs.Numbers.{between, is_flow, is_square}
use Rattle.gas_model.specs.Choices.{has_state}
use Rattle.serde_json.specs.Data.{unsigned, negative, float, Data, null, boolean, number, string, array, object, Items, no_items, item}
use Rattle.serde_json.specs.Find.{at, of_integer}
use Rattle.serde_json.specs.View.{items_of}
use Rattle.file_faults.specs.declared.setting.Key.{Key}
use Rattle.file_faults.specs.declared.setting.Key.TheVariants as key
use Rattle.file_faults.specs.declared.setting.SettingFault.{SettingFault}
use Rattle.file_faults.specs.declared.setting.SettingFault.TheVariants as fault
use Rattle.setting_text.specs.declared.entries.ArcEntry.{ArcEntry}
use Rattle.setting_text.specs.Writing.{list, decision_id, group_data, node_data, entries}
use Rattle.base_types.specs.StateWords.{state_word, state_named}
use Rattle.base_types.proofs.StateWords.{word_names, named_only}
use Rattle.setting_text.specs.Reading.{◌>>=◌, listed, text_at, is_text, is_entry, number_at, of_kind, state_at, arc_entry, decision_place, group_entry, node_entry, read_each, array_of}
use Rattle.setting_text.proofs.Canonical.{IsCanonical, ItemsAreCanonical}
use Rattle.setting_text.proofs.Lists.{listed_items}
use Rattle.setting_text.proofs.Ids.{same_bytes, is_there}
use Rattle.setting_text.proofs.Pairs.{Pairs, entry_data}

-- ---- steps that succeed

-- a step that another follows
pub bound : {A B : Type 0} (r : Result A SettingFault) (f : A → Result B SettingFault) (y : B) → (r >>= f) ≡ Ok y → (x : A) × (r ≡ Ok x) × (f x ≡ Ok y)
bound (Ok x) f y e = (x, refl, e)
bound (Err g) f y e = absurd cc

-- a test that another step follows
pub passed : {B : Type 0} (b : Bool) (g : SettingFault) (r : Result B SettingFault) (y : B) → cond (not b) (Err g) r ≡ Ok y → (b ≡ true) × (r ≡ Ok y)
passed true g r y e = (refl, e)
passed false g r y e = absurd cc

-- a value that is there
pub given : {A : Type 0} (o : Option A) (g : SettingFault) (y : A) → ok_or o g ≡ Ok y → o ≡ Some y
given None g y e = absurd cc
given (Some x) g y e = cc

-- ---- arrays

-- items as a list, and as items again
items_listed : (ds : Items) → items_of (listed ds) ≡ ds
items_listed no_items = refl
items_listed (item d ds) = ap (item d) (items_listed ds)

-- a value that is a text
same_text : (id : List ℕ) (x : Data) → is_text id (Some x) ≡ true → x ≡ string id
same_text id null e = absurd cc
same_text id (boolean b) e = absurd cc
same_text id (number n) e = absurd cc
same_text id (string s) e = ap string (sym ((bytes_eq-Decides id s).0 e))
same_text id (array ds) e = absurd cc
same_text id (object ms) e = absurd cc

-- an entry is a list that begins with its id
begins : (n : ℕ) (id : List ℕ) (d : Data) → is_entry n id d ≡ true → (ds : List Data) × (d ≡ list (string id ∷ ds)) × (suc (length ds) ≡ n)
begins n id null e = absurd cc
begins n id (boolean b) e = absurd cc
begins n id (number m) e = absurd cc
begins n id (string s) e = absurd cc
begins n id (array no_items) e = absurd (false≢true (and_parts (0 == n) false e).1)
begins n id (array (item x ds)) e =
    let p = and_parts (suc (length (listed ds)) == n) (is_text id (Some x)) e in
    (listed ds, rw (same_text id x p.1, items_listed ds) refl, eqb-true (suc (length (listed ds))) n p.0)
begins n id (object ms) e = absurd cc

-- an entry of two
two_form : (id : List ℕ) (d : Data) → is_entry 2 id d ≡ true → (y : Data) × (d ≡ list (string id ∷ y ∷ []))
two_form id d e = by (begins 2 id d e)
  where
    by : (ds : List Data) × (d ≡ list (string id ∷ ds)) × (suc (length ds) ≡ 2) → (y : Data) × (d ≡ list (string id ∷ y ∷ []))
    by ([], is, len) = absurd (omega arith)
    by (y ∷ [], is, len) = (y, is)
    by (y ∷ z ∷ ds, is, len) = absurd (omega arith)

-- an entry of three
three_form : (id : List ℕ) (d : Data) → is_entry 3 id d ≡ true → (y z : Data) × (d ≡ list (string id ∷ y ∷ z ∷ []))
three_form id d e = by (begins 3 id d e)
  where
    by : (ds : List Data) × (d ≡ list (string id ∷ ds)) × (suc (length ds) ≡ 3) → (y z : Data) × (d ≡ list (string id ∷ y ∷ z ∷ []))
    by ([], is, len) = absurd (omega arith)
    by (y ∷ [], is, len) = absurd (omega arith)
    by (y ∷ z ∷ [], is, len) = (y, z, is)
    by (y ∷ z ∷ w ∷ ds, is, len) = absurd (omega arith)

-- ---- states

-- the word of a state of the kind is read
state_back : (kind : ArcKind) (s : ArcState) → has_state kind s ≡ true → state_at kind (Some (string (state_word s))) ≡ Ok s
state_back kind s h = rw (word_names s, h) refl

-- only the word of a state of the kind is read
state_only : (kind : ArcKind) (y : Data) (s : ArcState) → state_at kind (Some y) ≡ Ok s → (y ≡ string (state_word s)) × (has_state kind s ≡ true)
state_only kind null s e = absurd cc
state_only kind (boolean b) s e = absurd cc
state_only kind (number n) s e = absurd cc
state_only kind (string w) s e = by (state_named w) refl (given (option_and_then (of_kind kind) (state_named w)) (fault.NotSetting key.Arcs) s e)
  where
    by : (o : Option ArcState) → state_named w ≡ o → option_and_then (of_kind kind) o ≡ Some s → (string w ≡ string (state_word s)) × (has_state kind s ≡ true)
    by None is f = absurd cc
    by (Some t) is f =
        let p = cond_some (has_state kind t) t s f in
        (ap string (named_only w s (is ∙ ap Some p.1)), ap (has_state kind) (sym p.1) ∙ p.0)
state_only kind (array ds) s e = absurd cc
state_only kind (object ms) s e = absurd cc

-- ---- numbers

-- a number below its limit
pub small : (low : ℤ) (h : ℕ) (n : ℕ) → between low (pos n) (pos h) ≡ true → n ≤ h
small low h n e = leb-true n h (and_parts (int_le low (pos n)) (int_le (pos n) (pos h)) e).1

-- a number within limits is read
number_back : (k : Key) (low : ℤ) (h : ℕ) (z : ℤ) → h < 2 ^ 63 → between low z (pos h) ≡ true → number_at k (λ x. between low x (pos h)) (Some (number (of_integer z))) ≡ Ok z
number_back k low h (pos n) fits e = let below : n < 2 ^ 63 = omega (arith, small low h n e) in rw (lt-ltb n (2 ^ 63) below, e) refl
number_back k low h (negsuc n) fits e = rw e refl

-- a number that is answered is the one that was read
whole_only : (k : Key) (low high v : ℤ) (z : ℤ) → cond (between low z high) (Ok z) (Err (fault.WideNumber k)) ≡ Ok v → (z ≡ v) × (between low v high ≡ true)
whole_only k low high v z e = by (between low z high) refl e
  where
    by : (b : Bool) → between low z high ≡ b → cond b (Ok z) (Err (fault.WideNumber k)) ≡ Ok v → (z ≡ v) × (between low v high ≡ true)
    by true is f = let same : z ≡ v = cc in (same, ap (λ x. between low x high) (sym same) ∙ is)
    by false is f = absurd cc

-- only a whole number within limits is read
number_only : (k : Key) (low high : ℤ) (z : Data) (v : ℤ) → IsCanonical z → number_at k (λ x. between low x high) (Some z) ≡ Ok v → (z ≡ number (of_integer v)) × (between low v high ≡ true)
number_only k low high null v h e = absurd cc
number_only k low high (boolean b) v h e = absurd cc
number_only k low high (number (unsigned n)) v h e = by (nat_lt n (2 ^ 63)) e
  where
    by : (b : Bool) → option_map_or (λ z. cond (between low z high) (Ok z) (Err (fault.WideNumber k))) (cond b (Some (pos n)) None) (Err (fault.WideNumber k)) ≡ Ok v → (number (unsigned n) ≡ number (of_integer v)) × (between low v high ≡ true)
    by true f = let p = whole_only k low high v (pos n) f in (ap (λ x. number (of_integer x)) p.0, p.1)
    by false f = absurd cc
number_only k low high (number (negative (pos n))) v h e = absurd (omega (arith, ltb-true n 0 h))
number_only k low high (number (negative (negsuc n))) v h e = let p = whole_only k low high v (negsuc n) e in (ap (λ x. number (of_integer x)) p.0, p.1)
number_only k low high (number (float x)) v h e = absurd cc
number_only k low high (string s) v h e = absurd cc
number_only k low high (array ds) v h e = absurd cc
number_only k low high (object ms) v h e = absurd cc

-- ---- arcs

-- an arc's entry is read as what it says
pub arc_back : (a : ArcRow) (e : ArcEntry) → has_state a.kind e.state ≡ true → is_flow e.flow ≡ true → arc_entry a (entry_data a e) ≡ Ok e
unfolding arc_entry
arc_back a e h w = rw (same_bytes a.id, state_back a.kind e.state h, number_back key.Arcs (negsuc 999999999999) 1000000000000 e.flow (lit< tt) w) refl

-- only an arc's own entry is read
pub arc_only : (a : ArcRow) (d : Data) (e : ArcEntry) → IsCanonical d → arc_entry a d ≡ Ok e → (d ≡ entry_data a e) × ((has_state a.kind e.state ≡ true) × (is_flow e.flow ≡ true))
unfolding arc_entry
arc_only a d e h r =
    let p = passed (is_entry 3 a.id d) (fault.NotSetting key.Arcs) _ e r in
    let form = three_form a.id d p.0 in
    let s = bound (state_at a.kind (at 1 d)) _ e p.1 in
    let q = bound (number_at key.Arcs is_flow (at 2 d)) _ e s.2 in
    let state = state_only a.kind form.0 s.0 (ap (λ x. state_at a.kind (at 1 x)) (sym form.2) ∙ s.1) in
    let canonical = subst IsCanonical form.2 h in
    let flow = number_only key.Arcs (negsuc 999999999999) (pos 1000000000000) form.1 q.0 canonical.1.1.0 (ap (λ x. number_at key.Arcs is_flow (at 2 x)) (sym form.2) ∙ q.1) in
    let is : record { state = s.0; flow = q.0 } ≡ e = cc in
    subst (λ (x : ArcEntry). (d ≡ entry_data a x) × ((has_state a.kind x.state ≡ true) × (is_flow x.flow ≡ true))) is
    (form.2 ∙ rw (state.0, flow.0) refl, (state.1, flow.1))

-- ---- groups

-- a group's entry is read as what it says
pub group_back : (g : Group) (j : ℕ) → decision_place g (decision_id g j) ≡ Some j → group_entry g (group_data g j) ≡ Ok j
unfolding group_entry
group_back g j e = rw (same_bytes g.id, e) refl

-- the decision at the place that is found has the id
id_found : (g : Group) (w : List ℕ) (j : ℕ) → decision_place g w ≡ Some j → (w ≡ decision_id g j) × (j < length g.decisions)
id_found g w j e = by (slice_get g.decisions j) refl
  where
    by : (o : Option Decision) → slice_get g.decisions j ≡ o → (w ≡ option_map_or (λ d. d.id) o []) × (j < length g.decisions)
    by None f = absurd (nowhere g.decisions e f)
      where
        nowhere : (ds : List Decision) → position (λ x. bytes_eq w x.id) ds ≡ Some j → slice_get ds j ≡ None → ⊥
        nowhere [] e f = cc
        nowhere (d ∷ ds) e f = is_there (d ∷ ds) j (position-Some (λ x. bytes_eq w x.id) (d ∷ ds) j d e).0 f
    by (Some d) f =
        let p = position-Some (λ x. bytes_eq w x.id) g.decisions j d e in
        ((bytes_eq-Decides w d.id).0 (ap (λ (x : Decision). bytes_eq w x.id) (sym (get_or_from_slice_get g.decisions j d d f)) ∙ p.1), p.0)

-- only a group's own entry is read
pub group_only : (g : Group) (d : Data) (j : ℕ) → IsCanonical d → group_entry g d ≡ Ok j → (d ≡ group_data g j) × (j < length g.decisions)
unfolding group_entry
group_only g d j h r =
    let p = passed (is_entry 2 g.id d) (fault.NotSetting key.Decisions) _ j r in
    let form = two_form g.id d p.0 in
    by form.0 form.1 (given (option_and_then (decision_place g) (text_at (Some form.0))) (fault.NotSetting key.Decisions) j (ap (λ x. ok_or (option_and_then (decision_place g) (text_at (at 1 x))) (fault.NotSetting key.Decisions)) (sym form.1) ∙ p.1))
  where
    by : (y : Data) → d ≡ list (string g.id ∷ y ∷ []) → option_and_then (decision_place g) (text_at (Some y)) ≡ Some j → (d ≡ group_data g j) × (j < length g.decisions)
    by null is e = absurd cc
    by (boolean b) is e = absurd cc
    by (number n) is e = absurd cc
    by (string w) is e = let q = id_found g w j e in (is ∙ ap (λ x. list (string g.id ∷ string x ∷ [])) q.0, q.1)
    by (array ds) is e = absurd cc
    by (object ms) is e = absurd cc

-- ---- nodes

-- a node's entry is read as what it says
pub node_back : (n : NodeRow) (z : ℤ) → is_square z ≡ true → node_entry n (node_data n z) ≡ Ok z
unfolding node_entry
node_back n z w = rw (same_bytes n.id, number_back key.Nodes (pos 0) 10000000000000000 z (lit< tt) w) refl

-- only a node's own entry is read
pub node_only : (n : NodeRow) (d : Data) (z : ℤ) → IsCanonical d → node_entry n d ≡ Ok z → (d ≡ node_data n z) × (is_square z ≡ true)
unfolding node_entry
node_only n d z h r =
    let p = passed (is_entry 2 n.id d) (fault.NotSetting key.Nodes) _ z r in
    let form = two_form n.id d p.0 in
    let canonical = subst IsCanonical form.1 h in
    let q = number_only key.Nodes (pos 0) (pos 10000000000000000) form.0 z canonical.1.0 (ap (λ x. number_at key.Nodes is_square (at 1 x)) (sym form.1) ∙ p.1) in
    (form.1 ∙ ap (λ x. list (string n.id ∷ x ∷ [])) q.0, q.1)

-- ---- lists

module _ {A B : Type 0} (f : A → Data → Result B SettingFault) (say : A → B → Data) (P : A → B → Type 0) where
  -- the entries of the rows are read
  pub each_back : ((x : A) (y : B) → P x y → f x (say x y) ≡ Ok y) → (xs : List A) (ys : List B) → Pairs P xs ys → read_each f xs (entries say xs ys) ≡ Ok ys
  unfolding read_each
  each_back back [] [] h = refl
  each_back back [] (y ∷ ys) h = absurd h
  each_back back (x ∷ xs) [] h = absurd h
  each_back back (x ∷ xs) (y ∷ ys) h = rw (back x y h.0, each_back back xs ys h.1) refl

  -- only the entries of the rows are read
  pub each_only : ((x : A) (d : Data) (y : B) → IsCanonical d → f x d ≡ Ok y → (d ≡ say x y) × P x y)
      → (xs : List A) (ds : List Data) (ys : List B) → length ds ≡ length xs → ItemsAreCanonical (items_of ds) → read_each f xs ds ≡ Ok ys → (ds ≡ entries say xs ys) × Pairs P xs ys
  unfolding read_each
  each_only only [] [] [] len h e = (refl, tt)
  each_only only [] [] (y ∷ ys) len h e = absurd cc
  each_only only [] (d ∷ ds) ys len h e = absurd (omega arith)
  each_only only (x ∷ xs) [] ys len h e = absurd (omega arith)
  each_only only (x ∷ xs) (d ∷ ds) ys len h e =
      let first = bound (f x d) _ ys e in
      let rest = bound (read_each f xs ds) _ ys first.2 in
      let here = only x d first.0 h.0 first.1 in
      let there = each_only only xs ds rest.0 (omega arith) h.1 rest.1 in
      let is : first.0 ∷ rest.0 ≡ ys = cc in
      subst (λ (l : List B). (d ∷ ds ≡ entries say (x ∷ xs) l) × Pairs P (x ∷ xs) l) is
      (ap (λ l. d ∷ l) there.0 ∙ ap (λ y. y ∷ entries say xs rest.0) here.0, (here.1, there.1))

-- what the array under a key is
pub array_back : (k : Key) (n : ℕ) (ds : List Data) → length ds ≡ n → array_of k n (Some (list ds)) ≡ Ok ds
array_back k n ds e = rw (listed_items ds, e, eq-eqb n n refl) refl

-- only an array of so many is read
pub array_only : (k : Key) (n : ℕ) (x : Data) (ds : List Data) → array_of k n (Some x) ≡ Ok ds → (x ≡ list ds) × (length ds ≡ n)
array_only k n null ds e = absurd cc
array_only k n (boolean b) ds e = absurd cc
array_only k n (number m) ds e = absurd cc
array_only k n (string s) ds e = absurd cc
array_only k n (array xs) ds e =
    let p = cond_some (length (listed xs) == n) (listed xs) ds (given (cond (length (listed xs) == n) (Some (listed xs)) None) (fault.NotSetting k) ds e) in
    (ap array (sym (items_listed xs)) ∙ ap list p.1, ap length (sym p.1) ∙ eqb-true (length (listed xs)) n p.0)
array_only k n (object ms) ds e = absurd cc
