-- Bytes are read as a setting exactly where they stand for it, and a setting's text stands for it.
use Rattle.std.proofs.Common.{◌≡◌, ℕ, zero, suc, ◌<◌, List, [], ◌∷◌, length, map, true, Some, Result, Ok, Err, IfOk, ok_or, ℤ, pos, negsuc, IsUtf8, refl, sym, ap, ap₂, ◌∙◌, subst, arith}
use Rattle.std.specs.Prelude.{slice_get, int_le}
use Rattle.std.specs.List.{list_all}
use Rattle.std.specs.Str.{is_utf8}
use Rattle.std.proofs.lemmas.Bool.{and_parts, leb-true}
use Rattle.std.proofs.lemmas.Str.{IsUtf8-append, is_utf8-from_IsUtf8}
use Rattle.json.proofs.Printed.Utf8.{IsUtf8-are_ascii}
use Rattle.gas_model.specs.declared.rows.NodeRow.{NodeRow}
use Rattle.gas_model.specs.declared.rows.ArcRow.{ArcRow}
use Rattle.base_types.specs.declared.states.ArcState.{ArcState}
use Rattle.base_types.specs.declared.states.ArcState.TheVariants.{Opened, Shut, Active, Bypass}
use Rattle.gas_model.specs.declared.rows.Group.{Group}
use Rattle.gas_model.specs.declared.rows.Setting.{Setting}
use Rattle.base_types.specs.Numbers.{is_flow, is_square}
use Rattle.gas_model.specs.Rows.{Network, IsProblem}
use Rattle.gas_model.specs.Choices.{has_state}
use Rattle.gas_model.specs.Near.{SettingFits}
use Rattle.gas_model.specs.Within.{IsWithin}
use Rattle.serde_json.specs.Data.{Data}
use Rattle.serde_json.specs.Find.{of_integer}
use Rattle.serde_json.specs.Read.{read}
use Rattle.serde_json.specs.View.{items_of}
use Rattle.serde_json.specs.Written.{compact_text}
use Rattle.file_faults.specs.declared.setting.Key.TheVariants as key
use Rattle.file_faults.specs.declared.setting.SettingFault.{SettingFault}
use Rattle.file_faults.specs.declared.setting.SettingFault.TheVariants as fault
use Rattle.setting_text.specs.declared.entries.ArcEntry.{ArcEntry}
use Rattle.setting_text.specs.Writing.{list, decision_id, group_data, node_data, entries, arc_entries, setting_data, setting_text}
use Rattle.base_types.specs.StateWords.{state_word}
use Rattle.setting_text.specs.Reading.{◌>>=◌, arc_entry, decision_place, group_entry, node_entry, read_each, array_of, is_whole, entry_state, entry_flow, setting_in, value_of, setting_of, AreOfKinds, StandsFor, IsRead, Gives}
use Rattle.setting_text.proofs.Canonical.{IsCanonical, KeysAscend, canonical-read, ascend-read}
use Rattle.setting_text.proofs.Whole.{three, whole_is}
use Rattle.setting_text.proofs.Texts.{IsWhole, whole_unsigned, whole_negative, IsSimple, AreSimple, read_three, utf8_three}
use Rattle.setting_text.proofs.Ids.{utf8_arc, utf8_node, utf8_group, utf8_decision, place_back}
use Rattle.setting_text.proofs.Pairs.{Pairs, same_length, pair_at, pairs_from, all_seconds, all_at, entry_data, entries_of_arcs, joined, states_joined, flows_joined}
use Rattle.setting_text.proofs.EntryFacts.{bound, passed, given, small, arc_back, arc_only, group_back, group_only, node_back, node_only, each_back, each_only, array_back, array_only}
use Rattle.setting_text.proofs.Depths.{shallow}
use Rattle.setting_text.proofs.Feeds.{feed, read_feed}

-- what holds of a row and of what its entry says
abbrev Arc : ArcRow → ArcEntry → Type 0
Arc a e = (has_state a.kind e.state ≡ true) × (is_flow e.flow ≡ true)

abbrev Picked : Group → ℕ → Type 0
Picked g j = j < length g.decisions

abbrev Squared : NodeRow → ℤ → Type 0
Squared n z = is_square z ≡ true

-- a pick that is found by the id of its decision
abbrev Found : Group → ℕ → Type 0
Found g j = decision_place g (decision_id g j) ≡ Some j

-- ---- what is read stands so

-- the entry of a state
states_at : (es : List ArcEntry) (k : ℕ) (s : ArcState) → slice_get (map entry_state es) k ≡ Some s → (e : ArcEntry) × (slice_get es k ≡ Some e) × (e.state ≡ s)
states_at [] k s f = absurd cc
states_at (e ∷ es) zero s f = (e, refl, cc)
states_at (e ∷ es) (suc k) s f = states_at es k s f

-- the flows of entries are within their limits
flows_all : (arcs : List ArcRow) (es : List ArcEntry) → Pairs Arc arcs es → list_all is_flow (map entry_flow es) ≡ true
flows_all [] [] h = refl
flows_all [] (e ∷ es) h = absurd h
flows_all (a ∷ arcs) [] h = absurd h
flows_all (a ∷ arcs) (e ∷ es) h = rw (h.0.1, flows_all arcs es h.1) refl

-- a function on each item keeps the length
length_map : {A B : Type 0} (f : A → B) (xs : List A) → length (map f xs) ≡ length xs
length_map f [] = refl
length_map f (x ∷ xs) = ap suc (length_map f xs)

-- what is read of a value of serde_json
record StandsSo (p : Network) (d : Data) (s : Setting) : Type 0 where
  pub is : d ≡ setting_data p s
  pub fits : SettingFits p s
  pub kinds : AreOfKinds p.arcs s.states

-- three members that are the same
same_three : {a b g h n m : Data} → a ≡ b → g ≡ h → n ≡ m → three a g n ≡ three b h m
same_three e f k = λ i. three (e i) (f i) (k i)

module _ (p : Network) (es : List ArcEntry) (picks : List ℕ) (squares : List ℤ) (arcs : Pairs Arc p.arcs es) (groups : Pairs Picked p.groups picks) (nodes : Pairs Squared p.nodes squares) where
  abbrev read_so : Setting
  read_so = record { picks = picks; states = map entry_state es; flows = map entry_flow es; squares = squares }

  fits : SettingFits p read_so
  fits = record {
    picks = record { one_each = same_length Picked p.groups picks groups; within = λ k g j. pair_at Picked p.groups picks k g j groups };
    states = length_map entry_state es ∙ same_length Arc p.arcs es arcs;
    flows = length_map entry_flow es ∙ same_length Arc p.arcs es arcs;
    squares = same_length Squared p.nodes squares nodes;
    flows_within = flows_all p.arcs es arcs;
    squares_within = all_seconds Squared is_square p.nodes squares (λ n z h. h) nodes;
  }

  kinds : AreOfKinds p.arcs (map entry_state es)
  kinds = λ k a s f g. let e = states_at es k s g in ap (has_state a.kind) (sym e.2) ∙ (pair_at Arc p.arcs es k a e.0 arcs f e.1).0

  -- the three lists, by what their entries say
  stood : (a g n : Data) (ls gs ns : List Data) → a ≡ list ls → g ≡ list gs → n ≡ list ns
      → ls ≡ entries entry_data p.arcs es → gs ≡ entries group_data p.groups picks → ns ≡ entries node_data p.nodes squares → StandsSo p (three a g n) read_so
  stood a g n ls gs ns ea eg en fa fg fn = record {
    is = same_three (ea ∙ ap list (fa ∙ sym (entries_of_arcs p.arcs es))) (eg ∙ ap list fg) (en ∙ ap list fn);
    fits = fits;
    kinds = kinds;
  }

-- a setting that is read is the one that is answered
moved : (p : Network) (d : Data) (t s : Setting) → ◌≡◌ {A = Result Setting SettingFault} (Ok t) (Ok s) → StandsSo p d t → StandsSo p d s
moved p d t s e h = let same : t ≡ s = cc in subst (StandsSo p d) same h

-- what is read of the three lists
three_only : (p : Network) (a g n : Data) (s : Setting) → IsCanonical (three a g n) → setting_in p (three a g n) ≡ Ok s → StandsSo p (three a g n) s
unfolding setting_in
three_only p a g n s canonical r =
    let b1 = bound (array_of key.Arcs (length p.arcs) (Some a)) _ s r in
    let b2 = bound (read_each arc_entry p.arcs b1.0) _ s b1.2 in
    let b3 = bound (array_of key.Decisions (length p.groups) (Some g)) _ s b2.2 in
    let b4 = bound (read_each group_entry p.groups b3.0) _ s b3.2 in
    let b5 = bound (array_of key.Nodes (length p.nodes) (Some n)) _ s b4.2 in
    let b6 = bound (read_each node_entry p.nodes b5.0) _ s b5.2 in
    let a1 = array_only key.Arcs (length p.arcs) a b1.0 b1.1 in
    let a2 = array_only key.Decisions (length p.groups) g b3.0 b3.1 in
    let a3 = array_only key.Nodes (length p.nodes) n b5.0 b5.1 in
    let e1 = each_only arc_entry entry_data Arc arc_only p.arcs b1.0 b2.0 a1.1 (subst IsCanonical a1.0 canonical.0) b2.1 in
    let e2 = each_only group_entry group_data Picked group_only p.groups b3.0 b4.0 a2.1 (subst IsCanonical a2.0 canonical.1.0) b4.1 in
    let e3 = each_only node_entry node_data Squared node_only p.nodes b5.0 b6.0 a3.1 (subst IsCanonical a3.0 canonical.1.1.0) b6.1 in
    moved p (three a g n) (read_so p b2.0 b4.0 b6.0 e1.1 e2.1 e3.1) s b6.2
    (stood p b2.0 b4.0 b6.0 e1.1 e2.1 e3.1 a g n b1.0 b3.0 b5.0 a1.0 a2.0 a3.0 e1.0 e2.0 e3.0)

-- the value is an object with the three keys
is_whole_of : (p : Network) (d : Data) (s : Setting) → setting_in p d ≡ Ok s → is_whole d ≡ true
unfolding setting_in
is_whole_of p d s r = (passed (is_whole d) (fault.NotSetting key.Whole) _ s r).0

-- what is read of a value
setting_only : (p : Network) (d : Data) (s : Setting) → IsCanonical d → KeysAscend d → setting_in p d ≡ Ok s → StandsSo p d s
setting_only p d s canonical ascend r =
    let w = whole_is d ascend (is_whole_of p d s r) in
    let e : d ≡ three w.0 w.1 w.2 = w.3 in
    subst (λ x. StandsSo p x s) (sym e) (three_only p w.0 w.1 w.2 s (subst IsCanonical e canonical) (ap (setting_in p) (sym e) ∙ r))

-- what is read stands so
pub read_stands : (p : Network) (bytes : List ℕ) (s : Setting) → setting_of p bytes ≡ Ok s → StandsFor p bytes s
unfolding setting_of
read_stands p bytes s r =
    let b = bound (value_of bytes) (setting_in p) s r in
    let u = passed (is_utf8 bytes) fault.NotJson (ok_or (read bytes) fault.NotJson) b.0 b.1 in
    let value = given (read bytes) fault.NotJson b.0 u.1 in
    let so = setting_only p b.0 s (canonical-read bytes b.0 value) (ascend-read bytes b.0 value) b.2 in
    record { utf8 = u.0; value = value ∙ ap Some so.is; fits = so.fits; kinds = so.kinds }

-- ---- what stands so is read

-- the state and the flow of an entry
joined_at : (states : List ArcState) (flows : List ℤ) (k : ℕ) (e : ArcEntry) → slice_get (joined states flows) k ≡ Some e → (slice_get states k ≡ Some e.state) × (slice_get flows k ≡ Some e.flow)
joined_at [] flows k e f = absurd cc
joined_at (s ∷ states) [] k e f = absurd cc
joined_at (s ∷ states) (z ∷ flows) zero e f =
    let is : record { state = s; flow = z } ≡ e = cc in
    (ap (λ (x : ArcEntry). Some x.state) is, ap (λ (x : ArcEntry). Some x.flow) is)
joined_at (s ∷ states) (z ∷ flows) (suc k) e f = joined_at states flows k e f

-- one entry for each state
length_joined : (states : List ArcState) (flows : List ℤ) → length states ≡ length flows → length (joined states flows) ≡ length states
length_joined [] flows e = refl
length_joined (s ∷ states) [] e = absurd (omega arith)
length_joined (s ∷ states) (z ∷ flows) e = ap suc (length_joined states flows (omega arith))

-- one entry for each row
length_entries : {A B : Type 0} (P : A → B → Type 0) (say : A → B → Data) (xs : List A) (ys : List B) → Pairs P xs ys → length (entries say xs ys) ≡ length xs
length_entries P say [] [] h = refl
length_entries P say [] (y ∷ ys) h = absurd h
length_entries P say (x ∷ xs) [] h = absurd h
length_entries P say (x ∷ xs) (y ∷ ys) h = ap suc (length_entries P say xs ys h.1)

-- a step that succeeds
go_on : {A B : Type 0} {r : Result A SettingFault} {x : A} {q : Result B SettingFault} (f : A → Result B SettingFault) → r ≡ Ok x → f x ≡ q → (r >>= f) ≡ q
go_on f e h = ap (λ r. r >>= f) e ∙ h

module _ (p : Network) (s : Setting) (fit : SettingFits p s) (kind : AreOfKinds p.arcs s.states) where
  abbrev es : List ArcEntry
  es = joined s.states s.flows

  one_flow : length s.states ≡ length s.flows
  one_flow = fit.states ∙ sym fit.flows

  arc_pairs : Pairs Arc p.arcs es
  arc_pairs = pairs_from Arc p.arcs es (length_joined s.states s.flows one_flow ∙ fit.states) (λ k a e f g.
      let at = joined_at s.states s.flows k e g in
      (kind k a e.state f at.0, all_at is_flow s.flows k e.flow fit.flows_within at.1))

  arcs_are : arc_entries p.arcs s.states s.flows ≡ entries entry_data p.arcs es
  arcs_are = sym (ap₂ (λ x y. arc_entries p.arcs x y) (states_joined s.states s.flows one_flow) (flows_joined s.states s.flows one_flow)) ∙ entries_of_arcs p.arcs es

  node_pairs : Pairs Squared p.nodes s.squares
  node_pairs = pairs_from Squared p.nodes s.squares fit.squares (λ k n z f g. all_at is_square s.squares k z fit.squares_within g)

  group_pairs : IsProblem p → Pairs Found p.groups s.picks
  group_pairs problem = pairs_from Found p.groups s.picks fit.picks.one_each (λ k g j f h. place_back p problem k g j f (fit.picks.within k g j f h))

  abbrev again : Setting
  again = record { picks = s.picks; states = map entry_state es; flows = map entry_flow es; squares = s.squares }

  same : ◌≡◌ {A = Result Setting SettingFault} (Ok again) (Ok s)
  same = ap₂ (λ (x : List ArcState) (y : List ℤ). Ok (record s { states = x; flows = y })) (states_joined s.states s.flows one_flow) (flows_joined s.states s.flows one_flow)

  pub setting_back : IsProblem p → setting_in p (setting_data p s) ≡ Ok s
  unfolding setting_in
  setting_back problem =
      let a1 = array_back key.Arcs (length p.arcs) (entries entry_data p.arcs es) (length_entries Arc entry_data p.arcs es arc_pairs) in
      let e1 = each_back arc_entry entry_data Arc (λ a e h. arc_back a e h.0 h.1) p.arcs es arc_pairs in
      let a2 = array_back key.Decisions (length p.groups) (entries group_data p.groups s.picks) (length_entries Found group_data p.groups s.picks (group_pairs problem)) in
      let e2 = each_back group_entry group_data Found group_back p.groups s.picks (group_pairs problem) in
      let a3 = array_back key.Nodes (length p.nodes) (entries node_data p.nodes s.squares) (length_entries Squared node_data p.nodes s.squares node_pairs) in
      let e3 = each_back node_entry node_data Squared node_back p.nodes s.squares node_pairs in
      go_on _ (ap (λ ds. array_of key.Arcs (length p.arcs) (Some (list ds))) arcs_are ∙ a1) (go_on _ e1 (go_on _ a2 (go_on _ e2 (go_on _ a3 (go_on _ e3 same)))))

  -- ---- the text

  whole_flow : (z : ℤ) → is_flow z ≡ true → IsWhole (of_integer z)
  whole_flow (pos n) h = whole_unsigned n (omega (arith, small (negsuc 999999999999) 1000000000000 n h))
  whole_flow (negsuc n) h = whole_negative n (omega (arith, leb-true n 999999999999 (and_parts (int_le (negsuc 999999999999) (negsuc n)) (int_le (negsuc n) (pos 1000000000000)) h).0))

  whole_square : (z : ℤ) → is_square z ≡ true → IsWhole (of_integer z)
  whole_square (pos n) h = whole_unsigned n (omega (arith, small (pos 0) 10000000000000000 n h))
  whole_square (negsuc n) h = absurd cc

  utf8_word : (state : ArcState) → IsUtf8 (state_word state)
  utf8_word Opened = IsUtf8-are_ascii _ refl
  utf8_word Shut = IsUtf8-are_ascii _ refl
  utf8_word Active = IsUtf8-are_ascii _ refl
  utf8_word Bypass = IsUtf8-are_ascii _ refl

  simple_entries : {A B : Type 0} (P : A → B → Type 0) (say : A → B → Data) → ((x : A) (y : B) → P x y → IsSimple (say x y)) → (xs : List A) (ys : List B) → Pairs P xs ys → AreSimple (items_of (entries say xs ys))
  simple_entries P say simple [] [] h = tt
  simple_entries P say simple [] (y ∷ ys) h = absurd h
  simple_entries P say simple (x ∷ xs) [] h = absurd h
  simple_entries P say simple (x ∷ xs) (y ∷ ys) h = (simple x y h.0, simple_entries P say simple xs ys h.1)

  abbrev arcs_list : Data
  arcs_list = list (arc_entries p.arcs s.states s.flows)

  abbrev groups_list : Data
  groups_list = list (entries group_data p.groups s.picks)

  abbrev nodes_list : Data
  nodes_list = list (entries node_data p.nodes s.squares)

  module _ (w : IsWithin p) where
    simple_arcs : IsSimple arcs_list
    simple_arcs = subst (λ ds. AreSimple (items_of ds)) (sym arcs_are)
        (simple_entries (λ a e. IsUtf8 a.id × IsWhole (of_integer e.flow)) entry_data (λ a e h. (h.0, (utf8_word e.state, (h.1, tt)))) p.arcs es
        (pairs_from (λ a e. IsUtf8 a.id × IsWhole (of_integer e.flow)) p.arcs es (same_length Arc p.arcs es arc_pairs) (λ k a e f g. (utf8_arc p w k a f, whole_flow e.flow (pair_at Arc p.arcs es k a e arc_pairs f g).1))))

    simple_groups : IsSimple groups_list
    simple_groups = simple_entries (λ g j. IsUtf8 g.id × IsUtf8 (decision_id g j)) group_data (λ g j h. (h.0, (h.1, tt))) p.groups s.picks
        (pairs_from (λ g j. IsUtf8 g.id × IsUtf8 (decision_id g j)) p.groups s.picks fit.picks.one_each (λ k g j f h. (utf8_group p w k g f, utf8_decision p w k g j f)))

    simple_nodes : IsSimple nodes_list
    simple_nodes = simple_entries (λ n z. IsUtf8 n.id × IsWhole (of_integer z)) node_data (λ n z h. (h.0, (h.1, tt))) p.nodes s.squares
        (pairs_from (λ n z. IsUtf8 n.id × IsWhole (of_integer z)) p.nodes s.squares fit.squares (λ k n z f g. (utf8_node p w k n f, whole_square z (pair_at Squared p.nodes s.squares k n z node_pairs f g))))

    text_read : read (setting_text p s) ≡ Some (setting_data p s)
    text_read = read_feed (compact_text (setting_data p s)) ∙ read_three arcs_list groups_list nodes_list simple_arcs simple_groups simple_nodes (shallow p s)

    text_utf8 : is_utf8 (setting_text p s) ≡ true
    text_utf8 = is_utf8-from_IsUtf8 (setting_text p s) (IsUtf8-append _ feed (utf8_three arcs_list groups_list nodes_list simple_arcs simple_groups simple_nodes) (IsUtf8-are_ascii feed refl))

    pub text_stands : StandsFor p (setting_text p s) s
    text_stands = record { utf8 = text_utf8; value = text_read; fits = fit; kinds = kind }

-- what stands so is read
pub stands_read : (p : Network) (bytes : List ℕ) (s : Setting) → IsProblem p → StandsFor p bytes s → setting_of p bytes ≡ Ok s
unfolding setting_of
stands_read p bytes s problem stands = rw (stands.utf8, stands.value) (setting_back p s stands.fits stands.kinds problem)

-- the text of a setting is read back
pub read_back : (p : Network) (s : Setting) → IsProblem p → IsWithin p → SettingFits p s → AreOfKinds p.arcs s.states → setting_of p (setting_text p s) ≡ Ok s
read_back p s problem within fit kind = stands_read p (setting_text p s) s problem (text_stands p s fit kind within)

-- an answer of what the bytes stand for is this setting
pub answered : (p : Network) (bytes : List ℕ) (s : Setting) (answer : Result Setting SettingFault) → IsProblem p → StandsFor p bytes s → Gives (λ x. x) answer (setting_of p bytes) → IsRead s answer
answered p bytes s answer problem stands h = by answer (subst (Gives (λ x. x) answer) (stands_read p bytes s problem stands) h)
  where
    by : (answer : Result Setting SettingFault) → Gives (λ x. x) answer (Ok s) → IsRead s answer
    by (Ok x) h = cc
    by (Err fault.NoMemory) h = refl
    by (Err fault.NotJson) h = absurd cc
    by (Err (fault.NotSetting k)) h = absurd cc
    by (Err (fault.WideNumber k)) h = absurd cc

-- what is answered stands so
pub stands_if_ok : (p : Network) (bytes : List ℕ) (answer : Result Setting SettingFault) → Gives (λ x. x) answer (setting_of p bytes) → IfOk answer (λ s. StandsFor p bytes s)
stands_if_ok p bytes (Ok s) h = read_stands p bytes s h
stands_if_ok p bytes (Err e) h = tt

-- an answer from the value that the bytes are
pub from_value : (p : Network) (bytes : List ℕ) (d : Data) (answer : Result Setting SettingFault) → value_of bytes ≡ Ok d → Gives (λ x. x) answer (setting_in p d) → Gives (λ x. x) answer (setting_of p bytes)
unfolding setting_of
from_value p bytes d answer e h = subst (λ r. Gives (λ x. x) answer (r >>= setting_in p)) (sym e) h
