-- The rows of a made problem have no offence.
use Rattle.std.proofs.Common.{◌≡◌, ◌≢◌, ℕ, zero, suc, ◌+◌, ◌-◌, ◌<◌, ◌≤◌, ◌^◌, ◌==◌, ◌&&◌, ◌||◌, Bool, true, false, cond, not, leb, ltb, List, [], ◌∷◌, ◌++◌, length, map, Option, Some, None, Ok, Err, is_none, refl, sym, ap, ◌∙◌, arith, zero-add, ℤ, pos, negsuc}
use Rattle.std.specs.Prelude.{position, Result, is_ok, ◌-ℤ◌, int_le, codes}
use Rattle.std.specs.List.{list_any, position_or_len, range_with_len}
use Rattle.std.specs.Option.{option_or}
use Rattle.std.specs.Str.{bytes_eq}
use Rattle.std.proofs.lemmas.Bool.{and_parts, le-leb, leb-true, lt-ltb}
use Rattle.std.proofs.lemmas.Int.{ints}
use Rattle.std.proofs.lemmas.Str.Ascii.{IsAscii-cons, IsAscii-nil}
use Rattle.std.proofs.lemmas.Bool.Decides.{nat_tests}
use Rattle.std.proofs.lemmas.List.FromFn.{map-range_with_len_more, length-map-range_with_len}
use Rattle.gas_model.specs.declared.rows.ArcKind.{ArcKind}
use Rattle.gas_model.specs.declared.rows.ArcKind.TheVariants.{Pipe, Valve}
use Rattle.gas_model.specs.declared.rows.ModelFault.{ModelFault}
use Rattle.gas_model.specs.declared.rows.ModelFault.TheVariants as fault
use Rattle.base_types.specs.Numbers.{is_flow}
use Rattle.gas_model.specs.Limits.{is_kind_within}
use Rattle.gas_model.specs.Rows.{first_offence, node_id, text_id, node_ids, text_ids, node_fault, nodes_fault, arc_fault, arcs_fault, groups_fault, count_fault, group_count_fault, rows_fault, network_of, answer, problem_of, Fails}
use Rattle.base_types.specs.Names.{place}
use Rattle.make_net.specs.Made.{node_name, arc_name, supply_of, made_node, made_kind, made_arc, made_nodes, made_arcs, made_group, made_groups, made_rows}
use Rattle.make_net.specs.Answer.{is_count}
use Rattle.make_net.proofs.MadeNames.{plain_utf8, alike, node_is_id, arc_is_id, nodes_apart, arcs_apart, none_before, among}

-- items that are each right after the ones before have no offence
none_wrong : {A K F : Type 0} (key : A → K) (check : List K → A → Option F) (f : ℕ → A) (a n : ℕ)
    → ((i : ℕ) → i < a + n → check (map (λ j. key (f j)) (range_with_len 0 i)) (f i) ≡ None)
    → first_offence key check (map (λ j. key (f j)) (range_with_len 0 a)) (map f (range_with_len a n)) ≡ None
none_wrong key check f a zero right = refl
none_wrong key check f a (suc n) right =
    let here = right a (omega arith) in
    let more = map-range_with_len_more (λ j. key (f j)) 0 a a (zero-add a) in
    let others = none_wrong key check f (a + 1) n (λ i lt. right i (omega (arith, lt))) in
    rw (here, ← more) others

-- ---- nodes
up_to : (n : ℕ) → n ≤ 2000 → is_flow (pos n) ≡ true
up_to n le = let lt : n ≤ 1000000000000 = omega (arith, le) in rw (le-leb n 1000000000000 lt) refl

supply_flows : (count i : ℕ) → count ≤ 2000 → is_flow (supply_of count i) ≡ true
supply_flows count i le = by (i == 0) count le
  where
    by : (b : Bool) (n : ℕ) → n ≤ 2000 → is_flow (cond b (pos n -ℤ pos 1) (negsuc 0)) ≡ true
    by true zero h = refl
    by true (suc n) h = let e : (pos (suc n) -ℤ pos 1) ≡ pos n = omega (arith, ints) in rw e (up_to n (omega (arith, h)))
    by false n h = refl

node_right : (count i : ℕ) → count ≤ 2000 → i < count → node_fault (map (λ j. node_id (made_node count j)) (range_with_len 0 i)) (made_node count i) ≡ None
node_right count i le lt =
    let id = node_is_id i (omega (arith, le, lt)) in
    rw (id, supply_flows count i le, none_before node_name nodes_apart i 0 i (omega arith)) refl

nodes_right : (count : ℕ) → count ≤ 2000 → nodes_fault (made_nodes count) ≡ None
nodes_right count le = none_wrong node_id node_fault (made_node count) 0 count (λ i lt. node_right count i le (omega (arith, lt)))

ids_of_nodes : (count : ℕ) (is_ : List ℕ) → node_ids (map (made_node count) is_) ≡ map node_name is_
ids_of_nodes count [] = refl
ids_of_nodes count (i ∷ is_) = ap (λ l. node_name i ∷ l) (ids_of_nodes count is_)

-- ---- arcs
some_position : {X : Type 0} (p : X → Bool) (xs : List X) → list_any p xs ≡ true → is_none (position p xs) ≡ false
some_position p xs any = rw (within p xs any) refl
  where
    less_more : (a n : ℕ) → ltb (1 + a) (suc n) ≡ ltb a n
    less_more a n = grind (arith, nat_tests)

    within : {X : Type 0} (p : X → Bool) (ys : List X) → list_any p ys ≡ true → ltb (position_or_len p ys) (length ys) ≡ true
    within p [] any = absurd cc
    within p (y ∷ ys) any = by (p y) any (within p ys)
      where
        by : (b : Bool) → (b || list_any p ys) ≡ true → (list_any p ys ≡ true → ltb (position_or_len p ys) (length ys) ≡ true) → ltb (cond (not b) (1 + position_or_len p ys) 0) (suc (length ys)) ≡ true
        by true h rec = lt-ltb 0 (suc (length ys)) (omega arith)
        by false h rec = less_more (position_or_len p ys) (length ys) ∙ rec h

kind_right : (i : ℕ) → is_kind_within (made_kind i) ≡ true
kind_right i = by (i == 0)
  where
    by : (b : Bool) → is_kind_within (cond b Valve (Pipe (record { lo = pos 1; hi = pos 2; den = pos 1 }))) ≡ true
    by true = refl
    by false = refl

arc_right : (count i : ℕ) → count ≤ 2000 → i + 1 < count → arc_fault (map node_name (range_with_len 0 count)) (map (λ j. text_id (made_arc count j)) (range_with_len 0 i)) (made_arc count i) ≡ None
arc_right count i le lt =
    let names = map node_name (range_with_len 0 count) in
    let from = some_position (bytes_eq (node_name i)) names (among node_name nodes_apart i 0 count (omega arith) (omega (arith, lt))) in
    let to = some_position (bytes_eq (node_name (i + 1))) names (among node_name nodes_apart (i + 1) 0 count (omega arith) (omega (arith, lt))) in
    let ends = nodes_apart i (i + 1) (λ h. omega (arith, h)) in
    rw (none_before arc_name arcs_apart i 0 i (omega arith), from, to, ends, arc_is_id i (omega (arith, le, lt)), up_to count le, kind_right i) refl

arcs_right : (count : ℕ) → count ≤ 2000 → arcs_fault (node_ids (made_nodes count)) (made_arcs count) ≡ None
arcs_right count le =
    rw (ids_of_nodes count (range_with_len 0 count))
    (none_wrong text_id (arc_fault (map node_name (range_with_len 0 count))) (made_arc count) 0 (count - 1) (λ i lt. arc_right count i le (omega (arith, lt))))

-- ---- groups
first_place : (x : List ℕ) (xs : List (List ℕ)) → place (x ∷ xs) x ≡ Some 0
first_place x xs = rw (alike x, lt-ltb 0 (suc (length xs)) (omega arith)) refl

groups_right : (count : ℕ) → groups_fault (made_arcs count) (made_groups count) ≡ None
groups_right zero = refl
groups_right (suc zero) = refl
groups_right (suc (suc k)) =
    let less : suc (suc k) - 1 ≡ suc k = omega arith in
    let two : ltb (suc (suc k)) 2 ≡ false = grind (arith, nat_tests) in
    let g = plain_utf8 (codes "g") (IsAscii-cons 103 [] (omega arith) IsAscii-nil) in
    let shut = plain_utf8 (codes "shut") (IsAscii-cons 115 (104 ∷ 117 ∷ 116 ∷ []) (omega arith) (IsAscii-cons 104 (117 ∷ 116 ∷ []) (omega arith) (IsAscii-cons 117 (116 ∷ []) (omega arith) (IsAscii-cons 116 [] (omega arith) IsAscii-nil)))) in
    let pass = plain_utf8 (codes "pass") (IsAscii-cons 112 (97 ∷ 115 ∷ 115 ∷ []) (omega arith) (IsAscii-cons 97 (115 ∷ 115 ∷ []) (omega arith) (IsAscii-cons 115 (115 ∷ []) (omega arith) (IsAscii-cons 115 [] (omega arith) IsAscii-nil)))) in
    rw (less, two, g, shut, pass, first_place (arc_name 0) _) refl

group_counts_right : (count : ℕ) → group_count_fault (made_groups count) ≡ None
group_counts_right count = by (ltb count 2)
  where
    by : (b : Bool) → group_count_fault (cond b [] (made_group ∷ [])) ≡ None
    by true = refl
    by false = refl

counts_right : (count : ℕ) → count ≤ 2000 → count_fault (made_nodes count) (made_arcs count) ≡ None
counts_right count le =
    let fewer : count - 1 ≤ 2000 = omega (arith, le) in
    rw (length-map-range_with_len (made_node count) 0 count, length-map-range_with_len (made_arc count) 0 (count - 1), le-leb count 2000 le, le-leb (count - 1) 2000 fewer) refl

-- ---- all
pub no_offence : (count : ℕ) → is_count count ≡ true → is_ok (problem_of (made_rows count)) ≡ true
no_offence count is =
    let le : count ≤ 2000 = leb-true count 2000 (and_parts (leb 1 count) (leb count 2000) is).1 in
    let none : rows_fault (made_rows count) ≡ None = rw (counts_right count le, group_counts_right count, nodes_right count le, arcs_right count le, groups_right count) refl in
    rw none refl

wrong : {Y : Type 0} {e : ModelFault} {read : Result Y ModelFault} → read ≡ Err e → is_ok read ≡ true → ⊥
wrong h ok = cc

-- of rows that make a problem, only memory may be wanting
pub only_want : {Y : Type 0} (e : ModelFault) (read : Result Y ModelFault) → Fails e read → is_ok read ≡ true → e ≡ fault.NoMemory
only_want fault.NoMemory read h ok = refl
only_want (fault.TooMany a) read h ok = absurd (wrong h ok)
only_want (fault.TwiceNamed a) read h ok = absurd (wrong h ok)
only_want (fault.OverLimit a) read h ok = absurd (wrong h ok)
only_want (fault.NoSuchNode a b) read h ok = absurd (wrong h ok)
only_want (fault.SameEnds a) read h ok = absurd (wrong h ok)
only_want (fault.EmptyGroup a) read h ok = absurd (wrong h ok)
only_want (fault.NoSuchArc a b) read h ok = absurd (wrong h ok)
only_want (fault.NotActive a b) read h ok = absurd (wrong h ok)
only_want (fault.TwiceDecided a) read h ok = absurd (wrong h ok)
