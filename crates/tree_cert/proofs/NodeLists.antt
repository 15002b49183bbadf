-- The nodes of a cut, read one after the other.
use Rattle.std.proofs.Common.{◌≡◌, ◌≢◌, ◌<◌, ◌+◌, inl, inr, ℕ, suc, List, [], ◌∷◌, ◌++◌, length, take, drop, get_or, Bool, true, false, cond, not, ◌&&◌, Option, Some, None, Result, Ok, Err, refl, sym, ap, ◌∙◌, arith, nat_lt, append_assoc}
use Rattle.std.specs.Prelude.{◌==◌, option_map, option_and_then}
use Rattle.std.specs.List.{list_all, slice_split}
use Rattle.std.specs.Str.Parse.{digits_value}
use Rattle.std.proofs.lemmas.Bool.{eqb-true, eqb-false, cases_lt}
use Rattle.std.proofs.lemmas.List.{append-nil, take_all, drop_all, length-append}
use Rattle.std.proofs.lemmas.List.Sums.{passes_at_first, fails_before_first}
use Rattle.std.proofs.lemmas.List.Splits.{slice_split_none, slice_split_first}
use Rattle.std.proofs.Math.Seq.{drop-cons}
use Rattle.line_text.specs.Numerals.{is_numeral, natural}
use Rattle.line_text.specs.Words.{◌>>=◌, word_len, bytes_at}
use Rattle.line_text.specs.Long.{fits_position, fitting, position_at}
use Rattle.line_text.proofs.Numbers.{sized, mapped, bound}
use Rattle.line_text.proofs.Fields.{bytes_take}
use Rattle.tree_cert.specs.declared.fault.LineFault.{LineFault}
use Rattle.tree_cert.specs.declared.fault.LineFault.TheVariants as fault
use Rattle.tree_cert.specs.Spelling.{ascends_after}
use Rattle.tree_cert.specs.Fields.{found}
use Rattle.tree_cert.specs.Nodes.{with_node, node_field}
use Rattle.tree_cert.specs.Reading.{spaced_words, naturals, node_list, nodes_at}

abbrev Nodes : Type 0
Nodes = Option (List ℕ)

-- nodes and more of them, where all fit
abbrev with_nodes : Nodes → List ℕ → Nodes
with_nodes None ns = None
with_nodes (Some xs) ns = option_map (λ ys. xs ++ ys) (fitting (list_all fits_position) ns)

abbrev ascending : ℕ → Nodes → List ℕ → Option Nodes
ascending last nodes ns = cond (ascends_after last ns) (Some (with_nodes nodes ns)) None

abbrev found_and : {A : Type 0} → Option A → (A → Result Nodes LineFault) → Result Nodes LineFault
found_and None f = Err fault.NotLine
found_and (Some x) f = f x

-- the nodes so far, and those that words after them are, where the last one so far is this
abbrev more : ℕ → Nodes → List (List ℕ) → Result Nodes LineFault
more last nodes [] = Ok nodes
more last nodes (w ∷ ws) = found_and (natural w) (λ n. cond (nat_lt last n) (more n (with_node nodes (fitting fits_position n)) ws) (Err fault.NotLine))

abbrev pub more_at : ℕ → Nodes → List ℕ → Result Nodes LineFault
more_at last nodes rest = found_and (spaced_words rest) (more last nodes)

added : (nodes : Nodes) (n : ℕ) (ns : List ℕ) → with_nodes nodes (n ∷ ns) ≡ with_nodes (with_node nodes (fitting fits_position n)) ns
added None n ns = refl
added (Some xs) n ns = by (fits_position n) (list_all fits_position ns) refl refl
  where
    by : (a b : Bool) → fits_position n ≡ a → list_all fits_position ns ≡ b → option_map (λ ys. xs ++ ys) (fitting (list_all fits_position) (n ∷ ns)) ≡ with_nodes (with_node (Some xs) (fitting fits_position n)) ns
    by true true p q = rw (p, q) (ap Some (sym (append_assoc xs (n ∷ []) ns)))
    by true false p q = rw (p, q) refl
    by false b p q = rw p refl

same_err : (b : Bool) → cond b (Err fault.NotLine) (Err fault.NotLine) ≡ (let r : Result Nodes LineFault = Err fault.NotLine in r)
same_err true = refl
same_err false = refl

found_after : (b : Bool) (o : Option Nodes) → cond b (found o) (Err fault.NotLine) ≡ found (cond b o None)
found_after true o = refl
found_after false o = refl

nested : (a b : Bool) (x : Nodes) → cond a (cond b (Some x) None) None ≡ cond (a && b) (Some x) None
nested true b x = refl
nested false b x = refl

none_left : (last n : ℕ) (nodes : Nodes) (o : Option (List ℕ)) → cond (nat_lt last n) (found (option_and_then (ascending n (with_node nodes (fitting fits_position n))) o)) (Err fault.NotLine)
    ≡ found (option_and_then (ascending last nodes) (option_map (λ ns. n ∷ ns) o))
none_left last n nodes None = same_err (nat_lt last n)
none_left last n nodes (Some ns) =
    found_after (nat_lt last n) (ascending n (with_node nodes (fitting fits_position n)) ns)
    ∙ ap found (nested (nat_lt last n) (ascends_after n ns) (with_nodes (with_node nodes (fitting fits_position n)) ns)
    ∙ ap (λ (x : Nodes). cond (nat_lt last n && ascends_after n ns) (Some x) None) (sym (added nodes n ns)))

more_is : (ws : List (List ℕ)) (last : ℕ) (nodes : Nodes) → more last nodes ws ≡ found (option_and_then (ascending last nodes) (naturals ws))
more_is [] last None = refl
more_is [] last (Some xs) = ap (λ (ys : List ℕ). Ok (Some ys)) (sym (append-nil xs))
more_is (w ∷ ws) last nodes = by (λ n. more_is ws n (with_node nodes (fitting fits_position n))) (natural w) refl
  where
    by : ((n : ℕ) → more n (with_node nodes (fitting fits_position n)) ws ≡ found (option_and_then (ascending n (with_node nodes (fitting fits_position n))) (naturals ws)))
        → (o : Option ℕ) → natural w ≡ o → more last nodes (w ∷ ws) ≡ found (option_and_then (ascending last nodes) (naturals (w ∷ ws)))
    by others None e = rw e refl
    by others (Some n) e = rw e (ap (λ (r : Result Nodes LineFault). cond (nat_lt last n) r (Err fault.NotLine)) (others n) ∙ none_left last n nodes (naturals ws))

-- ---- words

abbrev is_space : ℕ → Bool
is_space b = b == 32

-- bytes are parted into a word and the words after it
split_words : (bs : List ℕ) → (ws : List (List ℕ)) × (slice_split is_space bs ≡ take (word_len bs) bs ∷ ws) × (spaced_words (drop (word_len bs) bs) ≡ Some ws)
split_words bs =
    elim (cases_lt (word_len bs) (length bs)) [
      | inl lt ↦
          (let space : get_or bs (word_len bs) 0 ≡ 32 = eqb-true _ _ (passes_at_first is_space bs 0 lt) in
          let next : suc (word_len bs) ≡ word_len bs + 1 = omega arith in
          let rest : drop (word_len bs) bs ≡ 32 ∷ drop (word_len bs + 1) bs =
          drop-cons bs (word_len bs) 0 lt ∙ ap (λ (n : ℕ). n ∷ drop (suc (word_len bs)) bs) space ∙ ap (λ (n : ℕ). 32 ∷ drop n bs) next in
          (slice_split is_space (drop (word_len bs + 1) bs), slice_split_first is_space bs 0 lt, ap spaced_words rest))
      | inr le ↦
          (let none = slice_split_none is_space bs (λ k d lt. fails_before_first is_space bs k d (omega (arith, le, lt))) in
          ([], none ∙ ap (λ (w : List ℕ). w ∷ []) (sym (take_all (word_len bs) bs le)), ap spaced_words (drop_all (word_len bs) bs le)))
    ]

passed : {A : Type 0} (b : Bool) (o : Option A) (y : A) → cond b None o ≡ Some y → (b ≡ false) × (o ≡ Some y)
passed true o y e = absurd cc
passed false o y e = (refl, e)

not_false : (b : Bool) → not b ≡ false → b ≡ true
not_false true e = refl
not_false false e = absurd cc

-- a field is the first of the words
field_words : (bytes w rest : List ℕ) → bytes_at bytes ≡ Some (w, rest) → (ws : List (List ℕ)) × (spaced_words rest ≡ Some ws) × (spaced_words bytes ≡ Some (w ∷ ws))
unfolding bytes_at
field_words [] w rest e = absurd cc
field_words (c ∷ bs) w rest e =
    let n = word_len bs in
    let p = passed (not (c == 32)) _ (w, rest) e in
    let q = passed (n == 0) (Some (take n bs, drop n bs)) (w, rest) p.1 in
    let same : (take n bs, drop n bs) ≡ (w, rest) = let h = q.1 in cc in
    let word : take n bs ≡ w = ap (λ (x : List ℕ × List ℕ). x.0) same in
    let after : drop n bs ≡ rest = ap (λ (x : List ℕ × List ℕ). x.1) same in
    let s = split_words bs in
    let space : (c == 32) ≡ true = not_false (c == 32) p.0 in
    (s.0, ap spaced_words (sym after) ∙ s.2, rw space (ap Some (s.1 ∙ ap (λ (x : List ℕ). x ∷ s.0) word)))

no_number : (w : List ℕ) (ws : List (List ℕ)) → natural w ≡ None → naturals (w ∷ ws) ≡ None
no_number w ws e = rw e refl

-- where there is no field, there is no word, or the first one is no number
no_field : (bytes : List ℕ) → bytes_at bytes ≡ None → bytes ≢ [] → option_and_then naturals (spaced_words bytes) ≡ None
unfolding bytes_at
no_field [] e some = absurd (some refl)
no_field (c ∷ bs) e some = by (c == 32) (word_len bs == 0) refl refl e
  where
    by : (a b : Bool) → (c == 32) ≡ a → (word_len bs == 0) ≡ b → cond {A = Option (List ℕ × List ℕ)} (not a) None (cond b None (Some (take (word_len bs) bs, drop (word_len bs) bs))) ≡ None
        → option_and_then naturals (spaced_words (c ∷ bs)) ≡ None
    by false b p q k = rw p refl
    by true true p q k =
        let none : word_len bs ≡ 0 = eqb-true _ _ q in
        let s = split_words bs in
        let empty : natural (take (word_len bs) bs) ≡ None = ap (λ (n : ℕ). natural (take n bs)) none in
        rw (p, s.1) (no_number (take (word_len bs) bs) s.0 empty)
    by true false p q k = absurd cc

-- ---- nodes

-- a node that was read, by its digits
pub record IsNode (bytes word : List ℕ) (node : Option ℕ) (rest : List ℕ) : Type 0 where
  pub field : bytes_at bytes ≡ Some (word, rest)
  pub number : ℕ
  pub value : natural word ≡ Some number
  pub fits : node ≡ fitting fits_position number

abbrev field_of : List ℕ → List ℕ → Option (List ℕ × List ℕ)
field_of w rest = Some (w, rest)

same_field : (x y w rest : List ℕ) → x ≡ w → y ≡ rest → field_of x y ≡ field_of w rest
same_field x y w rest e f = rw (e, f) refl

pub node_is : (bytes w : List ℕ) (o : Option ℕ) (rest : List ℕ) → node_field bytes ≡ Some (w, o, rest) → IsNode bytes w o rest
unfolding node_field
node_is bytes w o rest e =
    let f = bound (λ x. position_at x.0 >>= λ n. Some (x.0, n, x.1)) (bytes_at bytes) (w, o, rest) e in
    let n = bound (λ n. Some (f.0.0, n, f.0.1)) (position_at f.0.0) (w, o, rest) f.2 in
    let same : (f.0.0, n.0, f.0.1) ≡ (w, o, rest) = let h = n.2 in cc in
    let m = mapped (fitting fits_position) (natural f.0.0) n.0 n.1 in
    let word : f.0.0 ≡ w = ap (λ (x : List ℕ × Option ℕ × List ℕ). x.0) same in
    let after : f.0.1 ≡ rest = ap (λ (x : List ℕ × Option ℕ × List ℕ). x.2) same in
    let node : n.0 ≡ o = ap (λ (x : List ℕ × Option ℕ × List ℕ). x.1) same in
    record {
      field = f.1 ∙ same_field f.0.0 f.0.1 w rest word after;
      number = m.0;
      value = ap natural (sym word) ∙ m.1;
      fits = sym node ∙ sym m.2;
    }

pub node_digits : (w : List ℕ) (n : ℕ) → natural w ≡ Some n → (is_numeral w ≡ true) × (digits_value 10 w ≡ n)
node_digits w n e = sized (is_numeral w) (digits_value 10 w) n e

-- what the field is, where it is no number
abbrev NoNumber : List ℕ → Option (List ℕ × List ℕ) → Type 0
NoNumber bytes None = bytes_at bytes ≡ None
NoNumber bytes (Some x) = (bytes_at bytes ≡ Some x) × (natural x.0 ≡ None)

abbrev noded : List ℕ × List ℕ → Option ℕ → Option (List ℕ × Option ℕ × List ℕ)
noded x n = Some (x.0, n, x.1)

no_node : (bytes : List ℕ) → node_field bytes ≡ None → NoNumber bytes (bytes_at bytes)
unfolding node_field
no_node bytes e = by (bytes_at bytes) refl e
  where
    none : (w rest : List ℕ) (o : Option ℕ) → (option_map (fitting fits_position) o >>= noded (w, rest)) ≡ None → o ≡ None
    none w rest None h = refl
    none w rest (Some n) h = absurd cc

    by : (o : Option (List ℕ × List ℕ)) → bytes_at bytes ≡ o → (o >>= λ x. position_at x.0 >>= noded x) ≡ None → NoNumber bytes o
    by None h k = h
    by (Some x) h k = (h, none x.0 x.1 (natural x.0) k)

-- where no node is read, no list of words is one of numbers
no_numbers : (bytes : List ℕ) → node_field bytes ≡ None → bytes ≢ [] → option_and_then naturals (spaced_words bytes) ≡ None
no_numbers bytes e some = by (bytes_at bytes) (no_node bytes e)
  where
    by : (o : Option (List ℕ × List ℕ)) → NoNumber bytes o → option_and_then naturals (spaced_words bytes) ≡ None
    by None h = no_field bytes h some
    by (Some x) h = let s = field_words bytes x.0 x.1 h.0 in rw s.2 (no_number x.0 s.0 h.1)

more_none : (bytes : List ℕ) (last : ℕ) (nodes : Nodes) → option_and_then naturals (spaced_words bytes) ≡ None → more_at last nodes bytes ≡ Err fault.NotLine
more_none bytes last nodes e = by (spaced_words bytes) refl e
  where
    by : (o : Option (List (List ℕ))) → spaced_words bytes ≡ o → option_and_then naturals o ≡ None → found_and o (more last nodes) ≡ Err fault.NotLine
    by None h k = refl
    by (Some ws) h k = more_is ws last nodes ∙ (let none = k in rw none refl)

pub more_gone : (rest : List ℕ) (last : ℕ) (nodes : Nodes) → node_field rest ≡ None → rest ≢ [] → more_at last nodes rest ≡ Err fault.NotLine
more_gone rest last nodes e some = more_none rest last nodes (no_numbers rest e some)

pub nodes_gone : (bytes : List ℕ) → node_field bytes ≡ None → found (nodes_at bytes) ≡ Err fault.NotLine
nodes_gone [] e = refl
nodes_gone (c ∷ bytes) e = let none = no_numbers (c ∷ bytes) e (λ is. cc) in rw none refl

mapped_same : (o : Nodes) → option_map (λ ys. [] ++ ys) o ≡ o
mapped_same None = refl
mapped_same (Some ns) = refl

-- the first node, and what is left to read
pub first_is : (bytes w : List ℕ) (o : Option ℕ) (rest : List ℕ) → IsNode bytes w o rest → found (nodes_at bytes) ≡ more_at (digits_value 10 w) (with_node (Some []) o) rest
first_is bytes w o rest h =
    let s = field_words bytes w rest h.field in
    let number = h.value in
    let value = (node_digits w h.number h.value).1 in
    rw (s.2, s.1, number, value, h.fits) (by s.0 (naturals s.0) refl ∙ sym (more_is s.0 h.number (with_node (Some []) (fitting fits_position h.number))))
  where
    list_is : (ns : List ℕ) → node_list (h.number ∷ ns) ≡ ascending h.number (with_node (Some []) (fitting fits_position h.number)) ns
    list_is ns = ap (λ (x : Nodes). cond (ascends_after h.number ns) (Some x) None) (sym (mapped_same (fitting (list_all fits_position) (h.number ∷ ns))) ∙ added (Some []) h.number ns)

    by : (ws : List (List ℕ)) (m : Option (List ℕ)) → naturals ws ≡ m → found (option_and_then node_list (option_map (λ ns. h.number ∷ ns) m)) ≡ found (option_and_then (ascending h.number (with_node (Some []) (fitting fits_position h.number))) m)
    by ws None e = refl
    by ws (Some ns) e = ap found (list_is ns)

-- one more node
pub next_is : (rest w : List ℕ) (o : Option ℕ) (after : List ℕ) (last : ℕ) (nodes : Nodes) → IsNode rest w o after
    → more_at last nodes rest ≡ cond (nat_lt last (digits_value 10 w)) (more_at (digits_value 10 w) (with_node nodes o) after) (Err fault.NotLine)
next_is rest w o after last nodes h =
    let s = field_words rest w after h.field in
    let number = h.value in
    let value = (node_digits w h.number h.value).1 in
    rw (s.2, s.1, number, value, h.fits) refl

pub rest_shorter : (bytes w : List ℕ) (o : Option ℕ) (rest : List ℕ) → IsNode bytes w o rest → length rest < length bytes
rest_shorter bytes w o rest h = let e = bytes_take bytes w rest h.field in omega (arith, ap length e, length-append w rest)

pub some_bytes : (bytes : List ℕ) → (length bytes == 0) ≡ false → bytes ≢ []
some_bytes bytes e is = let none : length bytes ≡ 0 = ap length is in absurd (eqb-false _ _ e none)
