-- A text is read as the problem that it spells, and spells the problem that it is read as.
use Rattle.std.proofs.Common.{◌≡◌, ℕ, ◌+◌, List, [], ◌∷◌, ◌++◌, length, take, drop, take-append-drop, Bool, true, false, cond, Option, Some, None, Result, Ok, Err, refl, sym, ap, subst, ◌∙◌, append_assoc}
use Rattle.std.specs.Prelude.{◌==◌, codes, IfOk}
use Rattle.std.specs.List.{flat_map}
use Rattle.std.specs.Str.{bytes_eq}
use Rattle.std.proofs.lemmas.Bool.{eqb-true}
use Rattle.std.proofs.lemmas.List.Concat.{flat_map-append}
use Rattle.std.proofs.lemmas.List.Folds.{flat_map-map}
use Rattle.std.proofs.lemmas.Slice.Eq.{bytes_eq-Decides}
use Rattle.gas_model.specs.declared.rows.DecisionText.{DecisionText}
use Rattle.gas_model.specs.declared.rows.GroupText.{GroupText}
use Rattle.gas_model.specs.declared.rows.Rows.{Rows}
use Rattle.gas_model.specs.declared.rows.ModelFault.{ModelFault}
use Rattle.gas_model.specs.Rows.{Network, rows_fault, network_of, problem_of, answer, rows_of, IsProblem}
use Rattle.gas_model.proofs.Remade.{clean_rows, rows_back as rows_made}
use Rattle.line_text.specs.Lines.{HasNoFeed}
use Rattle.line_text.specs.Words.{joined}
use Rattle.flat_text.specs.declared.fault.LineFault.{LineFault}
use Rattle.problem_faults.specs.declared.flat.FlatFault.{FlatFault}
use Rattle.problem_faults.specs.declared.flat.FlatFault.TheVariants as fault
use Rattle.flat_text.specs.declared.line.Item.{Item}
use Rattle.flat_text.specs.declared.line.Item.TheVariants.{Node, Arc, Set}
use Rattle.flat_text.specs.declared.line.Part.{Part}
use Rattle.flat_text.specs.declared.line.Part.TheVariants as part
use Rattle.flat_text.specs.Line.{line_in, part_after}
use Rattle.flat_text.specs.Items.{rows_in}
use Rattle.flat_text.specs.Text.{◌>>=◌, numbered, placed, no_more, followed, items_at, head_line, after_head, rows_at, modelled, flat_of, Gives, IsRead}
use Rattle.flat_text.specs.Spelling.{line, node_line, arc_line, decision_lines, group_lines, item_line, rows_text, flat_text}
use Rattle.flat_text.proofs.Spaced.{no_length}
use Rattle.flat_text.proofs.Spelled.{item_again, end_again, line_takes, item_takes, item_feedless}
use Rattle.flat_text.proofs.Grouped.{node_items, arc_items, decision_items, group_items, items_of, AreStanding, items_kept, items_stand, rows_back}
use Rattle.flat_text.proofs.Passing.{numbered_ok, item_of, end_of, turned, line_passed}
use Rattle.flat_text.proofs.Within.{AreWithin, rows_within}

-- the text of an item
abbrev pub item_text : Item → List ℕ
item_text x = item_line x ++ 10 ∷ []

abbrev pub last_line : List ℕ
last_line = line (codes "end") []

-- ---- the text of rows is that of their items

nested : {A B C : Type 0} (f : B → List C) (g : A → List B) (h : A → List C) → ((x : A) → flat_map f (g x) ≡ h x) → (xs : List A) → flat_map f (flat_map g xs) ≡ flat_map h xs
nested f g h e [] = refl
nested f g h e (x ∷ xs) = flat_map-append f (g x) (flat_map g xs) ∙ (λ j. e x j ++ nested f g h e xs j)

decision_text : (d : DecisionText) → flat_map item_text (decision_items d) ≡ decision_lines d
decision_text d = ap (λ (l : List ℕ). line (codes "decision") (d.id ∷ []) ++ l) (flat_map-map item_text (λ s. Set s) d.sets)

group_text : (g : GroupText) → flat_map item_text (group_items g) ≡ group_lines g
group_text g = ap (λ (l : List ℕ). line (codes "group") (g.id ∷ []) ++ l) (nested item_text decision_items decision_lines decision_text g.decisions)

items_text : (rows : Rows) → flat_map item_text (items_of rows) ++ last_line ≡ rows_text rows
items_text rows =
    let nodes = flat_map-map item_text (λ n. Node n) rows.nodes in
    let arcs = flat_map-map item_text (λ a. Arc a) rows.arcs in
    let groups = nested item_text group_items group_lines group_text rows.groups in
    let others : flat_map item_text (arc_items rows.arcs ++ flat_map group_items rows.groups) ≡ flat_map arc_line rows.arcs ++ flat_map group_lines rows.groups =
    flat_map-append item_text (arc_items rows.arcs) (flat_map group_items rows.groups) ∙ (λ j. arcs j ++ groups j) in
    ap (λ (l : List ℕ). l ++ last_line) (flat_map-append item_text (node_items rows.nodes) (arc_items rows.arcs ++ flat_map group_items rows.groups) ∙ (λ j. nodes j ++ others j))
    ∙ append_assoc (flat_map node_line rows.nodes) (flat_map arc_line rows.arcs ++ flat_map group_lines rows.groups) last_line
    ∙ ap (λ (l : List ℕ). flat_map node_line rows.nodes ++ l) (append_assoc (flat_map arc_line rows.arcs) (flat_map group_lines rows.groups) last_line)

-- ---- what was read is spelled

bound_ok : {A B : Type 0} (r : Result A FlatFault) (f : A → Result B FlatFault) (y : B) → (r >>= f) ≡ Ok y → (x : A) × (r ≡ Ok x) × (f x ≡ Ok y)
bound_ok (Ok x) f y e = (x, refl, e)
bound_ok (Err k) f y e = absurd cc

-- what items spell that were read, and that they stand at their places
record AreSpelled (place : Part) (bytes : List ℕ) (xs : List Item) : Type 0 where
  text : bytes ≡ flat_map item_text xs ++ last_line
  stand : AreStanding place xs

module _ (n : ℕ) (place : Part) (text after : List ℕ) where
  abbrev others : Part → Result (List Item) FlatFault
  others next = items_at (n + 1) next [] after

  takes_item : (x : Item) (xs : List Item) → placed n place text ≡ Ok (Some x) → followed n (length after == 0) others (Some x) ≡ Ok xs
      → ((next : Part) (ys : List Item) → others next ≡ Ok ys → AreSpelled next after ys) → AreSpelled place (text ++ 10 ∷ after) xs
  takes_item x xs e h read =
      let is = item_of place text x (numbered_ok n (line_in place text) (Some x) e) in
      let spells = (item_takes text x is.read is.within).text in
      let ys = bound_ok (others (part_after x)) (λ items. Ok (x ∷ items)) xs h in
      let made : x ∷ ys.0 ≡ xs = let same = ys.2 in cc in
      let s = read (part_after x) ys.0 ys.1 in
      let spelled : text ++ 10 ∷ after ≡ flat_map item_text (x ∷ ys.0) ++ last_line =
      ap (λ (l : List ℕ). l ++ 10 ∷ after) spells ∙ sym (append_assoc (item_line x) (10 ∷ []) after) ∙ ap (λ (l : List ℕ). item_text x ++ l) s.text ∙ sym (append_assoc (item_text x) (flat_map item_text ys.0) last_line) in
      subst (AreSpelled place (text ++ 10 ∷ after)) made (record { text = spelled; stand = (is.stands, s.stand) })

  takes_end : (xs : List Item) → placed n place text ≡ Ok None → no_more n (length after == 0) ≡ Ok xs → AreSpelled place (text ++ 10 ∷ after) xs
  takes_end xs e h = by (length after == 0) refl h
    where
      by : (b : Bool) → (length after == 0) ≡ b → no_more n b ≡ Ok xs → AreSpelled place (text ++ 10 ∷ after) xs
      by true t h =
          let made : [] ≡ xs = cc in
          let spells = line_takes text None (end_of place text (numbered_ok n (line_in place text) None e)) in
          subst (AreSpelled place (text ++ 10 ∷ after)) made
          (record { text = ap (λ (l : List ℕ). text ++ 10 ∷ l) (no_length after t) ∙ ap (λ (l : List ℕ). l ++ 10 ∷ []) spells; stand = tt })
      by false t h = absurd cc

  takes_line : (x : Option Item) (xs : List Item) → placed n place text ≡ Ok x → followed n (length after == 0) others x ≡ Ok xs
      → ((next : Part) (ys : List Item) → others next ≡ Ok ys → AreSpelled next after ys) → AreSpelled place (text ++ 10 ∷ after) xs
  takes_line None xs e h read = takes_end xs e h
  takes_line (Some x) xs e h read = takes_item x xs e h read

takes_turn : (n : ℕ) (place : Part) (text : List ℕ) (b : ℕ) (rest : List ℕ) (xs : List Item)
    → ((next : Part) (ys : List Item) → items_at (n + 1) next [] rest ≡ Ok ys → AreSpelled next rest ys)
    → (items_at n place (text ++ b ∷ []) rest ≡ Ok xs → AreSpelled place ((text ++ b ∷ []) ++ rest) xs)
    → items_at n place text (b ∷ rest) ≡ Ok xs → AreSpelled place (text ++ b ∷ rest) xs
unfolding items_at
takes_turn n place text b rest xs next more e = by (b == 10) refl e
  where
    by : (t : Bool) → (b == 10) ≡ t → cond t (turned n place text rest) (items_at n place (text ++ b ∷ []) rest) ≡ Ok xs → AreSpelled place (text ++ b ∷ rest) xs
    by true t h =
        let x = bound_ok (placed n place text) _ xs h in
        let feed : b ≡ 10 = eqb-true b 10 t in
        subst (λ (c : ℕ). AreSpelled place (text ++ c ∷ rest) xs) (sym feed) (takes_line n place text rest x.0 xs x.1 x.2 next)
    by false t h = subst (λ (l : List ℕ). AreSpelled place l xs) (append_assoc text (b ∷ []) rest) (more h)

no_bytes : (n : ℕ) (place : Part) (text : List ℕ) → items_at n place text [] ≡ Err (fault.NotFlat n)
unfolding items_at
no_bytes n place text = refl

items_take : (n : ℕ) (place : Part) (text bytes : List ℕ) (xs : List Item) → items_at n place text bytes ≡ Ok xs → AreSpelled place (text ++ bytes) xs
items_take n place text [] xs e = let none = no_bytes n place text in absurd cc
items_take n place text (b ∷ rest) xs e =
    takes_turn n place text b rest xs (λ next ys h. items_take (n + 1) next [] rest ys h) (λ h. items_take n place (text ++ b ∷ []) rest xs h) e

rows_take : (bytes : List ℕ) (rows : Rows) → rows_at bytes ≡ Ok rows → bytes ≡ rows_text rows
rows_take bytes rows e =
    let xs = bound_ok (items_at 2 part.Nodes [] bytes) (λ items. Ok (rows_in items)) rows e in
    let made : rows_in xs.0 ≡ rows = let same = xs.2 in cc in
    let s = items_take 2 part.Nodes [] bytes xs.0 xs.1 in
    s.text ∙ ap (λ (ys : List Item). flat_map item_text ys ++ last_line) (sym (items_kept xs.0 s.stand)) ∙ items_text (rows_in xs.0) ∙ ap rows_text made

head_takes : (bytes rest : List ℕ) → after_head bytes ≡ Ok rest → bytes ≡ head_line ++ rest
unfolding after_head
head_takes bytes rest e = by (bytes_eq (take 10 bytes) head_line) refl e
  where
    by : (b : Bool) → bytes_eq (take 10 bytes) head_line ≡ b → cond b (Ok (drop 10 bytes)) (Err (fault.NotFlat 1)) ≡ Ok rest → bytes ≡ head_line ++ rest
    by true t h =
        let same : drop 10 bytes ≡ rest = cc in
        sym (take-append-drop 10 bytes) ∙ ap (λ (l : List ℕ). l ++ drop 10 bytes) ((bytes_eq-Decides _ head_line).0 t) ∙ ap (λ (r : List ℕ). head_line ++ r) same
    by false t h = absurd cc

answered : (o : Option ModelFault) (p q : Network) → modelled (answer o p) ≡ Ok q → (o ≡ None) × (p ≡ q)
answered None p q e = (refl, cc)
answered (Some f) p q e = absurd cc

-- the rows of a problem that was made are those rows
rows_kept : (rows : Rows) (p : Network) → modelled (problem_of rows) ≡ Ok p → rows_of p ≡ rows
rows_kept rows p e =
    let a = answered (rows_fault rows) (network_of rows) p e in
    ap rows_of (sym a.1) ∙ rows_made rows (clean_rows rows a.0)

-- a text that is read is the text of its problem
pub text_takes : (bytes : List ℕ) (p : Network) → flat_of bytes ≡ Ok p → bytes ≡ flat_text p
unfolding flat_of
text_takes bytes p e =
    let rest = bound_ok (after_head bytes) _ p e in
    let rows = bound_ok (rows_at rest.0) _ p rest.2 in
    head_takes bytes rest.0 rest.1 ∙ ap (λ (r : List ℕ). head_line ++ r) (rows_take rest.0 rows.0 rows.1 ∙ ap rows_text (sym (rows_kept rows.0 p rows.2)))

-- ---- what is spelled is read

-- a line at the front of a text
front : (n : ℕ) (place : Part) (text after : List ℕ) (x : Option Item) → HasNoFeed text → line_in place text ≡ Ok x
    → items_at n place [] ((text ++ 10 ∷ []) ++ after) ≡ followed n (length after == 0) (λ next. items_at (n + 1) next [] after) x
front n place text after x feedless read =
    ap (items_at n place []) (append_assoc text (10 ∷ []) after) ∙ line_passed n place [] text after feedless
    ∙ ap (λ (r : Result (Option Item) LineFault). numbered n r >>= followed n (length after == 0) (λ next. items_at (n + 1) next [] after)) read

items_again : (n : ℕ) (place : Part) (xs : List Item) → AreStanding place xs → AreWithin xs → items_at n place [] (flat_map item_text xs ++ last_line) ≡ Ok xs
items_again n place [] stand within = front n place (joined (codes "end") []) [] None refl (end_again place)
items_again n place (x ∷ xs) stand within =
    let after : List ℕ = flat_map item_text xs ++ last_line in
    ap (items_at n place []) (append_assoc (item_text x) (flat_map item_text xs) last_line)
    ∙ front n place (item_line x) after (Some x) (item_feedless x within.0) (item_again place x stand.0 within.0)
    ∙ ap (λ (r : Result (List Item) FlatFault). r >>= λ items. Ok (x ∷ items)) (items_again (n + 1) (part_after x) xs stand.1 within.1)

rows_again : (rows : Rows) → rows_fault rows ≡ None → rows_at (rows_text rows) ≡ Ok rows
rows_again rows clean =
    ap rows_at (sym (items_text rows)) ∙ ap (λ (r : Result (List Item) FlatFault). r >>= λ items. Ok (rows_in items)) (items_again 2 part.Nodes (items_of rows) (items_stand rows) (rows_within rows clean))
    ∙ ap (λ (r : Rows). Ok r) (rows_back rows)

head_again : (rest : List ℕ) → after_head (head_line ++ rest) ≡ Ok rest
unfolding after_head
head_again rest = refl

problem_clean : (rows : Rows) (p : Network) → problem_of rows ≡ Ok p → rows_fault rows ≡ None
problem_clean rows p e = (answered (rows_fault rows) (network_of rows) p (ap modelled e)).0

-- the text of a problem is read as it
pub text_again : (q : Network) → IsProblem q → flat_of (flat_text q) ≡ Ok q
unfolding flat_of
text_again q problem = rw (head_again (rows_text (rows_of q)), rows_again (rows_of q) (problem_clean (rows_of q) q problem)) (ap modelled problem)

-- ---- what a call answers

pub answer_read : (bytes : List ℕ) (r : Result Network FlatFault) → Gives (λ p. p) r (flat_of bytes) → IfOk r (λ p. bytes ≡ flat_text p)
answer_read bytes (Ok p) e = text_takes bytes p e
answer_read bytes (Err f) e = tt

pub answer_spelled : (bytes : List ℕ) (r : Result Network FlatFault) → Gives (λ p. p) r (flat_of bytes) → (q : Network) → flat_of bytes ≡ Ok q → IsRead q r
answer_spelled bytes (Ok p) e q h = let same : ◌≡◌ {A = Result Network FlatFault} (Ok p) (Ok q) = sym e ∙ h in cc
answer_spelled bytes (Err fault.NoMemory) e q h = refl
answer_spelled bytes (Err (fault.NotFlat n)) e q h = let same : ◌≡◌ {A = Result Network FlatFault} (Err (fault.NotFlat n)) (Ok q) = sym e ∙ h in absurd cc
answer_spelled bytes (Err (fault.OverLimit n)) e q h = let same : ◌≡◌ {A = Result Network FlatFault} (Err (fault.OverLimit n)) (Ok q) = sym e ∙ h in absurd cc
answer_spelled bytes (Err (fault.Model m)) e q h = let same : ◌≡◌ {A = Result Network FlatFault} (Err (fault.Model m)) (Ok q) = sym e ∙ h in absurd cc
