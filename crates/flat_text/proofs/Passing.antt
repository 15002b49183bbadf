-- Reading lines one after the other, as a loop does.
use Rattle.std.proofs.Common.{◌≡◌, ℕ, ◌+◌, List, [], ◌∷◌, ◌++◌, length, Bool, true, false, cond, not, ◌&&◌, Option, Some, None, Ok, Err, refl, sym, ap, ◌∙◌, append_assoc}
use Rattle.std.specs.Prelude.{◌==◌, Result}
use Rattle.std.proofs.lemmas.List.{append-nil}
use Rattle.gas_model.specs.declared.rows.Rows.{Rows}
use Rattle.line_text.specs.Lines.{HasNoFeed}
use Rattle.flat_text.specs.declared.fault.LineFault.{LineFault}
use Rattle.flat_text.specs.declared.fault.LineFault.TheVariants as line_fault
use Rattle.problem_faults.specs.declared.flat.FlatFault.{FlatFault}
use Rattle.problem_faults.specs.declared.flat.FlatFault.TheVariants as fault
use Rattle.flat_text.specs.declared.line.Item.{Item}
use Rattle.flat_text.specs.declared.line.Part.{Part}
use Rattle.flat_text.specs.declared.line.Part.TheVariants as part
use Rattle.flat_text.specs.declared.draft.Draft.{Draft}
use Rattle.flat_text.specs.Fields as fields
use Rattle.flat_text.specs.Line.{line_at, line_of, line_in, item_in, may_stand, is_item_within, part_after}
use Rattle.flat_text.specs.Items.{rows_in}
use Rattle.flat_text.specs.Draft.{part_of, drafted, Adds}
use Rattle.flat_text.specs.Text.{◌>>=◌, Fails, numbered, placed, no_more, followed, items_at, rows_at}

-- the rows so far, and those of the items that are still read
abbrev pub with_draft : Draft → Result (List Item) FlatFault → Result Rows FlatFault
with_draft draft read = read >>= λ items. Ok (drafted draft items)

pub begins : (draft : Draft) (bytes : List ℕ) → ((items : List Item) → drafted draft items ≡ rows_in items) → part_of draft.tail ≡ part.Nodes
    → with_draft draft (items_at 2 (part_of draft.tail) [] bytes) ≡ rows_at bytes
begins draft bytes none nodes = ap (λ (p : Part). with_draft draft (items_at 2 p [] bytes)) nodes ∙ by (items_at 2 part.Nodes [] bytes)
  where
    by : (r : Result (List Item) FlatFault) → with_draft draft r ≡ (r >>= λ items. Ok (rows_in items))
    by (Ok items) = ap (λ (rows : Rows). Ok rows) (none items)
    by (Err e) = refl

-- ---- a line that stands at its place

pub numbered_ok : {A : Type 0} (n : ℕ) (r : Result A LineFault) (x : A) → numbered n r ≡ Ok x → r ≡ Ok x
numbered_ok n (Ok y) x e = let same : y ≡ x = cc in ap (λ x. Ok x) same
numbered_ok n (Err line_fault.NotFlat) x e = absurd cc
numbered_ok n (Err line_fault.OverLimit) x e = absurd cc
numbered_ok n (Err line_fault.NoMemory) x e = absurd cc

-- what an item passed that stands in the part
pub record Passed (place : Part) (x item : Item) : Type 0 where
  pub stands : may_stand place item ≡ true
  pub within : is_item_within item ≡ true
  pub same : x ≡ item

item_passed : (place : Part) (x item : Item) → item_in place x ≡ Ok (Some item) → Passed place x item
item_passed place x item e = by (may_stand place x) (is_item_within x) refl refl e
  where
    by : (a b : Bool) → may_stand place x ≡ a → is_item_within x ≡ b → cond (not a) (Err line_fault.NotFlat) (cond (not b) (Err line_fault.OverLimit) (Ok (Some x))) ≡ Ok (Some item) → Passed place x item
    by true true p q h = let same : x ≡ item = cc in record { stands = ap (may_stand place) (sym same) ∙ p; within = ap is_item_within (sym same) ∙ q; same = same }
    by true false p q h = absurd cc
    by false b p q h = absurd cc

item_gone : (place : Part) (x : Item) → item_in place x ≡ Ok None → ⊥
item_gone place x e = by (may_stand place x) (is_item_within x) e
  where
    by : (a b : Bool) → cond (not a) (Err line_fault.NotFlat) (cond (not b) (Err line_fault.OverLimit) (Ok (Some x))) ≡ Ok None → ⊥
    by true true h = cc
    by true false h = cc
    by false b h = cc

-- an item that is read in a part is that of the line
pub record IsItemOf (place : Part) (bytes : List ℕ) (item : Item) : Type 0 where
  pub read : line_at bytes ≡ Ok (Some item)
  pub stands : may_stand place item ≡ true
  pub within : is_item_within item ≡ true

pub item_of : (place : Part) (bytes : List ℕ) (item : Item) → line_in place bytes ≡ Ok (Some item) → IsItemOf place bytes item
unfolding line_in
item_of place bytes item e = by (line_at bytes) refl e
  where
    by : (r : Result (Option Item) LineFault) → line_at bytes ≡ r → fields.◌>>=◌ r (line_of place) ≡ Ok (Some item) → IsItemOf place bytes item
    by (Ok (Some x)) is h = let p = item_passed place x item h in record { read = is ∙ ap (λ (x : Item). Ok (Some x)) p.same; stands = p.stands; within = p.within }
    by (Ok None) is h = absurd cc
    by (Err f) is h = absurd cc

pub end_of : (place : Part) (bytes : List ℕ) → line_in place bytes ≡ Ok None → line_at bytes ≡ Ok None
unfolding line_in
end_of place bytes e = by (line_at bytes) e
  where
    by : (r : Result (Option Item) LineFault) → fields.◌>>=◌ r (line_of place) ≡ Ok None → r ≡ Ok None
    by (Ok (Some x)) h = absurd (item_gone place x h)
    by (Ok None) h = refl
    by (Err f) h = absurd cc

pub may_be_added : (n : ℕ) (place : Part) (text : List ℕ) (item : Item) → placed n place text ≡ Ok (Some item) → may_stand place item ≡ true
may_be_added n place text item e = (item_of place text item (numbered_ok n (line_in place text) (Some item) e)).stands

-- ---- lines

parts : (b : Bool) (bs : Bool) → (not b && bs) ≡ true → (b ≡ false) × (bs ≡ true)
parts true bs e = absurd cc
parts false bs e = (refl, e)

-- what is read from line n on, after its bytes
abbrev pub turned : ℕ → Part → List ℕ → List ℕ → Result (List Item) FlatFault
turned n place text after = placed n place text >>= followed n (length after == 0) (λ next. items_at (n + 1) next [] after)

-- a line that ends
pub line_passed : (n : ℕ) (place : Part) (line l after : List ℕ) → HasNoFeed l → items_at n place line (l ++ 10 ∷ after) ≡ turned n place (line ++ l) after
unfolding items_at
line_passed n place line [] after h = ap (λ x. turned n place x after) (sym (append-nil line))
line_passed n place line (b ∷ l) after h =
    let p = parts (b == 10) _ h in
    rw p.0 (line_passed n place (line ++ b ∷ []) l after p.1 ∙ ap (λ x. turned n place x after) (append_assoc line (b ∷ []) l))

-- the rest that doesn't end
pub rest_passed : (n : ℕ) (place : Part) (line l : List ℕ) → HasNoFeed l → items_at n place line l ≡ Err (fault.NotFlat n)
unfolding items_at
rest_passed n place line [] h = refl
rest_passed n place line (b ∷ l) h = let p = parts (b == 10) _ h in rw p.0 (rest_passed n place (line ++ b ∷ []) l p.1)

module _ (draft : Draft) (n : ℕ) (rest text after : List ℕ) (total : Result Rows FlatFault)
    (parted : (rest ≡ text ++ 10 ∷ after) × HasNoFeed text) (so_far : with_draft draft (items_at n (part_of draft.tail) [] rest) ≡ total)
    (place : Part) (place_is : place ≡ part_of draft.tail) where
  -- what a turn of the loop looks at
  turn : with_draft draft (turned n place text after) ≡ total
  turn = sym (ap (λ x. with_draft draft (items_at n place [] x)) parted.0 ∙ ap (with_draft draft) (line_passed n place [] text after parted.1)) ∙ ap (λ (p : Part). with_draft draft (items_at n p [] rest)) place_is ∙ so_far

  at_line : (x : Option Item) → placed n place text ≡ Ok x → with_draft draft (followed n (length after == 0) (λ next. items_at (n + 1) next [] after) x) ≡ total
  at_line x e = sym (ap (λ r. with_draft draft (r >>= followed n (length after == 0) (λ next. items_at (n + 1) next [] after))) e) ∙ turn

  at_fault : (e : FlatFault) → placed n place text ≡ Err e → total ≡ Err e
  at_fault e h = sym turn ∙ ap (λ r. with_draft draft (r >>= followed n (length after == 0) (λ next. items_at (n + 1) next [] after))) h

  pub fails : (e : FlatFault) → Fails e (placed n place text) → Fails e total
  fails fault.NoMemory h = tt
  fails (fault.NotFlat k) h = at_fault (fault.NotFlat k) h
  fails (fault.OverLimit k) h = at_fault (fault.OverLimit k) h
  fails (fault.Model m) h = at_fault (fault.Model m) h

  pub goes_on : (item : Item) (grown : Draft) → placed n place text ≡ Ok (Some item) → Adds draft item grown
      → with_draft grown (items_at (n + 1) (part_of grown.tail) [] after) ≡ total
  goes_on item grown e adds =
      ap (λ (p : Part). with_draft grown (items_at (n + 1) p [] after)) adds.part ∙ by (items_at (n + 1) (part_after item) [] after) ∙ at_line (Some item) e
    where
      by : (r : Result (List Item) FlatFault) → with_draft grown r ≡ with_draft draft (r >>= λ items. Ok (item ∷ items))
      by (Ok items) = ap (λ (rows : Rows). Ok rows) (adds.rows items)
      by (Err f) = refl

  at_end : placed n place text ≡ Ok None → total ≡ with_draft draft (no_more n (length after == 0))
  at_end e = sym (at_line None e)

  pub ends : placed n place text ≡ Ok None → no_more n (length after == 0) ≡ Ok [] → total ≡ Ok (drafted draft [])
  ends e last = at_end e ∙ ap (with_draft draft) last

  failed : (f : FlatFault) → placed n place text ≡ Ok None → no_more n (length after == 0) ≡ Err f → total ≡ Err f
  failed f e h = at_end e ∙ ap (with_draft draft) h

  pub goes_past : (f : FlatFault) → placed n place text ≡ Ok None → Fails f (no_more n (length after == 0)) → Fails f total
  goes_past fault.NoMemory e h = tt
  goes_past (fault.NotFlat k) e h = failed (fault.NotFlat k) e h
  goes_past (fault.OverLimit k) e h = failed (fault.OverLimit k) e h
  goes_past (fault.Model m) e h = failed (fault.Model m) e h

pub no_end : (draft : Draft) (n : ℕ) (rest : List ℕ) (total : Result Rows FlatFault) → HasNoFeed rest
    → with_draft draft (items_at n (part_of draft.tail) [] rest) ≡ total → total ≡ Err (fault.NotFlat n)
no_end draft n rest total h so_far = sym so_far ∙ ap (with_draft draft) (rest_passed n (part_of draft.tail) [] rest h)
