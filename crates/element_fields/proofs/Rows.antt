-- Going from child to child, as a loop does.
use Rattle.std.proofs.Common.{◌≡◌, ℕ, ◌+◌, List, [], ◌∷◌, ◌++◌, Bool, true, false, cond, Option, Some, None, Ok, Err, refl, sym, ap, ◌∙◌, append_assoc}
use Rattle.std.specs.Prelude.{◌==◌, nat_le, Result}
use Rattle.std.proofs.lemmas.List.{append-nil}
use Rattle.file_faults.specs.declared.outline.FileFault.{FileFault}
use Rattle.file_faults.specs.declared.outline.FileFault.TheVariants as fault
use Rattle.tag_outline.specs.declared.outline.Element.{Element}
use Rattle.element_fields.specs.Answers.{◌>>=◌, rows_of, fault_of, Tells}
use Rattle.element_fields.specs.Lookup.{Placed, is_child, child, children_named, next_child, children}

-- what a step finds, and then the rest
abbrev pub listed : (List Element → List Placed) → Option Placed → List Placed
listed all None = []
listed all (Some x) = x ∷ all x.1

-- a list of elements that is had step by step
pub record Steps (all : List Element → List Placed) (next : List Element → Option Placed) : Type 0 where
  pub are : (below : List Element) → all below ≡ listed all (next below)

pub children_are : (depth : ℕ) → Steps (children depth) (next_child depth)
children_are depth = record { are = go }
  where
    by : (e : Element) (es : List Element) (v w : Bool) → children depth es ≡ listed (children depth) (next_child depth es)
        → cond v [] (cond w ((e, es) ∷ children depth es) (children depth es)) ≡ listed (children depth) (cond v None (cond w (Some (e, es)) (next_child depth es)))
    by e es true w rec = refl
    by e es false true rec = refl
    by e es false false rec = rec

    go : (below : List Element) → children depth below ≡ listed (children depth) (next_child depth below)
    go [] = refl
    go (e ∷ es) = by e es (nat_le e.depth depth) (e.depth == depth + 1) (go es)

pub named_are : (depth : ℕ) (name : List ℕ) → Steps (children_named depth name) (child depth name)
named_are depth name = record { are = go }
  where
    by : (e : Element) (es : List Element) (v w : Bool) → children_named depth name es ≡ listed (children_named depth name) (child depth name es)
        → cond v [] (cond w ((e, es) ∷ children_named depth name es) (children_named depth name es)) ≡ listed (children_named depth name) (cond v None (cond w (Some (e, es)) (child depth name es)))
    by e es true w rec = refl
    by e es false true rec = refl
    by e es false false rec = rec

    go : (below : List Element) → children_named depth name below ≡ listed (children_named depth name) (child depth name below)
    go [] = refl
    go (e ∷ es) = by e es (nat_le e.depth depth) (is_child depth name e) (go es)

-- ---- rows
abbrev pub with_front : {B : Type 0} → List B → Result (List B) FileFault → Result (List B) FileFault
with_front rows read = read >>= λ x. Ok (rows ++ x)

-- with these rows so far, what is left gives the rows of all
pub record SoFar {B : Type 0} (read : Placed → Result B FileFault) (all : List Element → List Placed) (rows : List B) (rest below : List Element) : Type 0 where
  pub total : with_front rows (rows_of read (all rest)) ≡ rows_of read (all below)

pub begins : {B : Type 0} (read : Placed → Result B FileFault) (all : List Element → List Placed) (below : List Element) → SoFar read all [] below below
begins {B} read all below = record { total = by (rows_of read (all below)) }
  where
    by : (r : Result (List B) FileFault) → with_front [] r ≡ r
    by (Ok l) = refl
    by (Err f) = refl

module _ {B : Type 0} (read : Placed → Result B FileFault) {all : List Element → List Placed} {next : List Element → Option Placed} (steps : Steps all next) (rows : List B) (rest below : List Element) (so_far : SoFar read all rows rest below) where
  pub ends : next rest ≡ None → rows_of read (all below) ≡ Ok rows
  ends e = sym so_far.total ∙ ap (λ l. with_front rows (rows_of read l)) (steps.are rest ∙ ap (listed all) e) ∙ ap (λ (l : List B). Ok l) (append-nil rows)

  module _ (c : Placed) (is : next rest ≡ Some c) where
    turn : with_front rows (read c >>= λ row. rows_of read (all c.1) >>= λ l. Ok (row ∷ l)) ≡ rows_of read (all below)
    turn = sym (ap (λ l. with_front rows (rows_of read l)) (steps.are rest ∙ ap (listed all) is)) ∙ so_far.total

    at_fault : (f : FileFault) → fault_of (read c) ≡ Some f → fault_of (rows_of read (all below)) ≡ Some f
    at_fault f k = by (read c) refl k
      where
        by : (r : Result B FileFault) → read c ≡ r → fault_of r ≡ Some f → fault_of (rows_of read (all below)) ≡ Some f
        by (Ok x) i j = absurd cc
        by (Err g) i j = ap (λ t. fault_of t) (sym turn) ∙ ap (λ r. fault_of (with_front rows (r >>= λ row. rows_of read (all c.1) >>= λ l. Ok (row ∷ l)))) i ∙ j

    pub fails : (f : FileFault) → Tells f (fault_of (read c)) → Tells f (fault_of (rows_of read (all below)))
    fails fault.NoMemory k = tt
    fails (fault.Outline o) k = at_fault (fault.Outline o) k
    fails fault.WrongRoot k = at_fault fault.WrongRoot k
    fails (fault.Missing a b) k = at_fault (fault.Missing a b) k
    fails (fault.BadValue a b) k = at_fault (fault.BadValue a b) k
    fails (fault.BadUnit a b) k = at_fault (fault.BadUnit a b) k
    fails (fault.TooLarge a b) k = at_fault (fault.TooLarge a b) k
    fails (fault.BadWord a b) k = at_fault (fault.BadWord a b) k
    fails (fault.UnknownAttribute a b) k = at_fault (fault.UnknownAttribute a b) k

    pub goes_on : (row : B) → read c ≡ Ok row → SoFar read all (rows ++ row ∷ []) c.1 below
    goes_on row i = record { total = regroup (rows_of read (all c.1)) ∙ ap (λ r. with_front rows (r >>= λ x. rows_of read (all c.1) >>= λ l. Ok (x ∷ l))) (sym i) ∙ turn }
      where
        regroup : (r : Result (List B) FileFault) → with_front (rows ++ row ∷ []) r ≡ with_front rows (r >>= λ l. Ok (row ∷ l))
        regroup (Ok l) = ap (λ (x : List B). Ok x) (append_assoc rows (row ∷ []) l)
        regroup (Err g) = refl
