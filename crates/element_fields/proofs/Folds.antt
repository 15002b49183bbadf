-- Taking in child after child, as a loop does.
use Rattle.std.proofs.Common.{◌≡◌, List, Option, Some, None, Ok, Err, refl, sym, ap, ◌∙◌}
use Rattle.std.specs.Prelude.{Result}
use Rattle.file_faults.specs.declared.outline.FileFault.{FileFault}
use Rattle.file_faults.specs.declared.outline.FileFault.TheVariants as fault
use Rattle.tag_outline.specs.declared.outline.Element.{Element}
use Rattle.element_fields.specs.Answers.{◌>>=◌, fold_of, fault_of, Tells}
use Rattle.element_fields.specs.Lookup.{Placed}
use Rattle.element_fields.proofs.Rows.{Steps, listed}

-- from this state on, what is left gives the state after all
pub record TakenSoFar {S : Type 0} (take : S → Placed → Result S FileFault) (all : List Element → List Placed) (first now : S) (rest below : List Element) : Type 0 where
  pub total : fold_of take now (all rest) ≡ fold_of take first (all below)

pub starts : {S : Type 0} (take : S → Placed → Result S FileFault) (all : List Element → List Placed) (first : S) (below : List Element) → TakenSoFar take all first first below below
starts take all first below = record { total = refl }

module _ {S : Type 0} (take : S → Placed → Result S FileFault) {all : List Element → List Placed} {next : List Element → Option Placed} (steps : Steps all next) (first now : S) (rest below : List Element) (so_far : TakenSoFar take all first now rest below) where
  pub stops : next rest ≡ None → fold_of take first (all below) ≡ Ok now
  stops e = sym so_far.total ∙ ap (λ l. fold_of take now l) (steps.are rest ∙ ap (listed all) e)

  module _ (c : Placed) (is : next rest ≡ Some c) where
    turn : (take now c >>= λ t. fold_of take t (all c.1)) ≡ fold_of take first (all below)
    turn = sym (ap (λ l. fold_of take now l) (steps.are rest ∙ ap (listed all) is)) ∙ so_far.total

    at_fault : (f : FileFault) → fault_of (take now c) ≡ Some f → fault_of (fold_of take first (all below)) ≡ Some f
    at_fault f k = by (take now c) refl k
      where
        by : (r : Result S FileFault) → take now c ≡ r → fault_of r ≡ Some f → fault_of (fold_of take first (all below)) ≡ Some f
        by (Ok x) i j = absurd cc
        by (Err g) i j = ap (λ t. fault_of t) (sym turn) ∙ ap (λ r. fault_of (r >>= λ t. fold_of take t (all c.1))) i ∙ j

    pub breaks : (f : FileFault) → Tells f (fault_of (take now c)) → Tells f (fault_of (fold_of take first (all below)))
    breaks fault.NoMemory k = tt
    breaks (fault.Outline o) k = at_fault (fault.Outline o) k
    breaks fault.WrongRoot k = at_fault fault.WrongRoot k
    breaks (fault.Missing a b) k = at_fault (fault.Missing a b) k
    breaks (fault.BadValue a b) k = at_fault (fault.BadValue a b) k
    breaks (fault.BadUnit a b) k = at_fault (fault.BadUnit a b) k
    breaks (fault.TooLarge a b) k = at_fault (fault.TooLarge a b) k
    breaks (fault.BadWord a b) k = at_fault (fault.BadWord a b) k
    breaks (fault.UnknownAttribute a b) k = at_fault (fault.UnknownAttribute a b) k

    pub takes_on : (t : S) → take now c ≡ Ok t → TakenSoFar take all first t c.1 below
    takes_on t i = record { total = ap (λ r. r >>= λ u. fold_of take u (all c.1)) (sym i) ∙ turn }
