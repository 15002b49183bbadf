-- Which branch a box has.
use Rattle.std.specs.Prelude.{ℕ, zero, suc, ◌<◌, ◌+◌, ◌-◌, ◌==◌, ◌&&◌, Bool, not, nat_lt, List, length, slice_index_or, Option, Some, None, is_none, if◌then◌else◌, ℤ, pos, ◌+ℤ◌, int_le, IsTrue}
use Rattle.std.specs.List.{list_any}
use Rattle.std.specs.Int.{int_div_euclid}
use Rattle.gas_model.specs.declared.rows.Ends.{Ends}
use Rattle.gas_model.specs.declared.rows.PartState.{PartState}
use Rattle.base_types.specs.declared.variables.Var.{Var}
use Rattle.base_types.specs.declared.variables.Var.TheVariants.{Flow, Square}
use Rattle.gas_model.specs.Rows.{Network}
use Rattle.gas_model.specs.Boxes.{Bounds, ends_of, width_of, is_in_box}
use Rattle.gas_model.specs.Rulings.{pick_in}
use Rattle.box_ends.specs.Middle.{middle}
use Rattle.topo.specs.States.{fixed_at}
use Rattle.tree_rules.specs.Branches.{same_var}
use Rattle.box_split.specs.declared.forks.Fork.{Fork}
use Rattle.box_split.specs.declared.forks.Fork.TheVariants.{Group, Free, Halve, Least}

abbrev pub or_else : Option ℕ → Option ℕ → Option ℕ
or_else (Some i) b = Some i
or_else None b = b

-- the first number below n that passes
abbrev pub first : (ℕ → Bool) → ℕ → Option ℕ
first p zero = None
first p (suc k) = or_else (first p k) (if p k then Some k else None)

-- a variable that can be halved
abbrev pub is_wide : Bounds → Var → Bool
is_wide b v = int_le (pos 2) (width_of (ends_of b v))

abbrev pub no_var : Var
no_var = Flow 0

-- where the search in a list of n begins: at the turn, if there is such a place
abbrev pub start : ℕ → ℕ → ℕ
start n turn = if nat_lt turn n then turn else 0

-- the place k after another one in a list of n, going round
abbrev pub round : ℕ → ℕ → ℕ → ℕ
round n from k = if nat_lt (from + k) n then from + k else from + k - n

-- the place after this one, going round
abbrev pub after : ℕ → ℕ → ℕ
after n place = if place + 1 == n then 0 else place + 1

-- the variable k places after the turn
abbrev pub at_turn : List Var → ℕ → ℕ → Var
at_turn split turn k = slice_index_or split (round (length split) (start (length split) turn) k) no_var

abbrev pub is_other : List Var → Bounds → Var → Bool
is_other split b v = is_wide b v && not (list_any (same_var v) split)

abbrev pub if_none : {A B : Type 0} → Option A → (A → B) → B → B
if_none None f y = y
if_none (Some x) f y = f x

abbrev pub halved : Bounds → Var → ℕ → Fork
halved b v next = Halve v (middle (ends_of b v)) next

-- each variable of the list is one of the box
abbrev pub AreVars : Bounds → List Var → Type 0
AreVars b split = (i : ℕ) → i < length split → IsTrue (is_in_box b (slice_index_or split i no_var))

-- The branch of a box, the first of these that is there: the first group that isn't picked; the first arc whose state
-- isn't fixed; the first variable of width at least 2 of the split list, from the turn on and round once; the first one
-- that isn't in the split list, flows before squares.
abbrev pub fork_of : Network → List Var → PartState → Bounds → ℕ → Fork
fork_of p split part b turn =
    if_none (first (λ k. is_none (pick_in part.picks k)) (length p.groups)) Group
    (if_none (first (λ a. is_none (fixed_at p part a)) (length p.arcs)) Free
    (if_none (first (λ k. is_wide b (at_turn split turn k)) (length split))
    (λ k. halved b (at_turn split turn k) (after (length split) (round (length split) (start (length split) turn) k)))
    (if_none (first (λ a. is_other split b (Flow a)) (length p.arcs)) (λ a. halved b (Flow a) turn)
    (if_none (first (λ n. is_other split b (Square n)) (length p.nodes)) (λ n. halved b (Square n) turn)
    Least))))
