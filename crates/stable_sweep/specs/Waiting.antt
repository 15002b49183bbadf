-- The slots of laws in the queue, and which laws wait.
use Rattle.std.specs.Prelude.{◌≡◌, ◌⊎◌, ℕ, ◌+◌, ◌*◌, ◌<◌, ◌≤◌, ◌==◌, Bool, true, false, List, length, Option, Some, None, slice_get, if◌then◌else◌}
use Rattle.std.specs.List.{list_any}
use Rattle.std.specs.Option.{option_map_or}
use Rattle.gas_model.specs.declared.rows.ArcRow.{ArcRow}
use Rattle.gas_model.specs.declared.rows.PartState.{PartState}
use Rattle.base_types.specs.declared.variables.Var.{Var}
use Rattle.gas_model.specs.Rows.{Network}
use Rattle.gas_model.specs.Rulings.{rulings_at}
use Rattle.tree_cert.specs.declared.line.Head.{Head}
use Rattle.tree_cert.specs.declared.line.Head.TheVariants.{Take, State, Half}
use Rattle.tree_rules.specs.declared.arc_vars.ArcVar.TheVariants.{OfFlow, OfFrom}
use Rattle.tree_rules.specs.Rules.{fixed_form}
use Rattle.link_queue.specs.Queue.{Queue, holds, IsQueue}
use Rattle.tight_steps.specs.declared.law.Law.{Law}
use Rattle.tight_steps.specs.declared.law.Law.TheVariants.{AtNode, AtArc}
use Rattle.tight_steps.specs.Moves.{is_law}
use Rattle.tight_steps.specs.Mentions.{form_mentions, mentions}

-- nodes before arcs
abbrev pub slot : (nodes : ℕ) → Law → ℕ
slot nodes (AtNode n) = n
slot nodes (AtArc a) = nodes + a

-- all numbers below the size are held
abbrev pub HoldsAll : ℕ → List ℕ → Type 0
HoldsAll size held = (i : ℕ) → i < size → holds i held ≡ true

abbrev pub KeepsHeld : List ℕ → List ℕ → Type 0
KeepsHeld old new = (i : ℕ) → holds i old ≡ true → holds i new ≡ true

-- the first number from `turn` on that is held, or there is none
pub record NoneFrom (turn size : ℕ) (held : List ℕ) : Type 0 where
  pub none : (i : ℕ) → turn ≤ i → i < size → holds i held ≡ false

pub record IsFirstFrom (turn size : ℕ) (held : List ℕ) (i : ℕ) : Type 0 where
  pub from : turn ≤ i
  pub within : i < size
  pub is : holds i held ≡ true
  pub first : (j : ℕ) → turn ≤ j → j < i → holds j held ≡ false

-- all numbers in the first round are still to come
pub record IsInRounds (size turn : ℕ) (round later : Queue) : Type 0 where
  pub round_size : round.size ≡ size
  pub later_size : later.size ≡ size
  pub round_is : IsQueue round
  pub later_is : IsQueue later
  pub begun : turn ≤ size
  pub ahead : (i : ℕ) → holds i round.held ≡ true → turn ≤ i

-- a number is held at most once in each round
abbrev pub IsFew : Queue → Type 0
IsFew q = length q.held ≤ 2 * q.size

-- one number is taken out
pub record IsTaken (i : ℕ) (old new : List ℕ) : Type 0 where
  pub less : length new < length old
  pub rest : (j : ℕ) → holds j old ≡ true → (j ≡ i) ⊎ (holds j new ≡ true)

-- the number is held, unless it is the one that is tried
pub record Waits (current : ℕ) (held : List ℕ) (i : ℕ) : Type 0 where
  pub is : (i ≡ current → ⊥) → holds i held ≡ true

-- the law of the arc a mentions its flow, or else its squares
abbrev pub row_mentions : Network → PartState → ℕ → (flow : Bool) → ArcRow → Bool
row_mentions p part a flow row = option_map_or (λ form. form_mentions form (if flow then OfFlow else OfFrom)) (fixed_form p part a row) false

abbrev pub arc_mentions : Network → PartState → ℕ → (flow : Bool) → Bool
arc_mentions p part a flow = option_map_or (row_mentions p part a flow) (slice_get p.arcs a) false

abbrev pub PutsArc : Network → PartState → (flow : Bool) → (current : ℕ) → ℕ → List ℕ → Type 0
PutsArc p part flow current a held = arc_mentions p part a flow ≡ true → Waits current held (length p.nodes + a)

-- each law that mentions the variable waits, but for the one in the slot `current`
pub record PutsBack (p : Network) (part : PartState) (v : Var) (current : ℕ) (held : List ℕ) : Type 0 where
  pub each : (law : Law) → is_law (length p.nodes) (length p.arcs) law → mentions p part law v ≡ true → Waits current held (slot (length p.nodes) law)

-- a decision of the group k says something of the arc a
abbrev pub speaks_of : Network → (k a : ℕ) → Bool
speaks_of p k a = list_any (λ r. r.group == k) (rulings_at p.groups a)

-- the laws that a head may wake all wait: after a half of a variable those that mention it, after a pick those of the arcs
-- that the group speaks of, after a state that of its arc; and where there is no head each law
abbrev pub IsWoken : Network → PartState → Option Head → List ℕ → Type 0
IsWoken p part None held = HoldsAll (length p.nodes + length p.arcs) held
IsWoken p part (Some (Take k j)) held = (a : ℕ) → a < length p.arcs → speaks_of p k a ≡ true → holds (length p.nodes + a) held ≡ true
IsWoken p part (Some (State a state)) held = holds (length p.nodes + a) held ≡ true
IsWoken p part (Some (Half v low C)) held = PutsBack p part v (length p.nodes + length p.arcs) held
