-- What the decisions of groups say of an arc.
use Rattle.std.specs.Prelude.{◌≡◌, ℕ, ◌+◌, ◌==◌, ◌<◌, ◌≤◌, ◌&&◌, ◌||◌, not, List, [], ◌∷◌, ◌++◌, length, slice_get, slice_index_or, if◌then◌else◌, Bool, true, false, Option, Some, None, is_none, is_some}
use Rattle.std.specs.List.{list_all}
use Rattle.std.specs.Option.{option_map_or}
use Rattle.base_types.specs.declared.states.Allow.{Allow}
use Rattle.gas_model.specs.declared.rows.Decision.{Decision}
use Rattle.gas_model.specs.declared.rows.Group.{Group}
use Rattle.gas_model.specs.declared.rows.Ruling.{Ruling}
use Rattle.base_types.specs.declared.states.ArcState.{ArcState}
use Rattle.gas_model.specs.declared.rows.ArcRow.{ArcRow}
use Rattle.gas_model.specs.declared.rows.PartState.{PartState}
use Rattle.gas_model.specs.Rows.{Network}
use Rattle.gas_model.specs.Choices.{allows, fixed_state}

-- what the decision j of the group k says of the arc a by these sets
abbrev pub rulings_in : (a k j : ℕ) → List (ℕ × Allow) → List Ruling
rulings_in a k j [] = []
rulings_in a k j (s ∷ sets) = if s.0 == a then record { group = k; decision = j; allow = s.1 } ∷ rulings_in a k j sets else rulings_in a k j sets

-- what the decisions of the group k say of the arc a, which are numbered from j
abbrev pub rulings_by : (a k j : ℕ) → List Decision → List Ruling
rulings_by a k j [] = []
rulings_by a k j (d ∷ decisions) = rulings_in a k j d.sets ++ rulings_by a k (j + 1) decisions

-- what groups say of the arc a, which are numbered from k
abbrev pub rulings_from : (a k : ℕ) → List Group → List Ruling
rulings_from a k [] = []
rulings_from a k (g ∷ groups) = rulings_by a k 0 g.decisions ++ rulings_from a (k + 1) groups

-- what all decisions of all groups say of the arc a, in order
abbrev pub rulings_at : List Group → ℕ → List Ruling
rulings_at groups a = rulings_from a 0 groups

-- the ruling for its arc alone
abbrev pub one_ruling : ℕ → Ruling → ℕ → List Ruling
one_ruling arc r a = if arc == a then r ∷ [] else []

-- each of the lists has at its end what f says of its place
pub record Grew (f : ℕ → List Ruling) (before now : List (List Ruling)) : Type 0 where
  pub count : length now ≡ length before
  pub each : (a : ℕ) → a < length before → slice_index_or now a [] ≡ slice_index_or before a [] ++ f a

-- the rulings of each arc are kept
pub record KeepsRulings (lists : List (List Ruling)) (arcs : ℕ) (groups : List Group) : Type 0 where
  pub count : length lists ≡ arcs
  pub each : (a : ℕ) → a < arcs → slice_index_or lists a [] ≡ rulings_at groups a

-- the sets name arcs, of which there are n
abbrev pub NameArcs : ℕ → List (ℕ × Allow) → Type 0
NameArcs n sets = (i : ℕ) (s : ℕ × Allow) → slice_get sets i ≡ Some s → s.0 < n

abbrev pub DecideArcs : ℕ → List Decision → Type 0
DecideArcs n decisions = (j : ℕ) (d : Decision) → slice_get decisions j ≡ Some d → NameArcs n d.sets

-- all sets of few decisions of each group name arcs
pub record GroupsDecideArcs (n : ℕ) (groups : List Group) : Type 0 where
  pub few : (k : ℕ) (g : Group) → slice_get groups k ≡ Some g → length g.decisions ≤ 1024
  pub arcs : (k : ℕ) (g : Group) → slice_get groups k ≡ Some g → DecideArcs n g.decisions

-- under the pick of its group a ruling leaves the state: another decision is picked, or its word allows the state
abbrev pub leaves : Option ℕ → ArcState → Ruling → Bool
leaves pick state r = not (option_map_or (λ j. j == r.decision) pick false) || allows r.allow state

-- under these picks all of the rulings leave the state
abbrev pub all_leave : (ℕ → Option ℕ) → ArcState → List Ruling → Bool
all_leave pick state rulings = list_all (λ r. leaves (pick r.group) state r) rulings

-- the decision that is picked for a group, if one is
abbrev pub pick_in : List (Option ℕ) → ℕ → Option ℕ
pick_in picks k = slice_index_or picks k None

-- the word that the picked decisions have for an arc allows the state, where they have one
abbrev pub word_allows : Option Allow → ArcState → Bool
word_allows None state = true
word_allows (Some word) state = allows word state

-- the pick of the group that says the rulings, if there are any
abbrev pub pick_for : (ℕ → Option ℕ) → List Ruling → Option ℕ
pick_for pick [] = None
pick_for pick (r ∷ rulings) = pick r.group

-- one group says all of them, and each of its decisions at most one, in the order of the decisions
pub record AreInOrder (rulings : List Ruling) : Type 0 where
  pub group : (i j : ℕ) (r s : Ruling) → slice_get rulings i ≡ Some r → slice_get rulings j ≡ Some s → r.group ≡ s.group
  pub decisions : (i j : ℕ) (r s : Ruling) → i < j → slice_get rulings i ≡ Some r → slice_get rulings j ≡ Some s → r.decision < s.decision

-- the state of the arc a isn't fixed, and each group that has a word for it is picked
abbrev pub is_free : Network → PartState → ℕ → ArcRow → Bool
is_free p part a row = is_none (fixed_state p part a row) && list_all (λ r. is_some (pick_in part.picks r.group)) (rulings_at p.groups a)
