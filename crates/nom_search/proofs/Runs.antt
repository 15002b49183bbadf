-- Steps as the rules of trees take them; closings that can be written; the children of a fork are few.
use Rattle.std.proofs.Common.{◌≡◌, ℕ, suc, ◌≤◌, Bool, true, false, cond, not, ◌&&◌, List, [], ◌∷◌, filter, length, Option, Some, None, refl, arith, IsTrue}
use Rattle.std.specs.Prelude.{slice_get, nat_lt, ◌||◌}
use Rattle.std.specs.Option.{option_map_or}
use Rattle.std.specs.List.{list_all}
use Rattle.std.proofs.lemmas.Bool.{and_parts}
use Rattle.std.proofs.lemmas.List.{length-map}
use Rattle.std.proofs.lemmas.List.FromFn.{length-map-range_with_len}
use Rattle.gas_model.specs.declared.rows.ArcKind.{ArcKind}
use Rattle.gas_model.specs.declared.rows.ArcKind.TheVariants as kinds
use Rattle.gas_model.specs.declared.rows.ArcRow.{ArcRow}
use Rattle.gas_model.specs.declared.rows.Group.{Group}
use Rattle.gas_model.specs.declared.rows.PartState.{PartState}
use Rattle.gas_model.specs.Rows.{Network}
use Rattle.gas_model.specs.Choices.{states_of, allowed_states, picks_allow, fixed_state}
use Rattle.gas_model.specs.Within.{IsWithin}
use Rattle.tree_cert.specs.declared.line.Step.{Step}
use Rattle.tree_cert.specs.declared.line.Closing.{Closing}
use Rattle.tree_cert.specs.declared.line.Closing.TheVariants.{Empty, Cut, At}
use Rattle.tree_cert.specs.declared.line.Head.TheVariants.{Take, State}
use Rattle.tree_cert.specs.declared.line.Line.TheVariants as lines
use Rattle.tree_cert.specs.Spelling.{has_ordered_cut, is_node_list, ascends_after}
use Rattle.tree_rules.specs.NodeRules.{are_cut_nodes, all_arcs, crosses, is_unbalanced}
use Rattle.tree_rules.specs.Rules.{PartBox, step_holds, stepped, after_step, closing_holds}
use Rattle.gas_model.specs.Laws.{is_shut}
use Rattle.tree_rules.specs.Branches.{rules_of, decision_heads}
use Rattle.tree_pool.specs.Rules.{after_steps}
use Rattle.stable_sweep.specs.Runs.{after, AreTurns}
use Rattle.box_split.specs.declared.forks.Fork.{Fork}
use Rattle.box_split.specs.declared.forks.Fork.TheVariants.{Group as GroupFork, Free, Halve, Least}
use Rattle.box_pool.specs.Forks.{heads_of, state_heads}
use Rattle.box_pool.proofs.Decisions.{few_decisions}

-- ---- steps

allowed : (p : Network) (b : PartBox) (s : Step) → IsTrue (step_holds p b s) → after_step p b s ≡ Some (stepped b s)
allowed p b s h = let e : step_holds p b s ≡ true = h in rw e refl

pub turns_lead : (p : Network) (b : PartBox) (ss : List Step) → AreTurns p b ss → after_steps (rules_of p) b ss ≡ Some (after b ss)
turns_lead p b [] h = refl
turns_lead p b (s ∷ ss) h = let e = allowed p b s h.0.move.holds in rw e (turns_lead p (stepped b s) ss h.1)

-- ---- closings

cut_nodes : (p : Network) (ns : List ℕ) → are_cut_nodes p.nodes ns ≡ true → is_node_list ns ≡ true
cut_nodes p [] h = absurd cc
cut_nodes p (n ∷ ns) h = (and_parts (ascends_after n ns) (list_all (λ m. nat_lt m (length p.nodes)) (n ∷ ns)) h).0

pub ordered_closing : (p : Network) (b : PartBox) (c : Closing) → closing_holds p b c ≡ true → has_ordered_cut (lines.Close c) ≡ true
ordered_closing p b (Empty v) h = refl
ordered_closing p b (At rule place) h = refl
ordered_closing p b (Cut ns) h =
    let front = and_parts (are_cut_nodes p.nodes ns && all_arcs (λ a row. not (crosses ns row) || is_shut (fixed_state p b.part a row)) 0 p.arcs) (is_unbalanced p.nodes ns) h in
    cut_nodes p ns (and_parts (are_cut_nodes p.nodes ns) (all_arcs (λ a row. not (crosses ns row) || is_shut (fixed_state p b.part a row)) 0 p.arcs) front.0).0

-- ---- a stable box leaves a value to each variable

-- ---- few children

pub filter_short : {A : Type 0} (t : A → Bool) (xs : List A) → length (filter t xs) ≤ length xs
filter_short t [] = omega arith
filter_short t (x ∷ xs) = by (t x) (filter_short t xs)
  where
    by : (b : Bool) → length (filter t xs) ≤ length xs → length (cond b (x ∷ filter t xs) (filter t xs)) ≤ suc (length xs)
    by true h = omega arith
    by false h = omega arith

pub few_states : (kind : ArcKind) → length (states_of kind) ≤ 3
few_states (kinds.Pipe law) = omega arith
few_states kinds.Short = omega arith
few_states (kinds.Resist law) = omega arith
few_states (kinds.Loss low high) = omega arith
few_states kinds.Valve = omega arith
few_states (kinds.Control a b x y) = omega arith
few_states (kinds.Station a b x y r) = omega arith

few_of_group : (p : Network) (k : ℕ) → IsWithin p → (o : Option Group) → slice_get p.groups k ≡ o → length (option_map_or (decision_heads k) o []) ≤ 1024
few_of_group p k within None e = omega arith
few_of_group p k within (Some g) e =
    let a = few_decisions p k g within e in
    let b : length (decision_heads k g) ≡ length g.decisions = length-map-range_with_len (Take k) 0 (length g.decisions) in
    omega arith

few_of_arc : (p : Network) (part : PartState) (a : ℕ) (o : Option ArcRow) → length (option_map_or (state_heads p part a) o []) ≤ 1024
few_of_arc p part a None = omega arith
few_of_arc p part a (Some row) =
    let b = length-map (allowed_states p part a row) (State a) in
    let c = filter_short (picks_allow p.groups part.picks a) (states_of row.kind) in
    let d = few_states row.kind in
    omega arith

pub few_heads : (p : Network) (part : PartState) (fork : Fork) → IsWithin p → length (heads_of p part fork) ≤ 1024
few_heads p part (GroupFork k) within = few_of_group p k within (slice_get p.groups k) refl
few_heads p part (Free a) within = few_of_arc p part a (slice_get p.arcs a)
few_heads p part (Halve v at next) within = omega arith
few_heads p part Least within = omega arith
