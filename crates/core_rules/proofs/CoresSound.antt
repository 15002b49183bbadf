-- Each problem that agrees at what the lines of a text cite is infeasible.
use Rattle.std.proofs.Common.{◌≡◌, ℕ, zero, suc, refl, sym, ap, ◌∙◌, subst, arith, ℤ, pos, ◌*ℤ◌, ◌≤ℤ◌, true, false, IsTrue, List, [], ◌∷◌, length, map, replicate, slice_get, slice_index_or, Option, Some, None, option_map}
use Rattle.std.specs.Option.{option_map_or}
use Rattle.std.proofs.lemmas.List.{length-map}
use Rattle.integer_laws.proofs.Ring.{linear}
use Rattle.base_types.specs.declared.states.ArcState.{ArcState}
use Rattle.gas_model.specs.declared.rows.Ends.{Ends}
use Rattle.base_types.specs.declared.variables.Var.TheVariants.{Flow, Square}
use Rattle.gas_model.specs.Rows.{Network}
use Rattle.gas_model.specs.Choices.{fresh_part}
use Rattle.gas_model.specs.Curves.{square}
use Rattle.gas_model.specs.Points.{IsInfeasible}
use Rattle.gas_model.specs.Boxes.{BoxFits, no_ends, opening, flow_ends, square_ends}
use Rattle.gas_model.specs.Within.{IsWithin}
use Rattle.tree_cert.specs.declared.line.Line.{Line}
use Rattle.tree_cert.specs.declared.line.Line.TheVariants as lines
use Rattle.tree_cert.specs.Tree.{Tree, IsClosed}
use Rattle.tree_cert.specs.TreeRules.{Holds, Passes}
use Rattle.tree_rules.specs.Branches.{root_box, root_of, rules_of}
use Rattle.tree_rules.specs.Theorems.{Agrees}
use Rattle.tree_rules.proofs.TreeSound.{opening_contains}
use Rattle.core_rules.specs.Reads.{Item, Supply, Law, End}
use Rattle.core_rules.specs.Cores.{is_among, blank_arc, tree_cites, SameShape, SameAt, AgreesOn, flow_bound, pressure_bound, ReadsSame}
use Rattle.core_rules.specs.Theorems.{CoresRefute}
use Rattle.core_rules.proofs.TreeCores.{cores_refute_boxes}

-- ---- the opening boxes
opened_at : {A : Type 0} (f : A → Ends) (xs : List A) (i : ℕ) → slice_index_or (map f xs) i no_ends ≡ option_map_or f (slice_get xs i) no_ends
opened_at f [] i = refl
opened_at f (x ∷ xs) zero = refl
opened_at f (x ∷ xs) (suc i) = opened_at f xs i

-- an end of a row's bounds, which a number of the row determines
by_rows : {A : Type 0} (f : A → Ends) (pick : Ends → ℤ) (num : A → ℤ) (g : ℤ → ℤ) → ((x : A) → pick (f x) ≡ g (num x)) → (o q : Option A) → option_map num o ≡ option_map num q → pick (option_map_or f o no_ends) ≡ pick (option_map_or f q no_ends)
by_rows f pick num g says None None e = refl
by_rows f pick num g says None (Some y) e = absurd cc
by_rows f pick num g says (Some x) None e = absurd cc
by_rows f pick num g says (Some x) (Some y) e = says x ∙ ap g (let n : num x ≡ num y = cc in n) ∙ sym (says y)

picked : {A : Type 0} (f : A → Ends) (pick : Ends → ℤ) (num : A → ℤ) (g : ℤ → ℤ) (xs ys : List A) (i : ℕ) → ((x : A) → pick (f x) ≡ g (num x)) → option_map num (slice_get xs i) ≡ option_map num (slice_get ys i)
    → pick (slice_index_or (map f xs) i no_ends) ≡ pick (slice_index_or (map f ys) i no_ends)
picked f pick num g xs ys i says same =
    ap pick (opened_at f xs i) ∙ by_rows f pick num g says (slice_get xs i) (slice_get ys i) same ∙ sym (ap pick (opened_at f ys i))

opening_same : (K : ℤ) (p p2 : Network) (i : Item) → SameAt p p2 i → ReadsSame p p2 (root_box K p) (root_box K p2) i
opening_same K p p2 (Supply n low) h = h
opening_same K p p2 (Law a) h = h
opening_same K p p2 (End (Flow a) true) h = picked (flow_ends K) (λ e. e.lo) (flow_bound true) (λ z. K *ℤ z) p.arcs p2.arcs a (λ r. refl) h
opening_same K p p2 (End (Flow a) false) h = picked (flow_ends K) (λ e. e.hi) (flow_bound false) (λ z. K *ℤ z) p.arcs p2.arcs a (λ r. refl) h
opening_same K p p2 (End (Square n) true) h = picked (square_ends K) (λ e. e.lo) (pressure_bound true) (λ z. K *ℤ square z) p.nodes p2.nodes n (λ r. refl) h
opening_same K p p2 (End (Square n) false) h = picked (square_ends K) (λ e. e.hi) (pressure_bound false) (λ z. K *ℤ square z) p.nodes p2.nodes n (λ r. refl) h

opening_fits : (K : ℤ) (p : Network) → BoxFits p (opening K p)
opening_fits K p = record { flows = length-map p.arcs (flow_ends K); squares = length-map p.nodes (square_ends K) }

fresh_same : (p p2 : Network) → SameShape p p2 → fresh_part p ≡ fresh_part p2
fresh_same p p2 s =
    let groups : length p.groups ≡ length p2.groups = ap length s.groups in
    let arcs : length p.arcs ≡ length p2.arcs = sym (length-map p.arcs blank_arc) ∙ ap length s.arcs ∙ length-map p2.arcs blank_arc in
    rw (groups, arcs) refl

none_picked : (n k j : ℕ) → slice_get (replicate {A = Option ℕ} n None) k ≡ Some (Some j) → ⊥
none_picked zero k j e = cc
none_picked (suc n) zero j e = cc
none_picked (suc n) (suc k) j e = none_picked n k j e

none_fixed : (n a : ℕ) (s : ArcState) → slice_get (replicate {A = Option ArcState} n None) a ≡ Some (Some s) → ⊥
none_fixed zero a s e = cc
none_fixed (suc n) zero s e = cc
none_fixed (suc n) (suc a) s e = none_fixed n a s e

fresh_agrees : (p : Network) (picks : List ℕ) (states : List ArcState) → Agrees (fresh_part p) picks states
fresh_agrees p picks states = record {
  picked = λ k j e. absurd (none_picked (length p.groups) k j e);
  fixed = λ a s e. absurd (none_fixed (length p.arcs) a s e);
}

root_refutes : (K : ℤ) (p p2 : Network) (t : Tree) (core : List Item) → pos 1 ≤ℤ K → IsWithin p2 → Passes (rules_of p) t (root_box K p) → IsClosed t → core ≡ tree_cites p [] (root_box K p) t → AgreesOn p core p2 → IsInfeasible p2
root_refutes K p p2 t core k w passes closed e agrees picks states x listed meets =
    cores_refute_boxes p p2 (root_box K p) (root_box K p2) [] t w (record { scale = k; fits = opening_fits K p }) (record { scale = k; fits = opening_fits K p2 }) passes closed
    (record {
      alike = record { shape = agrees.shape; scale = refl; part = fresh_same p p2 agrees.shape };
      set_same = λ i m. absurd cc;
      core_same = λ i m. opening_same K p p2 i (agrees.numbers i (subst (λ l. IsTrue (is_among i l)) (sym e) m));
    })
    picks states x
    (record { listed = listed; agrees = fresh_agrees p2 picks states; inside = opening_contains K p2 states x (omega (arith, linear)) meets; meets = meets })

line_refutes : (p p2 : Network) (first : Line) (t : Tree) (core : List Item) → IsWithin p2 → Holds (root_of p first) (Passes (rules_of p) t) → IsClosed t → Holds (root_of p first) (λ b. core ≡ tree_cites p [] b t) → AgreesOn p core p2 → IsInfeasible p2
line_refutes p p2 lines.First t core w h closed e a = root_refutes (pos 1) p p2 t core (omega (arith, linear)) w h closed e a
line_refutes p p2 lines.FirstSixteenths t core w h closed e a = root_refutes (pos 16) p p2 t core (omega (arith, linear)) w h closed e a
line_refutes p p2 other t core w h closed e a = absurd h

pub cores_refute : CoresRefute
cores_refute p p2 ls core w (t, text, closed, e) a = line_refutes p p2 text.first t core w text.passes closed e a
