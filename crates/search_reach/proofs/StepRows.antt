-- The steps on the way to each box of a pool are a path, where those of each box are turns.
use Rattle.std.proofs.Common.{◌≡◌, ℕ, zero, suc, ◌+◌, ◌*◌, ◌^◌, ◌<◌, refl, sym, ap, ◌∙◌, subst, arith, pos, ◌≤ℤ◌, List, [], ◌∷◌, Some}
use Rattle.std.specs.Prelude.{slice_get}
use Rattle.std.specs.Option.{option_map_or}
use Rattle.std.proofs.lemmas.Option.{slice_get_within}
use Rattle.integer_laws.proofs.Ring.{linear}
use Rattle.base_types.specs.declared.variables.Var.{Var}
use Rattle.gas_model.specs.Rows.{Network}
use Rattle.gas_model.specs.Boxes.{BoxFits, ends_of, width_of}
use Rattle.tree_cert.specs.declared.line.Step.{Step}
use Rattle.tree_cert.specs.Tree.{Branch}
use Rattle.tree_cert.specs.TreeRules.{Holds}
use Rattle.tree_cert.proofs.Options.{holds_some}
use Rattle.tree_rules.specs.Rules.{PartBox}
use Rattle.tree_rules.specs.Branches.{after_branch, rules_of}
use Rattle.tree_rules.proofs.CutSound.{get_some}
use Rattle.tree_pool.specs.Rows.{Splits, Row, IsMap, HangsBelow}
use Rattle.tree_pool.specs.Rules.{AreGiven, EndHolds, IsOf}
use Rattle.tree_pool.proofs.Lists.{found, same_paths}
use Rattle.stable_sweep.specs.Runs.{after, AreTurns}
use Rattle.stable_sweep.specs.Paths.{ArePath, count_on}
use Rattle.stable_sweep.proofs.StepCounts.{steps_are_few}
use Rattle.nom_search.proofs.Runs.{turns_lead}
use Rattle.search_reach.specs.StepPaths.{steps_at, steps_to, steps_on, steps_along, StepsAreFewIn}
use Rattle.search_reach.proofs.StepChildren.{IsInside, children_inside}
use Rattle.search_reach.proofs.StepPairs.{path_from, joined, after_fits, count_from, steps_on_both}

-- the steps of each row are turns in its box
abbrev pub HaveTurns : Network → List Row → List PartBox → Type 0
HaveTurns p rows boxes = (n : ℕ) (r : Row) (b : PartBox) → slice_get rows n ≡ Some r → slice_get boxes n ≡ Some b → AreTurns p b r.steps

-- the steps in the boxes above this path
abbrev steps_above : List Row → List ℕ → List Step
steps_above rows [] = []
steps_above rows (k ∷ path) = steps_to rows path

steps_split : (rows : List Row) (path : List ℕ) (v : Var) → steps_along rows path v ≡ steps_on v (steps_above rows path) + steps_on v (steps_at rows path)
steps_split rows [] v = omega arith
steps_split rows (k ∷ path) v = steps_on_both v (steps_to rows path) (steps_at rows (k ∷ path))

-- a path from the root with so many steps on the variable
record IsLed (p : Network) (root : PartBox) (v : Var) (n : ℕ) : Type 0 where
  path : List (PartBox × Step)
  is_path : ArePath p root path
  count : count_on v path ≡ n

-- each path from the box goes on from the steps above it
record IsReached (p : Network) (root : PartBox) (v : Var) (rows : List Row) (above : List ℕ) (b : PartBox) : Type 0 where
  fits : BoxFits p b.bounds
  led : (rest : List (PartBox × Step)) → ArePath p b rest → IsLed p root v (steps_on v (steps_above rows above) + count_on v rest)

module _ (p : Network) (root : PartBox) (rows : List Row) (boxes : List PartBox) (map : IsMap rows) (pool : IsOf (rules_of p) root rows boxes) (turns : HaveTurns p rows boxes) (root_fits : BoxFits p root.bounds) where
  own_steps : (n : ℕ) (r : Row) → slice_get rows n ≡ Some r → steps_at rows r.path ≡ r.steps
  own_steps n r here = ap (λ o. option_map_or (λ (q : Row). q.steps) o []) (found rows n r here (λ m q at same. map.distinct m n q r at here (same_paths q.path r.path same)))

  along : (n : ℕ) (r : Row) (v : Var) → slice_get rows n ≡ Some r → steps_along rows r.path v ≡ steps_on v (steps_above rows r.path) + steps_on v r.steps
  along n r v here = subst (λ (ss : List Step). steps_along rows r.path v ≡ steps_on v (steps_above rows r.path) + steps_on v ss) (own_steps n r here) (steps_split rows r.path v)

  -- a child of a split box lies in what the steps there leave
  given_inside : (c b : PartBox) (f : Branch) (first count nth : ℕ) → BoxFits p c.bounds → EndHolds (rules_of p) rows boxes c (Splits f first count) → nth < count → slice_get boxes (first + nth) ≡ Some b → IsInside p c b
  given_inside c b f first count nth fits ended within there =
      let w = holds_some (after_branch p c f) (λ w. AreGiven (rules_of p) rows boxes w first count) ended in
      let kid = get_some w.2.kids nth (let e = w.2.number in omega arith) in
      let child = (w.2.each nth kid.0 kid.1).box in
      let is : kid.0.1 ≡ b = cc in
      subst (IsInside p c) {x = kid.0.1} is (children_inside p c f w.0 w.2.kids fits w.1 w.2.expected nth kid.0 kid.1)

  hangs_inside : (m : ℕ) (b : PartBox) → slice_get boxes m ≡ Some b → (h : HangsBelow rows m) (B : PartBox) → slice_get boxes h.parent ≡ Some B → BoxFits p B.bounds → IsInside p (after B h.row.steps) b
  hangs_inside m b there h B above fits =
      let lead = turns_lead p B h.row.steps (turns h.parent h.row B h.here above) in
      let holds = pool.each h.parent h.row B h.here above in
      let left : EndHolds (rules_of p) rows boxes (after B h.row.steps) h.row.standing = subst (λ o. Holds o (λ c. EndHolds (rules_of p) rows boxes c h.row.standing)) lead holds in
      given_inside (after B h.row.steps) b h.branch h.first h.count h.nth (after_fits p B h.row.steps fits)
      (subst (EndHolds (rules_of p) rows boxes (after B h.row.steps)) h.split left) h.within (subst (λ (k : ℕ). slice_get boxes k ≡ Some b) h.number there)

  child_reached : (v : Var) (m k : ℕ) (b : PartBox) → slice_get boxes m ≡ Some b → (h : HangsBelow rows m) (B : PartBox) → slice_get boxes h.parent ≡ Some B → IsReached p root v rows h.row.path B → IsReached p root v rows (k ∷ h.row.path) b
  child_reached v m k b there h B above up =
      let inside = hangs_inside m b there h B above up.fits in
      record {
        fits = inside.fits;
        led = λ rest is.
            let l = up.led (path_from B h.row.steps rest) (joined p B b h.row.steps rest up.fits (turns h.parent h.row B h.here above) inside.narrow is) in
            let counted = count_from v B h.row.steps rest in
            let whole = along h.parent h.row v h.here in
            record { path = l.path; is_path = l.is_path; count = let e = l.count in omega (arith, e, counted, whole) };
      }

  -- its path is that of the box above it, with its place there
  place : (m : ℕ) (r : Row) (path : List ℕ) → slice_get rows m ≡ Some r → (h : HangsBelow rows m) → r.path ≡ path → h.nth ∷ h.row.path ≡ path
  place m r path here h is =
      let (q, at, child) = (map.below h.parent h.row h.branch h.first h.count h.here h.split).1 h.nth h.within in
      let same : q ≡ r = (let e = h.number in cc) in
      sym child ∙ ap (λ (x : Row). x.path) same ∙ is

  reached : (v : Var) (path : List ℕ) (n : ℕ) (r : Row) (b : PartBox) → slice_get rows n ≡ Some r → slice_get boxes n ≡ Some b → r.path ≡ path → IsReached p root v rows path b
  reached v [] zero r b here there is =
      let same : root ≡ b = (let e = pool.rooted in cc) in
      subst (IsReached p root v rows []) same (record { fits = root_fits; led = λ rest is. record { path = rest; is_path = is; count = omega arith } })
  reached v (k ∷ path) zero r b here there is = absurd (let e = (map.top r here).0 in cc)
  reached v [] (suc n) r b here there is = absurd (let e = place (suc n) r [] here (map.above n r here) is in cc)
  reached v (k ∷ path) (suc n) r b here there is =
      let h = map.above n r here in
      let whole = place (suc n) r (k ∷ path) here h is in
      let above : h.row.path ≡ path = cc in
      let B = get_some boxes h.parent (let a = slice_get_within rows h.parent h.row h.here in let e = pool.count in omega arith) in
      let up = reached v path h.parent h.row B.0 h.here B.1 above in
      subst (λ (x : List ℕ). IsReached p root v rows (k ∷ x) b) above
      (child_reached v (suc n) k b there h B.0 B.1 (subst (λ (x : List ℕ). IsReached p root v rows x B.0) (sym above) up))

  pub steps_are_few_in : ((v : Var) → width_of (ends_of root.bounds v) ≤ℤ pos (16 * 10 ^ 16)) → StepsAreFewIn rows
  steps_are_few_in narrow n r v here =
      let b = get_some boxes n (let a = slice_get_within rows n r here in let e = pool.count in omega arith) in
      let at = reached v r.path n r b.0 here b.1 refl in
      let own = joined p b.0 (after b.0 r.steps) r.steps [] at.fits (turns n r b.0 here b.1) (λ w. omega (arith, linear)) tt in
      let l = at.led (path_from b.0 r.steps []) own in
      let few = steps_are_few p root v l.path (narrow v) l.is_path in
      let counted = count_from v b.0 r.steps [] in
      let whole = along n r v here in
      let e = l.count in
      omega (arith, few, counted, whole, e)
