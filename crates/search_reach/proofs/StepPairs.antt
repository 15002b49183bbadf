-- Steps with the boxes that they are made in.
use Rattle.std.proofs.Common.{◌≡◌, ℕ, suc, ◌+◌, ap, ◌∙◌, arith, Bool, true, false, cond, List, [], ◌∷◌, ◌++◌, length, length-append}
use Rattle.std.specs.Prelude.{filter}
use Rattle.std.proofs.lemmas.List.Elements.{filter-append}
use Rattle.integer_laws.proofs.Ring.{linear}
use Rattle.base_types.specs.declared.variables.Var.{Var}
use Rattle.gas_model.specs.Rows.{Network}
use Rattle.gas_model.specs.Boxes.{BoxFits}
use Rattle.gas_model.proofs.BoxFacts.{tightened_fits}
use Rattle.tree_cert.specs.declared.line.Step.{Step}
use Rattle.tree_rules.specs.Rules.{PartBox, stepped}
use Rattle.tree_rules.specs.Branches.{same_var}
use Rattle.stable_sweep.specs.Runs.{after, AreTurns}
use Rattle.stable_sweep.specs.Paths.{IsNoWider, ArePath, count_on}
use Rattle.search_reach.specs.StepPaths.{steps_on}

-- the steps in the box b and in those that they leave, and then a path
abbrev pub path_from : PartBox → List Step → List (PartBox × Step) → List (PartBox × Step)
path_from b [] rest = rest
path_from b (s ∷ ss) rest = (b, s) ∷ path_from (stepped b s) ss rest

pub narrower : (p : Network) (b c : PartBox) (path : List (PartBox × Step)) → IsNoWider b.bounds c.bounds → ArePath p c path → ArePath p b path
narrower p b c [] n h = tt
narrower p b c (x ∷ rest) n h = (h.0, (λ v. let m = n v in let k = h.1 v in omega (arith, linear, m, k)), h.2, h.3)

pub joined : (p : Network) (b c : PartBox) (ss : List Step) (rest : List (PartBox × Step)) → BoxFits p b.bounds → AreTurns p b ss → IsNoWider (after b ss).bounds c.bounds → ArePath p c rest → ArePath p b (path_from b ss rest)
joined p b c [] rest fits turns n h = narrower p b c rest n h
joined p b c (s ∷ ss) rest fits turns n h =
    (fits, (λ v. omega (arith, linear)), record { filled = turns.0.filled; move = turns.0.move }, joined p (stepped b s) c ss rest (tightened_fits p b.bounds s.var s.low s.value fits) turns.1 n h)

pub after_fits : (p : Network) (b : PartBox) (ss : List Step) → BoxFits p b.bounds → BoxFits p (after b ss).bounds
after_fits p b [] fits = fits
after_fits p b (s ∷ ss) fits = after_fits p (stepped b s) ss (tightened_fits p b.bounds s.var s.low s.value fits)

pub count_from : (v : Var) (b : PartBox) (ss : List Step) (rest : List (PartBox × Step)) → count_on v (path_from b ss rest) ≡ steps_on v ss + count_on v rest
count_from v b [] rest = omega arith
count_from v b (s ∷ ss) rest = either (same_var s.var v) (count_on v (path_from (stepped b s) ss rest)) (filter (λ s. same_var s.var v) ss) (count_from v (stepped b s) ss rest)
  where
    either : (t : Bool) (n : ℕ) (xs : List Step) → n ≡ length xs + count_on v rest → cond t (suc n) n ≡ length (cond t (s ∷ xs) xs) + count_on v rest
    either true n xs e = omega arith
    either false n xs e = e

pub steps_on_both : (v : Var) (xs ys : List Step) → steps_on v (xs ++ ys) ≡ steps_on v xs + steps_on v ys
steps_on_both v xs ys =
    ap length (filter-append (λ (s : Step). same_var s.var v) xs ys) ∙ length-append (filter (λ (s : Step). same_var s.var v) xs) (filter (λ (s : Step). same_var s.var v) ys)
