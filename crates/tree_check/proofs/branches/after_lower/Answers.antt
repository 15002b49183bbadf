use Rattle.std.proofs.Common.{◌≡◌, ◌∙◌, sym, subst, rules, to_z-of_z, FitsSigned, IsTrue, true}
use Rattle.std.specs.Int.{w128}
use Rattle.base_types.specs.declared.variables.Var.{Var}
use Rattle.gas_model.specs.Boxes.{is_var}
use Rattle.tree_rules.specs.Branches.{lies_inside}
use Rattle.tree_check.specs.Undo.{IsLimited}
use Rattle.tree_check.proofs.Undoing.{inside_limited}
use Rattle.tree_check.proofs.branches.after_lower.Goals as goal

pub returns-then-lies_inside-clause-fits : goal.returns-then-lies_inside-clause-fits
returns-then-lies_inside-clause-fits c =
    let K = c.args.b.now.scale in
    let var = c.args.var in
    let C = c.in-Half.value in
    let fits : FitsSigned w128 C = search rules in
    let told = simp (to_z-of_z, fits) at c.lies_inside.ensures in
    let inside : lies_inside c.ends.result C ≡ true = sym told ∙ c.if-lies_inside.true in
    let limited : IsLimited K var C = inside_limited K var C c.ends.result c.ends.ensures.limits inside in
    let same : var ≡ c.in-Half.of = search rules in
    let head : IsTrue (is_var c.args.p.now c.in-Half.of) × IsLimited K c.in-Half.of C = subst (λ (v : Var). IsTrue (is_var c.args.p.now v) × IsLimited K v C) same (c.requires.var, limited) in
    simp (to_z-of_z, fits) ((c.requires.var, limited), rw c.in-Half.is head)
