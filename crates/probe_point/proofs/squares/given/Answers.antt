use Rattle.std.proofs.Common.{rules, sym, subst, FitsSigned, to_z-of_z}
use Rattle.std.specs.Int.{w128}
use Rattle.base_types.specs.declared.states.ArcState.{ArcState}
use Rattle.gas_model.specs.Laws.{form_of}
use Rattle.probe_point.specs.Squares.{IsGiven}
use Rattle.probe_point.proofs.squares.given.Goals as goal

pub returns-in-Opened : goal.returns-in-Opened
returns-in-Opened c =
    let q = c.ranges.q in
    let x = c.ranges.x in
    let f : FitsSigned w128 c.given_opened.result = search rules in
    let says = simp to_z-of_z at (c.given_opened.ensures c.args.ends) in
    simp to_z-of_z (subst (λ (s : ArcState). IsGiven (form_of c.args.kind.now s) c.args.at_from c.args.ends c.args.q c.args.x c.given_opened.result) (sym c.in-Opened.is) says)

pub returns-in-Active : goal.returns-in-Active
returns-in-Active c =
    let x = c.ranges.x in
    let f : FitsSigned w128 c.given_active.result = search rules in
    let says = simp to_z-of_z at (c.given_active.ensures c.args.at_from c.args.q) in
    simp to_z-of_z (subst (λ (s : ArcState). IsGiven (form_of c.args.kind.now s) c.args.at_from c.args.ends c.args.q c.args.x c.given_active.result) (sym c.in-Active.is) says)
