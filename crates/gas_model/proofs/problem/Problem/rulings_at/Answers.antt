use Rattle.std.proofs.Common.{◌≡◌, ◌∙◌, ap, sym, subst, arith, ◌<◌, length, map, get_or, []}
use Rattle.std.proofs.lemmas.List.{get_or-map, length-map}
use Rattle.gas_model.specs.Rulings.{AreInOrder}
use Rattle.gas_model.proofs.problem.Problem.rulings_at.Goals as goal

pub returns-clause-order : goal.returns-clause-order
returns-clause-order c =
    let a = c.args.arc in
    let lists = c.self.inside.rulings.items in
    let within = rw (← c.self.view_is) at c.requires in
    let e = c.self.invariant.rulings.each a within in
    let inside : a < length lists = (let n = c.self.invariant.rulings.count in let m = length-map lists (λ v. v.items) in omega (arith, n, m, within)) in
    let read : c.as_slice.result.now ≡ get_or (map (λ v. v.items) lists) a [] = c.as_slice.ensures.value ∙ ap (λ v. v.items) c.index.ensures ∙ sym (get_or-map (λ v. v.items) lists a c.index.result.now [] inside) in
    subst AreInOrder (sym (read ∙ e)) (c.self.invariant.order a)
