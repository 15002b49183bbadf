use Rattle.std.proofs.Common.{◌≡◌, ◌<ℤ◌, sym, subst, FitsSigned, to_z-of_z, rules}
use Rattle.std.specs.Int.{w128}
use Rattle.gas_model.specs.declared.rows.Ends.{Ends}
use Rattle.tight_steps.specs.Best.{IsLoosest, AreSmallEnds}
use Rattle.tight_steps.specs.Moves.{allows, ends_at}
use Rattle.tight_steps.proofs.Bests.{none_empty}
use Rattle.tight_steps.proofs.Allowed.{own_small, safe_sides, safe_value, limited_sides, allows_loosen, decided}
use Rattle.tight_steps.proofs.shrinking.shrinks_by.Goals as goal

pub loosest-requires : goal.loosest-requires
loosest-requires c = subst AreSmallEnds (sym c.own_ends.ensures) (own_small c.args.scale c.args.e c.args.side c.requires.ends)

pub allows-requires-clause-ends : goal.allows-requires-clause-ends
allows-requires-clause-ends c = safe_sides c.args.scale c.args.e c.requires.ends

pub allows-requires-clause-value : goal.allows-requires-clause-value
allows-requires-clause-value c =
    let value : FitsSigned w128 c.in-Some.value = search rules in
    let loosest : IsLoosest c.args.low (ends_at c.args.e c.args.side) c.in-Some.value = subst (λ (e : Ends). IsLoosest c.args.low e c.in-Some.value) c.own_ends.ensures c.in-Some.ensures in
    simp (to_z-of_z, value) (safe_value c.args.scale c.args.e c.args.side c.args.low c.in-Some.value c.requires.ends loosest.within)

pub returns-in-None : goal.returns-in-None
returns-in-None c =
    let own = ends_at c.args.e c.args.side in
    none_empty c.args.low own (allows c.args.rule c.args.form.now c.args.scale c.args.e c.args.side c.args.low)
    (subst (λ (e : Ends). e.hi <ℤ e.lo) c.own_ends.ensures c.in-None.ensures)

pub returns-in-Some : goal.returns-in-Some
returns-in-Some c =
    let form = c.args.form.now in
    let e = c.args.e in
    let x = c.args.side in
    let value : FitsSigned w128 c.in-Some.value = search rules in
    let loosest : IsLoosest c.args.low (ends_at e x) c.in-Some.value = subst (λ (o : Ends). IsLoosest c.args.low o c.in-Some.value) c.own_ends.ensures c.in-Some.ensures in
    let test = simp (to_z-of_z, value, c.ranges.scale) at c.allows.ensures in
    decided c.allows.result c.args.low (ends_at e x) (allows c.args.rule form c.args.scale e x c.args.low) c.in-Some.value test loosest
    (allows_loosen c.args.rule form c.args.scale e x c.args.low c.requires.within c.requires.ends.scale (limited_sides c.args.scale c.args.e c.requires.ends))
