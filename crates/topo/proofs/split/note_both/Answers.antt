use Rattle.std.proofs.Common.{ℕ, subst, sym, []}
use Rattle.topo.specs.Split.{HasFirsts}
use Rattle.topo.proofs.split.note_both.Goals as goal

pub returns : goal.returns
returns c s =
    let one = c.in_ok-note_all.ensures [] s in
    (c.in_ok-note_all-2.ensures c.args.roots.now (subst (λ (n : ℕ). HasFirsts n c.args.roots.now c.note_all.new.list.items c.note_all.new.has) (sym one.count) one)).is
