use Rattle.std.proofs.Common.{◌≡◌, length, ap, ◌∙◌, arith}
use Rattle.std.specs.Prelude.{get_or}
use Rattle.gas_model.specs.declared.rows.Group.{Group}
use Rattle.box_pool.proofs.Decisions.{read_at, few_decisions}
use Rattle.box_pool.proofs.forks.count_decisions.Goals as goal

pub overflow_cast-result : goal.overflow_cast-result
overflow_cast-result c =
    let d = c.index-groups-group.result in
    let at = read_at c.args.p.now.groups c.groups.result.now c.args.group d c.groups.ensures.rows c.requires in
    let few = few_decisions c.args.p.now c.args.group (get_or c.groups.result.now c.args.group d) c.groups.ensures.within at in
    let same = ap length c.as_slice.ensures in
    omega arith

pub returns : goal.returns
returns c = λ g here.
    let d = c.index-groups-group.result in
    let at = read_at c.args.p.now.groups c.groups.result.now c.args.group d c.groups.ensures.rows c.requires in
    let same : get_or c.groups.result.now c.args.group d ≡ g = cc in
    ap length c.as_slice.ensures ∙ ap (λ (x : Group). length x.decisions) same
