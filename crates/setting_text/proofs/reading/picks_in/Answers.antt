use Rattle.std.proofs.Common.{rules, ◌≡◌, ◌++◌, ◌∷◌, [], map, drop}
use Rattle.std.proofs.lemmas.Result.{err_from_is_err_and}
use Rattle.serde_json.specs.View.{view}
use Rattle.setting_text.specs.Reading.{group_entry}
use Rattle.setting_text.proofs.Lists.{goes_on, fails, is_done}
use Rattle.setting_text.proofs.reading.picks_in.Goals as goal

pub returns-in_err-pick : goal.returns-in_err-pick
returns-in_err-pick c =
    let p = err_from_is_err_and c.from_residual.result c.from_residual.ensures.1 in
    let said = c.in_err-pick.ensures in
    rw (p.1, p.2) (fails group_entry c.args.groups.now c.args.list.now c.loop-i.i c.index-groups-i.result c.index-list-i.result c.loop-i.picks _ c.loop-i-test.true c.requires.len c.loop-i.invariant c.in_err-pick.field-0.0 (rw (← c.index-groups-i.is, ← c.index-list-i.is) said))

pub loop-i-preserved : goal.loop-i-preserved
loop-i-preserved c =
    let said = c.in_ok-pick.ensures in
    let pushed : c.push.new.self ≡ c.loop-i.picks ++ c.in_ok-pick.pick ∷ [] = search rules in
    rw pushed (goes_on group_entry c.args.groups.now c.args.list.now c.loop-i.i c.index-groups-i.result c.index-list-i.result c.loop-i.picks _ c.loop-i-test.true c.requires.len c.loop-i.invariant c.in_ok-pick.pick (rw (← c.index-groups-i.is, ← c.index-list-i.is) said))

pub returns : goal.returns
returns c = is_done group_entry c.args.groups.now (map view (drop c.loop-i.i c.args.list.now)) c.loop-i.i c.loop-i.picks _ c.loop-i-test.false c.loop-i.invariant
