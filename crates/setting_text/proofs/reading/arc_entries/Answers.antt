use Rattle.std.proofs.Common.{rules, ◌≡◌, ◌++◌, ◌∷◌, [], map, drop}
use Rattle.std.proofs.lemmas.Result.{err_from_is_err_and}
use Rattle.serde_json.specs.View.{view}
use Rattle.setting_text.specs.Reading.{arc_entry}
use Rattle.setting_text.proofs.Lists.{goes_on, fails, is_done}
use Rattle.setting_text.proofs.reading.arc_entries.Goals as goal

pub returns-in_err-entry : goal.returns-in_err-entry
returns-in_err-entry c =
    let p = err_from_is_err_and c.from_residual.result c.from_residual.ensures.1 in
    let said = c.in_err-entry.ensures in
    rw (p.1, p.2) (fails arc_entry c.args.arcs.now c.args.list.now c.loop-i.i c.index-arcs-i.result c.index-list-i.result c.loop-i.entries _ c.loop-i-test.true c.requires c.loop-i.invariant c.in_err-entry.field-0.0 (rw (← c.index-arcs-i.is, ← c.index-list-i.is) said))

pub loop-i-preserved : goal.loop-i-preserved
loop-i-preserved c =
    let said = c.in_ok-entry.ensures in
    let pushed : c.push.new.self ≡ c.loop-i.entries ++ c.in_ok-entry.entry ∷ [] = search rules in
    rw pushed (goes_on arc_entry c.args.arcs.now c.args.list.now c.loop-i.i c.index-arcs-i.result c.index-list-i.result c.loop-i.entries _ c.loop-i-test.true c.requires c.loop-i.invariant c.in_ok-entry.entry (rw (← c.index-arcs-i.is, ← c.index-list-i.is) said))

pub returns : goal.returns
returns c = is_done arc_entry c.args.arcs.now (map view (drop c.loop-i.i c.args.list.now)) c.loop-i.i c.loop-i.entries _ c.loop-i-test.false c.loop-i.invariant
