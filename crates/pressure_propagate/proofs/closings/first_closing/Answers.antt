use Rattle.std.proofs.Common.{◌≡◌, ◌<◌, ◌≤◌, refl, sym, ◌∙◌, arith, to_z-of_z, length, get_or, true, false}
use Rattle.tree_cert.specs.declared.line.Rule.TheVariants.{Balance}
use Rattle.tree_rules.specs.ArcRules.{arc_closing}
use Rattle.pressure_propagate.proofs.RuleLists.{none_yet, one_more}
use Rattle.pressure_propagate.proofs.ArcClosings.{Opens, opens_by, no_closing, closing_found}
use Rattle.pressure_propagate.proofs.closings.first_closing.Goals as goal

pub form_closing-requires : goal.form_closing-requires
form_closing-requires c = simp (to_z-of_z, c.ranges.scale) (record { within = c.requires.within; scale = c.requires.scale; ends = c.requires.ends })

pub loop-rule-init : goal.loop-rule-init
loop-rule-init c = none_yet _ c.closing_rules-rule-items.result.now

pub loop-rule-preserved : goal.loop-rule-preserved
loop-rule-preserved c =
    let form = c.args.form.now in
    let e = c.args.e in
    let rules = c.closing_rules-rule-items.result.now in
    let done = simp (to_z-of_z, c.ranges.scale) at c.loop-rule.invariant in
    let test = simp (to_z-of_z, c.ranges.scale) at c.form_closing.ensures in
    let here : arc_closing (get_or rules c.loop-rule.rule-index Balance) form c.args.scale e ≡ false = sym test ∙ c.if-form_closing.false in
    simp (to_z-of_z, c.ranges.scale) (one_more (Opens form c.args.scale e) rules c.loop-rule.rule-index done (opens_by form c.args.scale e (get_or rules c.loop-rule.rule-index Balance) here))

pub returns-then-form_closing : goal.returns-then-form_closing
returns-then-form_closing c =
    let form = c.args.form.now in
    let e = c.args.e in
    let rules = c.closing_rules-rule-items.result.now in
    let done = simp (to_z-of_z, c.ranges.scale) at c.loop-rule.invariant in
    let test = simp (to_z-of_z, c.ranges.scale) at c.form_closing.ensures in
    let here : arc_closing (get_or rules c.loop-rule.rule-index Balance) form c.args.scale e ≡ true = sym test ∙ c.if-form_closing.true in
    closing_found form c.args.scale e rules c.loop-rule.rule-index (get_or rules c.loop-rule.rule-index Balance) c.closing_rules-rule-items.ensures c.loop-rule-test.true refl done here

pub returns : goal.returns
returns c =
    let form = c.args.form.now in
    let e = c.args.e in
    let rules = c.closing_rules-rule-items.result.now in
    let done = simp (to_z-of_z, c.ranges.scale) at c.loop-rule.invariant in
    let ended : length rules ≡ c.loop-rule.rule-index = omega (arith, c.loop-rule-test.false, c.loop-rule.auto.rule-index-end) in
    no_closing form c.args.scale e rules c.loop-rule.rule-index c.closing_rules-rule-items.ensures ended done
