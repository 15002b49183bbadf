use Rattle.std.proofs.Common.{◌≡◌, refl, arith, to_z, of_z, to_z-of_z, rules, FitsSigned, length, get_or}
use Rattle.std.specs.Int.{w128}
use Rattle.tree_cert.specs.declared.line.Rule.TheVariants.{Balance}
use Rattle.tight_steps.specs.Best.{IsBest}
use Rattle.tight_steps.specs.Moves.{allows, ends_at}
use Rattle.pressure_propagate.specs.SquareRules.{square_at}
use Rattle.pressure_propagate.proofs.RuleLists.{AreDone, none_yet, one_more}
use Rattle.pressure_propagate.proofs.SquareMoves.{Leaves, no_rule, rule_found}
use Rattle.pressure_propagate.proofs.ends.first_rule.Goals as goal

pub loop-rule-init : goal.loop-rule-init
loop-rule-init c = none_yet _ c.square_rules-rule-items.result.now

pub loop-rule-preserved : goal.loop-rule-preserved
loop-rule-preserved c =
    let form = c.args.form.now in
    let e = c.args.e in
    let rules_of = c.square_rules-rule-items.result.now in
    let P = Leaves form c.args.scale e c.args.from c.args.low in
    let done : AreDone P rules_of c.loop-rule.rule-index = simp (to_z-of_z, c.ranges.scale) at c.loop-rule.invariant in
    let raw_here : Leaves form (to_z w128 (of_z w128 c.args.scale)) e c.args.from c.args.low (get_or rules_of c.loop-rule.rule-index Balance) = c.in_default.ensures in
    let here : P (get_or rules_of c.loop-rule.rule-index Balance) = simp (to_z-of_z, c.ranges.scale) at raw_here in
    simp (to_z-of_z, c.ranges.scale) (one_more P rules_of c.loop-rule.rule-index done here)

pub returns-in-Some : goal.returns-in-Some
returns-in-Some c =
    let form = c.args.form.now in
    let e = c.args.e in
    let rules_of = c.square_rules-rule-items.result.now in
    let P = Leaves form c.args.scale e c.args.from c.args.low in
    let rule = get_or rules_of c.loop-rule.rule-index Balance in
    let value : FitsSigned w128 c.in-Some.value = search rules in
    let done : AreDone P rules_of c.loop-rule.rule-index = simp (to_z-of_z, c.ranges.scale) at c.loop-rule.invariant in
    let raw_best : IsBest c.args.low (ends_at e (square_at c.args.from)) (allows rule form (to_z w128 (of_z w128 c.args.scale)) e (square_at c.args.from) c.args.low) c.in-Some.value = c.in-Some.ensures in
    let best : IsBest c.args.low (ends_at e (square_at c.args.from)) (allows rule form c.args.scale e (square_at c.args.from) c.args.low) c.in-Some.value = simp (to_z-of_z, c.ranges.scale) at raw_best in
    simp (to_z-of_z, value) (rule_found form c.args.scale e c.args.from c.args.low rules_of c.loop-rule.rule-index rule c.in-Some.value c.square_rules-rule-items.ensures c.loop-rule-test.true refl done best)

pub returns : goal.returns
returns c =
    let form = c.args.form.now in
    let e = c.args.e in
    let rules_of = c.square_rules-rule-items.result.now in
    let P = Leaves form c.args.scale e c.args.from c.args.low in
    let done : AreDone P rules_of c.loop-rule.rule-index = simp (to_z-of_z, c.ranges.scale) at c.loop-rule.invariant in
    let ended : length rules_of ≡ c.loop-rule.rule-index = omega (arith, c.loop-rule-test.false, c.loop-rule.auto.rule-index-end) in
    no_rule form c.args.scale e c.args.from c.args.low rules_of c.loop-rule.rule-index c.square_rules-rule-items.ensures ended done
