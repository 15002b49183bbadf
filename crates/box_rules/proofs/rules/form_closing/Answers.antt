use Rattle.std.proofs.Common.{to_z-of_z, sym}
use Rattle.box_rules.proofs.SideFits.{difference_fits, part_fits}
use Rattle.box_rules.proofs.OtherRules.{never_closing_else, equals_closing_else, shuts_closing_else}
use Rattle.box_rules.proofs.rules.form_closing.Goals as goal

pub returns-in-Loses : goal.returns-in-Loses
returns-in-Loses c =
    let w = rw c.in-Loses.is at c.requires.within in
    rw c.in-Loses.is (simp (to_z-of_z, c.ranges.scale, difference_fits c.in-Loses.low w.0, difference_fits c.in-Loses.high w.1) at c.loses_closing.ensures)

pub returns-in-Reduces : goal.returns-in-Reduces
returns-in-Reduces c =
    let w = rw c.in-Reduces.is at c.requires.within in
    rw c.in-Reduces.is (simp (to_z-of_z, c.ranges.scale, difference_fits c.in-Reduces.red_min w.1.0, difference_fits c.in-Reduces.red_max w.1.1) at c.reduces_closing.ensures c.in-Reduces.in_min c.in-Reduces.out_max)

pub returns-in-Raises : goal.returns-in-Raises
returns-in-Raises c =
    let w = rw c.in-Raises.is at c.requires.within in
    rw c.in-Raises.is (simp (to_z-of_z, c.ranges.scale, part_fits c.in-Raises.ratio_num w.1.0, part_fits c.in-Raises.ratio_den w.1.1, difference_fits c.in-Raises.rise_max w.2) at c.raises_closing.ensures c.in-Raises.in_min c.in-Raises.out_max)

pub returns-in-Never : goal.returns-in-Never
returns-in-Never c = rw c.in-Never.is (sym (never_closing_else c.args.rule c.args.scale c.args.e))

pub returns-in-Equals : goal.returns-in-Equals
returns-in-Equals c = rw c.in-Equals.is (sym (equals_closing_else c.args.rule c.args.scale c.args.e))

pub returns-in-Shuts : goal.returns-in-Shuts
returns-in-Shuts c = rw c.in-Shuts.is (sym (shuts_closing_else c.args.rule c.args.scale c.args.e))
