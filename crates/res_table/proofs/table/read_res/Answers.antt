use Rattle.std.proofs.Common.{◌+◌, length, refl, sym, ◌∙◌, arith}
use Rattle.csv.specs.Reading.{strip_bom}
use Rattle.csv.specs.declared.parser.State.TheVariants as st
use Rattle.res_table.specs.Table.{resistance_rows}
use Rattle.res_table.proofs.Turns.{nothing_before, whole, meets, bad, goes_on}
use Rattle.res_table.proofs.table.read_res.Goals as goal

pub loop-number-init : goal.loop-number-init
unfolding resistance_rows
loop-number-init c =
    let text = strip_bom c.args.bytes.now in
    record {
      count = length text + 1;
      state = st.StartRecord;
      text = text;
      stands = c.reader_of-reader.ensures;
      between = refl;
      enough = omega arith;
      so_far = rw c.new-rows.ensures (nothing_before _);
    }

pub returns-then-not-branch : goal.returns-then-not-branch
returns-then-not-branch c =
    let h = c.loop-number.invariant in
    let none = c.if-not-branch.true in
    let took = c.in_ok-next_record.ensures h.state h.text h.stands in
    whole _ _ _ _ _ _ h (rw none at took)

pub returns-in_default : goal.returns-in_default
returns-in_default c =
    let h = c.loop-number.invariant in
    let some = c.if-not-branch.false in
    let took = c.in_ok-next_record.ensures h.state h.text h.stands in
    bad _ _ _ _ _ (meets _ _ _ _ _ _ h (rw some at took)) (sym c.in_ok-row.ensures ∙ c.in_default.is)

pub loop-number-preserved : goal.loop-number-preserved
loop-number-preserved c =
    let h = c.loop-number.invariant in
    let some = c.if-not-branch.false in
    let took = c.in_ok-next_record.ensures h.state h.text h.stands in
    rw c.in_ok-push.ensures.ok (goes_on _ _ _ _ _ _ (meets _ _ _ _ _ _ h (rw some at took)) (sym c.in_ok-row.ensures ∙ c.in-Some.is))
