use Rattle.std.proofs.Common.{◌≡◌, true, false, nat_lt, refl, sym, ap, ◌∙◌}
use Rattle.std.specs.Str.Parse.{digits_value}
use Rattle.tree_cert.proofs.NodeLists.{more_at, first_is, next_is, node_is, node_digits, more_gone, nodes_gone, rest_shorter, some_bytes}
use Rattle.tree_cert.proofs.nodes.nodes_at.Goals as goal

pub returns-in_default : goal.returns-in_default
returns-in_default c = nodes_gone c.args.bytes.now (sym c.in_default.ensures)

pub returns-in_default-node_field : goal.returns-in_default-node_field
returns-in_default-node_field c =
    c.loop-last.invariant.answer
    ∙ more_gone c.loop-last.rest.now (digits_value 10 c.loop-last.last.now) c.loop-last.nodes (sym c.in_default-node_field.ensures) (some_bytes c.loop-last.rest.now (sym c.loop-last-test.ensures))

pub loop-last-init : goal.loop-last-init
loop-last-init c =
    let n = node_is c.args.bytes.now _ _ _ (sym c.in-Some.ensures) in
    record {
      answer = first_is c.args.bytes.now _ _ _ n ∙ ap (λ nodes. more_at (digits_value 10 c.in-Some.last.now) nodes c.in-Some.rest.now) (let e = c.in_ok-nodes.ensures in let f = c.new.ensures in cc);
      digits = (node_digits c.in-Some.last.now n.number n.value).0;
    }

pub is_below-requires-clause-other : goal.is_below-requires-clause-other
is_below-requires-clause-other c =
    let n = node_is c.loop-last.rest.now _ _ _ (sym c.in-Some-node_field.ensures) in
    (node_digits c.in-Some-node_field.word.now n.number n.value).0

pub returns-then-not-is_below : goal.returns-then-not-is_below
returns-then-not-is_below c =
    let n = node_is c.loop-last.rest.now _ _ _ (sym c.in-Some-node_field.ensures) in
    let not_below : nat_lt (digits_value 10 c.loop-last.last.now) (digits_value 10 c.in-Some-node_field.word.now) ≡ false = sym c.is_below.ensures ∙ c.if-not-is_below.true in
    c.loop-last.invariant.answer ∙ next_is c.loop-last.rest.now _ _ _ _ c.loop-last.nodes n ∙ rw not_below refl

pub loop-last-smaller : goal.loop-last-smaller
loop-last-smaller c =
    let n = node_is c.loop-last.rest.now _ _ _ (sym c.in-Some-node_field.ensures) in
    rest_shorter c.loop-last.rest.now _ _ _ n

pub loop-last-preserved : goal.loop-last-preserved
loop-last-preserved c =
    let n = node_is c.loop-last.rest.now _ _ _ (sym c.in-Some-node_field.ensures) in
    let below : nat_lt (digits_value 10 c.loop-last.last.now) (digits_value 10 c.in-Some-node_field.word.now) ≡ true = sym c.is_below.ensures ∙ c.if-not-is_below.false in
    record {
      answer =
          c.loop-last.invariant.answer ∙ next_is c.loop-last.rest.now _ _ _ _ c.loop-last.nodes n
          ∙ rw below (ap (λ nodes. more_at (digits_value 10 c.in-Some-node_field.word.now) nodes c.in-Some-node_field.after.now) (sym c.in_ok-nodes-2.ensures));
      digits = (node_digits c.in-Some-node_field.word.now n.number n.value).0;
    }
