use Rattle.std.proofs.Common.{◌<◌, length, refl, sym, ap, ◌∙◌, arith, is_lt, nat_cmp}
use Rattle.std.specs.Ordering.{is_some_and}
use Rattle.std.specs.Cmp.Lexicographic.{lists_agrees}
use Rattle.std.proofs.lemmas.Bool.{lt-ltb, le-ltb, ne_eqb}
use Rattle.tree_cert.proofs.Below.{same_length, shorter, digits_of}
use Rattle.tree_cert.proofs.nodes.is_below.Goals as goal

pub returns-then-number-other : goal.returns-then-number-other
returns-then-number-other c =
    let longer : length c.args.number.now < length c.args.other.now = omega arith in
    lt-ltb _ _ longer ∙ sym (lt-ltb _ _ (shorter c.args.number.now c.args.other.now c.requires.number c.requires.other longer))

pub returns-then-number-other-2 : goal.returns-then-number-other-2
returns-then-number-other-2 c =
    c.lt.ensures
    ∙ ap (λ o. is_some_and is_lt o) (lists_agrees {R = nat_cmp} (λ x y. refl) c.args.number.now c.args.other.now)
    ∙ same_length c.args.number.now c.args.other.now (digits_of c.args.number.now c.requires.number) (digits_of c.args.other.now c.requires.other) (omega arith)

pub returns-else-number-other-2 : goal.returns-else-number-other-2
returns-else-number-other-2 c =
    let shorter_one : length c.args.other.now < length c.args.number.now = omega arith in
    let below = shorter c.args.other.now c.args.number.now c.requires.other c.requires.number shorter_one in
    ne_eqb _ _ (λ e. omega (arith, e, shorter_one)) ∙ sym (le-ltb _ _ (omega (arith, below)))
