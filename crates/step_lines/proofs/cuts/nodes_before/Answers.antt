use Rattle.std.proofs.Common.{◌≡◌, ◌<◌, ◌^◌, ◌+◌, ◌∷◌, ◌++◌, [], List, ℕ, true, sym, ap, subst, ◌∙◌, arith}
use Rattle.std.proofs.lemmas.Bool.Decides.{nat_tests}
use Rattle.line_text.specs.Numerals.{numeral}
use Rattle.line_text.specs.Long.{fits_position}
use Rattle.step_lines.proofs.NodesRead.{node_more, AreNodesSoFar}
use Rattle.step_lines.proofs.cuts.nodes_before.Goals as goal

pub loop-number-preserved : goal.loop-number-preserved
loop-number-preserved c =
    let l = c.loop-number in
    let n = c.in-Some.number in
    let same : c.in-Ok.node ≡ n = omega (arith, c.in-Ok.ensures) in
    let below : n < 2 ^ 32 = omega (arith, c.in-Ok.ensures) in
    let fits : fits_position n ≡ true = grind (arith, nat_tests) in
    let read = c.in-Some.ensures ∙ ap (λ (stop : ℕ). numeral n ++ stop ∷ c.in-Some.after.now) c.if-stop-ne32.false in
    subst (λ (ns : List ℕ). AreNodesSoFar c.args.bytes.now ns c.in-Some.after.now (n + 1))
    (sym (c.in-Ok-push.ensures.ok ∙ ap (λ (k : ℕ). l.nodes ++ k ∷ []) same))
    (node_more c.args.bytes.now l.nodes l.rest.now c.in-Some.after.now l.least n l.invariant (omega arith) fits read)
