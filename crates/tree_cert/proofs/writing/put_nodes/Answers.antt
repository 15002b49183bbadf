use Rattle.std.proofs.Common.{◌∷◌, arith}
use Rattle.line_text.specs.Numerals.{numeral}
use Rattle.tree_cert.proofs.Fronts.{err_adds, front_at}
use Rattle.tree_cert.proofs.writing.put_nodes.Goals as goal

pub returns-in_err-put_spaced-clause-text : goal.returns-in_err-put_spaced-clause-text
returns-in_err-put_spaced-clause-text c =
    err_adds _ _ _ _ c.from_residual.ensures.0
    (front_at (λ n. 32 ∷ numeral n) c.args.nodes.now c.loop-node.node-index 0 c.args.out.now c.loop-node.out c.put_spaced.new.out (omega arith) c.loop-node.invariant.text c.in_err-put_spaced.ensures.text)
