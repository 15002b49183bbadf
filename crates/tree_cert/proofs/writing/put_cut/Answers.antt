use Rattle.std.proofs.Common.{◌∷◌, ◌++◌, []}
use Rattle.std.specs.Prelude.{codes}
use Rattle.line_text.specs.Numerals.{numeral}
use Rattle.std.specs.List.{flat_map}
use Rattle.tree_cert.proofs.Fronts.{adds_after, adds_whole, err_adds, front_after, front_of_first, spaced_pieces}
use Rattle.tree_cert.proofs.writing.put_cut.Goals as goal

pub returns-in_err-put_nodes-clause-text : goal.returns-in_err-put_nodes-clause-text
returns-in_err-put_nodes-clause-text c =
    let words = flat_map (λ n. 32 ∷ numeral n) c.args.nodes.now in
    err_adds _ _ _ _ c.from_residual-in_err-put_nodes.ensures.0
    (rw (← spaced_pieces c.args.nodes.now) (front_after c.args.out.now c.append.new.self c.put_nodes.new.out (codes "close cut") (words ++ 10 ∷ []) c.in_ok-append.ensures.ok
    (front_of_first c.append.new.self c.put_nodes.new.out words (10 ∷ []) c.in_err-put_nodes.ensures.text)))

pub returns-clause-text : goal.returns-clause-text
returns-clause-text c =
    let words = flat_map (λ n. 32 ∷ numeral n) c.args.nodes.now in
    rw (← spaced_pieces c.args.nodes.now) (adds_after c.push.result c.args.out.now c.append.new.self c.push.new.self (codes "close cut") (words ++ 10 ∷ []) c.in_ok-append.ensures.ok
    (adds_after c.push.result c.append.new.self c.put_nodes.new.out c.push.new.self words (10 ∷ []) c.in_ok-put_nodes.ensures.text
    (adds_whole c.push.result c.put_nodes.new.out c.push.new.self (10 ∷ []) c.push.ensures.ok c.push.ensures.err)))
