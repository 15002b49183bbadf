use Rattle.std.proofs.Common.{Some, sym, ap, to_z-of_z, ◌∙◌, rules}
use Rattle.std.specs.Prelude.{FitsSigned}
use Rattle.std.specs.Int.{w64, w128}
use Rattle.line_text.proofs.LongNumbers.{long_read, inner_fits, long_inner, is_small}
use Rattle.line_text.proofs.long.long_of.Goals as goal

pub returns-then-is_inner : goal.returns-then-is_inner
returns-then-is_inner c =
    let fits : FitsSigned w64 c.args.near = search rules in
    let test = sym c.is_inner.ensures ∙ c.if-is_inner.true in
    let small = is_small c.args.near (simp to_z-of_z at test) in
    let long : FitsSigned w128 c.args.near = inner_fits c.args.near small in
    simp (to_z-of_z, c.from.ensures) (long_inner c.args.word.now c.args.near small c.requires)

pub returns-else-is_inner : goal.returns-else-is_inner
returns-else-is_inner c = ap Some c.ok.ensures.value ∙ long_read c.args.word.now _ _ c.requires c.parse.ensures.value.0
