use Rattle.std.proofs.Common.{◌≡◌, ap, ◌∙◌, arith}
use Rattle.std.proofs.lemmas.Grind.{common_steps}
use Rattle.flat_text.specs.Spelling.{flat_text}
use Rattle.flat_text.specs.Text.{flat_of}
use Rattle.flat_text.proofs.Whole.{text_again}
use Rattle.flat_text.proofs.Written.{groups_decide}
use Rattle.flat_text.proofs.writing.write_flat.Goals as goal

pub put_groups-requires : goal.put_groups-requires
put_groups-requires c = rw (c.arcs-2.ensures.rows, c.groups.ensures.rows) (groups_decide c.args.p.now c.groups.ensures.within)

pub returns-clause-back : goal.returns-clause-back
returns-clause-back c =
    let text : c.append-2.new.self ≡ flat_text c.args.p.now = grind (arith, common_steps) in
    ap flat_of text ∙ text_again c.args.p.now c.groups.ensures.problem
