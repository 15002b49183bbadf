use Rattle.std.proofs.Common.{◌≡◌, [], ◌∷◌, ◌++◌, rules}
use Rattle.line_text.specs.Numerals.{signed_numeral}
use Rattle.gas_model.specs.declared.rows.ArcText.{ArcText}
use Rattle.gas_model.specs.Rows.{node_ids, text_of}
use Rattle.line_text.specs.Words.{joined}
use Rattle.flat_text.specs.Spelling.{kind_word}
use Rattle.flat_text.proofs.Written.{arc_written}
use Rattle.flat_text.proofs.writing.put_arc.Goals as goal

pub returns : goal.returns
returns c =
    let a : ArcText = text_of (node_ids c.args.nodes.now) c.args.row.now in
    let words : c.put_words.new.out ≡ c.args.out.now ++ joined (kind_word a.kind) (a.id ∷ a.from ∷ a.to ∷ signed_numeral a.q_min ∷ signed_numeral a.q_max ∷ []) = search rules in
    arc_written c.push.result c.args.out.now c.put_words.new.out c.put_kind.new.out c.push.new.self a words c.in_ok-put_kind.ensures c.push.ensures.ok
