use Rattle.std.proofs.Common.{◌==◌, ◌∙◌, unwrap_or, length, ap}
use Rattle.line_text.proofs.Places.{len_is}
use Rattle.line_text.proofs.words.run_len.Goals as goal

pub returns-clause-len : goal.returns-clause-len
returns-clause-len c =
    c.unwrap_or.ensures ∙ ap (λ o. unwrap_or o (length c.args.bytes.now)) c.first.ensures ∙ (len_is (λ b. b == c.args.stop) c.args.bytes.now).0

pub returns-clause-within : goal.returns-clause-within
returns-clause-within c =
    rw (c.unwrap_or.ensures, c.first.ensures, (len_is (λ b. b == c.args.stop) c.args.bytes.now).0) (len_is (λ b. b == c.args.stop) c.args.bytes.now).1
