use Rattle.std.proofs.Common.{◌≡◌, ◌^◌, ◌-◌, min, ap, ◌∙◌}
use Rattle.line_text.specs.Numerals.{size_at}
use Rattle.line_text.proofs.Numbers.{natural_spelled, natural_read}
use Rattle.line_text.proofs.numerals.size_at.Goals as goal
use Rattle.line_text.proofs.numerals.size_at.Goals.{After-size_in}

sized : (c : After-size_in) → c.size_in.result ≡ size_at c.args.word.now
sized c = c.size_in.ensures ∙ ap size_at c.as_bytes.ensures.value

pub returns-clause-exact : goal.returns-clause-exact
returns-clause-exact c = sized c

pub returns-clause-spelled : goal.returns-clause-spelled
returns-clause-spelled c = natural_spelled (λ n. min n (2 ^ 64 - 1)) c.args.word.now _ (sized c)

pub returns-clause-read : goal.returns-clause-read
returns-clause-read c = natural_read (λ n. min n (2 ^ 64 - 1)) c.args.word.now _ (sized c)
