use Rattle.std.proofs.Common.{◌≡◌, ap, ◌∙◌}
use Rattle.line_text.specs.Long.{fits_position, fitting, position_at}
use Rattle.line_text.proofs.Numbers.{natural_spelled, natural_read}
use Rattle.line_text.proofs.long.position_at.Goals as goal
use Rattle.line_text.proofs.long.position_at.Goals.{After-position_in}

read : (c : After-position_in) → c.position_in.result ≡ position_at c.args.word.now
read c = c.position_in.ensures ∙ ap position_at c.as_bytes.ensures.value

pub returns-clause-spelled : goal.returns-clause-spelled
returns-clause-spelled c = natural_spelled (fitting fits_position) c.args.word.now _ (read c)

pub returns-clause-read : goal.returns-clause-read
returns-clause-read c = natural_read (fitting fits_position) c.args.word.now _ (read c)
