-- How many nodes a made problem may have.
use Rattle.std.specs.Prelude.{ℕ, if◌then◌else◌, Option, Some, None}
use Rattle.make_net.specs.Answer.{is_count}

-- so many, if there is a made problem of so many
abbrev pub count_of : ℕ → Option ℕ
count_of count = if is_count count then Some count else None
