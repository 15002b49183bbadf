use Rattle.flat_text.proofs.Formed.{lines_mean, items_are_read}
use Rattle.flat_text.proofs.laws.lines_have_their_form.Goals as goal

pub returns-clause-means : goal.returns-clause-means
returns-clause-means c = lines_mean

pub returns-clause-spelled : goal.returns-clause-spelled
returns-clause-spelled c = items_are_read
