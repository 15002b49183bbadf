use Rattle.setting_text.proofs.Stands.{read_stands, stands_read}
use Rattle.setting_text.proofs.laws.read_where_it_stands.Goals as goal

pub returns : goal.returns
returns c = λ p bytes s problem. (read_stands p bytes s, stands_read p bytes s problem)
