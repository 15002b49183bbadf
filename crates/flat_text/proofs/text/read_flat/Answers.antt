use Rattle.std.proofs.Common.{ap, ◌∙◌}
use Rattle.flat_text.specs.Text.{flat_of}
use Rattle.flat_text.proofs.Whole.{answer_read, answer_spelled, text_again}
use Rattle.flat_text.proofs.text.read_flat.Goals as goal

pub returns-clause-read : goal.returns-clause-read
returns-clause-read c = answer_read c.args.bytes.now c.problem_in.result c.problem_in.ensures

pub returns-clause-spelled : goal.returns-clause-spelled
returns-clause-spelled c = λ q problem e. answer_spelled c.args.bytes.now c.problem_in.result c.problem_in.ensures q (ap flat_of e ∙ text_again q problem)
