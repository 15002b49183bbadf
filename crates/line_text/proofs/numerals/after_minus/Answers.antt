use Rattle.std.proofs.lemmas.Str.Pattern.{strip_prefix_char}
use Rattle.std.proofs.Common.{lit<}
use Rattle.line_text.proofs.numerals.after_minus.Goals as goal

pub returns : goal.returns
returns c = strip_prefix_char 45 c.args.word.now c.strip_prefix.result c.strip_prefix.ensures.cases (lit< tt)
