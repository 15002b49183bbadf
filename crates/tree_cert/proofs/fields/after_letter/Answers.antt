use Rattle.std.proofs.lemmas.Str.Pattern.{strip_prefix_char}
use Rattle.tree_cert.proofs.fields.after_letter.Goals as goal

pub returns : goal.returns
returns c = strip_prefix_char c.args.letter c.args.word.now c.strip_prefix.result c.strip_prefix.ensures.cases c.requires
