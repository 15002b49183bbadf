use Rattle.tag_outline.proofs.Locals.{local_names}
use Rattle.tag_outline.proofs.of_all_texts.local_names.Goals as goal

pub returns : goal.returns
returns c = local_names
