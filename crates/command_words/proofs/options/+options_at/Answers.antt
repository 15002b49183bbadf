use Rattle.std.proofs.Common.{◌∙◌, ap, sym, ◌∷◌}
use Rattle.command_words.specs.Options.{options_of}
use Rattle.command_words.specs.Words.{texts}
use Rattle.command_words.proofs.WrongOptions.{options_step}
use Rattle.command_words.proofs.options.+options_at.Goals as goal

pub returns : goal.returns
returns t c =
    let word = c.in-Some.word.now.now in
    options_step c.args.at c.args.offer (options_of c.args.given) (texts c.args.words.now) word c.in-Some-split_first.number.now.now (texts c.in-Some-split_first.rest.now) c.in_ok-option.option (options_of c.in_ok-more.more) _
    (ap texts c.in-Some.ensures.cases.0 ∙ ap (λ rest. word ∷ texts rest) c.in-Some-split_first.ensures.cases.0)
    (sym c.in_ok-option.ensures) (sym c.in_ok-more.ensures) c.options_at.ensures
