-- What `make` writes and says means what it is to mean.
use Rattle.std.proofs.Common.{[]}
use Rattle.gas_model.specs.Rows.{Network}
use Rattle.flat_text.specs.Spelling.{flat_text}
use Rattle.command_core.specs.declared.command.Done.{Done}
use Rattle.command_core.specs.Gates.{Files}
use Rattle.command_core.specs.Meanings.{Does}
use Rattle.command_core.proofs.Doing.{writes_does}
use Rattle.make_command.specs.Meaning.{IsMadeOf, Makes, WritesMade, make_meaning, make_says}
use Rattle.make_command.specs.Words.{MakeWords}

pub makes_does : (tells : Type 0) (words : MakeWords) (files : Files) (p : Network) (done : Done)
    → IsMadeOf words.count p → make_says words.count p done.status done.note done.texts
    → Does tells (make_meaning words) files done
makes_does tells words files p done is says =
    writes_does (WritesMade words.count p) (λ note texts h. (flat_text p, h.one)) tells [] words.out (Makes words) files done says
    (λ t. record { problem = p; is_made = is; says = says })
