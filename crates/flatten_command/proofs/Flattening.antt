-- What `flat` writes means what it is to mean.
use Rattle.std.proofs.Common.{◌≡◌}
use Rattle.gas_model.specs.Rows.{Network}
use Rattle.flat_text.specs.Spelling.{flat_text}
use Rattle.command_core.specs.declared.command.Done.{Done}
use Rattle.command_core.specs.Gates.{Files, stands}
use Rattle.command_core.specs.Meanings.{Does}
use Rattle.command_core.proofs.Doing.{writes_does}
use Rattle.problem_files.specs.Sources.{problem_gates, problem_is}
use Rattle.flatten_command.specs.Meaning.{Flattens, WritesFlat, flatten_meaning, flatten_says}
use Rattle.flatten_command.specs.Words.{FlattenWords}

pub flattens_does : (tells : Type 0) (words : FlattenWords) (files : Files) (p : Network) (done : Done)
    → (tells → problem_is words.origin files ≡ stands p) → flatten_says p done.status done.note done.texts
    → Does tells (flatten_meaning words) files done
flattens_does tells words files p done is says =
    writes_does (WritesFlat p) (λ note texts h. (flat_text p, h.one)) tells (problem_gates words.origin) words.out (Flattens words) files done says
    (λ t. record { problem = p; stands_for = is t; says = says })
