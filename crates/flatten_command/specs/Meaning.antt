-- What `flat` means: OUT holds the flat text of a problem.
use Rattle.std.specs.Prelude.{◌≡◌, ℕ, List, [], ◌∷◌, Some, codes}
use Rattle.gas_model.specs.Rows.{Network}
use Rattle.flat_text.specs.Spelling.{flat_text}
use Rattle.command_core.specs.declared.status.Status.{Status}
use Rattle.command_core.specs.Gates.{Files, stands}
use Rattle.command_core.specs.Meanings.{Meaning, Texts}
use Rattle.command_core.specs.Written.{written_meaning, written_says}
use Rattle.problem_files.specs.Sources.{problem_is, problem_gates}
use Rattle.flatten_command.specs.Words.{FlattenWords}

-- the one OUT is to hold the one text of the problem, and the line says that it was written
pub record WritesFlat (p : Network) (note : List ℕ) (texts : Texts) : Type 0 where
  pub noted : note ≡ codes "written"
  pub one : texts ≡ Some (flat_text p) ∷ []

abbrev pub flatten_says : Network → Status → List ℕ → Texts → Type 0
flatten_says p = written_says (WritesFlat p)

pub record Flattens (words : FlattenWords) (files : Files) (status : Status) (note : List ℕ) (texts : Texts) : Type 0 where
  pub problem : Network
  pub stands_for : problem_is words.origin files ≡ stands problem
  pub says : flatten_says problem status note texts

abbrev pub flatten_meaning : FlattenWords → Meaning
flatten_meaning words = written_meaning (problem_gates words.origin) words.out (Flattens words)
