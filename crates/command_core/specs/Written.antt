-- Commands whose one answer is that their OUT was written.
use Rattle.std.specs.Prelude.{◌≡◌, ℕ, List, [], ◌∷◌}
use Rattle.command_core.specs.declared.status.Status.{Status}
use Rattle.command_core.specs.declared.status.Status.TheVariants as ends
use Rattle.command_core.specs.Gates.{Files, Gate}
use Rattle.command_core.specs.Meanings.{Meaning, Texts}

-- this holds of what is said and written
abbrev pub written_says : (List ℕ → Texts → Type 0) → Status → List ℕ → Texts → Type 0
written_says Holds ends.Written note texts = Holds note texts
written_says Holds status note texts = ⊥

abbrev pub written_may : Status → Type 0
written_may ends.Written = Unit {0}
written_may status = ⊥

-- wherever the input files are fine, OUT is written
abbrev pub WrittenIsDue : Status → Type 0
WrittenIsDue status = status ≡ ends.Written

abbrev pub written_meaning : List Gate → (out : List ℕ) → (Files → Status → List ℕ → Texts → Type 0) → Meaning
written_meaning gates out answers = record {
  gates = gates;
  outs = out ∷ [];
  may = written_may;
  answers = answers;
  due = λ files. WrittenIsDue;
}
