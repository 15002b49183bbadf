-- The line and the one OUT of an answer.
use Rattle.std.proofs.Common.{◌≡◌, subst, ℕ, List, [], ◌∷◌, ◌++◌}
use Rattle.std.proofs.lemmas.List.{append-nil}
use Rattle.std.specs.Prelude.{Some}
use Rattle.gas_desk.specs.Outside.{Outside}
use Rattle.command_core.specs.Meanings.{AllWritten, Distinct, IsWritten, SaysLine, Texts}

-- a line with this beside it
pub line_with : (line beside note : List ℕ) (before now : Outside) → note ≡ beside → SaysLine (line ++ note) before now → SaysLine (line ++ beside) before now
line_with line beside note before now e said = subst (λ (x : List ℕ). SaysLine (line ++ x) before now) e said

-- a line with nothing beside it
pub line_alone : (line note : List ℕ) (before now : Outside) → note ≡ [] → SaysLine (line ++ note) before now → SaysLine line before now
line_alone line note before now e said = subst (λ (x : List ℕ). SaysLine x before now) (append-nil line) (line_with line [] note before now e said)

-- the one OUT with this text
pub out_holds : (out text : List ℕ) (texts : Texts) (before now : Outside) → texts ≡ Some text ∷ [] → (Distinct (out ∷ []) → AllWritten (out ∷ []) texts before now) → IsWritten out (Some text) before now
out_holds out text texts before now one held =
    let all : AllWritten (out ∷ []) (Some text ∷ []) before now = subst (λ (x : Texts). AllWritten (out ∷ []) x before now) one (held (tt, tt)) in
    all.0
