-- What the first file of a name holds, over two lists of files.
use Rattle.std.proofs.Common.{◌≡◌, ℕ, List, [], ◌∷◌, ◌++◌, true, false, refl}
use Rattle.std.specs.Prelude.{None, Some, if◌then◌else◌}
use Rattle.std.specs.Str.{bytes_eq}
use Rattle.gas_desk.specs.Shelf.{held}

-- what the files in front hold counts
pub held-front : (files more : List (List ℕ × List ℕ)) (name bytes : List ℕ) → held files name ≡ Some bytes → held (files ++ more) name ≡ Some bytes
held-front [] more name bytes e = absurd (cc)
held-front (file ∷ files) more name bytes e =
    elim (bytes_eq file.0 name) as (λ b. (if b then Some file.1 else held files name) ≡ Some bytes → (if b then Some file.1 else held (files ++ more) name) ≡ Some bytes)
    [ true ↦ λ h. h | false ↦ λ h. held-front files more name bytes h ] e

-- what the files behind hold counts where those in front don't have the name
pub held-behind : (files more : List (List ℕ × List ℕ)) (name : List ℕ) → held files name ≡ None → held (files ++ more) name ≡ held more name
held-behind [] more name e = refl
held-behind (file ∷ files) more name e =
    elim (bytes_eq file.0 name) as (λ b. (if b then Some file.1 else held files name) ≡ None → (if b then Some file.1 else held (files ++ more) name) ≡ held more name)
    [ true ↦ λ h. absurd (cc) | false ↦ λ h. held-behind files more name h ] e

pub ruleset held_laws = (held-front, held-behind)
