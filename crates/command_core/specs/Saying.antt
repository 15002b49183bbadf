-- Forms of answers: what is said and written beside the status.
use Rattle.std.specs.Prelude.{◌≡◌, ℕ, List, [], ◌∷◌, Some, decimal}
use Rattle.command_core.specs.Meanings.{Texts}

-- the text of the one OUT is such, and the line has nothing beside the status
pub record WritesOne (IsText : List ℕ → Type 0) (note : List ℕ) (texts : Texts) : Type 0 where
  pub text : List ℕ
  pub is_text : IsText text
  pub no_note : note ≡ []
  pub one : texts ≡ Some text ∷ []

-- the text of the one OUT and the number that the line has beside the status are such
pub record WritesCounted (IsText : List ℕ → ℕ → Type 0) (note : List ℕ) (texts : Texts) : Type 0 where
  pub text : List ℕ
  pub number : ℕ
  pub is_text : IsText text number
  pub noted : note ≡ decimal number
  pub one : texts ≡ Some text ∷ []

-- there is no OUT, the line has this beside the status, and this holds
pub record SaysOnly (Holds : Type 0) (beside note : List ℕ) (texts : Texts) : Type 0 where
  pub holds : Holds
  pub noted : note ≡ beside
  pub no_out : texts ≡ []
