-- What is read of a file is what its outline says.
use Rattle.std.proofs.Common.{◌≡◌, ℕ, List, Some, Ok, Err, inl, inr, refl, sym, ap, ◌∙◌, subst}
use Rattle.std.specs.Prelude.{Result, IfOk, IfErr, IsErrAnd}
use Rattle.tag_outline.specs.declared.outline.Element.{Element}
use Rattle.file_faults.specs.declared.outline.OutlineFault.{OutlineFault}
use Rattle.file_faults.specs.declared.outline.OutlineFault.TheVariants as outline_fault
use Rattle.file_faults.specs.declared.outline.FileFault.{FileFault}
use Rattle.file_faults.specs.declared.outline.FileFault.TheVariants as fault
use Rattle.file_faults.specs.Held.{held}
use Rattle.tag_outline.specs.Outline.{outline_of, Fails}
use Rattle.tag_outline.specs.Offences.{IsOutlineFault}
use Rattle.tag_outline.proofs.Documents.{outline_takes, outline_again}
use Rattle.tag_outline.proofs.Verdicts.{fault_takes, fault_again}
use Rattle.element_fields.specs.Answers.{◌>>=◌, fault_of, Tells, Gives}
use Rattle.element_fields.specs.Files.{as_file, elements_in, file_in, IsFile, IsFileFault, MayFail}

held_is : (bytes : List ℕ) (o : OutlineFault) → IsOutlineFault bytes o → held o ≡ fault.Outline o
held_is bytes outline_fault.NoMemory h = absurd h.1.4
held_is bytes (outline_fault.NotUtf8 n) h = refl
held_is bytes (outline_fault.NotOutline n) h = refl
held_is bytes (outline_fault.Doctype n) h = refl
held_is bytes (outline_fault.Cdata n) h = refl
held_is bytes (outline_fault.TooDeep n) h = refl

module _ {A : Type 0} (read : List Element → Result A FileFault) (bytes : List ℕ) where
  by_outline : (r : Result (List Element) OutlineFault) → outline_of bytes ≡ r → file_in read bytes ≡ (as_file r >>= read)
  unfolding elements_in
  by_outline r e = ap (λ x. as_file x >>= read) e

  pub rows_again : (rows : A) → IsFile read bytes rows → file_in read bytes ≡ Ok rows
  rows_again rows h = by_outline (Ok h.0) (outline_again bytes h.0 h.1) ∙ h.2

  pub fault_again_here : (f : FileFault) → IsFileFault read bytes f → file_in read bytes ≡ Err f
  fault_again_here f (inl h) = by_outline (Ok h.0) (outline_again bytes h.0 h.1) ∙ h.2
  fault_again_here f (inr h) = by_outline (Err h.0) (fault_again bytes h.0 h.1) ∙ ap (λ (g : FileFault). Err g) (held_is bytes h.0 h.1 ∙ sym h.2)

  rows_taken : (rows : A) → file_in read bytes ≡ Ok rows → IsFile read bytes rows
  rows_taken rows h = by (outline_of bytes) refl
    where
      by : (r : Result (List Element) OutlineFault) → outline_of bytes ≡ r → IsFile read bytes rows
      by (Ok es) e = (es, outline_takes bytes es e, sym (by_outline (Ok es) e) ∙ h)
      by (Err o) e = let k = sym (by_outline (Err o) e) ∙ h in absurd cc

  fault_taken : (f : FileFault) → file_in read bytes ≡ Err f → IsFileFault read bytes f
  fault_taken f h = by (outline_of bytes) refl
    where
      err_is : (g : FileFault) → ◌≡◌ {A = Result A FileFault} (Err g) (Err f) → g ≡ f
      err_is g e = cc

      by : (r : Result (List Element) OutlineFault) → outline_of bytes ≡ r → IsFileFault read bytes f
      by (Ok es) e = inl (es, outline_takes bytes es e, sym (by_outline (Ok es) e) ∙ h)
      by (Err o) e = inr (o, fault_takes bytes o e, sym (err_is (held o) (sym (by_outline (Err o) e) ∙ h)) ∙ held_is bytes o (fault_takes bytes o e))

  told : (f : FileFault) → fault_of (file_in read bytes) ≡ Some f → IsFileFault read bytes f
  told f h = by (file_in read bytes) refl h
    where
      by : (r : Result A FileFault) → file_in read bytes ≡ r → fault_of r ≡ Some f → IsFileFault read bytes f
      by (Ok x) i j = absurd cc
      by (Err g) i j = let k : g ≡ f = cc in subst (IsFileFault read bytes) k (fault_taken g i)

  pub found : (r : Result A FileFault) → Gives r (file_in read bytes) → IfOk r (IsFile read bytes)
  found (Ok x) h = rows_taken x h
  found (Err f) h = tt

  pub fails : (r : Result A FileFault) → Gives r (file_in read bytes) → IfErr r (MayFail read bytes)
  fails (Ok x) h = tt
  fails (Err fault.NoMemory) h = tt
  fails (Err (fault.Outline o)) h = told (fault.Outline o) h
  fails (Err fault.WrongRoot) h = told fault.WrongRoot h
  fails (Err (fault.Missing a b)) h = told (fault.Missing a b) h
  fails (Err (fault.BadValue a b)) h = told (fault.BadValue a b) h
  fails (Err (fault.BadUnit a b)) h = told (fault.BadUnit a b) h
  fails (Err (fault.TooLarge a b)) h = told (fault.TooLarge a b) h
  fails (Err (fault.BadWord a b)) h = told (fault.BadWord a b) h
  fails (Err (fault.UnknownAttribute a b)) h = told (fault.UnknownAttribute a b) h

  pub only : (r : Result A FileFault) (rows : A) → Gives r (file_in read bytes) → IsFile read bytes rows → Gives r (Ok rows)
  only r rows h o = subst (Gives r) (rows_again rows o) h

  pub only_fault : (r : Result A FileFault) (f : FileFault) → Gives r (file_in read bytes) → IsFileFault read bytes f → Gives r (Err f)
  only_fault r f h o = subst (Gives r) (fault_again_here f o) h

-- ---- the elements of a file
pub elements_ok : (bytes : List ℕ) (es : List Element) → outline_of bytes ≡ Ok es → elements_in bytes ≡ Ok es
unfolding elements_in
elements_ok bytes es h = ap as_file h

elements_err : (bytes : List ℕ) (o : OutlineFault) → Fails o (outline_of bytes) → Tells (held o) (fault_of (elements_in bytes))
unfolding elements_in
elements_err bytes outline_fault.NoMemory h = tt
elements_err bytes (outline_fault.NotUtf8 n) h = ap (λ r. fault_of (as_file r)) h
elements_err bytes (outline_fault.NotOutline n) h = ap (λ r. fault_of (as_file r)) h
elements_err bytes (outline_fault.Doctype n) h = ap (λ r. fault_of (as_file r)) h
elements_err bytes (outline_fault.Cdata n) h = ap (λ r. fault_of (as_file r)) h
elements_err bytes (outline_fault.TooDeep n) h = ap (λ r. fault_of (as_file r)) h

pub elements_fail : (r : Result (List Element) FileFault) (bytes : List ℕ) (o : OutlineFault) → IsErrAnd r (λ f. f ≡ held o) → Fails o (outline_of bytes) → Gives r (elements_in bytes)
elements_fail (Ok x) bytes o h k = absurd h
elements_fail (Err f) bytes o h k = subst (λ (g : FileFault). Tells g (fault_of (elements_in bytes))) (sym h) (elements_err bytes o k)
