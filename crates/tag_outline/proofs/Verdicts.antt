-- Each text has one outline or one fault.
use Rattle.std.proofs.Common.{◌≡◌, ℕ, List, Bool, true, false, Ok, Err, inl, inr, ◌⊎◌, refl, sym, ap, ◌∙◌, subst}
use Rattle.std.specs.Prelude.{IfErr}
use Rattle.std.specs.Str.{is_utf8}
use Rattle.std.specs.Str.Lossy.{utf8_valid_len}
use Rattle.file_faults.specs.declared.outline.OutlineFault.{OutlineFault}
use Rattle.file_faults.specs.declared.outline.OutlineFault.TheVariants as fault
use Rattle.tag_outline.specs.declared.outline.Element.{Element}
use Rattle.tag_outline.specs.Outline.{outline_of, Gives}
use Rattle.tag_outline.specs.Grammar.{IsOutline}
use Rattle.tag_outline.specs.Offences.{IsOffence, IsOutlineFault, MayFail, EachText, OneVerdict}
use Rattle.tag_outline.proofs.Trees.{Total}
use Rattle.tag_outline.proofs.Documents.{outline_takes, outline_again, ok_is}
use Rattle.tag_outline.proofs.Faults.{offence_takes, offence_again, err_is}

not_text : (bytes : List ℕ) → is_utf8 bytes ≡ false → outline_of bytes ≡ Err (fault.NotUtf8 (utf8_valid_len bytes))
unfolding outline_of
not_text bytes e = rw e refl

pub fault_again : (bytes : List ℕ) (f : OutlineFault) → IsOutlineFault bytes f → outline_of bytes ≡ Err f
fault_again bytes (fault.NotUtf8 n) h = not_text bytes h.0 ∙ ap (λ (n : ℕ). Err (fault.NotUtf8 n)) (sym h.1)
fault_again bytes (fault.NotOutline n) h = offence_again bytes (fault.NotOutline n) h.0 h.1
fault_again bytes (fault.Doctype n) h = offence_again bytes (fault.Doctype n) h.0 h.1
fault_again bytes (fault.Cdata n) h = offence_again bytes (fault.Cdata n) h.0 h.1
fault_again bytes (fault.TooDeep n) h = offence_again bytes (fault.TooDeep n) h.0 h.1
fault_again bytes fault.NoMemory h = offence_again bytes fault.NoMemory h.0 h.1

text_fault : (bytes : List ℕ) (f : OutlineFault) → is_utf8 bytes ≡ true → IsOffence bytes f → IsOutlineFault bytes f
text_fault bytes (fault.NotUtf8 n) u o = absurd o.4
text_fault bytes (fault.NotOutline n) u o = (u, o)
text_fault bytes (fault.Doctype n) u o = (u, o)
text_fault bytes (fault.Cdata n) u o = (u, o)
text_fault bytes (fault.TooDeep n) u o = (u, o)
text_fault bytes fault.NoMemory u o = (u, o)

pub fault_takes : (bytes : List ℕ) (f : OutlineFault) → outline_of bytes ≡ Err f → IsOutlineFault bytes f
fault_takes bytes f h = by (is_utf8 bytes) refl
  where
    by : (v : Bool) → is_utf8 bytes ≡ v → IsOutlineFault bytes f
    by true u = text_fault bytes f u (offence_takes bytes f u h)
    by false u = subst (IsOutlineFault bytes) (err_is (fault.NotUtf8 (utf8_valid_len bytes)) f (sym (not_text bytes u) ∙ h)) (u, refl)

pub each_text : EachText
each_text bytes = by (outline_of bytes) refl
  where
    by : (r : Total) → outline_of bytes ≡ r → ((es : List Element) × IsOutline bytes es) ⊎ ((f : OutlineFault) × IsOutlineFault bytes f)
    by (Ok es) h = inl (es, outline_takes bytes es h)
    by (Err f) h = inr (f, fault_takes bytes f h)

pub one_verdict : OneVerdict
one_verdict bytes = (
  λ es fs o p. ok_is es fs (sym (outline_again bytes es o) ∙ outline_again bytes fs p),
  λ e f o p. err_is e f (sym (fault_again bytes e o) ∙ fault_again bytes f p),
  λ es f o p. apart es f (sym (outline_again bytes es o) ∙ fault_again bytes f p),
)
  where
    apart : (es : List Element) (f : OutlineFault) → ◌≡◌ {A = Total} (Ok es) (Err f) → ⊥
    apart es f e = absurd cc

pub fails : (r : Total) (bytes : List ℕ) → Gives (λ x. x) r (outline_of bytes) → IfErr r (λ e. MayFail bytes e)
fails (Ok x) bytes h = tt
fails (Err fault.NoMemory) bytes h = tt
fails (Err (fault.NotUtf8 n)) bytes h = fault_takes bytes (fault.NotUtf8 n) h
fails (Err (fault.NotOutline n)) bytes h = fault_takes bytes (fault.NotOutline n) h
fails (Err (fault.Doctype n)) bytes h = fault_takes bytes (fault.Doctype n) h
fails (Err (fault.Cdata n)) bytes h = fault_takes bytes (fault.Cdata n) h
fails (Err (fault.TooDeep n)) bytes h = fault_takes bytes (fault.TooDeep n) h

pub only_fault : (r : Total) (bytes : List ℕ) (f : OutlineFault) → Gives (λ x. x) r (outline_of bytes) → IsOutlineFault bytes f → Gives (λ x. x) r (Err f)
only_fault r bytes f h o = subst (λ (read : Total). Gives (λ x. x) r read) (fault_again bytes f o) h
