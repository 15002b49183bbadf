-- The lines of a text, read one after the other.
use Rattle.std.proofs.Common.{◌≡◌, ℕ, List, [], ◌∷◌, ◌++◌, map, Result, Ok, Err, refl, sym, ap, subst, ◌∙◌, append_assoc}
use Rattle.std.proofs.lemmas.List.{append-nil}
use Rattle.tree_cert.specs.declared.fault.LineFault.{LineFault}
use Rattle.tree_cert.specs.declared.fault.LineFault.TheVariants as line_fault
use Rattle.tree_cert.specs.declared.line.Line.{Line}
use Rattle.tree_cert.specs.Fields.{Gives}
use Rattle.tree_cert.specs.Reading.{line_of}
use Rattle.tree_cert.specs.Spelling.{AreLines}
use Rattle.tree_cert.specs.Texts.{Read, pieces, told, lines_in}
use Rattle.tree_cert.proofs.TextLines.{lines_are_read}
use Rattle.step_lines.specs.Fronts.{IsNext}

-- these lines are read, and those are left
pub record AreRead (text rest : List ℕ) (lines : List Line) : Type 0 where
  pub left : List Line
  pub reads : lines_in rest ≡ map Ok left
  pub whole : AreLines text (lines ++ left)

pub none_read : (text : List ℕ) → ((lines : List Line) × AreLines text lines) → AreRead text text []
none_read text h = record { left = h.0; reads = (lines_are_read text h.0).0 h.1; whole = h.1 }

first_two : (x y : Read) (r s : List Read) → x ∷ r ≡ y ∷ s → (x ≡ y) × (r ≡ s)
first_two x y r s e = (cc, cc)

told_line : (r : Result Line LineFault) (l : Line) → told r ≡ Ok l → r ≡ Ok l
told_line (Ok m) l e = cc
told_line (Err line_fault.NotLine) l e = absurd cc
told_line (Err line_fault.Wide) l e = absurd cc
told_line (Err line_fault.NoMemory) l e = absurd cc

-- the next line, and those that are left after it
pub record Next (text rest after : List ℕ) (lines : List Line) (given : Result Line LineFault) : Type 0 where
  pub line : Line
  pub gives : Gives (λ l. l) given (Ok line)
  pub more : AreRead text after (lines ++ line ∷ [])

next_of : (text rest after piece : List ℕ) (lines left : List Line) (given : Result Line LineFault) → pieces rest ≡ piece ∷ pieces after → Gives (λ l. l) given (line_of piece) → lines_in rest ≡ map Ok left → AreLines text (lines ++ left) → Next text rest after lines given
next_of text rest after piece lines [] given first exact reads whole =
    let e : told (line_of piece) ∷ lines_in after ≡ [] = sym (ap (map (λ piece. told (line_of piece))) first) ∙ reads in absurd cc
next_of text rest after piece lines (l ∷ left) given first exact reads whole =
    let e = first_two (told (line_of piece)) (Ok l) (lines_in after) (map Ok left) (sym (ap (map (λ piece. told (line_of piece))) first) ∙ reads) in
    record {
      line = l;
      gives = subst (λ (r : Result Line LineFault). Gives (λ l. l) given r) (told_line (line_of piece) l e.0) exact;
      more = record { left = left; reads = e.1; whole = subst (AreLines text) (sym (append_assoc lines (l ∷ []) left)) whole };
    }

pub next_line_of : (text rest after : List ℕ) (lines : List Line) (given : Result Line LineFault) → AreRead text rest lines → IsNext rest given after → Next text rest after lines given
next_line_of text rest after lines given h n = next_of text rest after n.piece lines h.left given n.first n.exact h.reads h.whole

nothing_left : (left : List Line) → [] ≡ map {B = Read} Ok left → left ≡ []
nothing_left [] e = refl
nothing_left (l ∷ left) e = absurd cc

pub all_read : (text rest : List ℕ) (lines : List Line) → AreRead text rest lines → rest ≡ [] → AreLines text lines
all_read text rest lines h e =
    let none : h.left ≡ [] = nothing_left h.left (sym (ap lines_in e) ∙ h.reads) in
    subst (AreLines text) (append-nil lines) (subst (λ z. AreLines text (lines ++ z)) none h.whole)
