-- OUTs, written one after another.
use Rattle.std.proofs.Common.{◌≡◌, ◌∙◌, sym, subst, ℕ, Bool, true, false, List, [], ◌∷◌, length, inl, inr, arith, refl}
use Rattle.std.proofs.lemmas.List.{append-nil}
use Rattle.std.specs.Prelude.{Option, None, Some, Err, IsErrOf}
use Rattle.gas_desk.specs.Outside.{Outside, CountsOn, Rose, SameBut, SameFiles, SameMarks, SameMarksBut, SameReads, SameWrites}
use Rattle.gas_desk.specs.declared.whole.WriteStop.{WriteStop}
use Rattle.gas_desk.specs.declared.whole.WriteStop.TheVariants as write
use Rattle.command_core.specs.Meanings.{Texts, NotAmong, IsWritten, AllWritten, IsPart, AllParts, Puts, has_text}

-- two stretches in turn
pub counts_on : (first mid now : Outside) → CountsOn first mid → CountsOn mid now → CountsOn first now
counts_on first mid now a b = record { reads = λ n. let x = a.reads n in let y = b.reads n in omega arith; writes = omega (arith, a.writes, b.writes) }

-- the other OUTs, where one stopped
pub parts_kept : (out : List ℕ) (outs : List (List ℕ)) (texts : Texts) (before now : Outside)
    → length outs ≡ length texts → NotAmong out outs → SameBut out before now → AllParts outs texts before now
parts_kept out [] [] before now e other same = tt
parts_kept out [] (text ∷ texts) before now e other same = absurd (cc)
parts_kept out (name ∷ outs) [] before now e other same = absurd (cc)
parts_kept out (name ∷ outs) (None ∷ texts) before now e other same =
    (same name (λ h. other.0 (sym h)), parts_kept out outs texts before now (cc) other.1 same)
parts_kept out (name ∷ outs) (Some text ∷ texts) before now e other same =
    (inl (same name (λ h. other.0 (sym h))), parts_kept out outs texts before now (cc) other.1 same)

-- what was written is a part too
pub part_of_written : (out : List ℕ) (text : Option (List ℕ)) (before mid now : Outside)
    → IsWritten out text before mid → now.files out ≡ mid.files out → IsPart out text before now
part_of_written out None before mid now w e = e ∙ w
part_of_written out (Some text) before mid now w e = inr (text, [], e ∙ w.0, append-nil text)

pub written_later : (out : List ℕ) (text : Option (List ℕ)) (before mid now : Outside)
    → IsWritten out text before mid → now.files out ≡ mid.files out → now.finished out ≡ mid.finished out → IsWritten out text before now
written_later out None before mid now w e m = e ∙ w
written_later out (Some text) before mid now w e m = (e ∙ w.0, m ∙ w.1)

-- OUTs that another one doesn't touch
pub written_from : (out : List ℕ) (outs : List (List ℕ)) (texts : Texts) (before mid now : Outside)
    → NotAmong out outs → SameBut out before mid → AllWritten outs texts mid now → AllWritten outs texts before now
written_from out [] [] before mid now other same w = tt
written_from out [] (text ∷ texts) before mid now other same w = w
written_from out (name ∷ outs) [] before mid now other same w = w
written_from out (name ∷ outs) (None ∷ texts) before mid now other same w =
    (w.0 ∙ same name (λ h. other.0 (sym h)), written_from out outs texts before mid now other.1 same w.1)
written_from out (name ∷ outs) (Some text ∷ texts) before mid now other same w =
    (w.0, written_from out outs texts before mid now other.1 same w.1)

pub part_from : (name : List ℕ) (text : List ℕ) (before mid now : Outside)
    → mid.files name ≡ before.files name → IsPart name (Some text) mid now → IsPart name (Some text) before now
part_from name text before mid now e p = elim p [ inl same ↦ inl (same ∙ e) | inr front ↦ inr front ]

pub parts_from : (out : List ℕ) (outs : List (List ℕ)) (texts : Texts) (before mid now : Outside)
    → NotAmong out outs → SameBut out before mid → AllParts outs texts mid now → AllParts outs texts before now
parts_from out [] [] before mid now other same w = tt
parts_from out [] (text ∷ texts) before mid now other same w = w
parts_from out (name ∷ outs) [] before mid now other same w = w
parts_from out (name ∷ outs) (None ∷ texts) before mid now other same w =
    (w.0 ∙ same name (λ h. other.0 (sym h)), parts_from out outs texts before mid now other.1 same w.1)
parts_from out (name ∷ outs) (Some text ∷ texts) before mid now other same w =
    (part_from name text before mid now (same name (λ h. other.0 (sym h))) w.0, parts_from out outs texts before mid now other.1 same w.1)

-- where no text is, none is first and none comes later
no_texts : (text : Option (List ℕ)) (texts : Texts) → has_text (text ∷ texts) ≡ false → (has_text (text ∷ []) ≡ false) × (has_text texts ≡ false)
no_texts None texts e = (refl, e)
no_texts (Some text) texts e = absurd (cc)

-- the one text is the first
first_text : (text : Option (List ℕ)) (texts : Texts) → has_text (text ∷ texts) ≡ true → has_text texts ≡ false → has_text (text ∷ []) ≡ true
first_text None texts e later = absurd (cc)
first_text (Some text) texts e later = refl

-- the writing of the last text ended all writing
finished_next : (text : Option (List ℕ)) (texts : Texts) (mid now : Outside) → (has_text (text ∷ []) ≡ true → mid.writing ≡ false)
    → (has_text texts ≡ true → now.writing ≡ false) → (has_text texts ≡ false → now.writing ≡ mid.writing) → has_text (text ∷ texts) ≡ true → now.writing ≡ false
finished_next text texts mid now here later idle some = by (has_text texts) refl
  where
    by : (b : Bool) → has_text texts ≡ b → now.writing ≡ false
    by true e = later e
    by false e = idle e ∙ here (first_text text texts some e)

-- an OUT that stopped ends the writing
pub puts_stop : (tells exact : Type 0) (out : List ℕ) (outs : List (List ℕ)) (text : Option (List ℕ)) (texts : Texts) (before now : Outside) (e : WriteStop)
    → length (out ∷ outs) ≡ length (text ∷ texts)
    → (tells → IsPart out text before now) → (tells → SameBut out before now) → (tells → SameMarksBut out before now)
    → (has_text (text ∷ []) ≡ false → now.writing ≡ before.writing) → (tells → has_text (text ∷ []) ≡ false → SameFiles before now) → (tells → now.said ≡ before.said)
    → (IsErrOf {T = Unit {0}} (Err e) write.Failed → Rose before.write_faults now.write_faults)
    → (exact → SameReads before now) → (exact → (IsErrOf {T = Unit {0}} (Err e) write.Failed → ⊥) → SameWrites before now) → CountsOn before now
    → Puts tells exact (out ∷ outs) (text ∷ texts) before now (Some e)
puts_stop tells exact out outs text texts before now e fits part others marks idle untouched said cause unread unwritten counts = record {
  whole = λ t is. absurd (cc);
  finished = λ is some. absurd (cc);
  idle = λ none. idle (no_texts text texts none).0;
  untouched = λ t none. untouched t (no_texts text texts none).0;
  part = λ t d. (part t, parts_kept out outs texts before now (cc) d.0 (others t));
  others = λ t n other. (others t n other.0, marks t n other.0);
  said = said;
  cause = λ is. cause (cc);
  unread = unread;
  unwritten = λ t no_fault. unwritten t (λ h. no_fault (cc));
  counts = counts;
}

-- an OUT that was written, and the others after it
pub puts_next : (tells exact : Type 0) (out : List ℕ) (outs : List (List ℕ)) (text : Option (List ℕ)) (texts : Texts) (before mid now : Outside) (fault : Option WriteStop)
    → (tells → IsWritten out text before mid) → (tells → SameBut out before mid) → (tells → SameMarksBut out before mid)
    → (has_text (text ∷ []) ≡ true → mid.writing ≡ false) → (has_text (text ∷ []) ≡ false → mid.writing ≡ before.writing) → (tells → has_text (text ∷ []) ≡ false → SameFiles before mid) → (tells → mid.said ≡ before.said)
    → (exact → SameReads before mid) → (exact → SameWrites before mid) → CountsOn before mid
    → Puts tells exact outs texts mid now fault
    → Puts tells exact (out ∷ outs) (text ∷ texts) before now fault
puts_next tells exact out outs text texts before mid now fault written others marks finished idle untouched said unread unwritten counts later = record {
  whole = λ t is d. (
    written_later out text before mid now (written t) (later.others t out d.0).0 (later.others t out d.0).1,
    written_from out outs texts before mid now d.0 (others t) (later.whole t is d.1),
  );
  finished = λ is some. finished_next text texts mid now finished (later.finished is) later.idle some;
  idle = λ none. later.idle (no_texts text texts none).1 ∙ idle (no_texts text texts none).0;
  untouched = λ t none n. later.untouched t (no_texts text texts none).1 n ∙ untouched t (no_texts text texts none).0 n;
  part = λ t d. (
    part_of_written out text before mid now (written t) (later.others t out d.0).0,
    parts_from out outs texts before mid now d.0 (others t) (later.part t d.1),
  );
  others = λ t n other. let after = later.others t n other.1 in (after.0 ∙ others t n other.0, after.1 ∙ marks t n other.0);
  said = λ t. later.said t ∙ said t;
  cause = λ is. let rose = later.cause is in omega (arith, rose, counts.writes);
  unread = λ t n. later.unread t n ∙ unread t n;
  unwritten = λ t no_fault. later.unwritten t no_fault ∙ unwritten t;
  counts = counts_on before mid now counts later.counts;
}

-- the same, of lists that are known to be these
pub puts_at : (tells exact : Type 0) (outs outs' : List (List ℕ)) (texts texts' : Texts) (before now : Outside) (fault : Option WriteStop)
    → outs ≡ outs' → texts ≡ texts' → Puts tells exact outs' texts' before now fault → Puts tells exact outs texts before now fault
puts_at tells exact outs outs' texts texts' before now fault e f p =
    subst (λ x. Puts tells exact x texts before now fault) (sym e) (subst (λ y. Puts tells exact outs' y before now fault) (sym f) p)

-- before and after the writing no file changed
pub written_around : (outs : List (List ℕ)) (texts : Texts) (before first last now : Outside)
    → SameFiles before first → AllWritten outs texts first last → SameFiles last now → SameMarks last now → AllWritten outs texts before now
written_around [] [] before first last now a w b m = tt
written_around [] (text ∷ texts) before first last now a w b m = w
written_around (name ∷ outs) [] before first last now a w b m = w
written_around (name ∷ outs) (None ∷ texts) before first last now a w b m =
    (b name ∙ w.0 ∙ a name, written_around outs texts before first last now a w.1 b m)
written_around (name ∷ outs) (Some text ∷ texts) before first last now a w b m =
    ((b name ∙ w.0.0, m name ∙ w.0.1), written_around outs texts before first last now a w.1 b m)

pub part_around : (name text : List ℕ) (before first last now : Outside)
    → SameFiles before first → IsPart name (Some text) first last → SameFiles last now → IsPart name (Some text) before now
part_around name text before first last now a w b = elim w [ inl same ↦ inl (b name ∙ same ∙ a name) | inr front ↦ inr (front.0, front.1, b name ∙ front.2, front.3) ]

pub parts_around : (outs : List (List ℕ)) (texts : Texts) (before first last now : Outside)
    → SameFiles before first → AllParts outs texts first last → SameFiles last now → AllParts outs texts before now
parts_around [] [] before first last now a w b = tt
parts_around [] (text ∷ texts) before first last now a w b = w
parts_around (name ∷ outs) [] before first last now a w b = w
parts_around (name ∷ outs) (None ∷ texts) before first last now a w b =
    (b name ∙ w.0 ∙ a name, parts_around outs texts before first last now a w.1 b)
parts_around (name ∷ outs) (Some text ∷ texts) before first last now a w b =
    (part_around name text before first last now a w.0 b, parts_around outs texts before first last now a w.1 b)
