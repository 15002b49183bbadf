-- From a file's bytes to what they stand for.
use Rattle.std.proofs.Common.{◌≡◌, ◌∙◌, ap, cond, ℕ, List, [], ◌∷◌, length, inl, inr, ◌≤◌, Bool, true, false, refl, sym, subst}
use Rattle.std.specs.Prelude.{Option, None, Some, Result, Ok, Err, IfOk, nat_le}
use Rattle.std.proofs.lemmas.Bool.{le-leb}
use Rattle.gas_desk.specs.Outside.{Outside}
use Rattle.command_core.specs.declared.status.InputFile.{InputFile}
use Rattle.command_core.specs.declared.status.InputFault.{InputFault}
use Rattle.command_core.specs.declared.status.Stop.{Stop}
use Rattle.command_core.specs.declared.status.Stop.TheVariants as stop
use Rattle.command_core.specs.Stops.{IsOffence, is_want, refusal, stop_in}
use Rattle.command_core.specs.Gates.{Files, FileIs, Standing, too_long, stands, judged, file_is, standing, all_fine, long, bad, at_gate, Ends, IsParsed, Reads, gate_of, any_bytes, with_fault}

-- a file that isn't too long is what its bytes are
pub held_judged : {X : Type 0} (limit : ℕ) (read : List ℕ → Result X InputFault) (o : Option (List ℕ)) (bytes : List ℕ) → o ≡ Some bytes → length bytes ≤ limit → file_is limit read o ≡ judged (read bytes)
held_judged limit read o bytes e h =
    ap (file_is limit read) e ∙ ap (λ b. cond b (judged (read bytes)) too_long) (le-leb (length bytes) limit h)

pub held_stands : {X : Type 0} (limit : ℕ) (read : List ℕ → Result X InputFault) (o : Option (List ℕ)) (bytes : List ℕ) (x : X) → o ≡ Some bytes → length bytes ≤ limit → read bytes ≡ Ok x → file_is limit read o ≡ stands x
held_stands limit read o bytes x e h is = held_judged limit read o bytes e h ∙ ap judged is

-- the bytes stand for something
pub parsed_fine : {X : Type 0} (limit : ℕ) (read : List ℕ → Result X InputFault) (tells exact : Type 0) (file : InputFile) (name bytes : List ℕ) (x : X) (before now : Outside)
    → Reads tells exact (gate_of file limit any_bytes name ∷ []) before now None
    → (tells → before.files name ≡ Some bytes) → length bytes ≤ limit → read bytes ≡ Ok x
    → Reads tells exact (gate_of file limit read name ∷ []) before now None
parsed_fine limit read tells exact file name bytes x before now r held within is = record {
  ended = λ t. ap (λ i. at_gate file (standing i) all_fine) (held_stands limit read (before.files name) bytes x (held t) within is);
  cause = λ e. absurd (cc);
  held = tt;
  files = r.files;
  said = r.said;
  marks = r.marks;
  unread = r.unread;
  unwritten = r.unwritten;
  counts = r.counts;
}

-- the bytes are refused
pub parsed_bad : {X : Type 0} (limit : ℕ) (read : List ℕ → Result X InputFault) (tells exact : Type 0) (file : InputFile) (name bytes : List ℕ) (fault : InputFault) (before now : Outside)
    → Reads tells exact (gate_of file limit any_bytes name ∷ []) before now None
    → (tells → before.files name ≡ Some bytes) → length bytes ≤ limit → read bytes ≡ Err fault → IsOffence fault
    → Reads tells exact (gate_of file limit read name ∷ []) before now (Some (stop.BadInput file fault))
parsed_bad limit read tells exact file name bytes fault before now r held within is offence = record {
  ended = λ t. ap (λ i. at_gate file (standing i) all_fine) (held_judged limit read (before.files name) bytes (held t) within ∙ ap judged is);
  cause = λ e. absurd (cc);
  held = offence;
  files = r.files;
  said = r.said;
  marks = r.marks;
  unread = λ x calm. r.unread x (λ e. cc);
  unwritten = r.unwritten;
  counts = r.counts;
}

long_of : {X : Type 0} (b : Bool) (file f : InputFile) (bytes : List ℕ) (is : FileIs X) → at_gate file (standing (cond b (stands bytes) too_long)) all_fine ≡ long f → at_gate file (standing (cond b is too_long)) all_fine ≡ long f
long_of true file f bytes is h = absurd (cc)
long_of false file f bytes is h = h

never_bad : (b : Bool) (file f : InputFile) (fault : InputFault) (bytes : List ℕ) → at_gate file (standing (cond b (stands bytes) too_long)) all_fine ≡ bad f fault → ⊥
never_bad true file f fault bytes h = cc
never_bad false file f fault bytes h = cc

long_as : {X : Type 0} (limit : ℕ) (read : List ℕ → Result X InputFault) (o : Option (List ℕ)) (file f : InputFile) → at_gate file (standing (file_is limit any_bytes o)) all_fine ≡ long f → at_gate file (standing (file_is limit read o)) all_fine ≡ long f
long_as limit read None file f h = absurd (cc)
long_as limit read (Some bytes) file f h = long_of (nat_le (length bytes) limit) file f bytes (judged (read bytes)) h

bad_never : (limit : ℕ) (o : Option (List ℕ)) (file f : InputFile) (fault : InputFault) → at_gate file (standing (file_is limit any_bytes o)) all_fine ≡ bad f fault → ⊥
bad_never limit None file f fault h = cc
bad_never limit (Some bytes) file f fault h = never_bad (nat_le (length bytes) limit) file f fault bytes h

ends_as : {X : Type 0} (limit : ℕ) (read : List ℕ → Result X InputFault) (file : InputFile) (name : List ℕ) (before now : Outside) (why : Stop)
    → Ends (gate_of file limit any_bytes name ∷ []) before now (Some why) → Ends (gate_of file limit read name ∷ []) before now (Some why)
ends_as limit read file name before now (stop.BadInput f fault) h = absurd (bad_never limit (before.files name) file f fault h)
ends_as limit read file name before now (stop.TooLong f) h = long_as limit read (before.files name) file f h
ends_as limit read file name before now stop.ReadFault h = elim h [ inl here ↦ inl here | inr later ↦ absurd later.1 ]
ends_as limit read file name before now stop.NoMemory h = tt

-- there are no bytes
pub parsed_stop : {X : Type 0} (limit : ℕ) (read : List ℕ → Result X InputFault) (tells exact : Type 0) (file : InputFile) (name : List ℕ) (before now : Outside) (why : Stop)
    → Reads tells exact (gate_of file limit any_bytes name ∷ []) before now (Some why)
    → Reads tells exact (gate_of file limit read name ∷ []) before now (Some why)
parsed_stop limit read tells exact file name before now why r = record {
  ended = λ t. ends_as limit read file name before now why (r.ended t);
  cause = r.cause;
  held = r.held;
  files = r.files;
  said = r.said;
  marks = r.marks;
  unread = r.unread;
  unwritten = r.unwritten;
  counts = r.counts;
}

-- a file's bytes, and what they are read as
pub parsed : {X : Type 0} (limit : ℕ) (read : List ℕ → Result X InputFault) (tells exact : Type 0) (file : InputFile) (name bytes : List ℕ) (r : Result X Stop) (before now : Outside)
    → Reads tells exact (gate_of file limit any_bytes name ∷ []) before now None
    → (tells → before.files name ≡ Some bytes) → length bytes ≤ limit → IsParsed file (read bytes) r
    → Reads tells exact (gate_of file limit read name ∷ []) before now (stop_in r)
parsed limit read tells exact file name bytes (Ok x) before now r held within h = parsed_fine limit read tells exact file name bytes x before now r held within h
parsed limit read tells exact file name bytes (Err (stop.BadInput f fault)) before now r held within h =
    subst (λ g. Reads tells exact (gate_of file limit read name ∷ []) before now (Some (stop.BadInput g fault))) (sym h.0)
    (parsed_bad limit read tells exact file name bytes fault before now r held within h.2 h.1)
parsed limit read tells exact file name bytes (Err (stop.TooLong f)) before now r held within h = absurd h
parsed limit read tells exact file name bytes (Err stop.ReadFault) before now r held within h = absurd h
parsed limit read tells exact file name bytes (Err stop.NoMemory) before now r held within h = record {
  ended = λ t. tt;
  cause = λ e. absurd (cc);
  held = tt;
  files = r.files;
  said = r.said;
  marks = r.marks;
  unread = λ x calm. r.unread x (λ e. cc);
  unwritten = r.unwritten;
  counts = r.counts;
}

pub parsed_stands : {X : Type 0} (limit : ℕ) (read : List ℕ → Result X InputFault) (o : Option (List ℕ)) (file : InputFile) (bytes : List ℕ) (r : Result X Stop)
    → o ≡ Some bytes → length bytes ≤ limit → IsParsed file (read bytes) r → IfOk r (λ x. file_is limit read o ≡ stands x)
parsed_stands limit read o file bytes (Ok x) e within h = held_stands limit read o bytes x e within h
parsed_stands limit read o file bytes (Err stopped) e within h = tt

-- a file that is refused for a fault of its bytes
pub refused_parsed : {X : Type 0} (file : InputFile) (read : Result X InputFault) (fault : InputFault) → (IsOffence fault → read ≡ Err fault) → IsParsed file read (Err (refusal file fault))
refused_parsed file read fault h = by (is_want fault) refl
  where
    by : (b : Bool) → is_want fault ≡ b → IsParsed file read (Err (cond b stop.NoMemory (stop.BadInput file fault)))
    by true e = tt
    by false e = (refl, e, h e)

-- a file that is refused for a fault of its reader
pub refused_with : {E X : Type 0} (file : InputFile) (fault : E → InputFault) (read : Result X E) (e : E) → (IsOffence (fault e) → read ≡ Err e) → IsParsed file (with_fault fault read) (Err (refusal file (fault e)))
refused_with file fault read e h = refused_parsed file (with_fault fault read) (fault e) (λ o. ap (with_fault fault) (h o))

-- two gates of one file at which the same stands now
ends_alike : (file : InputFile) (name : Option (List ℕ)) (s z : Files → Standing) (before now : Outside) (stopped : Option Stop) → s before.files ≡ z before.files
    → Ends (record { file = file; name = name; stands_there = s } ∷ []) before now stopped → Ends (record { file = file; name = name; stands_there = z } ∷ []) before now stopped
ends_alike file name s z before now None e h = ap (λ x. at_gate file x all_fine) (sym e) ∙ h
ends_alike file name s z before now (Some (stop.BadInput f fault)) e h = ap (λ x. at_gate file x all_fine) (sym e) ∙ h
ends_alike file name s z before now (Some (stop.TooLong f)) e h = ap (λ x. at_gate file x all_fine) (sym e) ∙ h
ends_alike file name s z before now (Some stop.ReadFault) e h = elim h [ inl here ↦ inl here | inr later ↦ absurd later.1 ]
ends_alike file name s z before now (Some stop.NoMemory) e h = tt

pub gate_alike : (tells exact : Type 0) (file : InputFile) (name : Option (List ℕ)) (s z : Files → Standing) (before now : Outside) (stopped : Option Stop)
    → (tells → s before.files ≡ z before.files)
    → Reads tells exact (record { file = file; name = name; stands_there = s } ∷ []) before now stopped
    → Reads tells exact (record { file = file; name = name; stands_there = z } ∷ []) before now stopped
gate_alike tells exact file name s z before now stopped same r = record {
  ended = λ t. ends_alike file name s z before now stopped (same t) (r.ended t);
  cause = λ e. elim (r.cause e) [ inl here ↦ inl here | inr later ↦ absurd later ];
  held = r.held;
  files = r.files;
  said = r.said;
  marks = r.marks;
  unread = r.unread;
  unwritten = r.unwritten;
  counts = r.counts;
}
