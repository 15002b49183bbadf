-- How a command is concluded, by what its parts did.
use Rattle.std.proofs.Common.{◌≡◌, ◌∙◌, sym, ap, subst, ℕ, List, [], ◌∷◌, ◌++◌, ◌⊎◌, false, inl, inr, arith, refl}
use Rattle.std.proofs.lemmas.List.{append-nil}
use Rattle.std.specs.Prelude.{None, Some}
use Rattle.gas_desk.specs.Outside.{Outside, CountsOn, Rose, SameFiles, SameReads, SameWrites}
use Rattle.gas_desk.specs.declared.whole.WriteStop.{WriteStop}
use Rattle.gas_desk.specs.declared.whole.WriteStop.TheVariants as write
use Rattle.command_core.specs.declared.command.Done.{Done}
use Rattle.command_core.specs.declared.status.Status.{Status}
use Rattle.command_core.specs.declared.status.Status.TheVariants as ends
use Rattle.command_core.specs.declared.status.Stop.{Stop}
use Rattle.command_core.specs.declared.status.Stop.TheVariants as stop
use Rattle.command_core.specs.Gates.{Reads, AnyRose, found, all_fine}
use Rattle.command_core.specs.Lines.{line_of}
use Rattle.command_core.specs.Stops.{HoldsNoWant, IsAnswer, MakesFile, MakesNoFile, StopHoldsNoWant, status_of}
use Rattle.command_core.specs.Meanings.{Meaning, Does, Distinct, AllWritten, AllParts, SameButOuts, SaysLine, Part, Case, answered, refused, failed, Concluded, Speaks, spoken, no_memory, unsaid, Puts, fault_status}
use Rattle.command_core.proofs.Outs.{counts_on, written_around, parts_around}
use Rattle.command_core.proofs.Walks.{any_rose_within, counts_same, ends_within}

-- what the command found, and all OUTs written
pub record Wrote (tells exact : Type 0) (m : Meaning) (before now : Outside) (done : Done) : Type 0 where
  pub does : Does tells m before.files done
  pub fine : tells → found m.gates before.files ≡ all_fine
  pub held : tells → Distinct m.outs → AllWritten m.outs done.texts before now
  pub parts : tells → Distinct m.outs → AllParts m.outs done.texts before now
  pub others : tells → SameButOuts m.outs before now
  pub finished : MakesFile done.status → now.writing ≡ false
  pub untouched : tells → MakesNoFile done.status → SameFiles before now
  pub said : tells → now.said ≡ before.said
  pub unread : exact → SameReads before now
  pub unwritten : exact → SameWrites before now
  pub counts : CountsOn before now

pub wrote : (tells exact : Type 0) (m : Meaning) (before mid now : Outside) (done : Done) (outs : List (List ℕ))
    → Does tells m before.files done → Reads tells exact m.gates before mid None
    → outs ≡ m.outs → Puts tells exact outs done.texts mid now None
    → Wrote tells exact m before now done
wrote tells exact m before mid now done outs does reads same puts =
    let p : Puts tells exact m.outs done.texts mid now None = subst (λ x. Puts tells exact x done.texts mid now None) same puts in
    record {
      does = does;
      fine = reads.ended;
      held = λ t d. written_around m.outs done.texts before mid now now (reads.files t) (p.whole t refl d) (λ n. refl) (λ n. refl);
      parts = λ t d. parts_around m.outs done.texts before mid now now (reads.files t) (p.part t d) (λ n. refl);
      others = λ t n other. let o = p.others t n other in (o.0 ∙ reads.files t n, o.1 ∙ reads.marks t n);
      finished = λ h. p.finished refl (does.made h);
      untouched = λ t h n. p.untouched t (does.unmade h) n ∙ reads.files t n;
      said = λ t. p.said t ∙ reads.said t;
      unread = λ e n. p.unread e n ∙ reads.unread e (λ h. cc) n;
      unwritten = λ e. p.unwritten e (λ h. cc) ∙ reads.unwritten e;
      counts = counts_on before mid now reads.counts p.counts;
    }

no_answer : (status is : Status) → status ≡ is → (IsAnswer is → ⊥) → IsAnswer status → ⊥
no_answer status is e never h = never (subst IsAnswer e h)

pub refusal_no_answer : (why : Stop) → IsAnswer (status_of why) → ⊥
refusal_no_answer (stop.BadInput file fault) h = h
refusal_no_answer (stop.TooLong file) h = h
refusal_no_answer stop.ReadFault h = h
refusal_no_answer stop.NoMemory h = h

read_fault_of : (why : Stop) → status_of why ≡ ends.ReadFault → why ≡ stop.ReadFault
read_fault_of (stop.BadInput file fault) e = absurd (cc)
read_fault_of (stop.TooLong file) e = absurd (cc)
read_fault_of stop.ReadFault e = refl
read_fault_of stop.NoMemory e = absurd (cc)

no_usage_of : (why : Stop) (at : ℕ) → status_of why ≡ ends.Usage at → ⊥
no_usage_of (stop.BadInput file fault) at e = cc
no_usage_of (stop.TooLong file) at e = cc
no_usage_of stop.ReadFault at e = cc
no_usage_of stop.NoMemory at e = cc

pub no_write_fault_of : (why : Stop) → status_of why ≡ ends.WriteFault → ⊥
no_write_fault_of (stop.BadInput file fault) e = cc
no_write_fault_of (stop.TooLong file) e = cc
no_write_fault_of stop.ReadFault e = cc
no_write_fault_of stop.NoMemory e = cc

held_of : (why : Stop) → StopHoldsNoWant (Some why) → HoldsNoWant (status_of why)
held_of (stop.BadInput file fault) h = h
held_of (stop.TooLong file) h = tt
held_of stop.ReadFault h = tt
held_of stop.NoMemory h = tt

makes_none : (why : Stop) → MakesFile (status_of why) → ⊥
makes_none (stop.BadInput file fault) h = h
makes_none (stop.TooLong file) h = h
makes_none stop.ReadFault h = h
makes_none stop.NoMemory h = h

no_memory_of : (why : Stop) → status_of why ≡ ends.NoMemory → why ≡ stop.NoMemory
no_memory_of (stop.BadInput file fault) e = absurd (cc)
no_memory_of (stop.TooLong file) e = absurd (cc)
no_memory_of stop.ReadFault e = absurd (cc)
no_memory_of stop.NoMemory e = refl

module _ (tells exact : Type 0) (m : Meaning) (before mid now : Outside) (done : Done) (status : Status)
    (w : Wrote tells exact m before mid done)
    (s : Speaks tells exact (line_of done.status ++ done.note) done.status mid now status) where
  said_after : tells → now.said ≡ mid.said → now.said ≡ before.said
  said_after t e = e ∙ w.said t

  part_then : tells → Part m before now
  part_then t = record {
    status = done.status;
    note = done.note;
    texts = done.texts;
    fine = w.fine t;
    answers = w.does.answers t;
    held = λ d. parts_around m.outs done.texts before before mid now (λ n. refl) (w.parts t d) (s.files t);
  }

  case_then : tells → Case m before now status
  case_then t = elim s.spoke [
    | spoken is said quiet ↦ answered (record {
      note = done.note;
      texts = done.texts;
      fine = w.fine t;
      is_answer = subst IsAnswer (sym is) w.does.is_answer;
      answers = subst (λ x. m.answers before.files x done.note done.texts) (sym is) (w.does.answers t);
      held = λ d. written_around m.outs done.texts before before mid now (λ n. refl) (w.held t d) (s.files t) (s.marks t);
      said = subst (λ x. SaysLine (line_of x ++ done.note) before now) (sym is) (said t ∙ ap (λ x. x ++ (line_of done.status ++ done.note) ++ 10 ∷ []) (w.said t));
    })
    | no_memory is silent quiet ↦ failed (record { is = inl is; part = inr (part_then t); silent = silent t ∙ w.said t })
    | unsaid is silent rose ↦ failed (record { is = inr is; part = inr (part_then t); silent = silent t ∙ w.said t })
  ]

  may_then : IsAnswer status → m.may status
  may_then answer = elim s.spoke [
    | spoken is said quiet ↦ subst m.may (sym is) w.does.may
    | no_memory is silent quiet ↦ absurd (no_answer _ _ is (λ h. h) answer)
    | unsaid is silent rose ↦ absurd (no_answer _ _ is (λ h. h) answer)
  ]

  due_then : tells → (d : Status) → m.due before.files d → IsAnswer status → status ≡ d
  due_then t d due answer = elim s.spoke [
    | spoken is said quiet ↦ is ∙ w.does.due t d due
    | no_memory is silent quiet ↦ absurd (no_answer _ _ is (λ h. h) answer)
    | unsaid is silent rose ↦ absurd (no_answer _ _ is (λ h. h) answer)
  ]

  never_then : (other : Status) → (IsAnswer other → ⊥) → (other ≡ ends.NoMemory → ⊥) → (other ≡ ends.WriteFault → ⊥) → status ≡ other → ⊥
  never_then other never a b e = elim s.spoke [
    | spoken is said quiet ↦ never (subst IsAnswer (sym is ∙ e) w.does.is_answer)
    | no_memory is silent quiet ↦ a (sym e ∙ is)
    | unsaid is silent rose ↦ b (sym e ∙ is)
  ]

  rose_then : status ≡ ends.WriteFault → Rose before.write_faults now.write_faults
  rose_then e = elim s.spoke [
    | spoken is said quiet ↦ absurd (let h : IsAnswer ends.WriteFault = subst IsAnswer (sym is ∙ e) w.does.is_answer in h)
    | no_memory is silent quiet ↦ absurd (let h : ends.NoMemory ≡ ends.WriteFault = sym is ∙ e in cc)
    | unsaid is silent rose ↦ omega (arith, rose, w.counts.writes)
  ]

  unwritten_then : exact → (status ≡ ends.WriteFault → ⊥) → SameWrites before now
  unwritten_then x no_fault = elim s.spoke [
    | spoken is said quiet ↦ quiet x ∙ w.unwritten x
    | no_memory is silent quiet ↦ quiet x ∙ w.unwritten x
    | unsaid is silent rose ↦ absurd (no_fault is)
  ]

  held_then : HoldsNoWant status
  held_then = elim s.spoke [
    | spoken is said quiet ↦ subst HoldsNoWant (sym is) w.does.held
    | no_memory is silent quiet ↦ subst HoldsNoWant (sym is) tt
    | unsaid is silent rose ↦ subst HoldsNoWant (sym is) tt
  ]

  finished_then : MakesFile status → now.writing ≡ false
  finished_then h = elim s.spoke [
    | spoken is said quiet ↦ s.writing ∙ w.finished (subst MakesFile is h)
    | no_memory is silent quiet ↦ absurd (let x : MakesFile ends.NoMemory = subst MakesFile is h in x)
    | unsaid is silent rose ↦ absurd (let x : MakesFile ends.WriteFault = subst MakesFile is h in x)
  ]

  untouched_then : tells → MakesNoFile status → SameFiles before now
  untouched_then t h = elim s.spoke [
    | spoken is said quiet ↦ λ n. s.files t n ∙ w.untouched t (subst MakesNoFile is h) n
    | no_memory is silent quiet ↦ absurd (let x : MakesNoFile ends.NoMemory = subst MakesNoFile is h in x)
    | unsaid is silent rose ↦ absurd (let x : MakesNoFile ends.WriteFault = subst MakesNoFile is h in x)
  ]

  pub concluded_spoken : Concluded tells exact m before now status
  concluded_spoken = record {
    case = case_then;
    may = may_then;
    held = held_then;
    finished = finished_then;
    untouched = untouched_then;
    due = due_then;
    no_usage = λ at. never_then (ends.Usage at) (λ h. h) (λ h. cc) (λ h. cc);
    read_fault = λ e. absurd (never_then ends.ReadFault (λ h. h) (λ h. cc) (λ h. cc) e);
    write_fault = rose_then;
    unread = λ x _ _ _ n. s.unread x n ∙ w.unread x n;
    unwritten = unwritten_then;
    no_retry = λ t x h. inl (λ n. s.unread x n ∙ w.unread x n);
    others = λ t n other. let o = w.others t n other in (s.files t n ∙ o.0, s.marks t n ∙ o.1);
    counts = counts_on before mid now w.counts s.counts;
  }

-- an OUT stopped
module _ (tells exact : Type 0) (m : Meaning) (before mid now : Outside) (done : Done) (outs : List (List ℕ)) (e : WriteStop)
    (does : Does tells m before.files done) (reads : Reads tells exact m.gates before mid None)
    (same : outs ≡ m.outs) (puts : Puts tells exact outs done.texts mid now (Some e)) where
  puts_here : Puts tells exact m.outs done.texts mid now (Some e)
  puts_here = subst (λ x. Puts tells exact x done.texts mid now (Some e)) same puts

  is_fault : (x : WriteStop) → (fault_status x ≡ ends.NoMemory) ⊎ (fault_status x ≡ ends.WriteFault)
  is_fault write.Failed = inr refl
  is_fault write.NoMemory = inl refl

  failed_of : (x : WriteStop) → fault_status x ≡ ends.WriteFault → x ≡ write.Failed
  failed_of write.Failed h = refl
  failed_of write.NoMemory h = absurd (cc)

  failed_is : (x : WriteStop) → x ≡ write.Failed → fault_status x ≡ ends.WriteFault
  failed_is x h = ap fault_status h

  fault_no_answer : (x : WriteStop) → IsAnswer (fault_status x) → ⊥
  fault_no_answer write.Failed h = h
  fault_no_answer write.NoMemory h = h

  fault_no_usage : (x : WriteStop) (at : ℕ) → fault_status x ≡ ends.Usage at → ⊥
  fault_no_usage write.Failed at h = cc
  fault_no_usage write.NoMemory at h = cc

  fault_no_read : (x : WriteStop) → fault_status x ≡ ends.ReadFault → ⊥
  fault_no_read write.Failed h = cc
  fault_no_read write.NoMemory h = cc

  fault_held : (x : WriteStop) → HoldsNoWant (fault_status x)
  fault_held write.Failed = tt
  fault_held write.NoMemory = tt

  fault_makes_none : (x : WriteStop) → MakesFile (fault_status x) → ⊥
  fault_makes_none write.Failed h = h
  fault_makes_none write.NoMemory h = h

  fault_touches : (x : WriteStop) → MakesNoFile (fault_status x) → ⊥
  fault_touches write.Failed h = h
  fault_touches write.NoMemory h = h

  pub concluded_fault : Concluded tells exact m before now (fault_status e)
  concluded_fault = record {
    case = λ t. failed (record {
      is = is_fault e;
      part = inr (record {
        status = done.status;
        note = done.note;
        texts = done.texts;
        fine = reads.ended t;
        answers = does.answers t;
        held = λ d. parts_around m.outs done.texts before mid now now (reads.files t) (puts_here.part t d) (λ n. refl);
      });
      silent = puts_here.said t ∙ reads.said t;
    });
    may = λ h. absurd (fault_no_answer e h);
    held = fault_held e;
    finished = λ h. absurd (fault_makes_none e h);
    untouched = λ t h. absurd (fault_touches e h);
    due = λ t d due h. absurd (fault_no_answer e h);
    no_usage = fault_no_usage e;
    read_fault = λ h. absurd (fault_no_read e h);
    write_fault = λ h. let rose = puts_here.cause (ap Some (failed_of e h)) in omega (arith, rose, reads.counts.writes);
    unread = λ x _ _ _ n. puts_here.unread x n ∙ reads.unread x (λ h. cc) n;
    unwritten = λ x no_fault. puts_here.unwritten x (λ h. no_fault (failed_is e (cc))) ∙ reads.unwritten x;
    no_retry = λ t x h. inl (λ n. puts_here.unread x n ∙ reads.unread x (λ h. cc) n);
    others = λ t n other. let o = puts_here.others t n other in (o.0 ∙ reads.files t n, o.1 ∙ reads.marks t n);
    counts = counts_on before mid now reads.counts puts_here.counts;
  }

-- reading stopped
module _ (tells exact : Type 0) (m : Meaning) (before mid now : Outside) (why : Stop) (status : Status)
    (reads : Reads tells exact m.gates before mid (Some why)) (no_loss : why ≡ stop.NoMemory → ⊥)
    (s : Speaks tells exact (line_of (status_of why) ++ []) (status_of why) mid now status) where
  refusal_case : tells → Case m before now status
  refusal_case t =
      let same : SameFiles before now = λ n. s.files t n ∙ reads.files t n in
      elim s.spoke [
        | spoken is said quiet ↦ refused (record {
          why = why;
          is = is;
          not_memory = λ h. no_loss (no_memory_of why (sym is ∙ h));
          ended = ends_within m.gates before before mid now (Some why) refl (counts_same before) s.counts (reads.ended t);
          files = same;
          said = subst (λ x. SaysLine (line_of x) before now) (sym is) (said t ∙ ap (λ x. x ++ (line_of (status_of why) ++ []) ++ 10 ∷ []) (reads.said t) ∙ ap (λ x. before.said ++ x ++ 10 ∷ []) (append-nil (line_of (status_of why))));
        })
        | no_memory is silent quiet ↦ failed (record { is = inl is; part = inl same; silent = silent t ∙ reads.said t })
        | unsaid is silent rose ↦ failed (record { is = inr is; part = inl same; silent = silent t ∙ reads.said t })
      ]

  refusal_never : IsAnswer status → ⊥
  refusal_never answer = elim s.spoke [
    | spoken is said quiet ↦ refusal_no_answer why (subst IsAnswer is answer)
    | no_memory is silent quiet ↦ no_answer _ _ is (λ h. h) answer
    | unsaid is silent rose ↦ no_answer _ _ is (λ h. h) answer
  ]

  refusal_no_usage : (at : ℕ) → status ≡ ends.Usage at → ⊥
  refusal_no_usage at e = elim s.spoke [
    | spoken is said quiet ↦ no_usage_of why at (sym is ∙ e)
    | no_memory is silent quiet ↦ let h : ends.NoMemory ≡ ends.Usage at = sym is ∙ e in cc
    | unsaid is silent rose ↦ let h : ends.WriteFault ≡ ends.Usage at = sym is ∙ e in cc
  ]

  refusal_read : status ≡ ends.ReadFault → AnyRose m.gates before mid
  refusal_read e = elim s.spoke [
    | spoken is said quiet ↦ reads.cause (ap Some (read_fault_of why (sym is ∙ e)))
    | no_memory is silent quiet ↦ absurd (let h : ends.NoMemory ≡ ends.ReadFault = sym is ∙ e in cc)
    | unsaid is silent rose ↦ absurd (let h : ends.WriteFault ≡ ends.ReadFault = sym is ∙ e in cc)
  ]

  refusal_write : status ≡ ends.WriteFault → Rose before.write_faults now.write_faults
  refusal_write e = elim s.spoke [
    | spoken is said quiet ↦ absurd (no_write_fault_of why (sym is ∙ e))
    | no_memory is silent quiet ↦ absurd (let h : ends.NoMemory ≡ ends.WriteFault = sym is ∙ e in cc)
    | unsaid is silent rose ↦ omega (arith, rose, reads.counts.writes)
  ]

  refusal_unread : exact → (status ≡ ends.ReadFault → ⊥) → (status ≡ ends.WriteFault → ⊥) → (status ≡ ends.NoMemory → ⊥) → SameReads before now
  refusal_unread x a b c = elim s.spoke [
    | spoken is said quiet ↦ λ n. s.unread x n ∙ reads.unread x (λ h. let e : why ≡ stop.ReadFault = cc in a (is ∙ ap status_of e)) n
    | no_memory is silent quiet ↦ absurd (c is)
    | unsaid is silent rose ↦ absurd (b is)
  ]

  refusal_unwritten : exact → (status ≡ ends.WriteFault → ⊥) → SameWrites before now
  refusal_unwritten x b = elim s.spoke [
    | spoken is said quiet ↦ quiet x ∙ reads.unwritten x
    | no_memory is silent quiet ↦ quiet x ∙ reads.unwritten x
    | unsaid is silent rose ↦ absurd (b is)
  ]

  refusal_held : HoldsNoWant status
  refusal_held = elim s.spoke [
    | spoken is said quiet ↦ subst HoldsNoWant (sym is) (held_of why reads.held)
    | no_memory is silent quiet ↦ subst HoldsNoWant (sym is) tt
    | unsaid is silent rose ↦ subst HoldsNoWant (sym is) tt
  ]

  refusal_makes_none : MakesFile status → ⊥
  refusal_makes_none h = elim s.spoke [
    | spoken is said quiet ↦ makes_none why (subst MakesFile is h)
    | no_memory is silent quiet ↦ let x : MakesFile ends.NoMemory = subst MakesFile is h in x
    | unsaid is silent rose ↦ let x : MakesFile ends.WriteFault = subst MakesFile is h in x
  ]

  pub concluded_refusal : Concluded tells exact m before now status
  concluded_refusal = record {
    case = refusal_case;
    may = λ h. absurd (refusal_never h);
    held = refusal_held;
    finished = λ h. absurd (refusal_makes_none h);
    untouched = λ t h n. s.files t n ∙ reads.files t n;
    due = λ t d due h. absurd (refusal_never h);
    no_usage = refusal_no_usage;
    read_fault = λ e. any_rose_within m.gates before before mid now (counts_same before) s.counts (refusal_read e);
    write_fault = refusal_write;
    unread = refusal_unread;
    unwritten = refusal_unwritten;
    no_retry = λ t x h. inr (λ n. s.files t n ∙ reads.files t n);
    others = λ t n other. (s.files t n ∙ reads.files t n, s.marks t n ∙ reads.marks t n);
    counts = counts_on before mid now reads.counts s.counts;
  }
