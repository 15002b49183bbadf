-- From how the program ran to what its contract says.
use Rattle.std.proofs.Common.{◌≡◌, ◌∙◌, sym, ap, subst, ℕ, Bool, List, [], ◌∷◌, ◌++◌, ◌⊎◌, inl, inr, refl, false, true}
use Rattle.std.proofs.lemmas.Bool.{false≢true}
use Rattle.std.proofs.lemmas.List.{append-nil}
use Rattle.std.specs.Prelude.{Ok, Err}
use Rattle.gas_desk.specs.Outside.{Outside, CountsOn, Rose, SameFiles, SameReads, SameWrites}
use Rattle.command_core.specs.declared.status.InputFile.{InputFile}
use Rattle.command_core.specs.declared.status.InputFault.{InputFault}
use Rattle.element_laws.specs.declared.broken.Broken.{Broken}
use Rattle.command_core.specs.declared.status.NotFault.{NotFault}
use Rattle.command_core.specs.declared.status.UndecidedBy.{UndecidedBy}
use Rattle.command_core.specs.declared.status.Status.{Status}
use Rattle.command_core.specs.declared.status.Status.TheVariants as ends
use Rattle.command_core.specs.Gates.{found, all_fine, bad, long, AnyRose, RoseInOrder}
use Rattle.command_core.specs.Lines.{line_of}
use Rattle.command_core.specs.Stops.{Answers, Kind, Refuses, makes_file, only_tells, refuses, fails, kind_of, HoldsNoWant, IsAnswer, IsRefusal, IsFault, MakesFile, MakesNoFile}
use Rattle.command_core.specs.Meanings.{Concluded, Speaks, spoken, no_memory, unsaid, Answered, Refused, Part, SaysLine, SameButOuts, Excused, Due}
use Rattle.command_core.proofs.Conclusions as conclusions
use Rattle.command_words.specs.Tables.{IsPlace as IsPlaceFor, Row, plain_in}
use Rattle.command_words.specs.Words.{Words}
use Rattle.command_words.proofs.WrongCommands.{place_of}
use Rattle.nomval.specs.Commands.{Plain, Ran, Says, carried, misused, meaning, plain, table, ForCommand, IsPlace, OnCommand}
use Rattle.nomval.specs.Headline.{HasCarried, HasRefuted, HasWritten, HasMade, LeavesOpen, IsKept, IsBroken, HasPassed, HasNotPassed}
use Rattle.nomval.proofs.Headlines.{says_so, carried_at, refuted_at, open_at, written_at, kept_at, broken_at, passed_at, not_passed_at}

abbrev has_row : List (Row Plain) → Bool
has_row [] = false
has_row (row ∷ rows) = true

-- words that aren't those of a table with some row are named by their place
place_in : (all : List (Row Plain)) → has_row all ≡ true → (words : Words) (at : ℕ) → plain_in all words ≡ Err at → IsPlaceFor (plain_in all) at words
place_in [] h words at e = absurd (false≢true h)
place_in (row ∷ rows) h words at e = place_of row rows words at e

not_both : (s : Status) → IsAnswer s → IsRefusal s → ⊥
not_both s a r = by (kind_of s) a r
  where
    by : (k : Kind) → Answers k → Refuses k → ⊥
    by makes_file h i = i
    by only_tells h i = i
    by refuses h i = h
    by fails h i = h

fault_is : (s : Status) → IsFault s → (s ≡ ends.NoMemory) ⊎ (s ≡ ends.WriteFault)
fault_is ends.NoMemory h = inl refl
fault_is ends.WriteFault h = inr refl
fault_is s h = absurd h

module _ (tells exact : Type 0) (words : Words) (before now : Outside) (status : Status) (ran : Ran tells exact words before now status) where
  at_command : (c : Plain) → plain words ≡ Ok c → Concluded tells exact (meaning c) before now status
  at_command c is = elim ran [
    | carried d e k ↦ (let same : d ≡ c = cc in subst (λ x. Concluded tells exact (meaning x) before now status) same k)
    | misused at e s ↦ absurd (cc)
  ]

  spoke_at : (at : ℕ) → plain words ≡ Err at → Speaks tells exact (line_of (ends.Usage at) ++ []) (ends.Usage at) before now status
  spoke_at at is = elim ran [
    | carried d e k ↦ absurd (cc)
    | misused n e s ↦ (let same : n ≡ at = cc in subst (λ x. Speaks tells exact (line_of (ends.Usage x) ++ []) (ends.Usage x) before now status) same s)
  ]

  -- any status but these three comes of a command
  of_command : ((at : ℕ) → status ≡ ends.Usage at → ⊥) → (status ≡ ends.NoMemory → ⊥) → (status ≡ ends.WriteFault → ⊥) → ForCommand words (λ c. Concluded tells exact (meaning c) before now status)
  of_command a b c = elim ran [
    | carried d e k ↦ (d, e, k)
    | misused n e s ↦ absurd (elim s.spoke [ spoken is said quiet ↦ a n is | no_memory is silent quiet ↦ b is | unsaid is silent rose ↦ c is ])
  ]

  of_answer : IsAnswer status → ForCommand words (λ c. Concluded tells exact (meaning c) before now status)
  of_answer is = of_command (λ at e. let h : IsAnswer (ends.Usage at) = subst IsAnswer e is in h) (λ e. let h : IsAnswer ends.NoMemory = subst IsAnswer e is in h) (λ e. let h : IsAnswer ends.WriteFault = subst IsAnswer e is in h)

  as_of : (s : Status) → status ≡ s → IsAnswer s → ForCommand words (λ c. Concluded tells exact (meaning c) before now s)
  as_of s e is = let f = of_answer (subst IsAnswer (sym e) is) in (f.0, f.1, subst (λ x. Concluded tells exact (meaning f.0) before now x) e f.2)

  pub answers : tells → IsAnswer status → ForCommand words (λ c. Answered (meaning c) before now status)
  answers t is = let f = of_answer is in (f.0, f.1, conclusions.answered_of (meaning f.0) before now status is (f.2.case t))

  pub own : IsAnswer status → ForCommand words (λ c. (meaning c).may status)
  own is = let f = of_answer is in (f.0, f.1, f.2.may is)

  -- an answer, with what its command's answers say
  said_by : tells → (s : Status) → status ≡ s → IsAnswer s → ForCommand words (λ c. Says c before now s)
  said_by t s e is =
      let f = as_of s e is in
      (f.0, f.1, says_so f.0 before now s (f.2.may is) (conclusions.answered_of (meaning f.0) before now s is (f.2.case t)))

  pub says : tells → IsAnswer status → ForCommand words (λ c. Says c before now status)
  says t is = said_by t status refl is

  pub accepted : tells → status ≡ ends.Accepted → HasCarried words before now
  accepted t e = let f = said_by t ends.Accepted e tt in carried_at words f.0 before now f.1 f.2

  pub rejected : tells → status ≡ ends.Rejected → HasRefuted words before now
  rejected t e = let f = said_by t ends.Rejected e tt in refuted_at words f.0 before now f.1 f.2

  pub undecided : tells → (why : UndecidedBy) → status ≡ ends.Undecided why → LeavesOpen why words before now
  undecided t why e = let f = said_by t (ends.Undecided why) e tt in open_at why words f.0 before now f.1 f.2

  pub written : tells → status ≡ ends.Written → HasWritten words before now ⊎ HasMade words before now
  written t e = let f = said_by t ends.Written e tt in written_at words f.0 before now f.1 f.2

  pub kept : tells → status ≡ ends.Kept → IsKept words before now
  kept t e = let f = said_by t ends.Kept e tt in kept_at words f.0 before now f.1 f.2

  pub passes : tells → status ≡ ends.Passes → HasPassed words before now
  passes t e = let f = said_by t ends.Passes e tt in passed_at words f.0 before now f.1 f.2

  pub broken : tells → (law : Broken) → status ≡ ends.Broken law → IsBroken law words before now
  broken t law e = let f = said_by t (ends.Broken law) e tt in broken_at law words f.0 before now f.1 f.2

  pub not_refutation : tells → (fault : NotFault) → status ≡ ends.NotRefutation fault → HasNotPassed fault words before now
  not_refutation t fault e = let f = said_by t (ends.NotRefutation fault) e tt in not_passed_at fault words f.0 before now f.1 f.2

  misused_at : (at : ℕ) → status ≡ ends.Usage at → plain words ≡ Err at
  misused_at at is = elim ran [
    | carried d e k ↦ absurd (k.no_usage at is)
    | misused n e s ↦ elim s.spoke [
      | spoken same said quiet ↦ (let u : ends.Usage n ≡ ends.Usage at = sym same ∙ is in let m : n ≡ at = cc in e ∙ ap Err m)
      | no_memory same silent quiet ↦ absurd (cc)
      | unsaid same silent rose ↦ absurd (cc)
    ]
  ]

  pub usage : (at : ℕ) → status ≡ ends.Usage at → (plain words ≡ Err at) × IsPlace at words
  usage at is = (misused_at at is, place_in table refl words at (misused_at at is))

  of_bad : (file : InputFile) (fault : InputFault) → status ≡ ends.BadInput file fault → ForCommand words (λ c. Concluded tells exact (meaning c) before now status)
  of_bad file fault e = of_command (λ at h. cc) (λ h. cc) (λ h. cc)

  pub bad_input : tells → (file : InputFile) (fault : InputFault) → status ≡ ends.BadInput file fault → ForCommand words (λ c. found (meaning c).gates before.files ≡ bad file fault)
  bad_input t file fault e = let f = of_bad file fault e in (f.0, f.1, conclusions.bad_input tells exact (meaning f.0) before now status f.2 t file fault e)

  of_long : (file : InputFile) → status ≡ ends.TooLong file → ForCommand words (λ c. Concluded tells exact (meaning c) before now status)
  of_long file e = of_command (λ at h. cc) (λ h. cc) (λ h. cc)

  pub too_long : tells → (file : InputFile) → status ≡ ends.TooLong file → ForCommand words (λ c. found (meaning c).gates before.files ≡ long file)
  too_long t file e = let f = of_long file e in (f.0, f.1, conclusions.too_long tells exact (meaning f.0) before now status f.2 t file e)

  of_read : status ≡ ends.ReadFault → ForCommand words (λ c. Concluded tells exact (meaning c) before now status)
  of_read e = of_command (λ at h. cc) (λ h. cc) (λ h. cc)

  pub read_fault : status ≡ ends.ReadFault → ForCommand words (λ c. AnyRose (meaning c).gates before now)
  read_fault e = let f = of_read e in (f.0, f.1, f.2.read_fault e)

  pub read_order : tells → status ≡ ends.ReadFault → ForCommand words (λ c. RoseInOrder (meaning c).gates before now)
  read_order t e = let f = of_read e in (f.0, f.1, conclusions.read_order tells exact (meaning f.0) before now status f.2 t e)

  pub write_fault : status ≡ ends.WriteFault → Rose before.write_faults now.write_faults
  write_fault is = elim ran [
    | carried d e k ↦ k.write_fault is
    | misused n e s ↦ elim s.spoke [
      | spoken same said quiet ↦ absurd (cc)
      | no_memory same silent quiet ↦ absurd (cc)
      | unsaid same silent rose ↦ rose
    ]
  ]

  pub unwritten : exact → (status ≡ ends.WriteFault → ⊥) → SameWrites before now
  unwritten x other = elim ran [
    | carried d e k ↦ k.unwritten x other
    | misused n e s ↦ elim s.spoke [
      | spoken same said quiet ↦ quiet x
      | no_memory same silent quiet ↦ quiet x
      | unsaid same silent rose ↦ absurd (other same)
    ]
  ]

  pub unread : exact → (status ≡ ends.ReadFault → ⊥) → (status ≡ ends.WriteFault → ⊥) → (status ≡ ends.NoMemory → ⊥) → SameReads before now
  unread x a b c = elim ran [
    | carried d e k ↦ k.unread x a b c
    | misused n e s ↦ s.unread x
  ]

  pub no_retry : tells → exact → IsFault status → SameReads before now ⊎ SameFiles before now
  no_retry t x is = elim ran [
    | carried d e k ↦ k.no_retry t x is
    | misused n e s ↦ inl (s.unread x)
  ]

  pub held : HoldsNoWant status
  held = elim ran [
    | carried d e k ↦ k.held
    | misused n e s ↦ elim s.spoke [
      | spoken same said quiet ↦ subst HoldsNoWant (sym same) tt
      | no_memory same silent quiet ↦ subst HoldsNoWant (sym same) tt
      | unsaid same silent rose ↦ subst HoldsNoWant (sym same) tt
    ]
  ]

  pub finished : MakesFile status → now.writing ≡ false
  finished h = elim ran [
    | carried d e k ↦ k.finished h
    | misused n e s ↦ absurd (elim s.spoke [
      | spoken same said quiet ↦ let x : MakesFile (ends.Usage n) = subst MakesFile same h in x
      | no_memory same silent quiet ↦ let x : MakesFile ends.NoMemory = subst MakesFile same h in x
      | unsaid same silent rose ↦ let x : MakesFile ends.WriteFault = subst MakesFile same h in x
    ])
  ]

  pub untouched : tells → MakesNoFile status → SameFiles before now
  untouched t h = elim ran [ carried d e k ↦ k.untouched t h | misused n e s ↦ s.files t ]

  pub counts : CountsOn before now
  counts = elim ran [ carried d e k ↦ k.counts | misused n e s ↦ s.counts ]

  pub others : tells → OnCommand words (λ c. SameButOuts (meaning c).outs before now)
  others t c is = let k = at_command c is in k.others t

  pub no_command : tells → (at : ℕ) → plain words ≡ Err at → SameFiles before now
  no_command t at is = let s = spoke_at at is in s.files t

  command_refused : tells → (c : Plain) → Concluded tells exact (meaning c) before now status → IsRefusal status → Refused (meaning c) before now status
  command_refused t c k is = conclusions.refused_of tells exact (meaning c) before now status k t (λ a. not_both status a is) (λ e. let h : IsRefusal ends.NoMemory = subst IsRefusal e is in h) (λ e. let h : IsRefusal ends.WriteFault = subst IsRefusal e is in h)

  pub refused : tells → IsRefusal status → SaysLine (line_of status) before now
  refused t is = elim ran [
    | carried d e k ↦ (let r = command_refused t d k is in r.said)
    | misused n e s ↦ elim s.spoke [
      | spoken same said quiet ↦ subst (λ x. SaysLine (line_of x) before now) (sym same) (subst (λ (x : List ℕ). SaysLine x before now) (append-nil (line_of (ends.Usage n))) (said t))
      | no_memory same silent quiet ↦ absurd (let h : IsRefusal ends.NoMemory = subst IsRefusal same is in h)
      | unsaid same silent rose ↦ absurd (let h : IsRefusal ends.WriteFault = subst IsRefusal same is in h)
    ]
  ]

  of_fault : IsFault status → (status ≡ ends.NoMemory) ⊎ (status ≡ ends.WriteFault)
  of_fault is = fault_is status is

  pub part : tells → IsFault status → OnCommand words (λ c. SameFiles before now ⊎ Part (meaning c) before now)
  part t is c e = let f = conclusions.failed_of tells exact (meaning c) before now status (at_command c e) t (of_fault is) in f.part

  pub silent : tells → IsFault status → now.said ≡ before.said
  silent t is = elim ran [
    | carried d e k ↦ (let f = conclusions.failed_of tells exact (meaning d) before now status k t (of_fault is) in f.silent)
    | misused n e s ↦ elim s.spoke [
      | spoken same said quiet ↦ absurd (let h : IsFault (ends.Usage n) = subst IsFault same is in h)
      | no_memory same still quiet ↦ still t
      | unsaid same still rose ↦ still t
    ]
  ]

  pub due : tells → (c : Plain) (s : Status) → plain words ≡ Ok c → Due (meaning c) before.files s → (status ≡ s) ⊎ Excused (meaning c) before now status
  due t c s e d = conclusions.due tells exact (meaning c) before now status (at_command c e) t s d

  pub complete : tells → (c : Plain) → plain words ≡ Ok c → found (meaning c).gates before.files ≡ all_fine → IsAnswer status ⊎ Excused (meaning c) before now status
  complete t c e fine = conclusions.complete tells exact (meaning c) before now status (at_command c e) t fine

  pub due_usage : (at : ℕ) → plain words ≡ Err at → (status ≡ ends.Usage at) ⊎ ((status ≡ ends.NoMemory) ⊎ ((status ≡ ends.WriteFault) × Rose before.write_faults now.write_faults))
  due_usage at e = let s = spoke_at at e in elim s.spoke [
    | spoken same said quiet ↦ inl same
    | no_memory same still quiet ↦ inr (inl same)
    | unsaid same still rose ↦ inr (inr (same, rose))
  ]
