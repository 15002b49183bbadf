-- Laws of gates: laws over the list, proved once.
use Rattle.std.proofs.Common.{◌≡◌, ◌∙◌, sym, ap, ℕ, List, [], ◌∷◌, ◌++◌, inl, inr, arith, refl}
use Rattle.std.specs.Prelude.{Option, None, Some}
use mathlib.Core.Path.{fun_ext}
use Rattle.gas_desk.specs.Outside.{Outside, CountsOn, SameFiles}
use Rattle.command_core.specs.declared.status.InputFile.{InputFile}
use Rattle.command_core.specs.declared.status.Stop.{Stop}
use Rattle.command_core.specs.declared.status.Stop.TheVariants as stop
use Rattle.command_core.specs.Gates.{Files, Gate, Standing, nothing, overlong, faulty, fine, Found, all_fine, at_gate, found, ReadRose, AnyRose, RoseInOrder, Ends, Reads}
use Rattle.command_core.proofs.Outs.{counts_on}

-- counts only rise, so a count that rose within a stretch rose in the whole
pub read_rose_within : (name : Option (List ℕ)) (before first last now : Outside) → CountsOn before first → CountsOn last now → ReadRose name first last → ReadRose name before now
read_rose_within None before first last now a b h = h
read_rose_within (Some name) before first last now a b h = let x = a.reads name in let y = b.reads name in omega arith

pub any_rose_within : (gates : List Gate) (before first last now : Outside) → CountsOn before first → CountsOn last now → AnyRose gates first last → AnyRose gates before now
any_rose_within [] before first last now a b h = h
any_rose_within (gate ∷ gates) before first last now a b h = elim h [
  | inl here ↦ inl (read_rose_within gate.name before first last now a b here)
  | inr later ↦ inr (any_rose_within gates before first last now a b later)
]

pub order_within : (gates : List Gate) (before first last now : Outside) → before.files ≡ first.files → CountsOn before first → CountsOn last now → RoseInOrder gates first last → RoseInOrder gates before now
order_within [] before first last now e a b h = h
order_within (gate ∷ gates) before first last now e a b h = elim h [
  | inl here ↦ inl (read_rose_within gate.name before first last now a b here)
  | inr later ↦ inr (ap gate.stands_there e ∙ later.0, order_within gates before first last now e a b later.1)
]

pub any_front : (gates more : List Gate) (before now : Outside) → AnyRose gates before now → AnyRose (gates ++ more) before now
any_front [] more before now h = absurd h
any_front (gate ∷ gates) more before now h = elim h [ inl here ↦ inl here | inr later ↦ inr (any_front gates more before now later) ]

pub any_behind : (gates more : List Gate) (before now : Outside) → AnyRose more before now → AnyRose (gates ++ more) before now
any_behind [] more before now h = h
any_behind (gate ∷ gates) more before now h = inr (any_behind gates more before now h)

pub order_front : (gates more : List Gate) (before now : Outside) → RoseInOrder gates before now → RoseInOrder (gates ++ more) before now
order_front [] more before now h = absurd h
order_front (gate ∷ gates) more before now h = elim h [ inl here ↦ inl here | inr later ↦ inr (later.0, order_front gates more before now later.1) ]

-- a fine front has a fine first gate and a fine rest
pub fine_here : (file : InputFile) (s : Standing) (later : Found) → at_gate file s later ≡ all_fine → (s ≡ fine) × (later ≡ all_fine)
fine_here file nothing later e = absurd (cc)
fine_here file overlong later e = absurd (cc)
fine_here file (faulty x) later e = absurd (cc)
fine_here file fine later e = (refl, e)

pub order_behind : (gates more : List Gate) (before now : Outside) → found gates before.files ≡ all_fine → RoseInOrder more before now → RoseInOrder (gates ++ more) before now
order_behind [] more before now e h = h
order_behind (gate ∷ gates) more before now e h =
    let both = fine_here gate.file (gate.stands_there before.files) (found gates before.files) e in
    inr (both.0, order_behind gates more before now both.1 h)

-- what comes after a fine front decides
pub found_behind : (gates more : List Gate) (files : Files) → found gates files ≡ all_fine → found (gates ++ more) files ≡ found more files
found_behind [] more files e = refl
found_behind (gate ∷ gates) more files e =
    let both = fine_here gate.file (gate.stands_there files) (found gates files) e in
    ap (λ s. at_gate gate.file s (found (gates ++ more) files)) both.0 ∙ found_behind gates more files both.1

-- a stop in the front decides
at_gate_stop : (file : InputFile) (s : Standing) (x y : Found) → (stop : Found) → (stop ≡ all_fine → ⊥) → (x ≡ stop → y ≡ stop) → at_gate file s x ≡ stop → at_gate file s y ≡ stop
at_gate_stop file nothing x y stop differs f e = e
at_gate_stop file overlong x y stop differs f e = e
at_gate_stop file (faulty z) x y stop differs f e = e
at_gate_stop file fine x y stop differs f e = f e

pub found_front : (gates more : List Gate) (files : Files) (stop : Found) → (stop ≡ all_fine → ⊥) → found gates files ≡ stop → found (gates ++ more) files ≡ stop
found_front [] more files stop differs e = absurd (differs (sym e))
found_front (gate ∷ gates) more files stop differs e =
    at_gate_stop gate.file (gate.stands_there files) (found gates files) (found (gates ++ more) files) stop differs (found_front gates more files stop differs) e

-- a stop within the first gates
ends_front : (gates more : List Gate) (before now : Outside) (why : Stop) → Ends gates before now (Some why) → Ends (gates ++ more) before now (Some why)
ends_front gates more before now (stop.BadInput file fault) h = found_front gates more before.files _ (λ e. cc) h
ends_front gates more before now (stop.TooLong file) h = found_front gates more before.files _ (λ e. cc) h
ends_front gates more before now stop.ReadFault h = order_front gates more before now h
ends_front gates more before now stop.NoMemory h = tt

pub reads_stop : (tells exact : Type 0) (gates more : List Gate) (before now : Outside) (why : Stop)
    → Reads tells exact gates before now (Some why) → Reads tells exact (gates ++ more) before now (Some why)
reads_stop tells exact gates more before now why r = record {
  ended = λ t. ends_front gates more before now why (r.ended t);
  cause = λ e. any_front gates more before now (r.cause e);
  held = r.held;
  files = r.files;
  said = r.said;
  marks = r.marks;
  unread = r.unread;
  unwritten = r.unwritten;
  counts = r.counts;
}

-- the same where no count moved after it
pub ends_within : (gates : List Gate) (before first last now : Outside) (stopped : Option Stop) → before.files ≡ first.files → CountsOn before first → CountsOn last now
    → Ends gates first last stopped → Ends gates before now stopped
ends_within gates before first last now None e a b h = ap (found gates) e ∙ h
ends_within gates before first last now (Some (stop.BadInput file fault)) e a b h = ap (found gates) e ∙ h
ends_within gates before first last now (Some (stop.TooLong file)) e a b h = ap (found gates) e ∙ h
ends_within gates before first last now (Some stop.ReadFault) e a b h = order_within gates before first last now e a b h
ends_within gates before first last now (Some stop.NoMemory) e a b h = tt

ends_behind : (gates more : List Gate) (before now : Outside) (stopped : Option Stop) → found gates before.files ≡ all_fine → Ends more before now stopped → Ends (gates ++ more) before now stopped
ends_behind gates more before now None e h = found_behind gates more before.files e ∙ h
ends_behind gates more before now (Some (stop.BadInput file fault)) e h = found_behind gates more before.files e ∙ h
ends_behind gates more before now (Some (stop.TooLong file)) e h = found_behind gates more before.files e ∙ h
ends_behind gates more before now (Some stop.ReadFault) e h = order_behind gates more before now e h
ends_behind gates more before now (Some stop.NoMemory) e h = tt

pub counts_same : (x : Outside) → CountsOn x x
counts_same x = record { reads = λ n. omega arith; writes = omega arith }

pub same_files : (before now : Outside) → SameFiles before now → before.files ≡ now.files
same_files before now h = fun_ext (λ n. sym (h n))

-- fine gates, and then more gates
pub reads_then : (tells exact : Type 0) (gates more : List Gate) (before mid now : Outside) (stopped : Option Stop)
    → Reads tells exact gates before mid None → Reads tells exact more mid now stopped
    → Reads tells exact (gates ++ more) before now stopped
reads_then tells exact gates more before mid now stopped r s = record {
  ended = λ t. ends_behind gates more before now stopped (r.ended t)
      (ends_within more before mid now now stopped (same_files before mid (r.files t)) r.counts (counts_same now) (s.ended t));
  cause = λ e. any_behind gates more before now (any_rose_within more before mid now now r.counts (counts_same now) (s.cause e));
  held = s.held;
  files = λ t n. s.files t n ∙ r.files t n;
  said = λ t. s.said t ∙ r.said t;
  marks = λ t n. s.marks t n ∙ r.marks t n;
  unread = λ x calm n. s.unread x calm n ∙ r.unread x (λ h. cc) n;
  unwritten = λ x. s.unwritten x ∙ r.unwritten x;
  counts = counts_on before mid now r.counts s.counts;
}

-- fine gates, and then want of memory
pub reads_want : (tells exact : Type 0) (gates : List Gate) (before now : Outside) → Reads tells exact gates before now None → Reads tells exact gates before now (Some stop.NoMemory)
reads_want tells exact gates before now r = record {
  ended = λ t. tt;
  cause = λ e. absurd (cc);
  held = tt;
  files = r.files;
  said = r.said;
  marks = r.marks;
  unread = λ x calm. r.unread x (λ e. cc);
  unwritten = r.unwritten;
  counts = r.counts;
}
