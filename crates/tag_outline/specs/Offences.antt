-- Where a text stops being a document: what was gone through, and what may not stand after it.
use Rattle.std.specs.Prelude.{◌≡◌, ℕ, ◌<◌, ◌≤◌, ◌+◌, ◌-◌, ◌&&◌, ◌==◌, ◌⊎◌, List, [], ◌∷◌, ◌++◌, length, Bool, true, false, codes}
use Rattle.std.specs.Str.{is_utf8}
use Rattle.std.specs.Str.Lossy.{utf8_valid_len}
use Rattle.tag_outline.specs.declared.outline.Element.{Element}
use Rattle.tag_outline.specs.declared.fault.ItemFault.{ItemFault}
use Rattle.tag_outline.specs.declared.fault.ItemFault.TheVariants as item_fault
use Rattle.file_faults.specs.declared.outline.OutlineFault.{OutlineFault}
use Rattle.file_faults.specs.declared.outline.OutlineFault.TheVariants as fault
use Rattle.tag_outline.specs.Scan.{is_space, begins}
use Rattle.tag_outline.specs.Outline.{is_last, after_order_mark}
use Rattle.tag_outline.specs.Grammar.{AreSpaces, IsName, WrittenTag, FitsTag, WrittenItem, Opening, Closing, written_item, FitsItem, Content, written_content, FitsContent, Outside, written_outside, FitOutside, IsOne, IsOutline}

-- ---- what was gone through
-- within an element: what stands in it, or what stands before a further element that isn't closed
pub data Broken : Type 0 where
  Stop : Content → Broken
  Into : Content → WrittenTag → Broken → Broken

abbrev pub written_broken : Broken → List ℕ → List ℕ
written_broken (Stop c) rest = written_content c rest
written_broken (Into c t b) rest = written_content c (written_item (Opening t false) (written_broken b rest))

abbrev pub FitsBroken : ℕ → Broken → Type 0
FitsBroken k (Stop c) = FitsContent k c
FitsBroken k (Into c t b) = FitsContent k c × (k < 64) × FitsTag t × FitsBroken (k + 1) b

-- the names of the open elements, the innermost last
abbrev pub names : List (List ℕ) → Broken → List (List ℕ)
names os (Stop c) = os
names os (Into c t b) = names (os ++ t.name ∷ []) b

-- before the root, under it, behind it
pub data Front : Type 0 where
  Before : List Outside → Front
  Under : List Outside → WrittenTag → Broken → Front
  Behind : List Outside → Content → List Outside → Front

abbrev pub written_front : Front → List ℕ → List ℕ
written_front (Before os) rest = written_outside os rest
written_front (Under os t b) rest = written_outside os (written_item (Opening t false) (written_broken b rest))
written_front (Behind os r us) rest = written_outside os (written_content r (written_outside us rest))

abbrev pub FitsFront : Front → Type 0
FitsFront (Before os) = FitOutside os
FitsFront (Under os t b) = FitOutside os × FitsTag t × FitsBroken 1 b
FitsFront (Behind os r us) = FitOutside os × IsOne r × FitsContent 0 r × FitOutside us

abbrev pub open_in : Front → List (List ℕ)
open_in (Before os) = []
open_in (Under os t b) = names (t.name ∷ []) b
open_in (Behind os r us) = []

abbrev pub has_root : Front → Bool
has_root (Before os) = false
has_root (Under os t b) = true
has_root (Behind os r us) = true

-- ---- what may not stand there
abbrev pub is_doctype : List ℕ → Bool
is_doctype rest = begins (codes "<!DOCTYPE") rest

abbrev pub is_cdata : List ℕ → Bool
is_cdata rest = begins (codes "<![CDATA[") rest

abbrev pub NoItem : List ℕ → Type 0
NoItem text = (w : WrittenItem) (rest : List ℕ) → FitsItem w → text ≡ written_item w rest → ⊥

abbrev pub ItemOffence : List ℕ → ItemFault → Type 0
ItemOffence text item_fault.NotOutline = (is_doctype text ≡ false) × (is_cdata text ≡ false) × NoItem text
ItemOffence text item_fault.Doctype = is_doctype text ≡ true
ItemOffence text item_fault.Cdata = (is_doctype text ≡ false) × (is_cdata text ≡ true)
ItemOffence text item_fault.NoMemory = ⊥

-- what may not stand there, with these open names, with or without a root so far
pub data Misplaced (os : List (List ℕ)) (root : Bool) (rest : List ℕ) : Type 0 where
  Unfinished : rest ≡ [] → ((length os == 0) && root) ≡ false → Misplaced os root rest
  Stray : (b : ℕ) (after : List ℕ) → rest ≡ b ∷ after → (b == 60) ≡ false → (length os == 0) ≡ true → is_space b ≡ false → Misplaced os root rest
  NotAnItem : (after : List ℕ) → rest ≡ 60 ∷ after → is_doctype rest ≡ false → is_cdata rest ≡ false → NoItem rest → Misplaced os root rest
  SecondRoot : (t : WrittenTag) (is_whole : Bool) (after : List ℕ) → FitsTag t → rest ≡ written_item (Opening t is_whole) after → (length os == 0) ≡ true → root ≡ true → Misplaced os root rest
  OtherEnd : (name space after : List ℕ) → IsName name → AreSpaces space → rest ≡ written_item (Closing name space) after → is_last name os ≡ false → Misplaced os root rest

-- the fault of what stands at a place
abbrev pub Offends : List (List ℕ) → Bool → ℕ → List ℕ → OutlineFault → Type 0
Offends os root at rest (fault.NotOutline n) = (n ≡ at) × Misplaced os root rest
Offends os root at rest (fault.Doctype n) = (n ≡ at) × (is_doctype rest ≡ true)
Offends os root at rest (fault.Cdata n) = (n ≡ at) × (is_cdata rest ≡ true)
Offends os root at rest (fault.TooDeep n) = (n ≡ at) × (64 ≤ length os) × (t : WrittenTag) × (is_whole : Bool) × (after : List ℕ) × FitsTag t × (rest ≡ written_item (Opening t is_whole) after)
Offends os root at rest (fault.NotUtf8 n) = ⊥
Offends os root at rest fault.NoMemory = ⊥

-- a front that may stand, and what may not stand after it
abbrev pub IsOffence : List ℕ → OutlineFault → Type 0
IsOffence bytes f = (front : Front) × (rest : List ℕ) × FitsFront front × (after_order_mark bytes ≡ written_front front rest) × Offends (open_in front) (has_root front) (length bytes - length rest) rest f

abbrev pub IsOutlineFault : List ℕ → OutlineFault → Type 0
IsOutlineFault bytes (fault.NotUtf8 n) = (is_utf8 bytes ≡ false) × (n ≡ utf8_valid_len bytes)
IsOutlineFault bytes f = (is_utf8 bytes ≡ true) × IsOffence bytes f

-- what may be answered: want of memory may come at any time
abbrev pub MayFail : List ℕ → OutlineFault → Type 0
MayFail bytes fault.NoMemory = Unit {0}
MayFail bytes f = IsOutlineFault bytes f

-- each text has an outline or a fault
abbrev pub EachText : Type 0
EachText = (bytes : List ℕ) → ((es : List Element) × IsOutline bytes es) ⊎ ((f : OutlineFault) × IsOutlineFault bytes f)

-- and not both, nor two of either
abbrev pub OneVerdict : Type 0
OneVerdict = (bytes : List ℕ) → ((es fs : List Element) → IsOutline bytes es → IsOutline bytes fs → es ≡ fs) × ((e f : OutlineFault) → IsOutlineFault bytes e → IsOutlineFault bytes f → e ≡ f) × ((es : List Element) (f : OutlineFault) → IsOutline bytes es → IsOutlineFault bytes f → ⊥)
