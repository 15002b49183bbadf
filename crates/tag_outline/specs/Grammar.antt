-- The grammar of outlines. Each construct is kept with the white space, the quotes and the passed-over text that it is written with.
-- `written_x x rest` are the bytes of x before a rest, `FitsX x` says which x the grammar allows.
use Rattle.std.specs.Prelude.{◌≡◌, ℕ, ◌<◌, ◌+◌, ◌-◌, ◌⊎◌, ◌==◌, not, List, [], ◌∷◌, ◌++◌, length, map, Bool, true, false, codes, if◌then◌else◌}
use Rattle.std.specs.List.{list_all}
use Rattle.std.specs.Str.{is_utf8}
use Rattle.tag_outline.specs.declared.outline.Element.{Element}
use Rattle.tag_outline.specs.Scan.{is_space, is_name_byte, begins}
use Rattle.tag_outline.specs.Tag.{Attribute, is_taken}
use Rattle.tag_outline.specs.Outline.{element_of}

abbrev pub AreSpaces : List ℕ → Type 0
AreSpaces ws = list_all is_space ws ≡ true

abbrev pub IsName : List ℕ → Type 0
IsName n = (0 < length n) × (list_all is_name_byte n ≡ true)

-- a value between quotes, without the quote and without `<`
abbrev pub IsValue : ℕ → List ℕ → Type 0
IsValue q v = ((q ≡ 34) ⊎ (q ≡ 39)) × (list_all (λ b. not (b == q)) v ≡ true) × (list_all (λ b. not (b == 60)) v ≡ true)

-- ---- attributes: white space, a name, `=` with white space on both sides, a value in quotes
pub record WrittenAttribute : Type 0 where
  pub space : List ℕ
  pub name : List ℕ
  pub before : List ℕ
  pub after : List ℕ
  pub quote : ℕ
  pub value : List ℕ

abbrev pub written_attribute : WrittenAttribute → List ℕ → List ℕ
written_attribute a rest = a.space ++ (a.name ++ (a.before ++ (61 ∷ (a.after ++ (a.quote ∷ (a.value ++ (a.quote ∷ rest)))))))

pub record FitsAttribute (a : WrittenAttribute) : Type 0 where
  pub apart : 0 < length a.space
  pub space : AreSpaces a.space
  pub name : IsName a.name
  pub before : AreSpaces a.before
  pub after : AreSpaces a.after
  pub value : IsValue a.quote a.value

abbrev pub attribute : WrittenAttribute → Attribute
attribute a = (a.name, a.value)

abbrev pub written_attributes : List WrittenAttribute → List ℕ → List ℕ
written_attributes [] rest = rest
written_attributes (a ∷ as_) rest = written_attribute a (written_attributes as_ rest)

-- none has the name of one before it, nor of one seen
abbrev pub FitAttributes : List Attribute → List WrittenAttribute → Type 0
FitAttributes seen [] = Unit {0}
FitAttributes seen (a ∷ as_) = FitsAttribute a × (is_taken seen a.name ≡ false) × FitAttributes (seen ++ attribute a ∷ []) as_

-- ---- start tags: a name, attributes, white space; `/` where the element is whole
pub record WrittenTag : Type 0 where
  pub name : List ℕ
  pub attributes : List WrittenAttribute
  pub space : List ℕ

abbrev pub close : Bool → List ℕ → List ℕ
close true rest = 47 ∷ (62 ∷ rest)
close false rest = 62 ∷ rest

-- what comes after the `<`
abbrev pub written_tag : WrittenTag → Bool → List ℕ → List ℕ
written_tag t is_whole rest = t.name ++ written_attributes t.attributes (t.space ++ close is_whole rest)

-- The name doesn't begin as one of the other items does.
pub record FitsTag (t : WrittenTag) : Type 0 where
  pub name : IsName t.name
  pub no_doctype : begins (codes "!DOCTYPE") t.name ≡ false
  pub no_cdata : begins (codes "![CDATA[") t.name ≡ false
  pub no_comment : begins (codes "!--") t.name ≡ false
  pub no_instruction : begins (codes "?") t.name ≡ false
  pub attributes : FitAttributes [] t.attributes
  pub space : AreSpaces t.space

-- ---- comments and instructions
-- no earlier place of the mark than after the body
abbrev pub IsUpTo : List ℕ → List ℕ → Type 0
IsUpTo mark [] = Unit {0}
IsUpTo mark (b ∷ body) = (begins mark (b ∷ (body ++ mark)) ≡ false) × IsUpTo mark body

pub data WrittenNote : Type 0 where
  Comment : List ℕ → WrittenNote
  Instruction : List ℕ → WrittenNote

abbrev pub written_note : WrittenNote → List ℕ → List ℕ
written_note (Comment body) rest = codes "<!--" ++ (body ++ (codes "-->" ++ rest))
written_note (Instruction body) rest = codes "<?" ++ (body ++ (codes "?>" ++ rest))

abbrev pub FitsNote : WrittenNote → Type 0
FitsNote (Comment body) = IsUpTo (codes "-->") body
FitsNote (Instruction body) = IsUpTo (codes "?>") body

-- ---- items
pub data WrittenItem : Type 0 where
  Noted : WrittenNote → WrittenItem
  Opening : WrittenTag → Bool → WrittenItem
  Closing : List ℕ → List ℕ → WrittenItem

abbrev pub written_item : WrittenItem → List ℕ → List ℕ
written_item (Noted n) rest = written_note n rest
written_item (Opening t is_whole) rest = 60 ∷ written_tag t is_whole rest
written_item (Closing name space) rest = 60 ∷ (47 ∷ (name ++ (space ++ (62 ∷ rest))))

abbrev pub FitsItem : WrittenItem → Type 0
FitsItem (Noted n) = FitsNote n
FitsItem (Opening t is_whole) = FitsTag t
FitsItem (Closing name space) = IsName name × AreSpaces space

-- ---- what stands within an element
-- nothing more, or a byte, a note, an element without an end tag, or one with what stands within it and the white space of its end tag; and then more
pub data Content : Type 0 where
  Empty : Content
  Text : ℕ → Content → Content
  Note : WrittenNote → Content → Content
  Single : WrittenTag → Content → Content
  Nested : WrittenTag → Content → List ℕ → Content → Content

abbrev pub written_content : Content → List ℕ → List ℕ
written_content Empty rest = rest
written_content (Text b c) rest = b ∷ written_content c rest
written_content (Note n c) rest = written_item (Noted n) (written_content c rest)
written_content (Single t c) rest = written_item (Opening t true) (written_content c rest)
written_content (Nested t inner space c) rest = written_item (Opening t false) (written_content inner (written_item (Closing t.name space) (written_content c rest)))

-- within so many open elements
abbrev pub FitsContent : ℕ → Content → Type 0
FitsContent k Empty = Unit {0}
FitsContent k (Text b c) = ((b == 60) ≡ false) × FitsContent k c
FitsContent k (Note n c) = FitsNote n × FitsContent k c
FitsContent k (Single t c) = (k < 64) × FitsTag t × FitsContent k c
FitsContent k (Nested t inner space c) = (k < 64) × FitsTag t × FitsContent (k + 1) inner × AreSpaces space × FitsContent k c

abbrev pub element : ℕ → ℕ → WrittenTag → Element
element k at t = element_of (k + 1) at t.name (map attribute t.attributes)

-- The elements in the order of their start tags, of a text that ends at a place. Each begins where what is left begins.
abbrev pub listed : ℕ → ℕ → Content → List ℕ → List Element
listed end k Empty rest = []
listed end k (Text b c) rest = listed end k c rest
listed end k (Note n c) rest = listed end k c rest
listed end k (Single t c) rest = element k (end - length (written_content (Single t c) rest)) t ∷ listed end k c rest
listed end k (Nested t inner space c) rest =
    element k (end - length (written_content (Nested t inner space c) rest)) t ∷ (listed end (k + 1) inner (written_item (Closing t.name space) (written_content c rest)) ++ listed end k c rest)

-- ---- documents
-- white space or a note
pub data Outside : Type 0 where
  Space : ℕ → Outside
  Remark : WrittenNote → Outside

abbrev pub written_outside : List Outside → List ℕ → List ℕ
written_outside [] rest = rest
written_outside (Space b ∷ os) rest = b ∷ written_outside os rest
written_outside (Remark n ∷ os) rest = written_item (Noted n) (written_outside os rest)

abbrev pub FitOutside : List Outside → Type 0
FitOutside [] = Unit {0}
FitOutside (Space b ∷ os) = (is_space b ≡ true) × FitOutside os
FitOutside (Remark n ∷ os) = FitsNote n × FitOutside os

-- one element
abbrev pub IsOne : Content → Type 0
IsOne (Single t Empty) = Unit {0}
IsOne (Nested t inner space Empty) = Unit {0}
IsOne other = ⊥

pub record Document : Type 0 where
  pub has_mark : Bool
  pub before : List Outside
  pub root : Content
  pub after : List Outside

abbrev pub written_body : Document → List ℕ
written_body d = written_outside d.before (written_content d.root (written_outside d.after []))

abbrev pub written : Document → List ℕ
written d = if d.has_mark then 239 ∷ (187 ∷ (191 ∷ written_body d)) else written_body d

pub record FitsDocument (d : Document) : Type 0 where
  pub before : FitOutside d.before
  pub one : IsOne d.root
  pub root : FitsContent 0 d.root
  pub after : FitOutside d.after
  pub utf8 : is_utf8 (written d) ≡ true

abbrev pub elements_of : Document → List Element
elements_of d = listed (length (written d)) 0 d.root (written_outside d.after [])

-- the bytes are a document that has these elements
abbrev pub IsOutline : List ℕ → List Element → Type 0
IsOutline bytes es = (d : Document) × FitsDocument d × (bytes ≡ written d) × (es ≡ elements_of d)
