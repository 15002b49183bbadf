-- Documents, both ways.
use Rattle.std.proofs.Common.{◌≡◌, ℕ, zero, suc, ◌-◌, ◌≤◌, List, [], ◌∷◌, ◌++◌, length, drop, Bool, true, false, cond, not, Some, None, Ok, Err, inl, inr, refl, sym, ap, ◌∙◌, arith, append-nil, subst}
use Rattle.std.specs.Prelude.{◌==◌, IfOk, if◌then◌else◌}
use Rattle.std.specs.Str.{is_utf8}
use Rattle.std.specs.Str.Lossy.{utf8_valid_len}
use Rattle.std.proofs.lemmas.Bool.{eqb-true, not-false}
use Rattle.file_faults.specs.declared.outline.OutlineFault.TheVariants as fault
use Rattle.tag_outline.specs.declared.outline.Element.{Element}
use Rattle.tag_outline.specs.Scan.{is_space, mark_at, begins}
use Rattle.tag_outline.specs.Outline.{◌>>=◌, take_piece, Byte, outline_in, after_order_mark, outline_of, Gives}
use Rattle.tag_outline.specs.Tag.{on_mark}
use Rattle.tag_outline.specs.Grammar.{WrittenNote, FitsNote, Comment, Instruction, Noted, Opening, Closing, written_item, Content, Empty, Single, Nested, written_content, FitsContent, element, listed, Outside, Space, Remark, written_outside, FitOutside, IsOne, Document, written_body, written, FitsDocument, elements_of, IsOutline}
use Rattle.tag_outline.proofs.Marks.{begins_true}
use Rattle.tag_outline.proofs.Items.{space_no_tag}
use Rattle.tag_outline.proofs.ReadAgain.{not_zero}
use Rattle.tag_outline.proofs.Written.{item_again}
use Rattle.tag_outline.proofs.Trees.{Total, state, go, go_byte, go_item, go_end, go_open, go_single, go_close, content_again, nested, left, content_takes, First, first, begun, ended, refused}

-- ---- what is written so is read
pub outside_again : (os : List Outside) (end : ℕ) (es : List Element) (rest : List ℕ) → FitOutside os → go end (state es []) (written_outside os rest) ≡ go end (state es []) rest
outside_again [] end es rest fits = refl
outside_again (Space b ∷ os) end es rest fits =
    go_byte end (state es []) b (written_outside os rest) (space_no_tag b fits.0) ∙ rw fits.0 (outside_again os end es rest fits.1)
outside_again (Remark n ∷ os) end es rest fits =
    go_item end (state es []) (written_outside (Remark n ∷ os) rest) _ (item_again (Noted n) (written_outside os rest) fits.0) ∙ outside_again os end es rest fits.1

pub root_again : (r : Content) (end : ℕ) (rest : List ℕ) → IsOne r → FitsContent 0 r → go end (state [] []) (written_content r rest) ≡ go end (state (listed end 0 r rest) []) rest
root_again (Single t Empty) end rest one fits = go_single end [] [] t rest refl fits.0 fits.1
root_again (Nested t inner space Empty) end rest one fits =
    let e = element 0 (end - length (written_content (Nested t inner space Empty) rest)) t in
    let after = written_item (Closing t.name space) rest in
    let within = listed end 1 inner after in
    go_open end [] [] t (written_content inner after) refl fits.0 fits.1
    ∙ content_again inner end (e ∷ []) (t.name ∷ []) after refl fits.2
    ∙ go_close end (e ∷ within) [] t space rest fits.1 fits.3
    ∙ ap (λ l. go end (state (e ∷ l) []) rest) (sym (append-nil within))
root_again other end rest one fits = absurd one

pub root_listed : (r : Content) (end : ℕ) (rest : List ℕ) → IsOne r → (length (listed end 0 r rest) == 0) ≡ false
root_listed (Single t Empty) end rest one = refl
root_listed (Nested t inner space Empty) end rest one = not_zero _ (omega arith)
root_listed other end rest one = absurd one

-- no order mark where white space, a note or a tag comes first
unmarked : (os : List Outside) (r : Content) (rest : List ℕ) → FitOutside os → IsOne r → mark_at (239 ∷ 187 ∷ 191 ∷ []) (written_outside os (written_content r rest)) ≡ None
unmarked [] (Single t Empty) rest fits one = refl
unmarked [] (Nested t inner space Empty) rest fits one = refl
unmarked [] other rest fits one = absurd one
unmarked (Remark (Comment body) ∷ os) r rest fits one = refl
unmarked (Remark (Instruction body) ∷ os) r rest fits one = refl
unmarked (Space b ∷ os) r rest fits one = by (239 == b) refl
  where
    by : (v : Bool) → (239 == b) ≡ v → mark_at (239 ∷ 187 ∷ 191 ∷ []) (b ∷ written_outside os (written_content r rest)) ≡ None
    by true h =
        let same = eqb-true 239 b h in
        let f : is_space 239 ≡ true = subst (λ (x : ℕ). is_space x ≡ true) (sym same) fits.0 in
        absurd cc
    by false h = rw h refl

body_of : (d : Document) → FitsDocument d → after_order_mark (written d) ≡ written_body d
body_of d fits = by d.has_mark
  where
    by : (v : Bool) → after_order_mark (if v then 239 ∷ (187 ∷ (191 ∷ written_body d)) else written_body d) ≡ written_body d
    by true = refl
    by false = rw (unmarked d.before d.root (written_outside d.after []) fits.before fits.one) refl

document_again : (d : Document) → FitsDocument d → outline_of (written d) ≡ Ok (elements_of d)
unfolding outline_of
document_again d fits =
    let end = length (written d) in
    let after = written_outside d.after [] in
    let es = elements_of d in
    let goes : go end (state [] []) (written_body d) ≡ Ok es =
    outside_again d.before end [] (written_content d.root after) fits.before
    ∙ root_again d.root end after fits.one fits.root
    ∙ outside_again d.after end es [] fits.after
    ∙ go_end end (state es [])
    ∙ rw (root_listed d.root end after fits.one) refl in
    rw fits.utf8 (ap (outline_in end) (body_of d fits) ∙ goes)

-- ---- what is read is written so
abbrev After : List ℕ → Type 0
After text = (os : List Outside) × FitOutside os × (text ≡ written_outside os [])

more_no_zero : (es : List Element) (e : Element) → (length (es ++ e ∷ []) == 0) ≡ false
more_no_zero [] e = refl
more_no_zero (f ∷ es) e = not_zero _ (omega arith)

-- a byte outside the root is white space
pub space_there : (end : ℕ) (es : List Element) (b at : ℕ) (t : List ℕ) (out : List Element) → (take_piece at (state es []) (Byte b) >>= λ u. go end u t) ≡ Ok out → (is_space b ≡ true) × (go end (state es []) t ≡ Ok out)
space_there end es b at t out h = by (is_space b) h
  where
    by : (v : Bool) → (cond (not v) (Err (fault.NotOutline at)) (Ok (state es [])) >>= λ u. go end u t) ≡ Ok out → (v ≡ true) × (go end (state es []) t ≡ Ok out)
    by true h = (refl, h)
    by false h = absurd cc

after_takes : (n end : ℕ) (es : List Element) (out : List Element) (text : List ℕ) → length text ≤ n → (length es == 0) ≡ false → go end (state es []) text ≡ Ok out → After text
after_takes n end es out [] le some k = ([], tt, refl)
after_takes zero end es out (b ∷ t) le some k = absurd (omega (arith, le))
after_takes (suc n) end es out (b ∷ t) le some k = by (first end (state es []) b t out k) (λ text l h. after_takes n end es out text l some h)
  where
    by : First end (state es []) b t out → ((text : List ℕ) → length text ≤ n → go end (state es []) text ≡ Ok out → After text) → After (b ∷ t)
    by (inl (e, h)) rec =
        let g = space_there end es b (end - length (b ∷ t)) t out h in
        let r = rec t (omega (arith, le)) g.1 in
        (Space b ∷ r.0, (g.0, r.1), ap (λ l. b ∷ l) r.2)
    by (inr (Noted note, after, fits, is, less, h)) rec =
        let r = rec after (omega (arith, less, le)) h in
        (Remark note ∷ r.0, (fits, r.1), is ∙ ap (written_item (Noted note)) r.2)
    by (inr (Closing name space, after, fits, is, less, h)) rec =
        let l = ended (end - length (b ∷ t)) (state es []) name space (λ u. go end u after) out h in absurd cc
    by (inr (Opening tag w, after, fits, is, less, h)) rec =
        let g = begun (end - length (b ∷ t)) (state es []) tag w (λ u. go end u after) out h in
        let q : not (length es == 0) ≡ false = g.0 in
        let f = rw some at q in
        absurd cc

abbrev WholeText : List ℕ → Type 0
WholeText text = (os : List Outside) × (r : Content) × (us : List Outside) × FitOutside os × IsOne r × FitsContent 0 r × FitOutside us × (text ≡ written_outside os (written_content r (written_outside us [])))

after_remark : (n : WrittenNote) (text after : List ℕ) → FitsNote n → text ≡ written_item (Noted n) after → WholeText after → WholeText text
after_remark n text after fits is r = (Remark n ∷ r.0, r.1, r.2, (fits, r.3), r.4, r.5, r.6, is ∙ ap (written_item (Noted n)) r.7)

at_root : (root : Content) (text after : List ℕ) → IsOne root → FitsContent 0 root → text ≡ written_content root after → After after → WholeText text
at_root root text after one fits is a = ([], root, a.0, tt, one, fits, a.1, is ∙ ap (written_content root) a.2)

whole_takes : (n end : ℕ) (out : List Element) (text : List ℕ) → length text ≤ n → go end (state [] []) text ≡ Ok out → WholeText text
whole_takes n end out [] le k = let f = sym (go_end end (state [] [])) ∙ k in absurd cc
whole_takes zero end out (b ∷ t) le k = absurd (omega (arith, le))
whole_takes (suc n) end out (b ∷ t) le k = by (first end (state [] []) b t out k) (λ text l h. whole_takes n end out text l h)
  where
    by : First end (state [] []) b t out → ((text : List ℕ) → length text ≤ n → go end (state [] []) text ≡ Ok out → WholeText text) → WholeText (b ∷ t)
    by (inl (e, h)) rec =
        let g = space_there end [] b (end - length (b ∷ t)) t out h in
        let r = rec t (omega (arith, le)) g.1 in
        (Space b ∷ r.0, r.1, r.2, (g.0, r.3), r.4, r.5, r.6, ap (λ l. b ∷ l) r.7)
    by (inr (Noted note, after, fits, is, less, h)) rec = after_remark note (b ∷ t) after fits is (rec after (omega (arith, less, le)) h)
    by (inr (Closing name space, after, fits, is, less, h)) rec =
        let l = ended (end - length (b ∷ t)) (state [] []) name space (λ u. go end u after) out h in absurd cc
    by (inr (Opening tag true, after, fits, is, less, h)) rec =
        let g = begun (end - length (b ∷ t)) (state [] []) tag true (λ u. go end u after) out h in
        at_root (Single tag Empty) (b ∷ t) after tt (g.1, fits, tt) is (after_takes (length after) end _ out after (omega arith) refl g.2)
    by (inr (Opening tag false, after, fits, is, less, h)) rec =
        let g = begun (end - length (b ∷ t)) (state [] []) tag false (λ u. go end u after) out h in
        let r = content_takes (length after) end _ [] tag.name out after (omega arith) g.2 in
        let e = nested [] tag (b ∷ t) after g.1 fits is r in
        let root = Nested tag r.0 r.1 Empty in
        let goes = left end (state [] []) (b ∷ t) _ out _ (root_again root end r.2 tt e.0) e.1 k in
        at_root root (b ∷ t) r.2 tt e.0 e.1 (after_takes (length r.2) end (listed end 0 root r.2) out r.2 (omega arith) (root_listed root end r.2 tt) goes)

pub ok_is : (x y : List Element) → ◌≡◌ {A = Total} (Ok x) (Ok y) → x ≡ y
ok_is x y e = cc

made : (bytes : List ℕ) (es : List Element) (d : Document) → outline_of bytes ≡ Ok es → FitsDocument d → bytes ≡ written d → IsOutline bytes es
made bytes es d k fits is = (d, fits, is, ok_is es (elements_of d) (sym k ∙ ap outline_of is ∙ document_again d fits))

pub outline_takes : (bytes : List ℕ) (es : List Element) → outline_of bytes ≡ Ok es → IsOutline bytes es
unfolding outline_of
outline_takes bytes es k =
    let g = refused (not (is_utf8 bytes)) (fault.NotUtf8 (utf8_valid_len bytes)) (outline_in (length bytes) (after_order_mark bytes)) es k in
    by (begins (239 ∷ 187 ∷ 191 ∷ []) bytes) refl (not-false _ g.0) g.1
  where
    by : (v : Bool) → begins (239 ∷ 187 ∷ 191 ∷ []) bytes ≡ v → is_utf8 bytes ≡ true → outline_in (length bytes) (on_mark (cond v (Some (drop 3 bytes)) None) (λ rest. rest) bytes) ≡ Ok es
        → IsOutline bytes es
    by true m u h =
        let w = whole_takes (length (drop 3 bytes)) (length bytes) es (drop 3 bytes) (omega arith) h in
        let d : Document = record { has_mark = true; before = w.0; root = w.1; after = w.2 } in
        let is : bytes ≡ written d = begins_true (239 ∷ 187 ∷ 191 ∷ []) bytes m ∙ ap (λ l. 239 ∷ 187 ∷ 191 ∷ l) w.7 in
        made bytes es d k (record { before = w.3; one = w.4; root = w.5; after = w.6; utf8 = ap is_utf8 (sym is) ∙ u }) is
    by false m u h =
        let w = whole_takes (length bytes) (length bytes) es bytes (omega arith) h in
        let d : Document = record { has_mark = false; before = w.0; root = w.1; after = w.2 } in
        made bytes es d k (record { before = w.3; one = w.4; root = w.5; after = w.6; utf8 = ap is_utf8 (sym w.7) ∙ u }) w.7

pub outline_again : (bytes : List ℕ) (es : List Element) → IsOutline bytes es → outline_of bytes ≡ Ok es
outline_again bytes es o = ap outline_of o.2 ∙ document_again o.0 o.1 ∙ ap (λ (x : List Element). Ok x) (sym o.3)

pub found : (r : Total) (bytes : List ℕ) → Gives (λ x. x) r (outline_of bytes) → IfOk r (λ x. IsOutline bytes x)
found (Ok x) bytes h = outline_takes bytes x h
found (Err e) bytes h = tt

pub only : (r : Total) (bytes : List ℕ) (es : List Element) → Gives (λ x. x) r (outline_of bytes) → IsOutline bytes es → Gives (λ x. x) r (Ok es)
only r bytes es h o = subst (λ (read : Total). Gives (λ x. x) r read) (outline_again bytes es o) h
