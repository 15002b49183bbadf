-- Lines with their line feeds, and the lines that bytes are.
use Rattle.std.proofs.Common.{◌≡◌, ◌≢◌, ◌<◌, ◌-◌, ◌+◌, inl, inr, ℕ, List, [], ◌∷◌, ◌++◌, length, take, drop, get_or, map, Bool, true, false, cond, not, Option, Some, None, Result, Ok, Err, refl, sym, ap, subst, ◌∙◌, arith, append_assoc}
use Rattle.std.specs.Prelude.{◌==◌, nat_lt, slice_index, codes}
use Rattle.std.specs.List.{list_all, flat_map, concat, AllByRecursion}
use Rattle.std.proofs.lemmas.Bool.{eqb-true, eqb-false, ne_eqb, cases_lt, and_parts}
use Rattle.std.proofs.lemmas.List.{get_or_past, take_more, take_all, take_at, length-append, get_or-append-add, append-nil, drop_all}
use Rattle.line_text.specs.Lines.{HasNoFeed}
use Rattle.line_text.specs.Words.{joined}
use Rattle.line_text.specs.Numerals.{numeral}
use Rattle.line_text.proofs.Fields.{IsVisible, visible_no_feed}
use Rattle.tree_cert.specs.declared.line.Closing.TheVariants.{Empty, Cut, At}
use Rattle.tree_cert.specs.declared.line.Head.TheVariants.{Take, State, Half}
use Rattle.tree_cert.specs.declared.line.Line.{Line}
use Rattle.tree_cert.specs.declared.line.Line.TheVariants as lines
use Rattle.tree_cert.specs.declared.fault.LineFault.{LineFault}
use Rattle.tree_cert.specs.declared.fault.LineFault.TheVariants as fault
use Rattle.tree_cert.specs.Spelling.{end_text, first_word, other_words, spelling, fits_line, has_ordered_cut, is_spelled, Spells}
use Rattle.tree_cert.specs.Fields.{◌>>=◌, Gives, found}
use Rattle.tree_cert.specs.Reading.{line_at, before_feed, within, line_of, answer_of, Means}
use Rattle.tree_cert.specs.Texts.{pieces_after, pieces, Read, told, lines_in}
use Rattle.tree_cert.specs.Laws.{LinesAreRead}
use Rattle.tree_cert.proofs.FieldTexts.{NeverWide, spaced, IsWord, fixed_word, position_word, long_word, var_word, rule_is_word, state_is_word, end_is_word}
use Rattle.tree_cert.proofs.LineTexts.{fitted, line_again, line_takes, line_never}

-- ---- one line

feed_again : (t : List ℕ) → before_feed (t ++ 10 ∷ []) ≡ Some t
feed_again t =
    let n : length (t ++ 10 ∷ []) - 1 ≡ length t = omega (arith, length-append t (10 ∷ [])) in
    let last : get_or (t ++ 10 ∷ []) (length t) 0 ≡ 10 = ap (λ (k : ℕ). get_or (t ++ 10 ∷ []) k 0) (omega arith) ∙ get_or-append-add t (10 ∷ []) 0 0 in
    rw (n, last, take_at t (10 ∷ []) (length t) refl) refl

feed_takes : (bytes body : List ℕ) → before_feed bytes ≡ Some body → bytes ≡ body ++ 10 ∷ []
feed_takes bytes body e = by (slice_index bytes (length bytes - 1) == 10) refl e
  where
    ends : get_or bytes (length bytes - 1) 0 ≡ 10 → take (length bytes - 1) bytes ≡ body → bytes ≡ body ++ 10 ∷ []
    ends last front =
        let some : length bytes - 1 < length bytes = elim (cases_lt 0 (length bytes)) [ inl lt ↦ omega arith | inr le ↦ absurd (omega (arith, last, get_or_past bytes (length bytes - 1) 0 (omega arith))) ] in
        let whole : take (length bytes - 1 + 1) bytes ≡ bytes = take_all (length bytes - 1 + 1) bytes (omega arith) in
        sym whole ∙ take_more bytes (length bytes - 1) 0 some ∙ rw (front, last) refl

    by : (b : Bool) → (slice_index bytes (length bytes - 1) == 10) ≡ b → cond b (Some (take (length bytes - 1) bytes)) None ≡ Some body → bytes ≡ body ++ 10 ∷ []
    by true h k = ends (eqb-true (get_or bytes (length bytes - 1) 0) 10 h) (let q = k in cc)
    by false h k = absurd cc

-- a spelled line is read as itself where its numbers fit, and else is too wide
pub spelled_answer : (l : Line) → has_ordered_cut l ≡ true → line_of (spelling l) ≡ answer_of l
unfolding line_of
spelled_answer l is = rw (feed_again (joined (first_word l) (other_words l)), line_again l is) (by (fits_line l))
  where
    by : (b : Bool) → within (cond b (Some l) None) ≡ cond b (Ok l) (Err fault.Wide)
    by true = refl
    by false = refl

pub spelling_is_read : (l : Line) → is_spelled l ≡ true → line_of (spelling l) ≡ Ok l
spelling_is_read l is = let p = and_parts (fits_line l) (has_ordered_cut l) is in spelled_answer l p.1 ∙ (let fits = p.0 in rw fits refl)

-- what was read, but that its numbers may not fit, spells a line
read_means : (bytes : List ℕ) (line : Line) (r : Result Line LineFault) → Spells bytes line → within (fitted line) ≡ r → Means bytes r
read_means bytes line r is e = by (fits_line line) refl e
  where
    by : (b : Bool) → fits_line line ≡ b → within (cond b (Some line) None) ≡ r → Means bytes r
    by true h k = subst (Means bytes) k (is, h)
    by false h k = subst (Means bytes) k (line, is, h)

-- what is of no form is no spelling
unread : (bytes : List ℕ) → line_of bytes ≡ Err fault.NotLine → (l : Line) → Spells bytes l → ⊥
unread bytes e l is = by (fits_line l) (sym e ∙ ap line_of is.text ∙ spelled_answer l is.ordered)
  where
    by : (b : Bool) → Err fault.NotLine ≡ cond b (Ok l) (Err fault.Wide) → ⊥
    by true k = cc
    by false k = cc

pub line_means : (bytes : List ℕ) → Means bytes (line_of bytes)
unfolding line_of
line_means bytes = by (before_feed bytes) refl
  where
    at : (body : List ℕ) → bytes ≡ body ++ 10 ∷ [] → (r : Result (Option Line) LineFault) → line_at body ≡ r → line_of bytes ≡ (r >>= within) → Means bytes (r >>= within)
    at body text (Ok o) e k =
        let t = line_takes body o e in
        let whole : bytes ≡ spelling t.line = text ∙ ap (λ (w : List ℕ). w ++ 10 ∷ []) t.text in
        read_means bytes t.line (within o) (record { ordered = t.ordered; text = whole }) (ap within (sym t.read))
    at body text (Err fault.NotLine) e k = unread bytes k
    at body text (Err fault.Wide) e k = absurd (let no_wide = subst NeverWide e (line_never body) in cc)
    at body text (Err fault.NoMemory) e k = tt

    by : (o : Option (List ℕ)) → before_feed bytes ≡ o → Means bytes (found o >>= λ body. line_at body >>= within)
    by None h = unread bytes (rw h refl)
    by (Some body) h = at body (feed_takes bytes body h) (line_at body) refl (rw h refl)

pub read_is_spelling : (bytes : List ℕ) (l : Line) → line_of bytes ≡ Ok l → (bytes ≡ spelling l) × (is_spelled l ≡ true)
read_is_spelling bytes l e =
    let m = subst (Means bytes) e (line_means bytes) in
    let fits = m.1 in
    let ordered = m.0.ordered in
    (m.0.text, rw (fits, ordered) refl)

-- ---- what an answer says, unless memory ran out

pub answer_means : (bytes : List ℕ) (r : Result Line LineFault) → Gives (λ l. l) r (line_of bytes) → Means bytes r
answer_means bytes (Ok l) h = subst (Means bytes) h (line_means bytes)
answer_means bytes (Err fault.NoMemory) h = tt
answer_means bytes (Err fault.NotLine) h = subst (Means bytes) h (line_means bytes)
answer_means bytes (Err fault.Wide) h = subst (Means bytes) h (line_means bytes)

pub answer_given : (bytes : List ℕ) (r : Result Line LineFault) → Gives (λ l. l) r (line_of bytes) → (l : Line) → Spells bytes l → Gives (λ l. l) r (answer_of l)
answer_given bytes r h l is = subst (Gives (λ l. l) r) (ap line_of is.text ∙ spelled_answer l is.ordered) h

-- ---- pieces

not_feed : (b : Bool) → not b ≡ true → b ≡ false
not_feed true e = absurd cc
not_feed false e = refl

passed_more : (passed : List ℕ) (c : ℕ) (body rest : List ℕ) → (passed ++ c ∷ []) ++ (body ++ rest) ≡ passed ++ ((c ∷ body) ++ rest)
passed_more passed c body rest = append_assoc passed (c ∷ []) (body ++ rest)

pieces_on : (passed body rest : List ℕ) → HasNoFeed body → pieces_after passed (body ++ 10 ∷ rest) ≡ (passed ++ (body ++ 10 ∷ [])) ∷ pieces rest
pieces_on passed [] rest h = refl
pieces_on passed (c ∷ body) rest h =
    let p = and_parts (not (c == 10)) (list_all (λ b. not (b == 10)) body) h in
    let other = not_feed (c == 10) p.0 in
    rw other (pieces_on (passed ++ c ∷ []) body rest p.1 ∙ ap (λ (k : List ℕ). k ∷ pieces rest) (passed_more passed c body (10 ∷ [])))

-- the first piece of bytes with a line feed
pub pieces_cut : (body rest : List ℕ) → HasNoFeed body → pieces (body ++ 10 ∷ rest) ≡ (body ++ 10 ∷ []) ∷ pieces rest
pieces_cut body rest h = pieces_on [] body rest h

uncut_on : (passed bytes : List ℕ) → HasNoFeed bytes → 0 < length (passed ++ bytes) → pieces_after passed bytes ≡ (passed ++ bytes) ∷ []
uncut_on passed [] h some =
    let full : (length passed == 0) ≡ false = ne_eqb (length passed) 0 (λ e. omega (arith, e, some, length-append passed [])) in
    rw full (ap (λ (k : List ℕ). k ∷ []) (sym (append-nil passed)))
uncut_on passed (c ∷ bytes) h some =
    let p = and_parts (not (c == 10)) (list_all (λ b. not (b == 10)) bytes) h in
    let other = not_feed (c == 10) p.0 in
    let same = append_assoc passed (c ∷ []) bytes in
    rw other (uncut_on (passed ++ c ∷ []) bytes p.1 (omega (arith, some, ap length same)) ∙ ap (λ (k : List ℕ). k ∷ []) same)

-- bytes without a line feed are one piece
pub pieces_uncut : (bytes : List ℕ) → HasNoFeed bytes → 0 < length bytes → pieces bytes ≡ bytes ∷ []
pieces_uncut bytes h some = uncut_on [] bytes h some

joined_on : (passed bytes : List ℕ) → concat (pieces_after passed bytes) ≡ passed ++ bytes
joined_on [] [] = refl
joined_on (c ∷ passed) [] = let full : (length (c ∷ passed) == 0) ≡ false = ne_eqb _ _ (λ e. omega (arith, e)) in rw full refl
joined_on passed (b ∷ bytes) = by (b == 10) refl (joined_on [] bytes) (joined_on (passed ++ b ∷ []) bytes)
  where
    by : (t : Bool) → (b == 10) ≡ t → concat (pieces bytes) ≡ bytes → concat (pieces_after (passed ++ b ∷ []) bytes) ≡ (passed ++ b ∷ []) ++ bytes
        → concat (cond t ((passed ++ 10 ∷ []) ∷ pieces bytes) (pieces_after (passed ++ b ∷ []) bytes)) ≡ passed ++ b ∷ bytes
    by true e h k =
        ap (λ (r : List ℕ). (passed ++ 10 ∷ []) ++ r) h ∙ append_assoc passed (10 ∷ []) bytes ∙ ap (λ (d : ℕ). passed ++ d ∷ bytes) (sym (eqb-true b 10 e))
    by false e h k = k ∙ append_assoc passed (b ∷ []) bytes

-- pieces in a row are the bytes
pub pieces_joined : (bytes : List ℕ) → concat (pieces bytes) ≡ bytes
pieces_joined bytes = joined_on [] bytes

-- ---- lines have no line feed inside

feedless : (a b : List ℕ) → HasNoFeed a → HasNoFeed b → HasNoFeed (a ++ b)
feedless [] b p q = q
feedless (x ∷ a) b p q =
    let h = and_parts (not (x == 10)) (list_all (λ b. not (b == 10)) a) p in
    rw h.0 (feedless a b h.1 q)

abbrev AreWords : List (List ℕ) → Type 0
AreWords ws = AllByRecursion IsWord ws

words_feedless : (ws : List (List ℕ)) → AreWords ws → HasNoFeed (spaced ws)
words_feedless [] h = refl
words_feedless (w ∷ ws) h = feedless w (spaced ws) (visible_no_feed w h.0.visible) (words_feedless ws h.1)

node_words : (ns : List ℕ) → AreWords (map numeral ns)
node_words [] = tt
node_words (n ∷ ns) = (position_word n, node_words ns)

letters : (w : List ℕ) → list_all (λ b. nat_lt b 128) w ≡ true → IsVisible w → 0 < length w → IsWord w
letters w ascii visible some = fixed_word w ascii visible some

other_are_words : (l : Line) → AreWords (other_words l)
other_are_words lines.First = (letters (codes "1") refl refl (omega arith), tt)
other_are_words lines.FirstSixteenths = (letters (codes "2") refl refl (omega arith), tt)
other_are_words (lines.Step s) = (var_word s.var, (long_word s.value, (rule_is_word s.rule, (position_word s.place, tt))))
other_are_words (lines.Close (Empty x)) = (letters (codes "empty") refl refl (omega arith), (var_word x, tt))
other_are_words (lines.Close (Cut ns)) = (letters (codes "cut") refl refl (omega arith), node_words ns)
other_are_words (lines.Close (At rule place)) = (rule_is_word rule, (position_word place, tt))
other_are_words lines.LeftOpen = tt
other_are_words (lines.Group k) = (position_word k, tt)
other_are_words (lines.Arc a) = (position_word a, tt)
other_are_words (lines.Halve x) = (var_word x, tt)
other_are_words (lines.Head (Take k j)) = (position_word k, (position_word j, tt))
other_are_words (lines.Head (State a state)) = (position_word a, (state_is_word state, tt))
other_are_words (lines.Head (Half x low c)) = (var_word x, (end_is_word low, (long_word c, tt)))
other_are_words lines.End = tt

first_feedless : (l : Line) → HasNoFeed (first_word l)
first_feedless lines.First = refl
first_feedless lines.FirstSixteenths = refl
first_feedless (lines.Step s) = visible_no_feed (end_text s.low) (end_is_word s.low).visible
first_feedless (lines.Close c) = refl
first_feedless lines.LeftOpen = refl
first_feedless (lines.Group k) = refl
first_feedless (lines.Arc a) = refl
first_feedless (lines.Halve x) = refl
first_feedless (lines.Head (Take k j)) = refl
first_feedless (lines.Head (State a state)) = refl
first_feedless (lines.Head (Half x low c)) = refl
first_feedless lines.End = refl

pub line_feedless : (l : Line) → HasNoFeed (joined (first_word l) (other_words l))
line_feedless l = feedless (first_word l) (spaced (other_words l)) (first_feedless l) (words_feedless (other_words l) (other_are_words l))

-- ---- lines and their texts

spelled_lines : (ls : List Line) → list_all is_spelled ls ≡ true → lines_in (flat_map spelling ls) ≡ map Ok ls
spelled_lines [] e = refl
spelled_lines (l ∷ ls) e =
    let p = and_parts (is_spelled l) (list_all is_spelled ls) e in
    let body = joined (first_word l) (other_words l) in
    let rest = flat_map spelling ls in
    let cut : pieces (spelling l ++ rest) ≡ spelling l ∷ pieces rest =
    ap pieces (append_assoc body (10 ∷ []) rest) ∙ pieces_cut body rest (line_feedless l) in
    ap (map (λ piece. told (line_of piece))) cut
    ∙ ap (λ (r : Read). r ∷ lines_in rest) (ap told (spelling_is_read l p.0))
    ∙ ap (λ (rs : List Read). Ok l ∷ rs) (spelled_lines ls p.1)

told_ok : (r : Result Line LineFault) (l : Line) → told r ≡ Ok l → r ≡ Ok l
told_ok (Ok m) l e = cc
told_ok (Err fault.NotLine) l e = absurd cc
told_ok (Err fault.Wide) l e = absurd cc
told_ok (Err fault.NoMemory) l e = absurd cc

pieces_spelled : (ps : List (List ℕ)) (ls : List Line) → map (λ piece. told (line_of piece)) ps ≡ map Ok ls → (list_all is_spelled ls ≡ true) × (concat ps ≡ flat_map spelling ls)
pieces_spelled [] [] e = (refl, refl)
pieces_spelled [] (l ∷ ls) e = absurd cc
pieces_spelled (p ∷ ps) [] e = absurd cc
pieces_spelled (p ∷ ps) (l ∷ ls) e =
    let here : told (line_of p) ≡ Ok l = cc in
    let others : map (λ piece. told (line_of piece)) ps ≡ map Ok ls = cc in
    let t = read_is_spelling p l (told_ok (line_of p) l here) in
    let r = pieces_spelled ps ls others in
    let spelled = t.1 in
    (rw spelled r.0, ap (λ (k : List ℕ). k ++ concat ps) t.0 ∙ ap (λ (k : List ℕ). spelling l ++ k) r.1)

pub lines_are_read : LinesAreRead
lines_are_read bytes ls = (
  λ are. ap lines_in are.text ∙ spelled_lines ls are.spelled,
  λ e. let t = pieces_spelled (pieces bytes) ls e in record { spelled = t.0; text = sym (pieces_joined bytes) ∙ t.1 },
)

-- ---- the first line of bytes

whole_line : (bytes line rest : List ℕ) → bytes ≡ line ++ 10 ∷ rest → bytes ≡ (line ++ 10 ∷ []) ++ rest
whole_line bytes line rest e = e ∙ sym (append_assoc line (10 ∷ []) rest)

pub line_front : (bytes line rest : List ℕ) → bytes ≡ line ++ 10 ∷ rest → take (length line + 1) bytes ≡ line ++ 10 ∷ []
line_front bytes line rest e = ap (take (length line + 1)) (whole_line bytes line rest e) ∙ take_at (line ++ 10 ∷ []) rest (length line + 1) (omega (arith, length-append line (10 ∷ [])))

pub line_parts : (bytes line rest : List ℕ) → bytes ≡ line ++ 10 ∷ rest → (bytes ≡ take (length line + 1) bytes ++ rest) × (length rest < length bytes)
line_parts bytes line rest e =
    (whole_line bytes line rest e ∙ ap (λ (k : List ℕ). k ++ rest) (sym (line_front bytes line rest e)), omega (arith, ap length e, length-append line (10 ∷ rest)))

pub line_piece : (bytes line rest : List ℕ) → bytes ≡ line ++ 10 ∷ rest → HasNoFeed line → pieces bytes ≡ take (length line + 1) bytes ∷ pieces rest
line_piece bytes line rest e h = ap pieces e ∙ pieces_cut line rest h ∙ ap (λ (k : List ℕ). k ∷ pieces rest) (sym (line_front bytes line rest e))

pub last_piece : (bytes : List ℕ) → HasNoFeed bytes → (length bytes == 0) ≡ false → pieces bytes ≡ bytes ∷ pieces (drop (length bytes) bytes)
last_piece bytes h some =
    let full : length bytes ≢ 0 = eqb-false _ _ some in
    pieces_uncut bytes h (omega (arith, full)) ∙ ap (λ (k : List ℕ). bytes ∷ pieces k) (sym (drop_all (length bytes) bytes (omega arith)))
