-- A line is read as what its text says, and its text says what it is read as.
use Rattle.std.proofs.Common.{◌≡◌, ◌<◌, ℕ, List, [], ◌∷◌, ◌++◌, length, take, drop, map, Bool, true, false, cond, ◌&&◌, Option, Some, None, Result, Ok, ℤ, refl, sym, ap, subst, ◌∙◌, arith, take-append-drop}
use Rattle.std.specs.Prelude.{option_map, codes, nat_lt}
use Rattle.std.specs.List.{list_all}
use Rattle.std.specs.Str.{bytes_eq}
use Rattle.std.proofs.lemmas.Slice.Eq.{bytes_eq-Decides}
use Rattle.base_types.specs.declared.states.ArcState.{ArcState}
use Rattle.base_types.specs.declared.variables.Var.{Var}
use Rattle.line_text.specs.Words.{word_len, joined}
use Rattle.line_text.specs.Numerals.{numeral, signed_numeral}
use Rattle.line_text.specs.Long.{fits_position, fits_long, fitting}
use Rattle.line_text.proofs.Fields.{IsVisible, word_cut}
use Rattle.tree_cert.specs.declared.line.Rule.{Rule}
use Rattle.tree_cert.specs.declared.line.Rule.TheVariants as rules
use Rattle.tree_cert.specs.declared.line.Step.{Step}
use Rattle.tree_cert.specs.declared.line.Closing.{Closing}
use Rattle.tree_cert.specs.declared.line.Closing.TheVariants.{Empty, Cut, At}
use Rattle.tree_cert.specs.declared.line.Head.TheVariants.{Take, State, Half}
use Rattle.tree_cert.specs.declared.line.Line.{Line}
use Rattle.tree_cert.specs.declared.line.Line.TheVariants as lines
use Rattle.tree_cert.specs.declared.fault.LineFault.{LineFault}
use Rattle.tree_cert.specs.declared.words.LineWord.{LineWord}
use Rattle.tree_cert.specs.declared.words.LineWord.TheVariants as first
use Rattle.tree_cert.specs.Spelling.{var_text, rule_text, end_text, first_word, other_words, closing_words, is_node_list, fits_var, fits_line, has_ordered_cut}
use Rattle.base_types.specs.StateWords.{state_word}
use Rattle.tree_cert.specs.Fields.{◌>>=◌, found, text_field, ended, position_field, number_field, var_field, all_rules, rule_at, rule_field, state_field, end_field}
use Rattle.tree_cert.specs.Reading.{step_of, step_at, empty_at, nodes_at, cut_at, rule_closing_at, after_close, closing_at, lone, of_position, halve_at, take_of, take_at, state_at, half_of, half_at, first_line, first_at, word_text, all_words, first_word_at, after_word, line_at}
use Rattle.tree_cert.proofs.FieldTexts.{spaced, spaced_start, bound_ok, found_ok, found_text, fixed_word, rule_is_word, rule_again, made_where, NeverWide, found_never, bound_never, text_never, ended_never, position_never, number_never, var_never, rule_never, state_never, end_never, position_field_again, position_field_takes, number_field_again, number_field_takes, var_field_again, var_field_takes, rule_field_again, rule_field_takes, state_field_again, state_field_takes, end_field_again, end_field_takes, text_field_again, text_field_takes, ended_takes}
use Rattle.tree_cert.proofs.CutTexts.{nodes_again, nodes_take}

-- a line, where its numbers fit
abbrev pub fitted : Line → Option Line
fitted l = fitting fits_line l

-- ---- the text of a line's fields is read as the line, where its numbers fit

made_step : (low : Bool) (rule : Rule) (a b c : Bool) (x : Var) (z : ℤ) (n : ℕ) → step_of low (cond a (Some x) None) (cond b (Some z) None) rule (cond c (Some n) None)
    ≡ cond (a && b && c) (Some (lines.Step (record { var = x; low = low; value = z; rule = rule; place = n }))) None
made_step low rule true true true x z n = refl
made_step low rule true true false x z n = refl
made_step low rule true false c x z n = refl
made_step low rule false b c x z n = refl

made_take : (a b : Bool) (k j : ℕ) → take_of (cond a (Some k) None) (cond b (Some j) None) ≡ cond (a && b) (Some (lines.Head (Take k j))) None
made_take true true k j = refl
made_take true false k j = refl
made_take false b k j = refl

made_half : (low : Bool) (a b : Bool) (x : Var) (z : ℤ) → half_of (cond a (Some x) None) low (cond b (Some z) None) ≡ cond (a && b) (Some (lines.Head (Half x low z))) None
made_half low true true x z = refl
made_half low true false x z = refl
made_half low false b x z = refl

-- the same of parts that are known to be so
step_made : (low : Bool) (rule : Rule) (y : Option Var) (c : Option ℤ) (p : Option ℕ) (x : Var) (z : ℤ) (n : ℕ) → y ≡ fitting fits_var x → c ≡ fitting fits_long z → p ≡ fitting fits_position n
    → step_of low y c rule p ≡ fitted (lines.Step (record { var = x; low = low; value = z; rule = rule; place = n }))
step_made low rule y c p x z n e f g = rw (e, f, g) (made_step low rule (fits_var x) (fits_long z) (fits_position n) x z n)

take_made : (m i : Option ℕ) (k j : ℕ) → m ≡ fitting fits_position k → i ≡ fitting fits_position j → take_of m i ≡ fitted (lines.Head (Take k j))
take_made m i k j e f = rw (e, f) (made_take (fits_position k) (fits_position j) k j)

half_made : (low : Bool) (y : Option Var) (c : Option ℤ) (x : Var) (z : ℤ) → y ≡ fitting fits_var x → c ≡ fitting fits_long z → half_of y low c ≡ fitted (lines.Head (Half x low z))
half_made low y c x z e f = rw (e, f) (made_half low (fits_var x) (fits_long z) x z)

one_made : {A : Type 0} (make : A → Line) (fits : A → Bool) (o : Option A) (x : A) → o ≡ fitting fits x → option_map make o ≡ cond (fits x) (Some (make x)) None
one_made make fits o x e = rw e (made_where make (fits x) x)

step_again : (s : Step) → step_at s.low (spaced (other_words (lines.Step s))) ≡ Ok (fitted (lines.Step s))
unfolding step_at
step_again s =
    rw (
      var_field_again s.var (spaced (signed_numeral s.value ∷ rule_text s.rule ∷ numeral s.place ∷ [])) refl,
      number_field_again s.value (spaced (rule_text s.rule ∷ numeral s.place ∷ [])) refl,
      rule_field_again s.rule (spaced (numeral s.place ∷ [])) refl,
      position_field_again s.place [] refl,
    ) (ap Ok (made_step s.low s.rule (fits_var s.var) (fits_long s.value) (fits_position s.place) s.var s.value s.place))

closing_again : (c : Closing) → has_ordered_cut (lines.Close c) ≡ true → closing_at (spaced (closing_words c)) ≡ Ok (fitted (lines.Close c))
unfolding closing_at empty_at cut_at rule_closing_at
closing_again (Empty x) is =
    rw (text_field_again (codes "empty") (spaced (var_text x ∷ [])) (fixed_word (codes "empty") refl refl (omega arith)) refl, var_field_again x [] refl)
    (ap Ok (made_where (λ x. lines.Close (Empty x)) (fits_var x) x))
closing_again (Cut ns) is =
    rw (text_field_again (codes "cut") (spaced (map numeral ns)) (fixed_word (codes "cut") refl refl (omega arith)) (spaced_start (map numeral ns)), nodes_again ns is)
    (ap Ok (made_where (λ ns. lines.Close (Cut ns)) (list_all fits_position ns) ns))
closing_again (At rule place) is =
    rw (text_field_again (rule_text rule) (spaced (numeral place ∷ [])) (rule_is_word rule) refl, after_rule rule (spaced (numeral place ∷ [])), rule_again rule, position_field_again place [] refl)
    (ap Ok (made_where (λ n. lines.Close (At rule n)) (fits_position place) place))
  where
    after_rule : (rule : Rule) (rest : List ℕ) → after_close (rule_text rule) rest ≡ rule_closing_at (rule_text rule) rest
    after_rule rules.Balance rest = refl
    after_rule rules.Pipe rest = refl
    after_rule rules.Equal rest = refl
    after_rule rules.Zero rest = refl
    after_rule rules.Way rest = refl
    after_rule rules.Inner rest = refl
    after_rule rules.Fall rest = refl
    after_rule rules.Order rest = refl
    after_rule rules.Rise rest = refl
    after_rule rules.Ratio rest = refl
    after_rule rules.Sign rest = refl
    after_rule rules.Reach rest = refl
    after_rule rules.Along rest = refl
    after_rule rules.Drop rest = refl

lone_again : (l : Line) → lone l [] ≡ Ok (Some l)
unfolding lone
lone_again l = refl

position_line_again : (line : ℕ → Line) (n : ℕ) → of_position line (spaced (numeral n ∷ [])) ≡ Ok (cond (fits_position n) (Some (line n)) None)
unfolding of_position
position_line_again line n = rw (position_field_again n [] refl) (ap Ok (made_where line (fits_position n) n))

halve_again : (x : Var) → halve_at (spaced (var_text x ∷ [])) ≡ Ok (fitted (lines.Halve x))
unfolding halve_at
halve_again x = rw (var_field_again x [] refl) (ap Ok (made_where lines.Halve (fits_var x) x))

take_again : (k j : ℕ) → take_at (spaced (numeral k ∷ numeral j ∷ [])) ≡ Ok (fitted (lines.Head (Take k j)))
unfolding take_at
take_again k j = rw (position_field_again k (spaced (numeral j ∷ [])) refl, position_field_again j [] refl) (ap Ok (made_take (fits_position k) (fits_position j) k j))

state_again : (a : ℕ) (state : ArcState) → state_at (spaced (numeral a ∷ state_word state ∷ [])) ≡ Ok (fitted (lines.Head (State a state)))
unfolding state_at
state_again a state = rw (position_field_again a (spaced (state_word state ∷ [])) refl, state_field_again state [] refl) (ap Ok (made_where (λ a. lines.Head (State a state)) (fits_position a) a))

half_again : (x : Var) (low : Bool) (c : ℤ) → half_at (spaced (var_text x ∷ end_text low ∷ signed_numeral c ∷ [])) ≡ Ok (fitted (lines.Head (Half x low c)))
unfolding half_at
half_again x low c =
    rw (var_field_again x (spaced (end_text low ∷ signed_numeral c ∷ [])) refl, end_field_again low (spaced (signed_numeral c ∷ [])) refl, number_field_again c [] refl)
    (ap Ok (made_half low (fits_var x) (fits_long c) x c))

version_again : (w : List ℕ) (l : Line) → list_all (λ b. nat_lt b 128) w ≡ true → IsVisible w → 0 < length w → first_line w ≡ Some l → first_at (spaced (w ∷ [])) ≡ Ok (Some l)
unfolding first_at
version_again w l ascii visible some e = rw (text_field_again w [] (fixed_word w ascii visible some) refl, e) refl

-- a line by its first word
body_again : (word : LineWord) (fields : List (List ℕ)) (o : Option Line) → IsVisible (word_text word) → first_word_at (word_text word) ≡ Some word → after_word word (spaced fields) ≡ Ok o
    → line_at (joined (word_text word) fields) ≡ Ok o
unfolding line_at
body_again word fields o visible is e =
    let cut = word_cut (word_text word) (spaced fields) visible (spaced_start fields) in
    ap (λ (w : List ℕ). found (first_word_at w) >>= λ x. after_word x (drop (word_len (word_text word ++ spaced fields)) (word_text word ++ spaced fields))) cut.0
    ∙ rw is (ap (after_word word) cut.1 ∙ e)

step_line_again : (low : Bool) (fields : List (List ℕ)) (o : Option Line) → step_at low (spaced fields) ≡ Ok o → line_at (joined (end_text low) fields) ≡ Ok o
step_line_again true fields o e = body_again first.Lo fields o refl refl e
step_line_again false fields o e = body_again first.Hi fields o refl refl e

pub line_again : (l : Line) → has_ordered_cut l ≡ true → line_at (joined (first_word l) (other_words l)) ≡ Ok (fitted l)
line_again lines.First is = body_again first.Gastree (codes "1" ∷ []) (Some lines.First) refl refl (version_again (codes "1") lines.First refl refl (omega arith) refl)
line_again lines.FirstSixteenths is = body_again first.Gastree (codes "2" ∷ []) (Some lines.FirstSixteenths) refl refl (version_again (codes "2") lines.FirstSixteenths refl refl (omega arith) refl)
line_again (lines.Step s) is = step_line_again s.low (other_words (lines.Step s)) (fitted (lines.Step s)) (step_again s)
line_again (lines.Close c) is = body_again first.Close (closing_words c) (fitted (lines.Close c)) refl refl (closing_again c is)
line_again lines.LeftOpen is = body_again first.Open [] (Some lines.LeftOpen) refl refl (lone_again lines.LeftOpen)
line_again (lines.Group k) is = body_again first.Group (numeral k ∷ []) (fitted (lines.Group k)) refl refl (position_line_again lines.Group k)
line_again (lines.Arc a) is = body_again first.Arc (numeral a ∷ []) (fitted (lines.Arc a)) refl refl (position_line_again lines.Arc a)
line_again (lines.Halve x) is = body_again first.Halve (var_text x ∷ []) (fitted (lines.Halve x)) refl refl (halve_again x)
line_again (lines.Head (Take k j)) is = body_again first.Take (numeral k ∷ numeral j ∷ []) (fitted (lines.Head (Take k j))) refl refl (take_again k j)
line_again (lines.Head (State a state)) is = body_again first.State (numeral a ∷ state_word state ∷ []) (fitted (lines.Head (State a state))) refl refl (state_again a state)
line_again (lines.Head (Half x low c)) is = body_again first.Half (var_text x ∷ end_text low ∷ signed_numeral c ∷ []) (fitted (lines.Head (Half x low c))) refl refl (half_again x low c)
line_again lines.End is = body_again first.End [] (Some lines.End) refl refl (lone_again lines.End)

-- ---- and back: what was read is a line of numbers of any size that has this text

-- after its first word; what was read is the line where its numbers fit
pub record Says (word bytes : List ℕ) (o : Option Line) : Type 0 where
  pub line : Line
  pub first : first_word line ≡ word
  pub others : bytes ≡ spaced (other_words line)
  pub ordered : has_ordered_cut line ≡ true
  pub read : o ≡ fitted line

ok_is : {A : Type 0} (x y : A) → (let r : Result A LineFault = Ok x in r) ≡ Ok y → x ≡ y
ok_is x y e = cc

some_is : {A : Type 0} (x y : A) → Some x ≡ Some y → x ≡ y
some_is x y e = cc

glue : (b w r : List ℕ) (ws : List (List ℕ)) → b ≡ 32 ∷ (w ++ r) → r ≡ spaced ws → b ≡ spaced (w ∷ ws)
glue b w r ws e f = e ∙ ap (λ (k : List ℕ). 32 ∷ (w ++ k)) f

one_word : (b w r : List ℕ) → b ≡ 32 ∷ (w ++ r) → r ≡ [] → b ≡ spaced (w ∷ [])
one_word b w r e none = glue b w r [] e none

two_words : (b w r v q : List ℕ) → b ≡ 32 ∷ (w ++ r) → r ≡ 32 ∷ (v ++ q) → q ≡ [] → b ≡ spaced (w ∷ v ∷ [])
two_words b w r v q e f none = glue b w r (v ∷ []) e (one_word r v q f none)

three_words : (b w r v q u p : List ℕ) → b ≡ 32 ∷ (w ++ r) → r ≡ 32 ∷ (v ++ q) → q ≡ 32 ∷ (u ++ p) → p ≡ [] → b ≡ spaced (w ∷ v ∷ u ∷ [])
three_words b w r v q u p e f g none = glue b w r (v ∷ u ∷ []) e (two_words r v q u p f g none)

four_words : (b w r v q u p t o : List ℕ) → b ≡ 32 ∷ (w ++ r) → r ≡ 32 ∷ (v ++ q) → q ≡ 32 ∷ (u ++ p) → p ≡ 32 ∷ (t ++ o) → o ≡ [] → b ≡ spaced (w ∷ v ∷ u ∷ t ∷ [])
four_words b w r v q u p t o e f g h none = glue b w r (v ∷ u ∷ t ∷ []) e (three_words r v q u p t o f g h none)

step_takes : (low : Bool) (bytes : List ℕ) (o : Option Line) → step_at low bytes ≡ Ok o → Says (end_text low) bytes o
unfolding step_at
step_takes low bytes o e =
    let x = bound_ok (var_field bytes) _ o e in
    let c = bound_ok (number_field x.0.1) _ o x.2 in
    let r = bound_ok (rule_field c.0.1) _ o c.2 in
    let p = bound_ok (position_field r.0.1) _ o r.2 in
    let end = bound_ok (ended p.0.1) _ o p.2 in
    let tx = var_field_takes bytes x.0.0 x.0.1 x.1 in
    let tc = number_field_takes x.0.1 c.0.0 c.0.1 c.1 in
    let tp = position_field_takes r.0.1 p.0.0 p.0.1 p.1 in
    record {
      line = lines.Step (record { var = tx.0; low = low; value = tc.0; rule = r.0.0; place = tp.0 });
      first = refl;
      others = four_words bytes (var_text tx.0) x.0.1 (signed_numeral tc.0) c.0.1 (rule_text r.0.0) r.0.1 (numeral tp.0) p.0.1 tx.1 tc.1 (rule_field_takes c.0.1 r.0.0 r.0.1 r.1) tp.1 (ended_takes p.0.1 end.0 end.1);
      ordered = refl;
      read = sym (ok_is _ _ end.2) ∙ step_made low r.0.0 x.0.0 c.0.0 p.0.0 tx.0 tc.0 tp.0 tx.2 tc.2 tp.2;
    }

empty_takes : (bytes : List ℕ) (o : Option Line) → empty_at bytes ≡ Ok o → (x : Var) × (bytes ≡ spaced (var_text x ∷ [])) × (o ≡ fitted (lines.Close (Empty x)))
unfolding empty_at
empty_takes bytes o e =
    let x = bound_ok (var_field bytes) _ o e in
    let end = bound_ok (ended x.0.1) _ o x.2 in
    let tx = var_field_takes bytes x.0.0 x.0.1 x.1 in
    (tx.0, one_word bytes (var_text tx.0) x.0.1 tx.1 (ended_takes x.0.1 end.0 end.1), sym (ok_is _ _ end.2) ∙ one_made (λ x. lines.Close (Empty x)) fits_var x.0.0 tx.0 tx.2)

cut_takes : (bytes : List ℕ) (o : Option Line) → cut_at bytes ≡ Ok o → (ns : List ℕ) × (bytes ≡ spaced (map numeral ns)) × (is_node_list ns ≡ true) × (o ≡ fitted (lines.Close (Cut ns)))
unfolding cut_at
cut_takes bytes o e =
    let n = bound_ok (found (nodes_at bytes)) _ o e in
    let t = nodes_take bytes n.0 (found_ok (nodes_at bytes) n.0 n.1) in
    (t.0, t.1, t.2, sym (ok_is _ _ n.2) ∙ one_made (λ ns. lines.Close (Cut ns)) (list_all fits_position) n.0 t.0 t.3)

rule_closing_takes : (word bytes : List ℕ) (o : Option Line) → rule_closing_at word bytes ≡ Ok o
    → (rule : Rule) × (n : ℕ) × (word ≡ rule_text rule) × (bytes ≡ spaced (numeral n ∷ [])) × (o ≡ fitted (lines.Close (At rule n)))
unfolding rule_closing_at
rule_closing_takes word bytes o e =
    let r = bound_ok (found (rule_at word)) _ o e in
    let p = bound_ok (position_field bytes) _ o r.2 in
    let end = bound_ok (ended p.0.1) _ o p.2 in
    let tp = position_field_takes bytes p.0.0 p.0.1 p.1 in (
      r.0,
      tp.0,
      found_text rule_text word all_rules r.0 (found_ok (rule_at word) r.0 r.1),
      one_word bytes (numeral tp.0) p.0.1 tp.1 (ended_takes p.0.1 end.0 end.1),
      sym (ok_is _ _ end.2) ∙ one_made (λ n. lines.Close (At r.0 n)) fits_position p.0.0 tp.0 tp.2,
    )

after_close_takes : (bytes word rest : List ℕ) (o : Option Line) → bytes ≡ 32 ∷ (word ++ rest) → after_close word rest ≡ Ok o → Says (codes "close") bytes o
after_close_takes bytes word rest o text e = by (bytes_eq word (codes "empty")) (bytes_eq word (codes "cut")) refl refl e
  where
    named : (name : List ℕ) → bytes_eq word name ≡ true → bytes ≡ 32 ∷ (name ++ rest)
    named name h = text ∙ ap (λ (w : List ℕ). 32 ∷ (w ++ rest)) ((bytes_eq-Decides word name).0 h)

    by : (a b : Bool) → bytes_eq word (codes "empty") ≡ a → bytes_eq word (codes "cut") ≡ b → cond a (empty_at rest) (cond b (cut_at rest) (rule_closing_at word rest)) ≡ Ok o → Says (codes "close") bytes o
    by true b p q k =
        let t = empty_takes rest o k in
        record { line = lines.Close (Empty t.0); first = refl; others = glue bytes (codes "empty") rest (var_text t.0 ∷ []) (named (codes "empty") p) t.1; ordered = refl; read = t.2 }
    by false true p q k =
        let t = cut_takes rest o k in
        record { line = lines.Close (Cut t.0); first = refl; others = glue bytes (codes "cut") rest (map numeral t.0) (named (codes "cut") q) t.1; ordered = t.2; read = t.3 }
    by false false p q k =
        let t = rule_closing_takes word rest o k in
        let word_is : bytes ≡ 32 ∷ (rule_text t.0 ++ rest) = text ∙ ap (λ (w : List ℕ). 32 ∷ (w ++ rest)) t.2 in
        record { line = lines.Close (At t.0 t.1); first = refl; others = glue bytes (rule_text t.0) rest (numeral t.1 ∷ []) word_is t.3; ordered = refl; read = t.4 }

closing_takes : (bytes : List ℕ) (o : Option Line) → closing_at bytes ≡ Ok o → Says (codes "close") bytes o
unfolding closing_at
closing_takes bytes o e =
    let w = bound_ok (text_field bytes) (λ word. after_close word.0 word.1) o e in
    after_close_takes bytes w.0.0 w.0.1 o (text_field_takes bytes w.0.0 w.0.1 w.1) w.2

-- a line that is one word, and so has no number
lone_takes : (m : Line) (bytes : List ℕ) (o : Option Line) → other_words m ≡ [] → has_ordered_cut m ≡ true → fitted m ≡ Some m → lone m bytes ≡ Ok o → Says (first_word m) bytes o
unfolding lone
lone_takes m bytes o none is fits e =
    let end = bound_ok (ended bytes) _ o e in
    record { line = m; first = refl; others = ended_takes bytes end.0 end.1 ∙ ap spaced (sym none); ordered = is; read = sym (ok_is _ _ end.2) ∙ sym fits }

position_line_takes : (line : ℕ → Line) (bytes : List ℕ) (o : Option Line) → of_position line bytes ≡ Ok o → (n : ℕ) × (bytes ≡ spaced (numeral n ∷ [])) × (o ≡ cond (fits_position n) (Some (line n)) None)
unfolding of_position
position_line_takes line bytes o e =
    let p = bound_ok (position_field bytes) _ o e in
    let end = bound_ok (ended p.0.1) _ o p.2 in
    let tp = position_field_takes bytes p.0.0 p.0.1 p.1 in
    (tp.0, one_word bytes (numeral tp.0) p.0.1 tp.1 (ended_takes p.0.1 end.0 end.1), sym (ok_is _ _ end.2) ∙ one_made line fits_position p.0.0 tp.0 tp.2)

group_takes : (bytes : List ℕ) (o : Option Line) → of_position lines.Group bytes ≡ Ok o → Says (codes "group") bytes o
group_takes bytes o e = let t = position_line_takes lines.Group bytes o e in record { line = lines.Group t.0; first = refl; others = t.1; ordered = refl; read = t.2 }

arc_takes : (bytes : List ℕ) (o : Option Line) → of_position lines.Arc bytes ≡ Ok o → Says (codes "arc") bytes o
arc_takes bytes o e = let t = position_line_takes lines.Arc bytes o e in record { line = lines.Arc t.0; first = refl; others = t.1; ordered = refl; read = t.2 }

halve_takes : (bytes : List ℕ) (o : Option Line) → halve_at bytes ≡ Ok o → Says (codes "halve") bytes o
unfolding halve_at
halve_takes bytes o e =
    let x = bound_ok (var_field bytes) _ o e in
    let end = bound_ok (ended x.0.1) _ o x.2 in
    let tx = var_field_takes bytes x.0.0 x.0.1 x.1 in
    record {
      line = lines.Halve tx.0;
      first = refl;
      others = one_word bytes (var_text tx.0) x.0.1 tx.1 (ended_takes x.0.1 end.0 end.1);
      ordered = refl;
      read = sym (ok_is _ _ end.2) ∙ one_made lines.Halve fits_var x.0.0 tx.0 tx.2;
    }

take_takes : (bytes : List ℕ) (o : Option Line) → take_at bytes ≡ Ok o → Says (codes "take") bytes o
unfolding take_at
take_takes bytes o e =
    let k = bound_ok (position_field bytes) _ o e in
    let j = bound_ok (position_field k.0.1) _ o k.2 in
    let end = bound_ok (ended j.0.1) _ o j.2 in
    let tk = position_field_takes bytes k.0.0 k.0.1 k.1 in
    let tj = position_field_takes k.0.1 j.0.0 j.0.1 j.1 in
    record {
      line = lines.Head (Take tk.0 tj.0);
      first = refl;
      others = two_words bytes (numeral tk.0) k.0.1 (numeral tj.0) j.0.1 tk.1 tj.1 (ended_takes j.0.1 end.0 end.1);
      ordered = refl;
      read = sym (ok_is _ _ end.2) ∙ take_made k.0.0 j.0.0 tk.0 tj.0 tk.2 tj.2;
    }

state_takes : (bytes : List ℕ) (o : Option Line) → state_at bytes ≡ Ok o → Says (codes "state") bytes o
unfolding state_at
state_takes bytes o e =
    let a = bound_ok (position_field bytes) _ o e in
    let state = bound_ok (state_field a.0.1) _ o a.2 in
    let end = bound_ok (ended state.0.1) _ o state.2 in
    let ta = position_field_takes bytes a.0.0 a.0.1 a.1 in
    record {
      line = lines.Head (State ta.0 state.0.0);
      first = refl;
      others = two_words bytes (numeral ta.0) a.0.1 (state_word state.0.0) state.0.1 ta.1 (state_field_takes a.0.1 state.0.0 state.0.1 state.1) (ended_takes state.0.1 end.0 end.1);
      ordered = refl;
      read = sym (ok_is _ _ end.2) ∙ one_made (λ a. lines.Head (State a state.0.0)) fits_position a.0.0 ta.0 ta.2;
    }

half_takes : (bytes : List ℕ) (o : Option Line) → half_at bytes ≡ Ok o → Says (codes "half") bytes o
unfolding half_at
half_takes bytes o e =
    let x = bound_ok (var_field bytes) _ o e in
    let low = bound_ok (end_field x.0.1) _ o x.2 in
    let c = bound_ok (number_field low.0.1) _ o low.2 in
    let end = bound_ok (ended c.0.1) _ o c.2 in
    let tx = var_field_takes bytes x.0.0 x.0.1 x.1 in
    let tc = number_field_takes low.0.1 c.0.0 c.0.1 c.1 in
    record {
      line = lines.Head (Half tx.0 low.0.0 tc.0);
      first = refl;
      others = three_words bytes (var_text tx.0) x.0.1 (end_text low.0.0) low.0.1 (signed_numeral tc.0) c.0.1 tx.1 (end_field_takes x.0.1 low.0.0 low.0.1 low.1) tc.1 (ended_takes c.0.1 end.0 end.1);
      ordered = refl;
      read = sym (ok_is _ _ end.2) ∙ half_made low.0.0 x.0.0 c.0.0 tx.0 tc.0 tx.2 tc.2;
    }

-- a first line, which has no number, by the word of its version
record IsFirst (word : List ℕ) (l : Line) : Type 0 where
  first : first_word l ≡ codes "gastree"
  others : spaced (other_words l) ≡ spaced (word ∷ [])
  ordered : has_ordered_cut l ≡ true
  fits : fitted l ≡ Some l

version_takes : (word : List ℕ) (l : Line) → first_line word ≡ Some l → IsFirst word l
version_takes word l e = by (bytes_eq word (codes "1")) (bytes_eq word (codes "2")) refl refl e
  where
    is : (m : Line) (name : List ℕ) → bytes_eq word name ≡ true → IsFirst name m → m ≡ l → IsFirst word l
    is m name h f same = subst (IsFirst word) same (subst (λ (w : List ℕ). IsFirst w m) (sym ((bytes_eq-Decides word name).0 h)) f)

    by : (a b : Bool) → bytes_eq word (codes "1") ≡ a → bytes_eq word (codes "2") ≡ b → cond a (Some lines.First) (cond b (Some lines.FirstSixteenths) None) ≡ Some l → IsFirst word l
    by true b p q k = is lines.First (codes "1") p (record { first = refl; others = refl; ordered = refl; fits = refl }) (some_is _ _ k)
    by false true p q k = is lines.FirstSixteenths (codes "2") q (record { first = refl; others = refl; ordered = refl; fits = refl }) (some_is _ _ k)
    by false false p q k = absurd cc

first_takes : (bytes : List ℕ) (o : Option Line) → first_at bytes ≡ Ok o → Says (codes "gastree") bytes o
unfolding first_at
first_takes bytes o e =
    let w = bound_ok (text_field bytes) _ o e in
    let m = bound_ok (found (first_line w.0.0)) _ o w.2 in
    let end = bound_ok (ended w.0.1) _ o m.2 in
    let v = version_takes w.0.0 m.0 (found_ok (first_line w.0.0) m.0 m.1) in
    let text = one_word bytes w.0.0 w.0.1 (text_field_takes bytes w.0.0 w.0.1 w.1) (ended_takes w.0.1 end.0 end.1) in
    record { line = m.0; first = v.first; others = text ∙ sym v.others; ordered = v.ordered; read = sym (ok_is _ _ end.2) ∙ sym v.fits }

word_takes : (word : LineWord) (bytes : List ℕ) (o : Option Line) → after_word word bytes ≡ Ok o → Says (word_text word) bytes o
word_takes first.Lo bytes o e = step_takes true bytes o e
word_takes first.Hi bytes o e = step_takes false bytes o e
word_takes first.Close bytes o e = closing_takes bytes o e
word_takes first.Open bytes o e = lone_takes lines.LeftOpen bytes o refl refl refl e
word_takes first.Group bytes o e = group_takes bytes o e
word_takes first.Arc bytes o e = arc_takes bytes o e
word_takes first.Halve bytes o e = halve_takes bytes o e
word_takes first.Take bytes o e = take_takes bytes o e
word_takes first.State bytes o e = state_takes bytes o e
word_takes first.Half bytes o e = half_takes bytes o e
word_takes first.End bytes o e = lone_takes lines.End bytes o refl refl refl e
word_takes first.Gastree bytes o e = first_takes bytes o e

-- the line of numbers of any size that was read
pub record IsLine (bytes : List ℕ) (o : Option Line) : Type 0 where
  pub line : Line
  pub ordered : has_ordered_cut line ≡ true
  pub text : bytes ≡ joined (first_word line) (other_words line)
  pub read : o ≡ fitted line

pub line_takes : (bytes : List ℕ) (o : Option Line) → line_at bytes ≡ Ok o → IsLine bytes o
unfolding line_at
line_takes bytes o e =
    let w = bound_ok (found (first_word_at (take (word_len bytes) bytes))) _ o e in
    let s = word_takes w.0 (drop (word_len bytes) bytes) o w.2 in
    let front : take (word_len bytes) bytes ≡ first_word s.line = found_text word_text (take (word_len bytes) bytes) all_words w.0 (found_ok _ w.0 w.1) ∙ sym s.first in
    record {
      line = s.line;
      ordered = s.ordered;
      text = sym (take-append-drop (word_len bytes) bytes) ∙ ap (λ (k : List ℕ). k ++ drop (word_len bytes) bytes) front ∙ ap (λ (k : List ℕ). first_word s.line ++ k) s.others;
      read = s.read;
    }

-- ---- what isn't read is of no form

step_never : (low : Bool) (bytes : List ℕ) → NeverWide (step_at low bytes)
unfolding step_at
step_never low bytes =
    bound_never (var_field bytes) _ (var_never bytes) (λ x. bound_never (number_field x.1) _ (number_never x.1) (λ c. bound_never (rule_field c.1) _ (rule_never c.1) (λ r.
    bound_never (position_field r.1) _ (position_never r.1) (λ p. bound_never (ended p.1) _ (ended_never p.1) (λ _. tt)))))

empty_never : (bytes : List ℕ) → NeverWide (empty_at bytes)
unfolding empty_at
empty_never bytes = bound_never (var_field bytes) _ (var_never bytes) (λ x. bound_never (ended x.1) _ (ended_never x.1) (λ _. tt))

cut_never : (bytes : List ℕ) → NeverWide (cut_at bytes)
unfolding cut_at
cut_never bytes = bound_never (found (nodes_at bytes)) _ (found_never (nodes_at bytes)) (λ _. tt)

rule_closing_never : (word bytes : List ℕ) → NeverWide (rule_closing_at word bytes)
unfolding rule_closing_at
rule_closing_never word bytes =
    bound_never (found (rule_at word)) _ (found_never (rule_at word)) (λ r. bound_never (position_field bytes) _ (position_never bytes) (λ p. bound_never (ended p.1) _ (ended_never p.1) (λ _. tt)))

after_close_never : (word rest : List ℕ) → NeverWide (after_close word rest)
after_close_never word rest = by (bytes_eq word (codes "empty")) (bytes_eq word (codes "cut"))
  where
    by : (a b : Bool) → NeverWide (cond a (empty_at rest) (cond b (cut_at rest) (rule_closing_at word rest)))
    by true b = empty_never rest
    by false true = cut_never rest
    by false false = rule_closing_never word rest

closing_never : (bytes : List ℕ) → NeverWide (closing_at bytes)
unfolding closing_at
closing_never bytes = bound_never (text_field bytes) (λ word. after_close word.0 word.1) (text_never bytes) (λ word. after_close_never word.0 word.1)

lone_never : (l : Line) (bytes : List ℕ) → NeverWide (lone l bytes)
unfolding lone
lone_never l bytes = bound_never (ended bytes) _ (ended_never bytes) (λ _. tt)

position_line_never : (line : ℕ → Line) (bytes : List ℕ) → NeverWide (of_position line bytes)
unfolding of_position
position_line_never line bytes = bound_never (position_field bytes) _ (position_never bytes) (λ p. bound_never (ended p.1) _ (ended_never p.1) (λ _. tt))

halve_never : (bytes : List ℕ) → NeverWide (halve_at bytes)
unfolding halve_at
halve_never bytes = bound_never (var_field bytes) _ (var_never bytes) (λ x. bound_never (ended x.1) _ (ended_never x.1) (λ _. tt))

take_never : (bytes : List ℕ) → NeverWide (take_at bytes)
unfolding take_at
take_never bytes =
    bound_never (position_field bytes) _ (position_never bytes) (λ k. bound_never (position_field k.1) _ (position_never k.1) (λ j. bound_never (ended j.1) _ (ended_never j.1) (λ _. tt)))

state_never_wide : (bytes : List ℕ) → NeverWide (state_at bytes)
unfolding state_at
state_never_wide bytes =
    bound_never (position_field bytes) _ (position_never bytes) (λ a. bound_never (state_field a.1) _ (state_never a.1) (λ s. bound_never (ended s.1) _ (ended_never s.1) (λ _. tt)))

half_never : (bytes : List ℕ) → NeverWide (half_at bytes)
unfolding half_at
half_never bytes =
    bound_never (var_field bytes) _ (var_never bytes) (λ x. bound_never (end_field x.1) _ (end_never x.1) (λ low. bound_never (number_field low.1) _ (number_never low.1) (λ c.
    bound_never (ended c.1) _ (ended_never c.1) (λ _. tt))))

first_never : (bytes : List ℕ) → NeverWide (first_at bytes)
unfolding first_at
first_never bytes =
    bound_never (text_field bytes) _ (text_never bytes) (λ w. bound_never (found (first_line w.0)) _ (found_never (first_line w.0)) (λ l. bound_never (ended w.1) _ (ended_never w.1) (λ _. tt)))

word_never : (word : LineWord) (bytes : List ℕ) → NeverWide (after_word word bytes)
word_never first.Lo bytes = step_never true bytes
word_never first.Hi bytes = step_never false bytes
word_never first.Close bytes = closing_never bytes
word_never first.Open bytes = lone_never lines.LeftOpen bytes
word_never first.Group bytes = position_line_never lines.Group bytes
word_never first.Arc bytes = position_line_never lines.Arc bytes
word_never first.Halve bytes = halve_never bytes
word_never first.Take bytes = take_never bytes
word_never first.State bytes = state_never_wide bytes
word_never first.Half bytes = half_never bytes
word_never first.End bytes = lone_never lines.End bytes
word_never first.Gastree bytes = first_never bytes

pub line_never : (bytes : List ℕ) → NeverWide (line_at bytes)
unfolding line_at
line_never bytes =
    let word = first_word_at (take (word_len bytes) bytes) in
    bound_never (found word) _ (found_never word) (λ w. word_never w (drop (word_len bytes) bytes))
