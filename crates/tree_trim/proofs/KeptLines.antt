-- The lines that aren't left out, one after the other.
use Rattle.std.proofs.Common.{◌≡◌, ℕ, zero, suc, ◌+◌, ◌<◌, ◌≤◌, Bool, true, false, cond, List, [], ◌∷◌, ◌++◌, length, take, get_or, refl, sym, ap, ◌∙◌, subst, arith, append_assoc}
use Rattle.std.specs.List.{flat_map, list_all}
use Rattle.std.proofs.lemmas.Bool.{and_parts, and_from}
use Rattle.std.proofs.lemmas.Grind.{flat_map-append}
use Rattle.std.proofs.lemmas.List.{append-nil, take_all}
use Rattle.tree_cert.specs.declared.line.Line.{Line}
use Rattle.tree_cert.specs.Spelling.{spelling, is_spelled, has_ordered_cut, fits_line, AreLines}
use Rattle.tree_trim.specs.Kept.{kept_of}

-- what one line more adds
abbrev pub unless : Bool → Line → List Line
unless out l = cond out [] (l ∷ [])

kept_first : (l : Line) (out : Bool) (xs : List Line) → cond out xs (l ∷ xs) ≡ unless out l ++ xs
kept_first l true xs = refl
kept_first l false xs = refl

pub kept_more : (ls : List Line) (marks : List Bool) (i : ℕ) (l : Line) (out : Bool) → length marks ≡ length ls → i < length ls → l ≡ get_or ls i l → out ≡ get_or marks i false
    → kept_of (take (i + 1) ls) (take (i + 1) marks) ≡ kept_of (take i ls) (take i marks) ++ unless out l
kept_more [] marks i l out e h is at = absurd (omega arith)
kept_more (x ∷ ls) [] i l out e h is at = absurd (omega arith)
kept_more (x ∷ ls) (m ∷ marks) zero l out e h is at = subst (λ (z : Line). kept_of (z ∷ []) (m ∷ []) ≡ unless out l) is (subst (λ (z : Bool). kept_of (l ∷ []) (z ∷ []) ≡ unless out l) at (one out))
  where
    one : (b : Bool) → kept_of (l ∷ []) (b ∷ []) ≡ unless b l
    one true = refl
    one false = refl
kept_more (x ∷ ls) (m ∷ marks) (suc i) l out e h is at =
    let rest = kept_more ls marks i l out (omega arith) (omega arith) is at in
    let k : suc i + 1 ≡ suc (i + 1) = omega arith in
    rw k
    (kept_first x m (kept_of (take (i + 1) ls) (take (i + 1) marks)) ∙ ap (λ z. unless m x ++ z) rest ∙ sym (append_assoc (unless m x) (kept_of (take i ls) (take i marks)) (unless out l))
    ∙ ap (λ z. z ++ unless out l) (sym (kept_first x m (kept_of (take i ls) (take i marks)))))

-- ---- the text so far
pub record Written (out : List ℕ) (ls : List Line) (marks : List Bool) (i : ℕ) : Type 0 where
  pub text : out ≡ flat_map spelling (kept_of (take i ls) (take i marks))
  pub spelled : list_all is_spelled (kept_of (take i ls) (take i marks)) ≡ true

pub none_written : (ls : List Line) (marks : List Bool) → Written [] ls marks 0
none_written ls marks = record { text = refl; spelled = refl }

all_more : (xs : List Line) (l : Line) → list_all is_spelled xs ≡ true → is_spelled l ≡ true → list_all is_spelled (xs ++ l ∷ []) ≡ true
all_more [] l h s = rw s refl
all_more (x ∷ xs) l h s = let p = and_parts (is_spelled x) (list_all is_spelled xs) h in and_from (is_spelled x) (list_all is_spelled (xs ++ l ∷ [])) p.0 (all_more xs l p.1 s)

pub line_written : (before after : List ℕ) (ls : List Line) (marks : List Bool) (i : ℕ) (l : Line) → Written before ls marks i → length marks ≡ length ls → i < length ls → l ≡ get_or ls i l → false ≡ get_or marks i false
    → after ≡ before ++ spelling l → is_spelled l ≡ true → Written after ls marks (i + 1)
line_written before after ls marks i l w e h is at text spelled =
    let more = kept_more ls marks i l false e h is at in
    record {
      text = text ∙ ap (λ z. z ++ spelling l) w.text ∙ ap (λ z. flat_map spelling (kept_of (take i ls) (take i marks)) ++ z) (sym (append-nil (spelling l)))
          ∙ sym (flat_map-append spelling (kept_of (take i ls) (take i marks)) (l ∷ [])) ∙ ap (flat_map spelling) (sym more);
      spelled = ap (list_all is_spelled) more ∙ all_more (kept_of (take i ls) (take i marks)) l w.spelled spelled;
    }

pub line_passed : (out : List ℕ) (ls : List Line) (marks : List Bool) (i : ℕ) (l : Line) → Written out ls marks i → length marks ≡ length ls → i < length ls → l ≡ get_or ls i l → true ≡ get_or marks i false → Written out ls marks (i + 1)
line_passed out ls marks i l w e h is at =
    let more : kept_of (take (i + 1) ls) (take (i + 1) marks) ≡ kept_of (take i ls) (take i marks) = kept_more ls marks i l true e h is at ∙ append-nil (kept_of (take i ls) (take i marks)) in
    record { text = w.text ∙ ap (flat_map spelling) (sym more); spelled = ap (list_all is_spelled) more ∙ w.spelled }

pub all_written : (out : List ℕ) (ls : List Line) (marks : List Bool) (i : ℕ) → Written out ls marks i → length marks ≡ length ls → length ls ≤ i → AreLines out (kept_of ls marks)
all_written out ls marks i w e h =
    let x : take i ls ≡ ls = take_all i ls h in
    let y : take i marks ≡ marks = take_all i marks (omega arith) in
    record {
      spelled = subst (λ m. list_all is_spelled (kept_of ls m) ≡ true) y (subst (λ k. list_all is_spelled (kept_of k (take i marks)) ≡ true) x w.spelled);
      text = subst (λ m. out ≡ flat_map spelling (kept_of ls m)) y (subst (λ k. out ≡ flat_map spelling (kept_of k (take i marks))) x w.text);
    }

-- ---- the lines of a text may be written
pub ordered_lines : (ls : List Line) → list_all is_spelled ls ≡ true → list_all has_ordered_cut ls ≡ true
ordered_lines [] h = refl
ordered_lines (l ∷ ls) h =
    let p = and_parts (is_spelled l) (list_all is_spelled ls) h in
    and_from (has_ordered_cut l) (list_all has_ordered_cut ls) (and_parts (fits_line l) (has_ordered_cut l) p.0).1 (ordered_lines ls p.1)

pub ordered_at : (ls : List Line) (i : ℕ) (l : Line) → list_all has_ordered_cut ls ≡ true → i < length ls → l ≡ get_or ls i l → has_ordered_cut l ≡ true
ordered_at [] i l h k is = absurd (omega arith)
ordered_at (x ∷ ls) zero l h k is = rw is (and_parts (has_ordered_cut x) (list_all has_ordered_cut ls) h).0
ordered_at (x ∷ ls) (suc i) l h k is = ordered_at ls i l (and_parts (has_ordered_cut x) (list_all has_ordered_cut ls) h).1 (omega arith) is
