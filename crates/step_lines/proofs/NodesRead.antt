-- Nodes that are read one after the other.
use Rattle.std.proofs.Common.{◌≡◌, ◌<◌, ◌≤◌, ◌+◌, ℕ, List, [], ◌∷◌, ◌++◌, length, map, true, refl, sym, ap, ◌∙◌, arith, append_assoc}
use Rattle.std.specs.Prelude.{nat_lt, codes}
use Rattle.std.specs.List.{list_all}
use Rattle.std.proofs.lemmas.Bool.{and_parts}
use Rattle.std.proofs.lemmas.Bool.Decides.{nat_tests}
use Rattle.std.proofs.lemmas.List.{append-nil, length-append}
use Rattle.line_text.specs.Numerals.{numeral}
use Rattle.line_text.specs.Long.{fits_position}
use Rattle.tree_cert.specs.Spelling.{ascends_after, is_node_list}
use Rattle.step_lines.specs.Fronts.{spaced, AreNodesBefore, IsCutBefore}

-- the nodes so far: the space before the rest counts as read, and each number from `least` on may come next
pub record AreNodesSoFar (bytes nodes rest : List ℕ) (least : ℕ) : Type 0 where
  pub ordered : (n : ℕ) → least ≤ n → is_node_list (nodes ++ n ∷ []) ≡ true
  pub text : 32 ∷ bytes ≡ spaced (map numeral nodes) ++ 32 ∷ rest
  pub fits : list_all fits_position nodes ≡ true

ascends_more : (k : ℕ) (ns : List ℕ) (m n : ℕ) → m < n → ascends_after k (ns ++ m ∷ []) ≡ true → ascends_after k ((ns ++ m ∷ []) ++ n ∷ []) ≡ true
ascends_more k [] m n lt e =
    let p = and_parts (nat_lt k m) true e in
    let below : nat_lt m n ≡ true = grind (arith, nat_tests) in
    rw (p.0, below) refl
ascends_more k (x ∷ ns) m n lt e =
    let p = and_parts (nat_lt k x) (ascends_after x (ns ++ m ∷ [])) e in
    rw p.0 (ascends_more x ns m n lt p.1)

list_more : (ns : List ℕ) (m n : ℕ) → m < n → is_node_list (ns ++ m ∷ []) ≡ true → is_node_list ((ns ++ m ∷ []) ++ n ∷ []) ≡ true
list_more [] m n lt e = let below : nat_lt m n ≡ true = grind (arith, nat_tests) in rw below refl
list_more (x ∷ ns) m n lt e = ascends_more x ns m n lt e

fits_more : (ns : List ℕ) (n : ℕ) → list_all fits_position ns ≡ true → fits_position n ≡ true → list_all fits_position (ns ++ n ∷ []) ≡ true
fits_more [] n e f = rw f refl
fits_more (x ∷ ns) n e f =
    let p = and_parts (fits_position x) (list_all fits_position ns) e in
    rw p.0 (fits_more ns n p.1 f)

spaced_more : (ns : List ℕ) (n : ℕ) → spaced (map numeral (ns ++ n ∷ [])) ≡ spaced (map numeral ns) ++ 32 ∷ numeral n
spaced_more [] n = simp append-nil refl
spaced_more (x ∷ ns) n = ap (λ (r : List ℕ). (32 ∷ numeral x) ++ r) (spaced_more ns n) ∙ sym (append_assoc (32 ∷ numeral x) (spaced (map numeral ns)) (32 ∷ numeral n))

pub none_so_far : (bytes : List ℕ) → AreNodesSoFar bytes [] bytes 0
none_so_far bytes = record { ordered = λ n le. refl; text = refl; fits = refl }

-- one node more, and the byte behind it
text_more : (bytes nodes rest after : List ℕ) (n stop : ℕ) → 32 ∷ bytes ≡ spaced (map numeral nodes) ++ 32 ∷ rest → rest ≡ numeral n ++ stop ∷ after
    → 32 ∷ bytes ≡ spaced (map numeral (nodes ++ n ∷ [])) ++ stop ∷ after
text_more bytes nodes rest after n stop e f =
    e ∙ ap (λ (r : List ℕ). spaced (map numeral nodes) ++ 32 ∷ r) f
    ∙ sym (append_assoc (spaced (map numeral nodes)) (32 ∷ numeral n) (stop ∷ after))
    ∙ ap (λ (r : List ℕ). r ++ stop ∷ after) (sym (spaced_more nodes n))

module _ (bytes nodes rest after : List ℕ) (least n : ℕ) (so : AreNodesSoFar bytes nodes rest least) (le : least ≤ n) (fits : fits_position n ≡ true) where
  pub node_more : rest ≡ numeral n ++ 32 ∷ after → AreNodesSoFar bytes (nodes ++ n ∷ []) after (n + 1)
  node_more e = record {
    ordered = λ m h. list_more nodes n m (omega arith) (so.ordered n le);
    text = text_more bytes nodes rest after n 32 so.text e;
    fits = fits_more nodes n so.fits fits;
  }

  pub node_last : rest ≡ numeral n ++ 10 ∷ after → AreNodesBefore bytes (nodes ++ n ∷ []) after
  node_last e = record {
    ordered = so.ordered n le;
    text = text_more bytes nodes rest after n 10 so.text e;
    fits = fits_more nodes n so.fits fits;
  }

pub shorter : (rest after : List ℕ) (n stop : ℕ) → rest ≡ numeral n ++ stop ∷ after → length after < length rest
shorter rest after n stop e = omega (arith, ap length e, length-append (numeral n) (stop ∷ after))

-- after the words of a closing by a cut
pub cut_text : (bytes nodes rest tail : List ℕ) → bytes ≡ codes "close cut " ++ tail → AreNodesBefore tail nodes rest → IsCutBefore bytes nodes rest
cut_text bytes nodes rest tail e are = record {
  ordered = are.ordered;
  text = e ∙ ap (λ (r : List ℕ). codes "close cut" ++ r) are.text ∙ sym (append_assoc (codes "close cut" ++ spaced (map numeral nodes)) (10 ∷ []) rest ∙ append_assoc (codes "close cut") (spaced (map numeral nodes)) (10 ∷ rest));
  fits = are.fits;
}
