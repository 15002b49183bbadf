-- What is written line by line.
use Rattle.std.proofs.Common.{◌≡◌, ℕ, true, List, [], ◌∷◌, ◌++◌, refl, sym, ap, ◌∙◌, append_assoc}
use Rattle.std.specs.List.{flat_map, list_all}
use Rattle.std.proofs.lemmas.Grind.{flat_map-append}
use Rattle.std.proofs.lemmas.List.{append-nil}
use Rattle.std.proofs.lemmas.Bool.{and_parts, and_from}
use Rattle.tree_cert.specs.declared.line.Step.{Step}
use Rattle.tree_cert.specs.declared.line.Line.{Line}
use Rattle.tree_cert.specs.declared.line.Line.TheVariants as lines
use Rattle.tree_cert.specs.Tree.{Branch, ByGroup, ByArc, ByHalves, Tree, branch_line, tree_lines, box_lines}
use Rattle.tree_cert.specs.Spelling.{spelling, is_spelled, has_ordered_cut, AreLines}
use Rattle.tree_pool.specs.Rows.{Standing, Waiting, Held, Quit, Shuts, Splits}
use Rattle.tree_pool.specs.Shown.{end_of}
use Rattle.tree_pool.specs.Calls.{HasOrderedCut}
use Rattle.tree_pool.specs.Lines.{step_lines, end_line, Writes}

spelled_both : (xs ys : List Line) → list_all is_spelled xs ≡ true → list_all is_spelled ys ≡ true → list_all is_spelled (xs ++ ys) ≡ true
spelled_both [] ys h g = g
spelled_both (x ∷ xs) ys h g =
    let p = and_parts (is_spelled x) (list_all is_spelled xs) h in
    and_from (is_spelled x) (list_all is_spelled (xs ++ ys)) p.0 (spelled_both xs ys p.1 g)

pub writes_none : (a : List ℕ) → Writes a a []
writes_none a = record { text = sym (append-nil a); spelled = refl }

pub writes_one : (a b : List ℕ) (l : Line) → b ≡ a ++ spelling l → is_spelled l ≡ true → Writes a b (l ∷ [])
writes_one a b l e s = record { text = e ∙ ap (λ (k : List ℕ). a ++ k) (sym (append-nil (spelling l))); spelled = and_from (is_spelled l) true s refl }

pub writes_both : (a b c : List ℕ) (xs ys : List Line) → Writes a b xs → Writes b c ys → Writes a c (xs ++ ys)
writes_both a b c xs ys h g =
    record {
      text = g.text ∙ ap (λ (k : List ℕ). k ++ flat_map spelling ys) h.text ∙ append_assoc a (flat_map spelling xs) (flat_map spelling ys) ∙ ap (λ (k : List ℕ). a ++ k) (sym (flat_map-append spelling xs ys));
      spelled = spelled_both xs ys h.spelled g.spelled;
    }

steps_text : (xs : List Step) → flat_map spelling (step_lines xs) ≡ flat_map (λ step. spelling (lines.Step step)) xs
steps_text [] = refl
steps_text (x ∷ xs) = ap (λ (k : List ℕ). spelling (lines.Step x) ++ k) (steps_text xs)

steps_spelled : (xs : List Step) → list_all (λ step. is_spelled (lines.Step step)) xs ≡ true → list_all is_spelled (step_lines xs) ≡ true
steps_spelled [] h = refl
steps_spelled (x ∷ xs) h =
    let p = and_parts (is_spelled (lines.Step x)) (list_all (λ step. is_spelled (lines.Step step)) xs) h in
    and_from (is_spelled (lines.Step x)) (list_all is_spelled (step_lines xs)) p.0 (steps_spelled xs p.1)

pub writes_steps : (a b : List ℕ) (xs : List Step) → b ≡ a ++ flat_map (λ step. spelling (lines.Step step)) xs → list_all (λ step. is_spelled (lines.Step step)) xs ≡ true → Writes a b (step_lines xs)
writes_steps a b xs e s = record { text = e ∙ ap (λ (k : List ℕ). a ++ k) (sym (steps_text xs)); spelled = steps_spelled xs s }

-- a first line, those of the boxes, and the last line are the text of a tree
pub whole_text : (a b c : List ℕ) (first : Line) (t : Tree) → Writes [] a (first ∷ []) → Writes a b (box_lines t) → Writes b c (lines.End ∷ []) → AreLines c (tree_lines first t)
whole_text a b c first t h g k =
    let z = writes_both [] b c (first ∷ box_lines t) (lines.End ∷ []) (writes_both [] a b (first ∷ []) (box_lines t) h g) k in
    record { spelled = z.spelled; text = z.text }

branch_ordered : (f : Branch) → has_ordered_cut (branch_line f) ≡ true
branch_ordered (ByGroup k) = refl
branch_ordered (ByArc a) = refl
branch_ordered (ByHalves x) = refl

-- the line that ends a box can be spelled
pub end_ordered : (s : Standing) → HasOrderedCut s → has_ordered_cut (end_line (end_of s)) ≡ true
end_ordered Waiting h = refl
end_ordered Held h = refl
end_ordered Quit h = refl
end_ordered (Shuts c) h = h
end_ordered (Splits f first count) h = branch_ordered f
