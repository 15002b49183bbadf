-- A tree is closed exactly where its text has no line that leaves a box open.
use Rattle.std.proofs.Common.{◌≡◌, ℕ, ◌+◌, List, [], ◌∷◌, ◌++◌, None, refl, sym, ◌∙◌, append_assoc}
use Rattle.tree_cert.specs.declared.line.Line.{Line}
use Rattle.tree_cert.specs.declared.line.Line.TheVariants as lines
use Rattle.tree_cert.specs.Tree.{Branch, ByGroup, ByArc, ByHalves, branch_line, Tree, Children, Then, Shut, Left, Split, NoChild, Child, box_lines, child_lines, IsClosed, AreClosed}
use Rattle.tree_cert.specs.Texts.{open_from}
use Rattle.tree_cert.specs.Laws.{ClosedTreesHaveNoOpenLine}

branch_skipped : (n : ℕ) (f : Branch) (ls : List Line) → open_from n (branch_line f ∷ ls) ≡ open_from (n + 1) ls
branch_skipped n (ByGroup k) ls = refl
branch_skipped n (ByArc a) ls = refl
branch_skipped n (ByHalves x) ls = refl

-- no line of these is left open, whatever their numbers
abbrev NoneOpen : List Line → Type 0
NoneOpen ls = (n : ℕ) → open_from n ls ≡ None

mutual
  closed_box : (t : Tree) (n : ℕ) (rest : List Line) → open_from n (box_lines t ++ rest) ≡ None → IsClosed t × ((m : ℕ) × (open_from m rest ≡ None))
  closed_box (Then s t) n rest e = closed_box t (n + 1) rest e
  closed_box (Shut c) n rest e = (tt, (n + 1, e))
  closed_box Left n rest e = absurd cc
  closed_box (Split f ks) n rest e = closed_children ks (n + 1) rest (sym (branch_skipped n f (child_lines ks ++ rest)) ∙ e)

  closed_children : (ks : Children) (n : ℕ) (rest : List Line) → open_from n (child_lines ks ++ rest) ≡ None → AreClosed ks × ((m : ℕ) × (open_from m rest ≡ None))
  closed_children NoChild n rest e = (tt, (n, e))
  closed_children (Child h t ks) n rest e =
      let a = closed_box t (n + 1) (child_lines ks ++ rest) (rw (← append_assoc (box_lines t) (child_lines ks) rest) e) in
      let b = closed_children ks a.1.0 rest a.1.1 in
      ((a.0, b.0), b.1)

mutual
  box_none : (t : Tree) (rest : List Line) → IsClosed t → NoneOpen rest → NoneOpen (box_lines t ++ rest)
  box_none (Then s t) rest c h n = box_none t rest c h (n + 1)
  box_none (Shut d) rest c h n = h (n + 1)
  box_none Left rest c h n = absurd c
  box_none (Split f ks) rest c h n = branch_skipped n f (child_lines ks ++ rest) ∙ children_none ks rest c h (n + 1)

  children_none : (ks : Children) (rest : List Line) → AreClosed ks → NoneOpen rest → NoneOpen (child_lines ks ++ rest)
  children_none NoChild rest c h n = h n
  children_none (Child d t ks) rest c h n = rw (append_assoc (box_lines t) (child_lines ks) rest) (box_none t (child_lines ks ++ rest) c.0 (children_none ks rest c.1 h) (n + 1))

pub closed_trees_have_no_open_line : ClosedTreesHaveNoOpenLine
closed_trees_have_no_open_line l t = (λ c. box_none t (lines.End ∷ []) c (λ n. refl) 2, λ e. (closed_box t 2 (lines.End ∷ []) e).0)
