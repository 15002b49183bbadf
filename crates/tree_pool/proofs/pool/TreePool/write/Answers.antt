use Rattle.std.proofs.Common.{ℕ, List, [], ◌∷◌, ◌++◌, Some, sym, ap, subst, ◌∙◌}
use Rattle.tree_cert.specs.declared.line.Line.{Line}
use Rattle.tree_cert.specs.declared.line.Line.TheVariants as lines
use Rattle.tree_cert.specs.Tree.{Tree, box_lines, tree_lines}
use Rattle.tree_cert.specs.Spelling.{spelling, AreLines}
use Rattle.tree_pool.specs.declared.node.Node.{Node}
use Rattle.tree_pool.specs.Rows.{Row, IsMap}
use Rattle.tree_pool.specs.Shown.{works, Shows}
use Rattle.tree_pool.specs.Lines.{Pending, Writes}
use Rattle.tree_pool.specs.Nodes.{rows_of}
use Rattle.tree_pool.proofs.Onward.{root_pending}
use Rattle.tree_pool.proofs.Texts.{writes_one, whole_text}
use Rattle.tree_pool.proofs.pool.TreePool.write.Goals as goal

-- the lines of all boxes, between a first line and the last, are the text of the tree that the rows show
text_of_rows : (rows : List Row) → IsMap rows → (a b c : List ℕ) (first : Line) → Writes [] a (first ∷ []) → ((ls : List Line) → Pending rows (Some 0) ls → Writes a b ls) → Writes b c (lines.End ∷ [])
    → (t : Tree) → Shows (works rows) [] t → AreLines c (tree_lines first t)
text_of_rows rows map a b c first start boxes last t shows = whole_text a b c first t start (boxes (box_lines t) (root_pending rows map t shows)) last

pub returns : goal.returns
returns c t shows =
    text_of_rows (rows_of c.self.inside.places c.self.inside.nodes.items) c.self.invariant.map c.write_line.new.out c.put_boxes.new.out c.write_line-2.new.out c.args.first.now
    (writes_one [] c.write_line.new.out c.args.first.now (c.in_ok-write_line.ensures.ok ∙ ap (λ (l : List ℕ). l ++ spelling c.args.first.now) c.new-out.ensures) c.in_ok-write_line.ensures.spelled)
    (subst (λ (ns : List Node). (ls : List Line) → Pending (rows_of c.self.inside.places ns) (Some 0) ls → Writes c.write_line.new.out c.put_boxes.new.out ls) c.as_slice.ensures.value c.in_ok-put_boxes.ensures)
    (writes_one c.put_boxes.new.out c.write_line-2.new.out lines.End c.in_ok-write_line-2.ensures.ok c.in_ok-write_line-2.ensures.spelled)
    t (subst (λ (rows : List Row). Shows (works rows) [] t) (sym c.self.view_is) shows)
