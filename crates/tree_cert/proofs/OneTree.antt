-- A text is that of one tree that passes, at most.
use Rattle.std.proofs.Common.{◌≡◌, List, [], ◌∷◌, ◌++◌, Option, Some, refl, sym, ap, subst, ◌∙◌, append_assoc}
use Rattle.tree_cert.specs.declared.line.Head.{Head}
use Rattle.tree_cert.specs.declared.line.Line.{Line}
use Rattle.tree_cert.specs.declared.line.Line.TheVariants as lines
use Rattle.tree_cert.specs.declared.line.Step.{Step}
use Rattle.tree_cert.specs.Tree.{Branch, ByGroup, ByArc, ByHalves, branch_line, Tree, Children, Then, Shut, Left, Split, NoChild, Child, box_lines, child_lines}
use Rattle.tree_cert.specs.TreeRules.{TreeRules, Passes, PassAll}
use Rattle.tree_cert.specs.Laws.{BoxesHaveOneTree, TextsHaveOneTree}
use Rattle.tree_cert.proofs.Options.{holds_some}

parts : (l m : Line) (x y : List Line) → l ∷ x ≡ m ∷ y → (l ≡ m) × (x ≡ y)
parts l m x y e = (cc, cc)

same_branch : (f h : Branch) → branch_line f ≡ branch_line h → f ≡ h
same_branch (ByGroup k) (ByGroup j) e = cc
same_branch (ByGroup k) (ByArc a) e = absurd cc
same_branch (ByGroup k) (ByHalves x) e = absurd cc
same_branch (ByArc a) (ByArc i) e = cc
same_branch (ByArc a) (ByGroup k) e = absurd cc
same_branch (ByArc a) (ByHalves x) e = absurd cc
same_branch (ByHalves x) (ByHalves y) e = cc
same_branch (ByHalves x) (ByGroup k) e = absurd cc
same_branch (ByHalves x) (ByArc a) e = absurd cc

-- the line of a branch is none of these
no_step : (f : Branch) (s : Step) → branch_line f ≡ lines.Step s → ⊥
no_step (ByGroup k) s e = cc
no_step (ByArc a) s e = cc
no_step (ByHalves x) s e = cc

no_close : (f : Branch) (c : _) → branch_line f ≡ lines.Close c → ⊥
no_close (ByGroup k) c e = cc
no_close (ByArc a) c e = cc
no_close (ByHalves x) c e = cc

no_open : (f : Branch) → branch_line f ≡ lines.LeftOpen → ⊥
no_open (ByGroup k) e = cc
no_open (ByArc a) e = cc
no_open (ByHalves x) e = cc

-- two trees with what follows them
abbrev Same : Tree → Tree → List Line → List Line → Type 0
Same t u r s = (t ≡ u) × (r ≡ s)

abbrev SameChildren : Children → Children → List Line → List Line → Type 0
SameChildren ks js r s = (ks ≡ js) × (r ≡ s)

-- what the rules give is one thing
one_some : {A : Type 0} (o p : Option A) (x y : A) → o ≡ p → o ≡ Some x → p ≡ Some y → x ≡ y
one_some o p x y e i j = cc

module _ (g : TreeRules) where
  mutual
    same_box : (t u : Tree) (b : g.Box) (r s : List Line) → Passes g t b → Passes g u b → box_lines t ++ r ≡ box_lines u ++ s → Same t u r s
    same_box (Then x t) (Then y u) b r s p q e =
        let a = parts (lines.Step x) (lines.Step y) (box_lines t ++ r) (box_lines u ++ s) e in
        let same : x ≡ y = let h = a.0 in cc in
        let hp = holds_some (g.step b x) (λ next. Passes g t next) p in
        let hq = holds_some (g.step b y) (λ next. Passes g u next) q in
        let next = one_some (g.step b x) (g.step b y) hp.0 hq.0 (ap (g.step b) same) hp.1 hq.1 in
        let rest = same_box t u hq.0 r s (subst (λ (n : g.Box). Passes g t n) next hp.2) hq.2 a.1 in
        (ap (λ (z : Step). Then z t) same ∙ ap (Then y) rest.0, rest.1)
    same_box (Then x t) (Shut c) b r s p q e = absurd cc
    same_box (Then x t) Left b r s p q e = absurd cc
    same_box (Then x t) (Split f ks) b r s p q e = absurd (no_step f x (sym (parts (lines.Step x) (branch_line f) (box_lines t ++ r) (child_lines ks ++ s) e).0))
    same_box (Shut c) (Shut d) b r s p q e =
        let a = parts (lines.Close c) (lines.Close d) r s e in
        let same : c ≡ d = let h = a.0 in cc in
        (ap Shut same, a.1)
    same_box (Shut c) (Then x t) b r s p q e = absurd cc
    same_box (Shut c) Left b r s p q e = absurd cc
    same_box (Shut c) (Split f ks) b r s p q e = absurd (no_close f c (sym (parts (lines.Close c) (branch_line f) r (child_lines ks ++ s) e).0))
    same_box Left Left b r s p q e = (refl, (parts lines.LeftOpen lines.LeftOpen r s e).1)
    same_box Left (Then x t) b r s p q e = absurd cc
    same_box Left (Shut c) b r s p q e = absurd cc
    same_box Left (Split f ks) b r s p q e = absurd (no_open f (sym (parts lines.LeftOpen (branch_line f) r (child_lines ks ++ s) e).0))
    same_box (Split f ks) (Split h js) b r s p q e =
        let a = parts (branch_line f) (branch_line h) (child_lines ks ++ r) (child_lines js ++ s) e in
        let same : f ≡ h = same_branch f h a.0 in
        let hp = holds_some (g.branch b f) (λ w. PassAll g ks w) p in
        let hq = holds_some (g.branch b h) (λ w. PassAll g js w) q in
        let next = one_some (g.branch b f) (g.branch b h) hp.0 hq.0 (ap (g.branch b) same) hp.1 hq.1 in
        let rest = same_children ks js hq.0 r s (subst (λ (w : g.Wait). PassAll g ks w) next hp.2) hq.2 a.1 in
        (ap (λ (z : Branch). Split z ks) same ∙ ap (Split h) rest.0, rest.1)
    same_box (Split f ks) (Then x t) b r s p q e = absurd (no_step f x (parts (branch_line f) (lines.Step x) (child_lines ks ++ r) (box_lines t ++ s) e).0)
    same_box (Split f ks) (Shut c) b r s p q e = absurd (no_close f c (parts (branch_line f) (lines.Close c) (child_lines ks ++ r) s e).0)
    same_box (Split f ks) Left b r s p q e = absurd (no_open f (parts (branch_line f) lines.LeftOpen (child_lines ks ++ r) s e).0)

    same_children : (ks js : Children) (w : g.Wait) (r s : List Line) → PassAll g ks w → PassAll g js w → child_lines ks ++ r ≡ child_lines js ++ s → SameChildren ks js r s
    same_children NoChild NoChild w r s p q e = (refl, e)
    same_children NoChild (Child h u js) w r s p q e = let i = q.0 in absurd cc
    same_children (Child h t ks) NoChild w r s p q e = let i = p.0 in absurd cc
    same_children (Child h t ks) (Child i u js) w r s p q e =
        let a = parts (lines.Head h) (lines.Head i) ((box_lines t ++ child_lines ks) ++ r) ((box_lines u ++ child_lines js) ++ s) e in
        let same : h ≡ i = let x = a.0 in cc in
        let hp = holds_some (g.head w h) (λ n. Passes g t n.0 × PassAll g ks n.1) p.1 in
        let hq = holds_some (g.head w i) (λ n. Passes g u n.0 × PassAll g js n.1) q.1 in
        let next = one_some (g.head w h) (g.head w i) hp.0 hq.0 (ap (g.head w) same) hp.1 hq.1 in
        let moved = subst (λ (n : g.Box × g.Wait). Passes g t n.0 × PassAll g ks n.1) next hp.2 in
        let text : box_lines t ++ (child_lines ks ++ r) ≡ box_lines u ++ (child_lines js ++ s) =
        sym (append_assoc (box_lines t) (child_lines ks) r) ∙ a.1 ∙ append_assoc (box_lines u) (child_lines js) s in
        let first = same_box t u hq.0.0 (child_lines ks ++ r) (child_lines js ++ s) moved.0 hq.2.0 text in
        let rest = same_children ks js hq.0.1 r s moved.1 hq.2.1 first.1 in
        (ap (λ (z : Head). Child z t ks) same ∙ ap (λ (z : Tree). Child i z ks) first.0 ∙ ap (Child i u) rest.0, rest.1)

  pub boxes_have_one_tree : BoxesHaveOneTree g
  boxes_have_one_tree b first t u p q e = (same_box t u b (lines.End ∷ []) (lines.End ∷ []) p q (parts first first (box_lines t ++ lines.End ∷ []) (box_lines u ++ lines.End ∷ []) e).1).0

  pub texts_have_one_tree : TextsHaveOneTree g
  texts_have_one_tree ls t u a b =
      let e = parts a.first b.first (box_lines t ++ lines.End ∷ []) (box_lines u ++ lines.End ∷ []) (sym a.lines ∙ b.lines) in
      let p = holds_some (g.opening a.first) (Passes g t) a.passes in
      let q = holds_some (g.opening b.first) (Passes g u) b.passes in
      let same = one_some (g.opening a.first) (g.opening b.first) p.0 q.0 (ap g.opening e.0) p.1 q.1 in
      boxes_have_one_tree q.0 b.first t u (subst (λ (n : g.Box). Passes g t n) same p.2) q.2 (ap (λ (ls : List Line). b.first ∷ ls) e.1)
