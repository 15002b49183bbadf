-- Lines are walked to the end exactly where they are the text of a tree that passes.
use Rattle.std.proofs.Common.{◌≡◌, Bool, true, false, cond, List, [], ◌∷◌, ◌++◌, map, Ok, refl, sym, ap, subst, ◌∙◌, append_assoc}
use Rattle.tree_cert.specs.declared.fault.FaultKind.TheVariants.{NotTree, BadStep, WrongBranch}
use Rattle.tree_cert.specs.declared.line.Line.{Line}
use Rattle.tree_cert.specs.declared.line.Line.TheVariants as lines
use Rattle.tree_cert.specs.Tree.{Branch, ByGroup, ByArc, ByHalves, branch_line, Tree, Children, Then, Shut, Left, Split, NoChild, Child, box_lines, child_lines}
use Rattle.tree_cert.specs.TreeRules.{TreeRules, Passes, PassAll, IsTextOf}
use Rattle.tree_cert.specs.Place.{Place, Start, Inside, Expecting, Whole, Ended, after, read, read_first, read_branch, read_inside, read_expected, read_whole, read_ended}
use Rattle.tree_cert.specs.Texts.{walk}
use Rattle.tree_cert.specs.Laws.{WalksAreTexts}
use Rattle.tree_cert.proofs.Options.{holds_some, some_holds, allowed_ok, bind_ok, cond_ok}

module _ (g : TreeRules) where
  -- ---- the text of a tree that passes is walked through

  branch_read : (b : g.Box) (ws : List g.Wait) (f : Branch) → read_inside g b ws (branch_line f) ≡ read_branch g b ws f
  branch_read b ws (ByGroup k) = refl
  branch_read b ws (ByArc a) = refl
  branch_read b ws (ByHalves x) = refl

  mutual
    pub walk_box : (t : Tree) (b : g.Box) (ws : List g.Wait) (rest : List Line) → Passes g t b → walk g (Inside b ws) (map Ok (box_lines t ++ rest)) ≡ walk g (after g ws) (map Ok rest)
    walk_box (Then s t) b ws rest p =
        let h = holds_some (g.step b s) (λ next. Passes g t next) p in
        rw h.1 (walk_box t h.0 ws rest h.2)
    walk_box (Shut c) b ws rest p = rw p refl
    walk_box Left b ws rest p = refl
    walk_box (Split f ks) b ws rest p =
        let h = holds_some (g.branch b f) (λ w. PassAll g ks w) p in
        rw (branch_read b ws f, h.1) (walk_children ks h.0 ws rest h.2)

    pub walk_children : (ks : Children) (w : g.Wait) (ws : List g.Wait) (rest : List Line) → PassAll g ks w → walk g (after g (w ∷ ws)) (map Ok (child_lines ks ++ rest)) ≡ walk g (after g ws) (map Ok rest)
    walk_children NoChild w ws rest p = rw p refl
    walk_children (Child h t ks) w ws rest p =
        let q = holds_some (g.head w h) (λ next. Passes g t next.0 × PassAll g ks next.1) p.1 in
        rw (p.0, q.1, append_assoc (box_lines t) (child_lines ks) rest) (walk_box t q.0.0 (q.0.1 ∷ ws) (child_lines ks ++ rest) q.2.0 ∙ walk_children ks q.0.1 ws rest q.2.1)

  pub walk_tree : (t : Tree) (b : g.Box) → Passes g t b → walk g (Inside b []) (map Ok (box_lines t ++ lines.End ∷ [])) ≡ Ok Ended
  walk_tree t b p = walk_box t b [] (lines.End ∷ []) p

  pub walk_text : (ls : List Line) (t : Tree) → IsTextOf g ls t → walk g Start (map Ok ls) ≡ Ok Ended
  walk_text ls t is =
      let h = holds_some (g.opening is.first) (Passes g t) is.passes in
      rw is.lines (rw h.1 (walk_tree t h.0 h.2))

  -- ---- what is walked to the end is the text of a tree that passes

  -- the lines that are left below branches which wait
  abbrev pub Rest : List g.Wait → List Line → Type 0
  Rest [] ls = ls ≡ lines.End ∷ []
  Rest (w ∷ ws) ls = (ks : Children) × (rest : List Line) × PassAll g ks w × (ls ≡ child_lines ks ++ rest) × Rest ws rest

  -- the lines that are left at a place
  abbrev pub Tells : Place g → List Line → Type 0
  Tells Start ls = (t : Tree) × IsTextOf g ls t
  Tells (Inside b ws) ls = (t : Tree) × (rest : List Line) × Passes g t b × (ls ≡ box_lines t ++ rest) × Rest ws rest
  Tells (Expecting w ws) ls = g.over w ≡ false → Rest (w ∷ ws) ls
  Tells Whole ls = ls ≡ lines.End ∷ []
  Tells Ended ls = ls ≡ []

  after_over : (w : g.Wait) (ws : List g.Wait) (ls : List Line) (b : Bool) → g.over w ≡ b → (Tells (after g ws) ls → Rest ws ls) → Tells (cond b (after g ws) (Expecting w ws)) ls → Rest (w ∷ ws) ls
  after_over w ws ls true e below k = (NoChild, ls, e, refl, below k)
  after_over w ws ls false e below k = k e

  after_tells : (ws : List g.Wait) (ls : List Line) → Tells (after g ws) ls → Rest ws ls
  after_tells [] ls h = h
  after_tells (w ∷ ws) ls h = after_over w ws ls (g.over w) refl (after_tells ws ls) h

  -- the lines at a place that is another one too
  carried : (p q : Place g) (ls : List Line) → p ≡ q → Tells q ls → Tells p ls
  carried p q ls e h = subst (λ (k : Place g). Tells k ls) (sym e) h

  tells_branch : (b : g.Box) (ws : List g.Wait) (f : Branch) (q : Place g) (ls : List Line) → read_branch g b ws f ≡ Ok q → Tells q ls → Tells (Inside b ws) (branch_line f ∷ ls)
  tells_branch b ws f q ls e h =
      let r = allowed_ok (g.branch b f) WrongBranch (λ w. after g (w ∷ ws)) q e in
      let below : Rest (r.0 ∷ ws) ls = after_tells (r.0 ∷ ws) ls (carried _ q ls r.2 h) in
      (Split f below.0, below.1, some_holds (g.branch b f) (λ w. PassAll g below.0 w) r.0 r.1 below.2, ap (λ (k : List Line). branch_line f ∷ k) below.3, below.4)

  tells_inside : (b : g.Box) (ws : List g.Wait) (l : Line) (q : Place g) (ls : List Line) → read_inside g b ws l ≡ Ok q → Tells q ls → Tells (Inside b ws) (l ∷ ls)
  tells_inside b ws lines.First q ls e h = absurd cc
  tells_inside b ws lines.FirstSixteenths q ls e h = absurd cc
  tells_inside b ws (lines.Step s) q ls e h =
      let r = allowed_ok (g.step b s) BadStep (λ next. Inside next ws) q e in
      let k : Tells (Inside r.0 ws) ls = carried _ q ls r.2 h in
      (Then s k.0, k.1, some_holds (g.step b s) (λ next. Passes g k.0 next) r.0 r.1 k.2, ap (λ (m : List Line). lines.Step s ∷ m) k.3, k.4)
  tells_inside b ws (lines.Close c) q ls e h =
      let r = cond_ok (g.shuts b c) BadStep (after g ws) q e in
      (Shut c, ls, r.0, refl, after_tells ws ls (carried _ q ls r.1 h))
  tells_inside b ws lines.LeftOpen q ls e h = let r : after g ws ≡ q = cc in (Left, ls, tt, refl, after_tells ws ls (carried _ q ls r h))
  tells_inside b ws (lines.Group k) q ls e h = tells_branch b ws (ByGroup k) q ls e h
  tells_inside b ws (lines.Arc a) q ls e h = tells_branch b ws (ByArc a) q ls e h
  tells_inside b ws (lines.Halve x) q ls e h = tells_branch b ws (ByHalves x) q ls e h
  tells_inside b ws (lines.Head d) q ls e h = absurd cc
  tells_inside b ws lines.End q ls e h = absurd cc

  tells_expected : (w : g.Wait) (ws : List g.Wait) (l : Line) (q : Place g) (ls : List Line) → read_expected g w ws l ≡ Ok q → Tells q ls → Tells (Expecting w ws) (l ∷ ls)
  tells_expected w ws (lines.Head d) q ls e h over =
      let r = allowed_ok (g.head w d) WrongBranch (λ next. Inside next.0 (next.1 ∷ ws)) q e in
      let k : Tells (Inside r.0.0 (r.0.1 ∷ ws)) ls = carried _ q ls r.2 h in
      let more = k.4 in (
        Child d k.0 more.0,
        more.1,
        (over, some_holds (g.head w d) (λ next. Passes g k.0 next.0 × PassAll g more.0 next.1) r.0 r.1 (k.2, more.2)),
        ap (λ (m : List Line). lines.Head d ∷ m) (k.3 ∙ ap (λ (m : List Line). box_lines k.0 ++ m) more.3 ∙ sym (append_assoc (box_lines k.0) (child_lines more.0) more.1)),
        more.4,
      )
  tells_expected w ws lines.First q ls e h over = absurd cc
  tells_expected w ws lines.FirstSixteenths q ls e h over = absurd cc
  tells_expected w ws (lines.Step s) q ls e h over = absurd cc
  tells_expected w ws (lines.Close c) q ls e h over = absurd cc
  tells_expected w ws lines.LeftOpen q ls e h over = absurd cc
  tells_expected w ws (lines.Group k) q ls e h over = absurd cc
  tells_expected w ws (lines.Arc a) q ls e h over = absurd cc
  tells_expected w ws (lines.Halve x) q ls e h over = absurd cc
  tells_expected w ws lines.End q ls e h over = absurd cc

  tells_first : (l : Line) (q : Place g) (ls : List Line) → read_first g l ≡ Ok q → Tells q ls → Tells Start (l ∷ ls)
  tells_first l q ls e h =
      let r = allowed_ok (g.opening l) NotTree (λ b. Inside b []) q e in
      let k : Tells (Inside r.0 []) ls = carried _ q ls r.2 h in (
        k.0,
        record {
          first = l;
          passes = some_holds (g.opening l) (Passes g k.0) r.0 r.1 k.2;
          lines = ap (λ (m : List Line). l ∷ m) (k.3 ∙ ap (λ (m : List Line). box_lines k.0 ++ m) k.4);
        },
      )

  tells_whole : (l : Line) (q : Place g) (ls : List Line) → read_whole g l ≡ Ok q → Tells q ls → Tells Whole (l ∷ ls)
  tells_whole lines.End q ls e h = let r : Ended ≡ q = cc in ap (λ (m : List Line). lines.End ∷ m) (carried Ended q ls r h)
  tells_whole lines.First q ls e h = absurd cc
  tells_whole lines.FirstSixteenths q ls e h = absurd cc
  tells_whole (lines.Head d) q ls e h = absurd cc
  tells_whole (lines.Step s) q ls e h = absurd cc
  tells_whole (lines.Close c) q ls e h = absurd cc
  tells_whole lines.LeftOpen q ls e h = absurd cc
  tells_whole (lines.Group k) q ls e h = absurd cc
  tells_whole (lines.Arc a) q ls e h = absurd cc
  tells_whole (lines.Halve x) q ls e h = absurd cc

  pub ended_refuses : (l : Line) (q : Place g) → read_ended g l ≡ Ok q → ⊥
  ended_refuses lines.End q e = cc
  ended_refuses lines.First q e = cc
  ended_refuses lines.FirstSixteenths q e = cc
  ended_refuses (lines.Head d) q e = cc
  ended_refuses (lines.Step s) q e = cc
  ended_refuses (lines.Close c) q e = cc
  ended_refuses lines.LeftOpen q e = cc
  ended_refuses (lines.Group k) q e = cc
  ended_refuses (lines.Arc a) q e = cc
  ended_refuses (lines.Halve x) q e = cc

  tells_read : (p : Place g) (l : Line) (q : Place g) (ls : List Line) → read g p l ≡ Ok q → Tells q ls → Tells p (l ∷ ls)
  tells_read Start l q ls e h = tells_first l q ls e h
  tells_read (Inside b ws) l q ls e h = tells_inside b ws l q ls e h
  tells_read (Expecting w ws) l q ls e h = tells_expected w ws l q ls e h
  tells_read Whole l q ls e h = tells_whole l q ls e h
  tells_read Ended l q ls e h = absurd (ended_refuses l q e)

  tells_end : (p : Place g) → walk g p [] ≡ Ok Ended → Tells p []
  tells_end Ended e = refl
  tells_end Start e = absurd cc
  tells_end (Inside b ws) e = absurd cc
  tells_end (Expecting w ws) e = absurd cc
  tells_end Whole e = absurd cc

  walk_tells : (ls : List Line) (p : Place g) → walk g p (map Ok ls) ≡ Ok Ended → Tells p ls
  walk_tells [] p e = tells_end p e
  walk_tells (l ∷ ls) p e =
      let r = bind_ok (read g p l) (λ q. walk g q (map Ok ls)) Ended e in
      tells_read p l r.0 ls r.1 (walk_tells ls r.0 r.2)

  pub tree_of_walk : (ls : List Line) → walk g Start (map Ok ls) ≡ Ok Ended → (t : Tree) × IsTextOf g ls t
  tree_of_walk ls e = walk_tells ls Start e

  pub walks_are_texts : WalksAreTexts g
  walks_are_texts ls = (tree_of_walk ls, λ is. walk_text ls is.0 is.1)
