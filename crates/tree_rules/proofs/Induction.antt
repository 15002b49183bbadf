-- A tree that passes with no box left open leaves nothing, by any rules that lose nothing.
use Rattle.std.proofs.Common.{◌≡◌, ◌⊎◌, inl, inr, refl, true, Option, Some, None}
use Rattle.tree_cert.specs.declared.line.Step.{Step}
use Rattle.tree_cert.specs.declared.line.Closing.{Closing}
use Rattle.tree_cert.specs.declared.line.Head.{Head}
use Rattle.tree_cert.specs.Tree.{Branch, Tree, Children, Then, Shut, Left, Split, NoChild, Child, IsClosed, AreClosed}
use Rattle.tree_cert.specs.TreeRules.{TreeRules, Holds, Passes, PassAll}

holds_some : {A : Type 0} (o : Option A) (P : A → Type 0) → Holds o P → (x : A) × (o ≡ Some x) × P x
holds_some None P h = absurd h
holds_some (Some x) P h = (x, refl, h)

-- Rules lose nothing of what is in boxes and in what a branch waits for: what is in a box is in the box after a step, in
-- no box that is closed, and in a child of each branch.
pub record LoseNothing (g : TreeRules) (InBox : g.Box → Type 0) (InWait : g.Wait → Type 0) : Type 0 where
  pub steps : (b : g.Box) (s : Step) (next : g.Box) → g.step b s ≡ Some next → InBox b → InBox next
  pub closings : (b : g.Box) (c : Closing) → g.shuts b c ≡ true → InBox b → ⊥
  pub branches : (b : g.Box) (f : Branch) (w : g.Wait) → g.branch b f ≡ Some w → InBox b → InWait w
  pub heads : (w : g.Wait) (h : Head) (next : g.Box × g.Wait) → g.head w h ≡ Some next → InWait w → InBox next.0 ⊎ InWait next.1
  pub overs : (w : g.Wait) → g.over w ≡ true → InWait w → ⊥

module _ (g : TreeRules) (InBox : g.Box → Type 0) (InWait : g.Wait → Type 0) (lose_nothing : LoseNothing g InBox InWait) where
  mutual
    pub tree_leaves_none : (t : Tree) (b : g.Box) → Passes g t b → IsClosed t → InBox b → ⊥
    tree_leaves_none (Then s t) b p closed inside =
        let h = holds_some (g.step b s) (λ next. Passes g t next) p in
        tree_leaves_none t h.0 h.2 closed (lose_nothing.steps b s h.0 h.1 inside)
    tree_leaves_none (Shut c) b p closed inside = lose_nothing.closings b c p inside
    tree_leaves_none Left b p closed inside = closed
    tree_leaves_none (Split f ks) b p closed inside =
        let h = holds_some (g.branch b f) (λ w. PassAll g ks w) p in
        children_leave_none ks h.0 h.2 closed (lose_nothing.branches b f h.0 h.1 inside)

    pub children_leave_none : (ks : Children) (w : g.Wait) → PassAll g ks w → AreClosed ks → InWait w → ⊥
    children_leave_none NoChild w p closed inside = lose_nothing.overs w p inside
    children_leave_none (Child h t ks) w p closed inside =
        let q = holds_some (g.head w h) (λ next. Passes g t next.0 × PassAll g ks next.1) p.1 in
        elim (lose_nothing.heads w h q.0 q.1 inside) [
          | inl here ↦ tree_leaves_none t q.0.0 q.2.0 closed.0 here
          | inr later ↦ children_leave_none ks q.0.1 q.2.1 closed.1 later
        ]
