-- A pool shows exactly one tree, decided by what was given back at each path, and it passes.
use Rattle.std.proofs.Common.{◌≡◌, ℕ, zero, suc, List, [], ◌∷◌, Option, Some, refl, sym, ap, subst, ◌∙◌}
use Rattle.std.specs.Prelude.{slice_get, option_map}
use Rattle.tree_cert.specs.declared.line.Step.{Step}
use Rattle.tree_cert.specs.declared.line.Head.{Head}
use Rattle.tree_cert.specs.Tree.{Branch, Tree, Children, Then, Shut, Left, Split, NoChild, Child}
use Rattle.tree_cert.proofs.Options.{holds_some}
use Rattle.tree_pool.specs.Path.{same}
use Rattle.tree_pool.specs.Rows.{Row, IsMap}
use Rattle.tree_pool.specs.Shown.{End, Opens, Closes, Forks, Work, work_of, works, IsBoxOf, AreChildrenOf}
use Rattle.tree_pool.proofs.Lists.{found, same_paths}

-- two maps that agree show the same trees
mutual
  pub agree : (v w : List ℕ → Option Work) → ((p : List ℕ) → v p ≡ w p) → (path : List ℕ) (xs : List Step) (e : End) (t : Tree) → IsBoxOf v path xs e t → IsBoxOf w path xs e t
  agree v w same path (x ∷ xs) e (Then y t) h = (h.0, agree v w same path xs e t h.1)
  agree v w same path [] (Closes c) (Shut d) h = h
  agree v w same path [] Opens Left h = h
  agree v w same path [] (Forks f count) (Split g ks) h = (h.0, agree_all v w same path zero count ks h.1)
  agree v w same path xs e t h = absurd assumption

  pub agree_all : (v w : List ℕ → Option Work) → ((p : List ℕ) → v p ≡ w p) → (path : List ℕ) (k count : ℕ) (ks : Children) → AreChildrenOf v path k count ks → AreChildrenOf w path k count ks
  agree_all v w same path k zero NoChild h = h
  agree_all v w same path k (suc count) (Child g t ks) h =
      let x = holds_some (v (k ∷ path)) (λ x. (x.head ≡ Some g) × IsBoxOf v (k ∷ path) x.steps x.end t) h.0 in
      let e : w (k ∷ path) ≡ Some x.0 = let a = same (k ∷ path) in let b = x.1 in cc in
      (rw e (x.2.0, agree v w same (k ∷ path) x.0.steps x.0.end t x.2.1), agree_all v w same path (suc k) count ks h.1)
  agree_all v w same path k count ks h = absurd assumption

-- a map shows one tree at a path
mutual
  pub one_box : (w : List ℕ → Option Work) (path : List ℕ) (xs : List Step) (e : End) (t u : Tree) → IsBoxOf w path xs e t → IsBoxOf w path xs e u → t ≡ u
  one_box w path (x ∷ xs) e (Then y t) (Then z u) p q = ap (λ (s : Step). Then s t) (sym p.0 ∙ q.0) ∙ ap (Then z) (one_box w path xs e t u p.1 q.1)
  one_box w path [] (Closes c) (Shut d) (Shut b) p q = ap Shut (sym p ∙ q)
  one_box w path [] Opens Left Left p q = refl
  one_box w path [] (Forks f n) (Split g ks) (Split h js) p q = ap (λ (s : Branch). Split s ks) (sym p.0 ∙ q.0) ∙ ap (Split h) (one_list w path zero n ks js p.1 q.1)
  one_box w path xs e t u p q = absurd assumption

  pub one_list : (w : List ℕ → Option Work) (path : List ℕ) (k n : ℕ) (ks js : Children) → AreChildrenOf w path k n ks → AreChildrenOf w path k n js → ks ≡ js
  one_list w path k zero NoChild NoChild p q = refl
  one_list w path k (suc n) (Child g t ks) (Child i u js) p q =
      let x = holds_some (w (k ∷ path)) (λ x. (x.head ≡ Some g) × IsBoxOf w (k ∷ path) x.steps x.end t) p.0 in
      let y = holds_some (w (k ∷ path)) (λ x. (x.head ≡ Some i) × IsBoxOf w (k ∷ path) x.steps x.end u) q.0 in
      let same : x.0 ≡ y.0 = let a = x.1 in let b = y.1 in cc in
      let z = subst (λ (s : Work). (s.head ≡ Some g) × IsBoxOf w (k ∷ path) s.steps s.end t) same x.2 in
      let heads : g ≡ i = let a = z.0 in let b = y.2.0 in cc in
      ap (λ (s : Head). Child s t ks) heads ∙ ap (λ (s : Tree). Child i s ks) (one_box w (k ∷ path) y.0.steps y.0.end t u z.1 y.2.1) ∙ ap (Child i u) (one_list w path (suc k) n ks js p.1 q.1)
  one_list w path k n ks js p q = absurd assumption

-- a row's work stands at its path
pub work_at : (rows : List Row) → IsMap rows → (n : ℕ) (r : Row) → slice_get rows n ≡ Some r → works rows r.path ≡ Some (work_of r)
work_at rows m n r h = ap (option_map work_of) (found rows n r h (λ k q g e. m.distinct k n q r g h (same_paths q.path r.path e)))
