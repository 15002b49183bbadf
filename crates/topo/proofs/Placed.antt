-- The roles and labels, one arc at a time.
use Rattle.std.proofs.Common.{◌≡◌, ℕ, suc, ◌<◌, ◌+◌, ◌++◌, ◌∷◌, [], inl, inr, refl, sym, ap, ◌∙◌, arith, List, length, slice_index, slice_index_or, get_or, subst, Bool, true, false, add-one}
use Rattle.std.proofs.lemmas.Bool.{cases_eq}
use Rattle.std.proofs.lemmas.List.{get_or_push, get_or_append_left, get_or_default, length_push}
use Rattle.topo.specs.declared.forest.Role.{Role}
use Rattle.topo.specs.declared.forest.Role.TheVariants.{Away, Tree, Chord}
use Rattle.gas_model.specs.declared.rows.ArcRow.{ArcRow}
use Rattle.topo.specs.Graphs.{Graph, graph_of, no_arc, IsRoot}
use Rattle.topo.specs.Roles.{IsRole, IsUnited, AreRoles}
use Rattle.topo.specs.Shapes.{AreRoots}
use Rattle.topo.specs.Forests.{PointsDown, Labels, merged}
use Rattle.topo.proofs.Labels.{labels, labels_join, join_labels, root_is}

pub record Placed (g : Graph) (keep : ℕ → Bool) (nodes : ℕ) (up : List ℕ) (roles : List Role) (a : ℕ) : Type 0 where
  pub down : PointsDown up
  pub same : length up ≡ nodes
  pub labels : Labels up (labels g keep a)
  pub count : length roles ≡ a
  pub each : (k : ℕ) → k < a → IsRole g keep k (slice_index_or roles k Away)

labels_like : (up : List ℕ) (f h : ℕ → ℕ) → ((x : ℕ) → f x ≡ h x) → Labels up f → Labels up h
labels_like up f h e l = record {
  along = λ n hn. sym (e _) ∙ l.along n hn ∙ e n;
  ends = λ n hn t. sym (e n) ∙ l.ends n hn t;
}

role_is : (g : Graph) (keep : ℕ → Bool) (a : ℕ) (role : Role) → a < g.arcs → keep a ≡ true → IsUnited (labels g keep a) (g.from a) (g.to a) role → IsRole g keep a role
role_is g keep a Away h t u = absurd u
role_is g keep a Tree h t u = (t, λ j. u (join_labels g keep a _ _ j))
role_is g keep a Chord h t u = (t, labels_join g keep a _ _ (omega arith) u)

push_roles : (g : Graph) (keep : ℕ → Bool) (roles : List Role) (a : ℕ) (role : Role) → length roles ≡ a → ((k : ℕ) → k < a → IsRole g keep k (slice_index_or roles k Away)) → IsRole g keep a role → (k : ℕ) → k < suc a → IsRole g keep k (slice_index_or (roles ++ role ∷ []) k Away)
push_roles g keep roles a role e r here k h = elim (cases_eq k a) [
  | inl e1 ↦ subst (λ (i : ℕ). IsRole g keep i (get_or (roles ++ role ∷ []) i Away)) (sym e1) (subst (IsRole g keep a) (sym (get_or_push roles role Away a e)) here)
  | inr e1 ↦ subst (IsRole g keep k) (sym (get_or_append_left roles (role ∷ []) Away k (omega arith))) (r k (omega arith))
]

pub placed_arc : (g : Graph) (keep : ℕ → Bool) (nodes : ℕ) (up new : List ℕ) (roles : List Role) (a : ℕ) (role : Role) → a < g.arcs → keep a ≡ true → Placed g keep nodes up roles a → PointsDown new → length new ≡ length up → Labels new (merged (labels g keep a) (g.from a) (g.to a)) × IsUnited (labels g keep a) (g.from a) (g.to a) role → Placed g keep nodes new (roles ++ role ∷ []) (a + 1)
placed_arc g keep nodes up new roles a role h t s down same u = rw add-one (record {
  down = down;
  same = same ∙ s.same;
  labels = labels_like new _ (labels g keep (suc a)) (λ x. rw t refl) u.0;
  count = length_push roles role ∙ rw (add-one, s.count) refl;
  each = push_roles g keep roles a role s.count s.each (role_is g keep a role h t u.1);
})

-- the same by the row of the arc
pub placed_row : (rows : List ArcRow) (keep : ℕ → Bool) (nodes : ℕ) (up new : List ℕ) (roles : List Role) (a : ℕ) (role : Role) (row : ArcRow) → a < length rows → row ≡ get_or rows a row → keep a ≡ true → Placed (graph_of rows) keep nodes up roles a → PointsDown new → length new ≡ length up
    → Labels new (merged (labels (graph_of rows) keep a) row.from row.to) × IsUnited (labels (graph_of rows) keep a) row.from row.to role → Placed (graph_of rows) keep nodes new (roles ++ role ∷ []) (a + 1)
placed_row rows keep nodes up new roles a role row h is t s down same u =
    let l : ℕ → ℕ = labels (graph_of rows) keep a in
    placed_arc (graph_of rows) keep nodes up new roles a role h t s down same (subst (λ (r : ArcRow). Labels new (merged l r.from r.to) × IsUnited l r.from r.to role) (is ∙ get_or_default rows a row no_arc h) u)

pub placed_away : (g : Graph) (keep : ℕ → Bool) (nodes : ℕ) (up : List ℕ) (roles : List Role) (a : ℕ) → keep a ≡ false → Placed g keep nodes up roles a → Placed g keep nodes up (roles ++ Away ∷ []) (a + 1)
placed_away g keep nodes up roles a t s = rw add-one (record {
  down = s.down;
  same = s.same;
  labels = labels_like up _ (labels g keep (suc a)) (λ x. rw t refl) s.labels;
  count = length_push roles Away ∙ rw (add-one, s.count) refl;
  each = push_roles g keep roles a Away s.count s.each t;
})

pub placed_none : (g : Graph) (keep : ℕ → Bool) (nodes : ℕ) (up : List ℕ) → length up ≡ nodes → ((n : ℕ) → n < nodes → slice_index up n ≡ n) → Placed g keep nodes up [] 0
placed_none g keep nodes up e each = record {
  down = λ n h. let e1 = each n (omega arith) in omega arith;
  same = e;
  labels = record { along = λ n h. each n (omega arith); ends = λ n h t. refl };
  count = refl;
  each = λ k h. absurd (omega arith);
}

pub placed_roles : (g : Graph) (keep : ℕ → Bool) (nodes : ℕ) (up : List ℕ) (roles : List Role) (a : ℕ) → a ≡ g.arcs → Placed g keep nodes up roles a → AreRoles g keep roles
placed_roles g keep nodes up roles a e s = record { count = s.count ∙ e; each = λ k h. s.each k (omega arith) }

pub placed_roots : (g : Graph) (keep : ℕ → Bool) (nodes : ℕ) (up flat : List ℕ) (roles : List Role) (a : ℕ) → a ≡ g.arcs → Placed g keep nodes up roles a → length flat ≡ length up → ((label : ℕ → ℕ) → Labels up label → (n : ℕ) → n < length flat → slice_index flat n ≡ label n) → AreRoots g keep nodes flat
placed_roots g keep nodes up flat roles a e s same f = record {
  count = same ∙ s.same;
  each = λ n h. subst (IsRoot g keep n) (sym (f (labels g keep a) s.labels n (omega (arith, s.same)) ∙ ap (λ (k : ℕ). labels g keep k n) e)) (root_is g keep n);
}
