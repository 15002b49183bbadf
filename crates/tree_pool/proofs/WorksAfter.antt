-- What was given back at each path, after each call.
use Rattle.std.proofs.Common.{◌≡◌, ◌≢◌, ℕ, ◌+◌, List, [], ◌∷◌, length, Option, Some, None, refl, sym, ap, subst, ◌∙◌, ◌⊎◌, inl, inr}
use Rattle.std.specs.Prelude.{slice_get, option_map}
use Rattle.tree_cert.specs.declared.line.Step.{Step}
use Rattle.tree_cert.specs.declared.line.Head.{Head}
use Rattle.tree_pool.specs.declared.node.WorkEnd.{WorkEnd}
use Rattle.tree_pool.specs.declared.node.WorkEnd.TheVariants as ends
use Rattle.tree_pool.specs.Rows.{Row, Standing, Waiting, Held, NotSplit, IsMap, row_at, fill, stand, after}
use Rattle.tree_pool.specs.Shown.{Opens, end_of, work_of, works}
use Rattle.tree_pool.specs.Calls.{given_rows}
use Rattle.tree_pool.specs.Laws.{heads_by, end_by, StandingLeavesWorks, GivingSetsWork, GivingAddsChildren, GivingLeavesOthers}
use Rattle.tree_pool.proofs.Lists.{found, stands, same_paths}
use Rattle.tree_pool.proofs.RowChanges.{Becomes, IsChild, origin, placed, unmoved, changed, map_after, works_kept}
use Rattle.tree_pool.proofs.Shown.{work_at}
use Rattle.tree_pool.proofs.GivenBack.{standing_by, given_after, becomes_whole}

open_end : (s : Standing) → (s ≡ Waiting) ⊎ (s ≡ Held) → end_of s ≡ Opens
open_end s (inl e) = ap end_of e
open_end s (inr e) = ap end_of e

same_work : (r : Row) (s : Standing) → end_of s ≡ end_of r.standing → work_of (stand s r) ≡ work_of r
same_work r s e = rw e refl

pub standing_leaves_works : StandingLeavesWorks
standing_leaves_works rows n r s here was is path =
    works_kept rows n (stand s)
    (λ q at. let same : q ≡ r = (let a = here in cc) in (refl, same_work q s (open_end s is ∙ sym (open_end r.standing was) ∙ ap (λ (x : Row). end_of x.standing) (sym same)))) path

end_same : (rows : List Row) (e : WorkEnd) → end_of (standing_by rows e) ≡ end_by e
end_same rows (ends.Shut c) = refl
end_same rows (ends.Split f heads) = refl
end_same rows ends.Left = refl

child_work : (path : List ℕ) (k : ℕ) (h : Head) (q : Row) → IsChild path k h q → work_of q ≡ record { head = Some h; steps = []; end = Opens }
child_work path k h q child = let a = child.head_is in let b = child.steps_is in let c = child.waits in rw (a, b, c) refl

module _ (rows : List Row) (n : ℕ) (r : Row) (paths : IsMap rows) (here : slice_get rows n ≡ Some r) (whole : NotSplit r.standing) (steps : List Step) (end : WorkEnd) where
  abbrev change : Row → Row
  change = fill steps (standing_by rows end)

  becomes : Becomes rows r change (heads_by end)
  becomes = becomes_whole rows r steps end whole

  abbrev new : List Row
  new = after rows n r.path change (heads_by end)

  paths_after : IsMap new
  paths_after = map_after rows paths n r here change (heads_by end) becomes

  given : given_rows rows n r.path steps end ≡ new
  given = given_after rows n r.path steps end

  pub own_work : works (given_rows rows n r.path steps end) r.path ≡ Some (record { head = r.head; steps = steps; end = end_by end })
  own_work =
      let at = work_at new paths_after n (change r) (changed rows paths n r here change (heads_by end) becomes) in
      let e = end_same rows end in
      let done : work_of (change r) ≡ record { head = r.head; steps = steps; end = end_by end } = (rw e refl) in
      ap (λ (rs : List Row). works rs r.path) given ∙ at ∙ ap Some done

  pub work_of_child : (k : ℕ) (h : Head) → slice_get (heads_by end) k ≡ Some h → works (given_rows rows n r.path steps end) (k ∷ r.path) ≡ Some (record { head = Some h; steps = []; end = Opens })
  work_of_child k h at =
      let z = placed rows paths n r here change (heads_by end) becomes k h at in
      ap (λ (rs : List Row). works rs (k ∷ r.path)) given ∙ ap (works new) (sym z.2.path_is) ∙ work_at new paths_after (length rows + k) z.0 z.1 ∙ ap Some (child_work r.path k h z.0 z.2)

  other_row : (path : List ℕ) → path ≢ r.path → ((k : ℕ) (h : Head) → slice_get (heads_by end) k ≡ Some h → path ≢ k ∷ r.path) → (o q : Option Row) → row_at rows path ≡ o → row_at new path ≡ q → q ≡ o
  other_row path ne apart (Some x) q is was =
      let z = stands rows path x is in
      let elsewhere : z.0 ≢ n = (λ same. ne (let a = z.1 in let b = z.2 in let c = here in cc)) in
      let there = unmoved rows paths n r here change (heads_by end) becomes z.0 x z.1 elsewhere in
      let at : row_at new x.path ≡ Some x = found new z.0 x there (λ m y h e. paths_after.distinct m z.0 y x h there (same_paths y.path x.path e)) in
      let p = z.2 in
      sym was ∙ ap (row_at new) (sym p) ∙ at
  other_row path ne apart None None is was = refl
  other_row path ne apart None (Some y) is was =
      let z = stands new path y was in
      elim (origin rows paths n r here change (heads_by end) becomes z.0 y z.1) [
        | inl old ↦ elim old.which [
          | inl other ↦
              let at : row_at rows old.row.path ≡ Some old.row = found rows z.0 old.row old.here (λ m x h e. paths.distinct m z.0 x old.row h old.here (same_paths x.path old.row.path e)) in
              let p : old.row.path ≡ path = sym old.path ∙ z.2 in
              absurd (let a = sym (ap (row_at rows) p) ∙ at in cc)
          | inr this ↦ absurd (ne (let a = old.here in let b = here in let c = this.0 in let d = old.path in let e = z.2 in cc))
        ]
        | inr child ↦ let (k, h, sum, at, is_child) = child in absurd (apart k h at (sym z.2 ∙ is_child.path_is))
      ]

  pub other_works : (path : List ℕ) → path ≢ r.path → ((k : ℕ) (h : Head) → slice_get (heads_by end) k ≡ Some h → path ≢ k ∷ r.path) → works (given_rows rows n r.path steps end) path ≡ works rows path
  other_works path ne apart = ap (λ (rs : List Row). works rs path) given ∙ ap (option_map work_of) (other_row path ne apart (row_at rows path) (row_at new path) refl refl)

pub giving_sets_work : GivingSetsWork
giving_sets_work = own_work

pub giving_adds_children : GivingAddsChildren
giving_adds_children = work_of_child

pub giving_leaves_others : GivingLeavesOthers
giving_leaves_others = other_works
