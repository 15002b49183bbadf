-- The first box that is left open for good.
use Rattle.std.proofs.Common.{◌≡◌, ◌≢◌, ℕ, zero, suc, ◌+◌, ◌<◌, ◌≤◌, List, [], ◌∷◌, ◌++◌, length, Option, Some, None, refl, sym, ap, subst, ◌∙◌, ◌⊎◌, inl, inr, arith}
use Rattle.std.specs.Prelude.{slice_get}
use Rattle.tree_cert.specs.declared.line.Step.{Step}
use Rattle.tree_cert.specs.declared.line.Head.{Head}
use Rattle.tree_pool.specs.declared.node.WorkEnd.{WorkEnd}
use Rattle.tree_pool.specs.declared.node.WorkEnd.TheVariants as ends
use Rattle.tree_pool.specs.Path.{IsEarlier}
use Rattle.tree_pool.specs.Rows.{Row, Standing, Waiting, Held, Quit, Shuts, Splits, IsMap, IsFirstWaiting, update, fill, stand, after}
use Rattle.tree_pool.specs.Rules.{Boxes}
use Rattle.tree_pool.proofs.RowChanges.{Becomes, Source, IsChild, origin, unmoved, changed}
use Rattle.search_order.specs.Searches.{SearchRules, IsWorked, NoneQuit, IsFirstQuit, FirstQuit}
use Rattle.search_order.specs.Turns.{IsTurn}
use Rattle.search_order.specs.Laws.{quit_then, FirstQuitStays}
use Rattle.tree_pool.specs.Laws.{heads_by}
use Rattle.tree_pool.proofs.GivenBack.{standing_by, becomes_by}
use Rattle.search_order.proofs.Counts.{new_is}

not_quit : (e : WorkEnd) → (e ≢ ends.Left) → (rows : List Row) → standing_by rows e ≢ Quit
not_quit (ends.Shut c) ne rows h = cc
not_quit (ends.Split by heads) ne rows h = cc
not_quit ends.Left ne rows h = ne refl

left_or : (e : WorkEnd) → (e ≡ ends.Left) ⊎ (e ≢ ends.Left)
left_or (ends.Shut c) = inr (λ h. cc)
left_or (ends.Split by heads) = inr (λ h. cc)
left_or ends.Left = inl refl

none_then : (n : ℕ) (e : WorkEnd) → e ≢ ends.Left → quit_then None n e ≡ None
none_then n (ends.Shut c) ne = refl
none_then n (ends.Split by heads) ne = refl
none_then n ends.Left ne = absurd (ne refl)

module _ (s : SearchRules) (root : s.tree.Box) (budget : ℕ) (rows : List Row) (boxes : Boxes s.tree) (turns : List ℕ) (inv : IsWorked s root budget rows boxes turns)
    (n : ℕ) (first : IsFirstWaiting rows n) (xs : List Step) (e : WorkEnd) where
  abbrev new : List Row
  new = after rows n first.row.path (fill xs (standing_by rows e)) (heads_by e)

  becomes : Becomes rows first.row (fill xs (standing_by rows e)) (heads_by e)
  becomes = becomes_by rows first.row xs e first.waits

  -- a box that is left open now was before, or is this one
  quit_before : (m : ℕ) (y : Row) → slice_get new m ≡ Some y → y.standing ≡ Quit → ((m ≢ n) × (slice_get rows m ≡ Some y)) ⊎ ((m ≡ n) × (standing_by rows e ≡ Quit) × (y.path ≡ first.row.path))
  quit_before m y h quit =
      elim (origin rows inv.map n first.row first.here (fill xs (standing_by rows e)) (heads_by e) becomes m y h) [
        | inl old ↦ elim old.which [
          | inl other ↦ inl (other.0, (let a = old.here in let b = other.1 in cc))
          | inr this ↦
              let same : old.row ≡ first.row = (let a = old.here in let b = first.here in let c = this.0 in cc) in
              inr (this.0, (let a = this.1 in cc), (let a = old.path in cc))
        ]
        | inr child_now ↦ let (k, x, sum, at, child) = child_now in absurd (let a = child.waits in let b : Waiting ≡ Quit = sym a ∙ quit in cc)
      ]

  quit_other : (m : ℕ) (q : Row) → slice_get rows m ≡ Some q → q.standing ≡ Quit → m ≢ n
  quit_other m q here quit same = let a = first.here in let b = first.waits in let c : q ≡ first.row = cc in let d : Quit ≡ Waiting = sym quit ∙ ap (λ (x : Row). x.standing) c ∙ b in cc

  -- a box that is left open comes before the one that is worked
  pub stays_first : (m : ℕ) → IsFirstQuit rows m → IsFirstQuit new m
  stays_first m f =
      record {
        row = f.row;
        here = unmoved rows inv.map n first.row first.here (fill xs (standing_by rows e)) (heads_by e) becomes m f.row f.here (quit_other m f.row f.here f.quit);
        quit = f.quit;
        first = λ i q at quit ne.
            elim (quit_before i q at quit) [
              | inl old ↦ f.first i q old.1 quit ne
              | inr this ↦
                  let path = this.2 in
                  rw path (inv.ordered m n f.row first.row f.here first.here (λ h. let a = f.quit in let b : Waiting ≡ Quit = sym h ∙ a in cc) first.waits)
            ];
      }

  pub begins_here : standing_by rows e ≡ Quit → NoneQuit rows → IsFirstQuit new n
  begins_here is none =
      record {
        row = fill xs (standing_by rows e) first.row;
        here = changed rows inv.map n first.row first.here (fill xs (standing_by rows e)) (heads_by e) becomes;
        quit = is;
        first = λ i q at quit ne.
            elim (quit_before i q at quit) [
              | inl old ↦ absurd (none i q old.1 quit)
              | inr this ↦ absurd (ne this.0)
            ];
      }

  pub none_still : standing_by rows e ≢ Quit → NoneQuit rows → NoneQuit new
  none_still ne none m q at quit =
      elim (quit_before m q at quit) [
        | inl old ↦ none m q old.1 quit
        | inr this ↦ ne this.1
      ]

  pub first_quit : (quit : Option ℕ) → FirstQuit rows quit → FirstQuit new (quit_then quit n e)
  first_quit (Some m) h = stays_first m h
  first_quit None h =
      elim (left_or e) [
        | inl is ↦ subst (λ (o : Option ℕ). FirstQuit new o) (sym (ap (quit_then None n) is)) (begins_here (ap (standing_by rows) is) h)
        | inr ne ↦ subst (λ (o : Option ℕ). FirstQuit new o) (sym (none_then n e ne)) (none_still (not_quit e ne rows) h)
      ]

pub first_quit_stays : (s : SearchRules) → FirstQuitStays s
first_quit_stays s root most budget rows boxes turns new2 boxes2 turns2 n e quit inv first turn h =
    let is = new_is s most budget rows boxes turns new2 boxes2 turns2 n e first turn in
    subst (λ (rs : List Row). FirstQuit rs (quit_then quit n e)) (sym is) (first_quit s root budget rows boxes turns inv n first turn.steps e quit h)
