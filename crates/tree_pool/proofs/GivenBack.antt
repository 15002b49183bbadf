-- Giving work back as a change of one row, with new rows at the end; a row that was taken.
use Rattle.std.proofs.Common.{◌≡◌, ◌≢◌, ℕ, zero, suc, List, [], ◌∷◌, ◌++◌, map, length, Some, refl, sym, ap, ◌∙◌, inl, inr}
use Rattle.std.specs.Prelude.{slice_get}
use Rattle.std.proofs.lemmas.List.{append-nil, length-map}
use Rattle.tree_cert.specs.declared.line.Step.{Step}
use Rattle.tree_cert.specs.declared.line.Head.{Head}
use Rattle.tree_cert.specs.TreeRules.{TreeRules}
use Rattle.tree_pool.specs.declared.node.WorkEnd.{WorkEnd}
use Rattle.tree_pool.specs.declared.node.WorkEnd.TheVariants as ends
use Rattle.tree_pool.specs.Nodes.{branch_of}
use Rattle.tree_pool.specs.Rows.{Row, Standing, Waiting, Held, Quit, Shuts, Splits, NotSplit, update, fill, stand, child_rows, after, IsFirstWaiting}
use Rattle.tree_pool.specs.Laws.{EndFits, heads_by}
use Rattle.tree_pool.specs.Calls.{given_rows}
use Rattle.tree_pool.proofs.Lists.{get_updated, length-update}
use Rattle.tree_pool.proofs.RowChanges.{Becomes}
use Rattle.tree_pool.proofs.PoolKeeps.{waiting_whole}

-- how a box stands after work that ends so
abbrev pub standing_by : List Row → WorkEnd → Standing
standing_by rows (ends.Shut c) = Shuts c
standing_by rows (ends.Split by heads) = Splits (branch_of by) (length rows) (length heads)
standing_by rows ends.Left = Quit

-- the rows after work was given back: one row changes, and its children stand at the end
pub given_after : (rows : List Row) (n : ℕ) (path : List ℕ) (xs : List Step) (e : WorkEnd) → given_rows rows n path xs e ≡ after rows n path (fill xs (standing_by rows e)) (heads_by e)
given_after rows n path xs (ends.Shut c) = sym (append-nil (update rows n (fill xs (Shuts c))))
given_after rows n path xs ends.Left = sym (append-nil (update rows n (fill xs Quit)))
given_after rows n path xs (ends.Split by heads) = refl

pub update_twice : {A : Type 0} (xs : List A) (n : ℕ) (f g : A → A) → update (update xs n f) n g ≡ update xs n (λ x. g (f x))
update_twice [] n f g = refl
update_twice (x ∷ xs) zero f g = refl
update_twice (x ∷ xs) (suc n) f g = ap (λ ys. x ∷ ys) (update_twice xs n f g)

-- taking a box doesn't change what giving it back makes of the rows
pub given_taken : (rows : List Row) (n : ℕ) (path : List ℕ) (xs : List Step) (e : WorkEnd) → given_rows (update rows n (stand Held)) n path xs e ≡ after rows n path (fill xs (standing_by rows e)) (heads_by e)
given_taken rows n path xs (ends.Shut c) = update_twice rows n (stand Held) (fill xs (Shuts c)) ∙ sym (append-nil (update rows n (fill xs (Shuts c))))
given_taken rows n path xs ends.Left = update_twice rows n (stand Held) (fill xs Quit) ∙ sym (append-nil (update rows n (fill xs Quit)))
given_taken rows n path xs (ends.Split by heads) =
    ap (λ (k : ℕ). update (update rows n (stand Held)) n (fill xs (Splits (branch_of by) k (length heads))) ++ child_rows path 0 heads) (length-update rows n (stand Held))
    ∙ ap (λ rs. rs ++ child_rows path 0 heads) (update_twice rows n (stand Held) (fill xs (Splits (branch_of by) (length rows) (length heads))))

-- the row of the box that was taken
pub taken_row : (rows : List Row) (n : ℕ) (first : IsFirstWaiting rows n) (r : Row) → slice_get (update rows n (stand Held)) n ≡ Some r → r ≡ stand Held first.row
taken_row rows n first r h = let a = get_updated rows n (stand Held) first.row first.here in cc

-- a row that isn't split becomes what the end says
pub becomes_whole : (rows : List Row) (r : Row) (xs : List Step) (e : WorkEnd) → NotSplit r.standing → Becomes rows r (fill xs (standing_by rows e)) (heads_by e)
becomes_whole rows r xs (ends.Shut c) whole = record { keeps = record { path = refl; head = refl; before = whole }; which = inl (λ f first count k. cc, refl) }
becomes_whole rows r xs ends.Left whole = record { keeps = record { path = refl; head = refl; before = whole }; which = inl (λ f first count k. cc, refl) }
becomes_whole rows r xs (ends.Split by heads) whole = record { keeps = record { path = refl; head = refl; before = whole }; which = inr (branch_of by, refl) }

pub becomes_by : (rows : List Row) (r : Row) (xs : List Step) (e : WorkEnd) → r.standing ≡ Waiting → Becomes rows r (fill xs (standing_by rows e)) (heads_by e)
becomes_by rows r xs e waits = becomes_whole rows r xs e (waiting_whole r.standing waits)

pub worked_by : (rows : List Row) (e : WorkEnd) → standing_by rows e ≢ Waiting
worked_by rows (ends.Shut c) h = cc
worked_by rows (ends.Split by heads) h = cc
worked_by rows ends.Left h = cc

-- the heads are those of the children
pub heads_are : (g : TreeRules) (b : g.Box) (e : WorkEnd) (kids : List (Head × g.Box)) → EndFits g b e kids → heads_by e ≡ map (λ k. k.0) kids
heads_are g b (ends.Shut c) kids fits = let e = fits.1 in rw e refl
heads_are g b (ends.Split by heads) kids fits = fits.1
heads_are g b ends.Left kids fits = rw fits refl

pub count_heads : (g : TreeRules) (b : g.Box) (e : WorkEnd) (kids : List (Head × g.Box)) → EndFits g b e kids → length kids ≡ length (heads_by e)
count_heads g b e kids fits = sym (ap length (heads_are g b e kids fits) ∙ length-map kids (λ (k : Head × g.Box). k.0))
