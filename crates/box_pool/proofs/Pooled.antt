-- Pools as lists of rows and origins.
use Rattle.std.proofs.Common.{◌≡◌, ℕ, zero, suc, ◌+◌, ◌<◌, List, [], ◌∷◌, ◌++◌, length, Option, Some, None, refl, sym, ap, ◌∙◌, arith}
use Rattle.std.specs.Prelude.{slice_get, slice_set, slice_index_or, option_map, IfNone, IfSome}
use Rattle.std.proofs.Common.{length-append, length-set}
use Rattle.std.proofs.lemmas.List.{map-set, map-append, length-map, set-append_left}
use Rattle.tree_cert.specs.declared.line.Step.{Step}
use Rattle.tree_cert.specs.declared.line.Head.{Head}
use Rattle.tree_cert.proofs.Options.{holds_some}
use Rattle.tree_pool.specs.declared.node.BranchBy.{BranchBy}
use Rattle.tree_pool.specs.declared.node.WorkEnd.{WorkEnd}
use Rattle.tree_pool.specs.declared.node.WorkEnd.TheVariants as ends
use Rattle.tree_pool.specs.Nodes.{branch_of}
use Rattle.tree_pool.specs.Calls.{IfRow, IsHeld, given_rows}
use Rattle.std.proofs.lemmas.Option.{slice_get_read, slice_get_within}
use Rattle.box_pool.specs.Pools.{Boxed, SplitsNone}
use Rattle.tree_pool.specs.Rows.{Row, Held, Quit, Shuts, Splits, update, stand, fill, child_rows, IsFirstWaiting, NoneWaits}
use Rattle.tree_pool.proofs.Lists.{length-update, length-child_rows}
use Rattle.box_pool.specs.declared.open_box.OpenBox.{OpenBox}
use Rattle.box_pool.specs.declared.open_box.ParentBox.{ParentBox}
use Rattle.box_pool.specs.Origins.{Origin, origin_by, origin_of, origins_of, child_origins}

pub took_length : (old new : List Row) (o : Option ℕ) → IfNone o (NoneWaits old × (new ≡ old)) → IfSome o (λ n. IsFirstWaiting old n × (new ≡ update old n (stand Held))) → length new ≡ length old
took_length old new None a b = ap length a.1
took_length old new (Some n) a b = ap length b.1 ∙ length-update old n (stand Held)

-- where a spot stands, an origin does
pub origin_at : (spots : List (Option OpenBox)) (n : ℕ) (s : Option OpenBox) → slice_get spots n ≡ Some s → slice_get (origins_of spots) n ≡ Some (option_map origin_of s)
origin_at [] n s h = absurd cc
origin_at (x ∷ spots) zero s h = let e : x ≡ s = cc in ap (λ (y : Option OpenBox). Some (option_map origin_of y)) e
origin_at (x ∷ spots) (suc n) s h = origin_at spots n s h

pub there : (rows : List Row) (spots : List (Option OpenBox)) (pool : Boxed) (n : ℕ) (x s : Option OpenBox) → record { rows = rows; origins = origins_of spots } ≡ pool → length spots ≡ length rows → n < length pool.rows
    → x ≡ slice_index_or spots n x → x ≡ s → slice_get pool.origins n ≡ Some (option_map origin_of s)
there rows spots pool n x s view sized lt is what =
    let a : length rows ≡ length pool.rows = ap (λ (p : Boxed). length p.rows) view in
    let b = slice_get_read spots (length spots) n x refl (omega arith) is in
    ap (λ (p : Boxed). slice_get p.origins n) (sym view) ∙ origin_at spots n x b ∙ ap (λ (y : Option OpenBox). Some (option_map origin_of y)) what

-- a row that is given back without children
pub given_length : (old new : List Row) (n : ℕ) (xs : List Step) (e : WorkEnd) → SplitsNone e → IfRow old n (λ r. new ≡ given_rows old n r.path xs e) → length new ≡ length old
given_length old new n xs (ends.Shut c) whole h = let z = holds_some (slice_get old n) (λ r. new ≡ given_rows old n r.path xs (ends.Shut c)) h in ap length z.2 ∙ length-update old n (fill xs (Shuts c))
given_length old new n xs (ends.Split f heads) whole h = absurd whole
given_length old new n xs ends.Left whole h = let z = holds_some (slice_get old n) (λ r. new ≡ given_rows old n r.path xs ends.Left) h in ap length z.2 ∙ length-update old n (fill xs Quit)

pub split_length : (old new : List Row) (n : ℕ) (xs : List Step) (by : BranchBy) (heads : List Head) → IfRow old n (λ r. new ≡ given_rows old n r.path xs (ends.Split by heads)) → length new ≡ length old + length heads
split_length old new n xs by heads h =
    let z = holds_some (slice_get old n) (λ r. new ≡ given_rows old n r.path xs (ends.Split by heads)) h in
    let s = fill xs (Splits (branch_of by) (length old) (length heads)) in
    let a = length-append (update old n s) (child_rows z.0.path 0 heads) in
    let b = length-update old n s in
    let c = length-child_rows z.0.path 0 heads in
    let d = ap length z.2 in
    omega arith

pub origins_set : (spots : List (Option OpenBox)) (n : ℕ) → origins_of (slice_set spots n None) ≡ slice_set (origins_of spots) n None
origins_set spots n = map-set (option_map origin_of) spots n None

pub origins_append : (xs ys : List (Option OpenBox)) → origins_of (xs ++ ys) ≡ origins_of xs ++ origins_of ys
origins_append xs ys = map-append (option_map origin_of) xs ys

pub held_within : (rows : List Row) (n : ℕ) → IsHeld rows n → n < length rows
held_within rows n held = let z = holds_some (slice_get rows n) (λ r. r.standing ≡ Held) held in slice_get_within rows n z.0 z.1

-- a box was split: its own place is empty, and its children's places stand at the end
module _ (rows : List Row) (spots fresh all : List (Option OpenBox)) (pool : Boxed) (n : ℕ) (view : record { rows = rows; origins = origins_of spots } ≡ pool) (sized : length spots ≡ length rows) (held : IsHeld pool.rows n)
    (is : all ≡ spots ++ fresh) where
  inside : n < length spots
  inside = let a = held_within pool.rows n held in let b : length rows ≡ length pool.rows = ap (λ (p : Boxed). length p.rows) view in omega arith

  pub split_sized : (base : ParentBox) (heads : List Head) (new : List Row) → origins_of fresh ≡ child_origins base heads → length new ≡ length rows + length heads → length (slice_set all n None) ≡ length new
  split_sized base heads new are count =
      let a = length-set all n None in
      let b = ap length is ∙ length-append spots fresh in
      let c = sym (length-map fresh (option_map origin_of)) ∙ ap length are ∙ length-map heads (λ h. Some (origin_by base (Some h))) in
      omega arith

  pub split_origins : (base : ParentBox) (heads : List Head) → origins_of fresh ≡ child_origins base heads → origins_of (slice_set all n None) ≡ slice_set pool.origins n None ++ child_origins base heads
  split_origins base heads are =
      ap (λ (xs : List (Option OpenBox)). origins_of (slice_set xs n None)) is
      ∙ ap origins_of (set-append_left spots fresh n None inside)
      ∙ origins_append (slice_set spots n None) fresh
      ∙ ap (λ (xs : List (Option Origin)). xs ++ origins_of fresh) (origins_set spots n ∙ ap (λ (p : Boxed). slice_set p.origins n None) view)
      ∙ ap (λ (xs : List (Option Origin)). slice_set pool.origins n None ++ xs) are
