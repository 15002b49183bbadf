-- A pool of rules stays one, and the tree that it shows passes.
use Rattle.std.proofs.Common.{◌≡◌, ℕ, zero, suc, ◌+◌, true, List, [], ◌∷◌, ◌++◌, length, map, Option, Some, None, refl, sym, ap, subst, ◌∙◌, ◌⊎◌, inl, inr, arith, length-append}
use Rattle.std.specs.Prelude.{slice_get}
use Rattle.std.proofs.lemmas.Option.{slice_get_within, option_and_then_some}
use Rattle.std.proofs.lemmas.List.{append-nil, length-map}
use Rattle.tree_cert.specs.declared.line.Step.{Step}
use Rattle.tree_cert.specs.declared.line.Head.{Head}
use Rattle.tree_cert.specs.Tree.{Branch, Tree, Children, Then, Shut, Left, Split, NoChild, Child}
use Rattle.tree_cert.specs.TreeRules.{TreeRules, Holds, Passes, PassAll}
use Rattle.tree_cert.proofs.Options.{holds_some}
use Rattle.tree_pool.specs.declared.node.WorkEnd.TheVariants as ends
use Rattle.tree_pool.specs.Rows.{Standing, Waiting, Held, Quit, Shuts, Splits, Row, update, stand, fill, child_rows, first_row, after, NotSplit, IsMap}
use Rattle.tree_pool.specs.Shown.{end_of, Work, work_of, works, IsBoxOf, AreChildrenOf}
use Rattle.tree_pool.specs.Rules.{after_steps, AreExpected, Boxes, IsChildAt, AreGiven, EndHolds, IsOf}
use Rattle.tree_pool.specs.Nodes.{branch_of}
use Rattle.tree_pool.specs.Laws.{ShownPass, EndFits, NewIsOf, StandingKeeps, GivingKeeps}
use Rattle.tree_pool.proofs.Lists.{get_left, get_right, appended_cases, length-update, length-child_rows, to_map, there}
use Rattle.tree_pool.proofs.RowChanges.{KeepsPlace, Becomes, origin, moved, placed}
use Rattle.tree_pool.proofs.Shown.{work_at}

pub holds_map : {A : Type 0} (o : Option A) (P Q : A → Type 0) → ((x : A) → P x → Q x) → Holds o P → Holds o Q
holds_map None P Q f h = h
holds_map (Some x) P Q f h = f x h

module _ (g : TreeRules) (rows : List Row) (paths : IsMap rows) (n : ℕ) (r : Row) (here : slice_get rows n ≡ Some r) (f : Row → Row) (heads : List Head) (becomes : Becomes rows r f heads) (boxes more : Boxes g) where
  child_kept : (m : ℕ) (kid : Head × g.Box) → IsChildAt g rows boxes m kid → IsChildAt g (after rows n r.path f heads) (boxes ++ more) m kid
  child_kept m kid h =
      let z = moved rows paths n r here f heads becomes m h.row h.here in
      record { row = z.0; here = z.1; head = z.3 ∙ h.head; box = get_left boxes more m kid.1 h.box }

  end_kept : (c : g.Box) (s : Standing) → EndHolds g rows boxes c s → EndHolds g (after rows n r.path f heads) (boxes ++ more) c s
  end_kept c Waiting h = tt
  end_kept c Held h = tt
  end_kept c Quit h = tt
  end_kept c (Shuts d) h = h
  end_kept c (Splits b first count) h =
      holds_map (g.branch c b) (λ w. AreGiven g rows boxes w first count) (λ w. AreGiven g (after rows n r.path f heads) (boxes ++ more) w first count)
      (λ w old. record { kids = old.kids; number = old.number; expected = old.expected; each = λ k kid at. child_kept (first + k) kid (old.each k kid at) }) h

  pub of_after : (root : g.Box) → IsOf g root rows boxes → length more ≡ length heads → (b : g.Box) → slice_get boxes n ≡ Some b
      → Holds (after_steps g b (f r).steps) (λ c. EndHolds g (after rows n r.path f heads) (boxes ++ more) c (f r).standing) → IsOf g root (after rows n r.path f heads) (boxes ++ more)
  of_after root pool size b there holds =
      record {
        count =
            (let a = length-append boxes more in
            let c = length-append (update rows n f) (child_rows r.path 0 heads) in
            let d = length-update rows n f in
            let e = length-child_rows r.path 0 heads in
            let i = pool.count in
            omega arith);
        rooted = get_left boxes more 0 root pool.rooted;
        each = λ m y c at box.
            elim (origin rows paths n r here f heads becomes m y at) [
              | inl old ↦
                  let old_box : slice_get boxes m ≡ Some c = earlier m old.row c old.here box in
                  elim old.which [
                    | inl other ↦ rw other.1 (holds_map (after_steps g c old.row.steps) (λ d. EndHolds g rows boxes d old.row.standing) (λ d. EndHolds g (after rows n r.path f heads) (boxes ++ more) d old.row.standing)
                        (λ d h. end_kept d old.row.standing h) (pool.each m old.row c old.here old_box))
                    | inr this ↦
                        let same : old.row ≡ r = (let a = old.here in let d = this.0 in cc) in
                        let eq : y ≡ f r = (let a = this.1 in cc) in
                        let one : c ≡ b = (let a = this.0 in cc) in
                        rw (eq, one) holds
                  ]
              | inr new ↦ let (k, x, sum, there, child) = new in rw (child.steps_is, child.waits) tt
            ];
      }
    where
      earlier : (m : ℕ) (q : Row) (c : g.Box) → slice_get rows m ≡ Some q → slice_get (boxes ++ more) m ≡ Some c → slice_get boxes m ≡ Some c
      earlier m q c at box =
          elim (appended_cases boxes more m c box) [
            | inl left ↦ left
            | inr right ↦ let (k, sum, in_more) = right in absurd (let a = slice_get_within rows m q at in let d = pool.count in omega arith)
          ]

  -- the children that a branch gives
  pub kids_given : (root : g.Box) → IsOf g root rows boxes → (kids : List (Head × g.Box)) → heads ≡ map (λ k. k.0) kids → more ≡ map (λ k. k.1) kids → (w : g.Wait) → AreExpected g w kids
      → AreGiven g (after rows n r.path f heads) (boxes ++ more) w (length rows) (length heads)
  kids_given root pool kids hs bs w expected =
      record {
        kids = kids;
        number = ap length hs ∙ length-map kids (λ (k : Head × g.Box). k.0);
        expected = expected;
        each = λ k kid at.
            let a : slice_get heads k ≡ Some kid.0 = subst (λ (l : List Head). slice_get l k ≡ Some kid.0) (sym hs) (to_map (λ (k : Head × g.Box). k.0) kids k kid at) in
            let b : slice_get more k ≡ Some kid.1 = subst (λ (l : List g.Box). slice_get l k ≡ Some kid.1) (sym bs) (to_map (λ (k : Head × g.Box). k.1) kids k kid at) in
            let z = placed rows paths n r here f heads becomes k kid.0 a in
            record { row = z.0; here = z.1; head = z.2.head_is; box = subst (λ (i : ℕ). slice_get (boxes ++ more) (i + k) ≡ Some kid.1) pool.count (get_right boxes more k ∙ b) };
      }

-- ---- the calls

pub new_is_of : (g : TreeRules) → NewIsOf g
new_is_of g root =
    record {
      count = refl;
      rooted = refl;
      each = λ n r b at box. one n r b at box;
    }
  where
    one : (n : ℕ) (r : Row) (b : g.Box) → slice_get (first_row ∷ []) n ≡ Some r → slice_get (root ∷ []) n ≡ Some b → Holds (after_steps g b r.steps) (λ c. EndHolds g (first_row ∷ []) (root ∷ []) c r.standing)
    one zero r b at box = let e : first_row ≡ r = cc in rw (← e) tt
    one (suc n) r b at box = absurd cc

no_box : {A B : Type 0} (xs : List A) (f : A → B) → xs ≡ [] → map f xs ≡ []
no_box xs f e = rw e refl

-- a change of one row with no children
of_updated : (g : TreeRules) (root : g.Box) (rows : List Row) (boxes : Boxes g) → IsMap rows → IsOf g root rows boxes → (n : ℕ) (r : Row) (b : g.Box) → slice_get rows n ≡ Some r → slice_get boxes n ≡ Some b
    → (f : Row → Row) → KeepsPlace r f → NotSplit (f r).standing → Holds (after_steps g b (f r).steps) (λ c. EndHolds g rows boxes c (f r).standing) → IsOf g root (update rows n f) boxes
of_updated g root rows boxes paths pool n r b here there f keeps whole holds =
    let becomes : Becomes rows r f [] = record { keeps = keeps; which = inl (whole, refl) } in
    subst (λ (bs : Boxes g). IsOf g root (update rows n f) bs) (append-nil boxes)
    (subst (λ (rs : List Row). IsOf g root rs (boxes ++ [])) (append-nil (update rows n f))
    (of_after g rows paths n r here f [] becomes boxes [] root pool refl b there
    (holds_map (after_steps g b (f r).steps) (λ c. EndHolds g rows boxes c (f r).standing) (λ c. EndHolds g (after rows n r.path f []) (boxes ++ []) c (f r).standing)
    (λ c h. end_kept g rows paths n r here f [] becomes boxes [] c (f r).standing h) holds)))

pub box_there : (g : TreeRules) (root : g.Box) (rows : List Row) (boxes : Boxes g) → IsOf g root rows boxes → (n : ℕ) (r : Row) → slice_get rows n ≡ Some r → (b : g.Box) × (slice_get boxes n ≡ Some b)
box_there g root rows boxes pool n r here = there boxes n (let a = slice_get_within rows n r here in let b = pool.count in omega arith)

-- a box that waits or is held isn't split
pub unsplit : (s : Standing) → (s ≡ Waiting) ⊎ (s ≡ Held) → NotSplit s
unsplit s (inl e) f first count k = cc
unsplit s (inr e) f first count k = cc

open_holds : (g : TreeRules) (rows : List Row) (boxes : Boxes g) (c : g.Box) (s : Standing) → (s ≡ Waiting) ⊎ (s ≡ Held) → EndHolds g rows boxes c s
open_holds g rows boxes c s (inl e) = rw e tt
open_holds g rows boxes c s (inr e) = rw e tt

pub standing_keeps : (g : TreeRules) → StandingKeeps g
standing_keeps g root rows boxes n r s paths pool here was is =
    let b = box_there g root rows boxes pool n r here in
    of_updated g root rows boxes paths pool n r b.0 here b.1 (stand s) (record { path = refl; head = refl; before = unsplit r.standing was }) (unsplit s is)
    (holds_map (after_steps g b.0 r.steps) (λ c. EndHolds g rows boxes c r.standing) (λ c. EndHolds g rows boxes c s) (λ c h. open_holds g rows boxes c s is) (pool.each n r b.0 here b.1))

shut_whole : (s e : Standing) → s ≡ e → NotSplit e → NotSplit s
shut_whole s e is h f first count k = h f first count (sym is ∙ k)

pub giving_keeps : (g : TreeRules) → GivingKeeps g
giving_keeps g root rows boxes n r b paths pool here held there xs (ends.Shut c) kids fits =
    let z = holds_some (after_steps g b xs) (λ d. (g.shuts d c ≡ true) × (kids ≡ [])) fits in
    let none = no_box kids (λ (k : Head × g.Box). k.1) z.2.1 in
    rw (none, append-nil boxes) (of_updated g root rows boxes paths pool n r b here there (fill xs (Shuts c)) (record { path = refl; head = refl; before = unsplit r.standing (inr held) }) (λ f first count k. cc)
    (holds_map (after_steps g b xs) (λ d. (g.shuts d c ≡ true) × (kids ≡ [])) (λ d. EndHolds g rows boxes d (Shuts c)) (λ d h. h.0) fits))
giving_keeps g root rows boxes n r b paths pool here held there xs ends.Left kids fits =
    let z = holds_some (after_steps g b xs) (λ d. kids ≡ []) fits in
    let none = no_box kids (λ (k : Head × g.Box). k.1) z.2 in
    rw (none, append-nil boxes) (of_updated g root rows boxes paths pool n r b here there (fill xs Quit) (record { path = refl; head = refl; before = unsplit r.standing (inr held) }) (λ f first count k. cc)
    (holds_map (after_steps g b xs) (λ d. kids ≡ []) (λ d. EndHolds g rows boxes d Quit) (λ d h. tt) fits))
giving_keeps g root rows boxes n r b paths pool here held there xs (ends.Split f heads) kids fits =
    let s = Splits (branch_of f) (length rows) (length heads) in
    let becomes : Becomes rows r (fill xs s) heads = record { keeps = record { path = refl; head = refl; before = unsplit r.standing (inr held) }; which = inr (branch_of f, refl) } in
    let more = map (λ (k : Head × g.Box). k.1) kids in
    let z = holds_some (after_steps g b xs) (λ d. EndFits g d (ends.Split f heads) kids) fits in
    let hs : heads ≡ map (λ (k : Head × g.Box). k.0) kids = z.2.1 in
    let size : length more ≡ length heads = (let a = length-map kids (λ (k : Head × g.Box). k.1) in let c = length-map kids (λ (k : Head × g.Box). k.0) in let d = ap length hs in omega arith) in
    of_after g rows paths n r here (fill xs s) heads becomes boxes more root pool size b there
    (holds_map (after_steps g b xs) (λ d. EndFits g d (ends.Split f heads) kids) (λ d. EndHolds g (after rows n r.path (fill xs s) heads) (boxes ++ more) d s)
    (λ d h. holds_map (g.branch d (branch_of f)) (λ w. AreExpected g w kids) (λ w. AreGiven g (after rows n r.path (fill xs s) heads) (boxes ++ more) w (length rows) (length heads))
    (λ w e. kids_given g rows paths n r here (fill xs s) heads becomes boxes more root pool kids h.1 refl w e) h.0) fits)

-- ---- the tree passes

step_first : (g : TreeRules) (b : g.Box) (x : Step) (xs : List Step) (c : g.Box) → after_steps g b (x ∷ xs) ≡ Some c → (a : g.Box) × (g.step b x ≡ Some a) × (after_steps g a xs ≡ Some c)
step_first g b x xs c h = option_and_then_some (λ next. after_steps g next xs) (g.step b x) c h (λ a e k. (a, e, k))

module _ (g : TreeRules) (root : g.Box) (rows : List Row) (paths : IsMap rows) (boxes : Boxes g) (pool : IsOf g root rows boxes) where
  mutual
    passes : (n : ℕ) (r : Row) → slice_get rows n ≡ Some r → (b : g.Box) (xs : List Step) (e : Standing) → r.standing ≡ e → (t : Tree) → Holds (after_steps g b xs) (λ c. EndHolds g rows boxes c e)
        → IsBoxOf (works rows) r.path xs (end_of e) t → Passes g t b
    passes n r here b (x ∷ xs) e is (Then y t) l h =
        let z = holds_some (after_steps g b (x ∷ xs)) (λ c. EndHolds g rows boxes c e) l in
        let a = step_first g b x xs z.0 z.1 in
        let u : g.step b y ≡ Some a.0 = (let v = a.1 in let w = h.0 in cc) in
        rw u (passes n r here a.0 xs e is t (rw a.2 z.2) h.1)
    passes n r here b [] (Shuts c) is (Shut d) l h = rw (← h) l
    passes n r here b [] Waiting is Left l h = tt
    passes n r here b [] Held is Left l h = tt
    passes n r here b [] Quit is Left l h = tt
    passes n r here b [] (Splits f first count) is (Split i ks) l h =
        let z = holds_some (g.branch b f) (λ w. AreGiven g rows boxes w first count) l in
        let u : g.branch b i ≡ Some z.0 = (let v = h.0 in let w = z.1 in cc) in
        let given = z.2 in
        rw u (pass_all n r here f first count is 0 given.kids z.0 ks given.expected (λ j kid at. let m : 0 + j ≡ j = omega arith in rw m (given.each j kid at)) (let a = given.number in omega arith) (rw given.number at h.1))
    passes n r here b xs e is t l h = absurd assumption

    pass_all : (n : ℕ) (r : Row) → slice_get rows n ≡ Some r → (f : Branch) (first count : ℕ) → r.standing ≡ Splits f first count → (k : ℕ) (kids : List (Head × g.Box)) (w : g.Wait) (ks : Children) → AreExpected g w kids
        → ((j : ℕ) (kid : Head × g.Box) → slice_get kids j ≡ Some kid → IsChildAt g rows boxes (first + (k + j)) kid) → k + length kids ≡ count
        → AreChildrenOf (works rows) r.path k (length kids) ks → PassAll g ks w
    pass_all n r here f first count is k [] w NoChild e each sum h = e
    pass_all n r here f first count is k (x ∷ kids) w (Child i t ks) e each sum h =
        let q = each 0 x refl in
        let at = (paths.below n r f first count here is).1 k (omega arith) in
        let z : k + 0 ≡ k = omega arith in
        let same : at.0 ≡ q.row = (let a = at.1 in let b = q.here in cc) in
        let named : q.row.path ≡ k ∷ r.path = ap (λ (y : Row). y.path) (sym same) ∙ at.2 in
        let found : works rows (k ∷ r.path) ≡ Some (work_of q.row) = subst (λ (p : List ℕ). works rows p ≡ Some (work_of q.row)) named (work_at rows paths (first + (k + 0)) q.row q.here) in
        let shown = subst (λ (o : Option Work). Holds o (λ y. (y.head ≡ Some i) × IsBoxOf (works rows) (k ∷ r.path) y.steps y.end t)) found h.0 in
        let next = holds_some (g.head w x.0) (λ next. (next.0 ≡ x.1) × AreExpected g next.1 kids) e.1 in
        let head : x.0 ≡ i = (let a = q.head in let b = shown.0 in cc) in
        let taken : g.head w i ≡ Some next.0 = rw (← head) next.1 in
        let below = passes (first + (k + 0)) q.row q.here next.0.0 q.row.steps q.row.standing refl t
        (rw next.2.0 (pool.each (first + (k + 0)) q.row x.1 q.here q.box))
        (subst (λ (p : List ℕ). IsBoxOf (works rows) p q.row.steps (end_of q.row.standing) t) (sym named) shown.1) in (
          e.0,
          rw taken (
            below,
            pass_all n r here f first count is (suc k) kids next.0.1 ks next.2.1
                (λ j y s. let m : suc k + j ≡ k + suc j = omega arith in rw m (each (suc j) y s)) (omega arith) h.1,
          ),
        )
    pass_all n r here f first count is k kids w ks e each sum h = absurd assumption

pub shown_pass : (g : TreeRules) → ShownPass g
shown_pass g root rows boxes paths pool t shows =
    let q = there rows 0 paths.some in
    let top = paths.top q.0 q.1 in
    let found : works rows [] ≡ Some (work_of q.0) = subst (λ (p : List ℕ). works rows p ≡ Some (work_of q.0)) top.0 (work_at rows paths 0 q.0 q.1) in
    let shown = subst (λ (o : Option Work). Holds o (λ x. IsBoxOf (works rows) [] x.steps x.end t)) found shows in
    passes g root rows paths boxes pool 0 q.0 q.1 root q.0.steps q.0.standing refl t (pool.each 0 q.0 root q.1 pool.rooted)
    (subst (λ (p : List ℕ). IsBoxOf (works rows) p q.0.steps (end_of q.0.standing) t) (sym top.0) shown)
