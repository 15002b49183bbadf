-- The rows of a search show a way to each box.
use Rattle.std.proofs.Common.{◌≡◌, ℕ, zero, suc, ◌+◌, ◌<◌, refl, length, sym, ap, subst, ◌∙◌, inl, inr, arith, ℤ, List, [], ◌∷◌, Option, Some, None}
use Rattle.std.specs.Prelude.{slice_get, option_and_then}
use Rattle.std.specs.Option.{option_map_or}
use Rattle.gas_model.specs.Rows.{Network}
use Rattle.tree_cert.specs.declared.line.Head.{Head}
use Rattle.tree_cert.specs.declared.line.Step.{Step}
use Rattle.tree_cert.specs.Tree.{Branch}
use Rattle.tree_cert.specs.TreeRules.{Holds}
use Rattle.tree_cert.proofs.Options.{holds_some}
use Rattle.tree_rules.specs.Rules.{PartBox}
use Rattle.tree_rules.specs.Branches.{headed, after_branch, rules_of}
use Rattle.tree_rules.proofs.CutSound.{get_some}
use Rattle.tree_pool.specs.Rows.{Standing, Splits, Row, row_at, IsMap, HangsBelow}
use Rattle.tree_pool.specs.Rules.{AreGiven, EndHolds, IsOf}
use Rattle.tree_pool.proofs.Lists.{found, same_paths}
use Rattle.search_order.specs.Searches.{KnownAt, IsKnown, IsLeft, StopsAt}
use Rattle.search_order.proofs.PathOrder.{total}
use Rattle.stable_sweep.specs.Runs.{after}
use Rattle.nom_search.specs.declared.searching.Why.{Why}
use Rattle.nom_search.specs.declared.searching.Why.TheVariants.{Budget, Grid}
use Rattle.nom_search.specs.Sought.{sought}
use Rattle.nom_search.specs.Halted.{HaltsAt}
use Rattle.nom_search.proofs.Runs.{turns_lead}
use Rattle.search_reach.specs.Widths.{heads_to, head_at}
use Rattle.search_reach.proofs.WidthKids.{kids_headed}
use Rattle.search_reach.proofs.WidthWays.{IsBelow, Led}

same_head : (q r : Row) (h : Head) → q ≡ r → q.head ≡ Some h → r.head ≡ Some h
same_head q r h e head = subst (λ (x : Row). x.head ≡ Some h) e head

-- each split box is known
abbrev pub SplitsAreKnown : Network → ℤ → List Row → List PartBox → List ℕ → Type 0
SplitsAreKnown p tol rows boxes turns =
    (n : ℕ) (r : Row) (f : Branch) (first count : ℕ) → slice_get rows n ≡ Some r → r.standing ≡ Splits f first count → IsKnown (sought p tol) rows boxes turns n r

stopped_known : (p : Network) (tol : ℤ) (budget : ℕ) (rows : List Row) (boxes : List PartBox) (turns : List ℕ) (named : ℕ) → IsMap rows → StopsAt (sought p tol) budget rows boxes turns named → SplitsAreKnown p tol rows boxes turns
stopped_known p tol budget rows boxes turns named map stop n r f first count here split =
    elim (total r.path stop.row.path) [
      | inl before ↦ (stop.before n r here before).1
      | inr rest ↦ elim rest [
        | inl same ↦
            let number = map.distinct n named r stop.row here stop.here same in
            let one : stop.row ≡ r = (let e = stop.here in cc) in
            absurd (let q = stop.quit in let s = ap (λ (x : Row). x.standing) one in cc)
        | inr behind ↦ absurd (let w = (stop.behind n r here behind).0 in cc)
      ]
    ]

pub halted_known : (p : Network) (tol : ℤ) (root : PartBox) (budget : ℕ) (why : Why) (rows : List Row) (boxes : List PartBox) (turns : List ℕ) (named : ℕ) → IsMap rows → HaltsAt p tol root budget why rows boxes turns named
    → SplitsAreKnown p tol rows boxes turns
halted_known p tol root budget Budget rows boxes turns named map halts = stopped_known p tol budget rows boxes turns named map halts
halted_known p tol root budget Grid rows boxes turns named map halts = λ n r f first count here split. halts.0.known n r here

-- what the steps of a box leave
pub left_is : (p : Network) (tol : ℤ) (boxes : List PartBox) (turns : List ℕ) (n : ℕ) (steps : List Step) (turn : ℕ) (box : PartBox) → (left : IsLeft (sought p tol) boxes turns n steps turn box) → box ≡ after left.start steps
left_is p tol boxes turns n steps turn box left =
    let a = left.after in
    let b = turns_lead p left.start steps left.moves in
    cc

-- the turn that the list has there, if it has one
abbrev pub IsTurnAt : List ℕ → ℕ → ℕ → Type 0
IsTurnAt turns n turn = (t : ℕ) → slice_get turns n ≡ Some t → turn ≡ t

pub turn_there : (o : Option ℕ) → (turn : ℕ) × ((t : ℕ) → o ≡ Some t → turn ≡ t)
turn_there None = (0, λ t e. absurd cc)
turn_there (Some turn) = (turn, λ t e. cc)

module _ (p : Network) (tol : ℤ) (root : PartBox) (rows : List Row) (boxes : List PartBox) (turns : List ℕ) (map : IsMap rows) (pool : IsOf (rules_of p) root rows boxes) (known : SplitsAreKnown p tol rows boxes turns) where
  own_row : (n : ℕ) (r : Row) → slice_get rows n ≡ Some r → row_at rows r.path ≡ Some r
  own_row n r here = found rows n r here (λ m q at same. map.distinct m n q r at here (same_paths q.path r.path same))

  heads_split : (n : ℕ) (r : Row) (k : ℕ) (path : List ℕ) (h : Head) → slice_get rows n ≡ Some r → r.path ≡ k ∷ path → r.head ≡ Some h → heads_to rows (k ∷ path) ≡ h ∷ heads_to rows path
  heads_split n r k path h here is head =
      let at : row_at rows (k ∷ path) ≡ Some r = ap (row_at rows) (sym is) ∙ own_row n r here in
      let that : head_at rows (k ∷ path) ≡ Some h = ap (option_and_then (λ (x : Row). x.head)) at ∙ head in
      ap (λ o. option_map_or (λ (x : Head). x ∷ heads_to rows path) o (heads_to rows path)) that

  -- a child of a split box has the box of its head
  given_headed : (c b : PartBox) (h : Head) (r : Row) (f : Branch) (first count nth : ℕ) → EndHolds (rules_of p) rows boxes c (Splits f first count) → nth < count
      → slice_get rows (first + nth) ≡ Some r → r.head ≡ Some h → slice_get boxes (first + nth) ≡ Some b → b ≡ headed c h
  given_headed c b h r f first count nth ended within here head there =
      let w = holds_some (after_branch p c f) (λ w. AreGiven (rules_of p) rows boxes w first count) ended in
      let kid = get_some w.2.kids nth (let e = w.2.number in omega arith) in
      let child = w.2.each nth kid.0 kid.1 in
      let row : child.row ≡ r = (let e = child.here in cc) in
      let box : kid.0.1 ≡ b = (let e = child.box in cc) in
      let same : kid.0.0 ≡ h = (let e = child.head in let g = ap (λ (x : Row). x.head) row in cc) in
      let is = kids_headed p c f w.0 w.2.kids w.1 w.2.expected nth kid.0 kid.1 in
      sym box ∙ is ∙ ap (headed c) same

  -- the box of a row below another one, where that is led to
  record Found (n : ℕ) (r : Row) (b : PartBox) (turn : ℕ) (path : List ℕ) : Type 0 where
    head : Head
    is : r.head ≡ Some head
    led : Led p root (head ∷ heads_to rows path) b turn

  child_led : (m : ℕ) (r : Row) (b : PartBox) (turn : ℕ) → slice_get rows m ≡ Some r → slice_get boxes m ≡ Some b → IsTurnAt turns m turn → (h : HangsBelow rows m)
      → ((B : PartBox) (from : ℕ) → slice_get boxes h.parent ≡ Some B → IsTurnAt turns h.parent from → Led p root (heads_to rows h.row.path) B from)
      → Found m r b turn h.row.path
  child_led m r b turn here there turned h up =
      let k = known h.parent h.row h.branch h.first h.count h.here h.split in
      let left = k.left in
      let box_is = left_is p tol boxes turns h.parent h.row.steps k.turn k.box left in
      let at = subst (λ (s : Standing). KnownAt (sought p tol) rows turns s k.turn k.box) h.split k.known in
      let heads = at.1.0 in
      let next = at.1.1 in
      let forked = at.1.3 in
      let have = at.1.4 in
      let x = get_some heads h.nth (let a = h.within in let e = at.1.2 in omega arith) in
      let q = have.row h.nth x.0 x.1 in
      let row : q.0 ≡ r = (let e = q.1 in let f = h.number in cc) in
      let named : q.0.head ≡ Some x.0 = q.2 in
      let head : r.head ≡ Some x.0 = same_head q.0 r x.0 row named in
      let next_is : turn ≡ next = turned next (ap (slice_get turns) h.number ∙ have.turn h.nth x.0 x.1) in
      let holds = pool.each h.parent h.row left.start h.here left.here in
      let end : EndHolds (rules_of p) rows boxes k.box h.row.standing = subst (λ o. Holds o (λ c. EndHolds (rules_of p) rows boxes c h.row.standing)) left.after holds in
      let ended = subst (EndHolds (rules_of p) rows boxes k.box) h.split end in
      let own : b ≡ headed k.box x.0 = given_headed k.box b x.0 r h.branch h.first h.count h.nth ended h.within (ap (slice_get rows) (sym h.number) ∙ here) head (ap (slice_get boxes) (sym h.number) ∙ there) in
      let below : IsBelow p k.box k.turn x.0 b turn = record {
        fork = forked.fork;
        has = forked.has;
        wide = forked.wide;
        nth = h.nth;
        among = sym (ap (λ ys. slice_get ys h.nth) forked.heads_are) ∙ x.1;
        box = own;
        turned = next_is ∙ forked.next_is;
      } in
      record {
        head = x.0;
        is = head;
        led = (
          record {
            above = left.start;
            from = k.turn;
            steps = h.row.steps;
            turns = left.moves;
            below = subst (λ (c : PartBox). IsBelow p c k.turn x.0 b turn) box_is below;
          },
          up left.start k.turn left.here (λ t e. let g = left.turned in cc),
        );
      }

  -- its path is that of the box above it, with its place there
  place : (m : ℕ) (r : Row) (path : List ℕ) → slice_get rows m ≡ Some r → (h : HangsBelow rows m) → r.path ≡ path → h.nth ∷ h.row.path ≡ path
  place m r path here h is =
      let (q, at, child) = (map.below h.parent h.row h.branch h.first h.count h.here h.split).1 h.nth h.within in
      let same : q ≡ r = (let e = h.number in cc) in
      sym child ∙ ap (λ (x : Row). x.path) same ∙ is

  -- each box on the way has a head, but for the root
  pub heads_length : (path : List ℕ) (n : ℕ) (r : Row) → slice_get rows n ≡ Some r → r.path ≡ path → length (heads_to rows path) ≡ length path
  heads_length [] n r here is = refl
  heads_length (k ∷ path) zero r here is = absurd (let e = (map.top r here).0 in cc)
  heads_length (k ∷ path) (suc n) r here is =
      let h = map.above n r here in
      let head = map.headed n r here in
      let whole = place (suc n) r (k ∷ path) here h is in
      let above : h.row.path ≡ path = cc in
      ap length (heads_split (suc n) r k path head.0 here is head.1) ∙ ap suc (heads_length path h.parent h.row h.here above)

  -- a way leads to each box
  pub way_to : (path : List ℕ) (n : ℕ) (r : Row) (b : PartBox) (turn : ℕ) → slice_get rows n ≡ Some r → slice_get boxes n ≡ Some b → IsTurnAt turns n turn → r.path ≡ path → Led p root (heads_to rows path) b turn
  way_to [] zero r b turn here there turned is = let e = pool.rooted in cc
  way_to (k ∷ path) zero r b turn here there turned is = absurd (let e = (map.top r here).0 in cc)
  way_to [] (suc n) r b turn here there turned is = absurd (let e = place (suc n) r [] here (map.above n r here) is in cc)
  way_to (k ∷ path) (suc n) r b turn here there turned is =
      let h = map.above n r here in
      let whole = place (suc n) r (k ∷ path) here h is in
      let above : h.row.path ≡ path = cc in
      let f = child_led (suc n) r b turn here there turned h (λ B from at t. subst (λ (x : List ℕ). Led p root (heads_to rows x) B from) (sym above) (way_to path h.parent h.row B from h.here at t above)) in
      let led : Led p root (f.head ∷ heads_to rows path) b turn = subst (λ (x : List ℕ). Led p root (f.head ∷ heads_to rows x) b turn) above f.led in
      subst (λ (hs : List Head). Led p root hs b turn) (sym (heads_split (suc n) r k path f.head here is f.is)) led
