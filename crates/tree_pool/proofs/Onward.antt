-- The text from a box on: what comes after a box, the next box, and that each box stands in the text.
use Rattle.std.proofs.Common.{◌≡◌, ℕ, zero, suc, ◌+◌, ◌-◌, ◌<◌, ◌≤◌, List, [], ◌∷◌, ◌++◌, length, Option, Some, None, refl, sym, ap, subst, ◌∙◌, append_assoc, length-append, arith}
use Rattle.std.specs.Prelude.{slice_get}
use Rattle.std.proofs.lemmas.List.{append-nil}
use Rattle.tree_cert.specs.declared.line.Step.{Step}
use Rattle.tree_cert.specs.declared.line.Head.{Head}
use Rattle.tree_cert.specs.declared.line.Line.{Line}
use Rattle.tree_cert.specs.declared.line.Line.TheVariants as lines
use Rattle.tree_cert.specs.Tree.{Branch, Tree, Children, Then, Shut, Left, Split, NoChild, Child, branch_line, box_lines, child_lines}
use Rattle.tree_cert.specs.TreeRules.{Holds}
use Rattle.tree_cert.proofs.Options.{holds_some}
use Rattle.tree_pool.specs.Rows.{Standing, Splits, Row, IsMap}
use Rattle.tree_pool.specs.Shown.{End, Opens, Closes, Forks, Work, end_of, work_of, works, IsBoxOf, AreChildrenOf, Shows}
use Rattle.tree_pool.specs.Lines.{head_lines, step_lines, end_line, own_lines, children_of, HasChildren, After, Remains, Pending, IsLineOf}
use Rattle.tree_pool.proofs.Shown.{work_at}
use Rattle.tree_pool.proofs.Single.{show_one_tree}
use Rattle.tree_pool.proofs.Lists.{there}

-- what comes after the end of the box at a path
abbrev RemainsAt : (List ℕ → Option Work) → List ℕ → End → List Line → Type 0
RemainsAt w path e ls = (tail : List Line) × HasChildren w path 0 (children_of e) ls tail × After w path tail

-- lines that are passed, and more of them
passed : (ls front rest more later : List Line) → ls ≡ front ++ rest → rest ≡ more ++ later → ls ≡ (front ++ more) ++ later
passed ls front rest more later e f = e ∙ ap (λ (l : List Line). front ++ l) f ∙ sym (append_assoc front more later)

-- the lines of a box are its steps, its end, and what remains
box_text : (w : List ℕ → Option Work) (path : List ℕ) (xs : List Step) (e : End) (t : Tree) → IsBoxOf w path xs e t → (tail : List Line) → After w path tail
    → (rest : List Line) × (box_lines t ++ tail ≡ (step_lines xs ++ end_line e ∷ []) ++ rest) × RemainsAt w path e rest
box_text w path (x ∷ xs) e (Then y t) h tail after =
    let z = box_text w path xs e t h.1 tail after in
    (z.0, ap (λ (s : Step). lines.Step s ∷ (box_lines t ++ tail)) (sym h.0) ∙ ap (λ (ls : List Line). lines.Step x ∷ ls) z.1, z.2)
box_text w path [] (Closes c) (Shut d) h tail after = (tail, ap (λ k. lines.Close k ∷ tail) (sym h), (tail, record { children = NoChild; shown = tt; text = refl }, after))
box_text w path [] Opens Left h tail after = (tail, refl, (tail, record { children = NoChild; shown = tt; text = refl }, after))
box_text w path [] (Forks f count) (Split g ks) h tail after =
    (child_lines ks ++ tail, ap (λ k. branch_line k ∷ (child_lines ks ++ tail)) (sym h.0), (tail, record { children = ks; shown = h.1; text = refl }, after))
box_text w path xs e t h tail after = absurd assumption

-- children that are none
no_child : (w : List ℕ → Option Work) (path : List ℕ) (k : ℕ) (ks : Children) → AreChildrenOf w path k 0 ks → child_lines ks ≡ []
no_child w path k NoChild h = refl
no_child w path k (Child g t ks) h = absurd h

pub run_done : (w : List ℕ → Option Work) (path : List ℕ) (k c : ℕ) (ls tail : List Line) → c ≡ 0 → HasChildren w path k c ls tail → ls ≡ tail
run_done w path k c ls tail none h = h.text ∙ ap (λ (l : List Line). l ++ tail) (no_child w path k h.children (subst (λ (n : ℕ). AreChildrenOf w path k n h.children) none h.shown))

-- the first of children that are some
pub record FirstChild (w : List ℕ → Option Work) (path : List ℕ) (k c : ℕ) (ls tail : List Line) : Type 0 where
  pub work : Work
  pub here : w (k ∷ path) ≡ Some work
  pub head : Head
  pub headed : work.head ≡ Some head
  pub tree : Tree
  pub shown : IsBoxOf w (k ∷ path) work.steps work.end tree
  pub later : List Line
  pub rest : HasChildren w path (suc k) c later tail
  pub text : ls ≡ lines.Head head ∷ (box_lines tree ++ later)

first_by : (w : List ℕ → Option Work) (path : List ℕ) (k c : ℕ) (ls tail : List Line) (ks : Children) → AreChildrenOf w path k (suc c) ks → ls ≡ child_lines ks ++ tail → FirstChild w path k c ls tail
first_by w path k c ls tail NoChild h e = absurd h
first_by w path k c ls tail (Child g t ks) h e =
    let x = holds_some (w (k ∷ path)) (λ x. (x.head ≡ Some g) × IsBoxOf w (k ∷ path) x.steps x.end t) h.0 in
    record {
      work = x.0;
      here = x.1;
      head = g;
      headed = x.2.0;
      tree = t;
      shown = x.2.1;
      later = child_lines ks ++ tail;
      rest = record { children = ks; shown = h.1; text = refl };
      text = e ∙ ap (λ (l : List Line). lines.Head g ∷ l) (append_assoc (box_lines t) (child_lines ks) tail);
    }

first_child : (w : List ℕ → Option Work) (path : List ℕ) (k c n : ℕ) (ls tail : List Line) → n ≡ suc c → HasChildren w path k n ls tail → FirstChild w path k c ls tail
first_child w path k c n ls tail e h = first_by w path k c ls tail h.children (subst (λ (m : ℕ). AreChildrenOf w path k m h.children) e h.shown) h.text

-- the lines from a box's head on begin with its own
own_front : (r : Row) (h : Option Head) (ls rest : List Line) → r.head ≡ h → ls ≡ (step_lines r.steps ++ end_line (end_of r.standing) ∷ []) ++ rest → head_lines h ++ ls ≡ own_lines r ++ rest
own_front r h ls rest is e =
    ap (λ (l : List Line). head_lines h ++ l) e
    ∙ sym (append_assoc (head_lines h) (step_lines r.steps ++ end_line (end_of r.standing) ∷ []) rest)
    ∙ ap (λ (o : Option Head). (head_lines o ++ (step_lines r.steps ++ end_line (end_of r.standing) ∷ [])) ++ rest) (sym is)

-- the text from a box on, by the tree that it shows
pending_at : (rows : List Row) (m : ℕ) (r : Row) (h : Option Head) (p : List ℕ) (t : Tree) (ls later rest : List Line) → slice_get rows m ≡ Some r → r.path ≡ p → r.head ≡ h → ls ≡ head_lines h ++ (box_lines t ++ later)
    → box_lines t ++ later ≡ (step_lines r.steps ++ end_line (end_of r.standing) ∷ []) ++ rest → RemainsAt (works rows) p (end_of r.standing) rest → Pending rows (Some m) ls
pending_at rows m r h p t ls later rest here is headed text e remains =
    subst (λ (o : Option Row). Holds o (λ r. (rest : List Line) × (ls ≡ own_lines r ++ rest) × Remains rows r rest)) (sym here)
    (rest, text ∙ own_front r h (box_lines t ++ later) rest headed e, subst (λ (p : List ℕ). RemainsAt (works rows) p (end_of r.standing) rest) (sym is) remains)

box_pending : (rows : List Row) (m : ℕ) (r : Row) (h : Option Head) (p : List ℕ) (t : Tree) (ls later : List Line) → slice_get rows m ≡ Some r → r.path ≡ p → r.head ≡ h → ls ≡ head_lines h ++ (box_lines t ++ later)
    → IsBoxOf (works rows) p r.steps (end_of r.standing) t → After (works rows) p later → Pending rows (Some m) ls
box_pending rows m r h p t ls later here is headed text shown after =
    let z = box_text (works rows) p r.steps (end_of r.standing) t shown later after in
    pending_at rows m r h p t ls later z.0 here is headed text z.1 z.2

module _ (rows : List Row) (map : IsMap rows) where
  first_pending : (m : ℕ) (q : Row) (path : List ℕ) (k : ℕ) (x : Work) (ls tail : List Line) → slice_get rows m ≡ Some q → q.path ≡ k ∷ path → works rows path ≡ Some x
      → FirstChild (works rows) path k (children_of x.end - suc k) ls tail → After (works rows) path tail → Pending rows (Some m) ls
  first_pending m q path k x ls tail here is at first after =
      let found : works rows (k ∷ path) ≡ Some (work_of q) = subst (λ (p : List ℕ). works rows p ≡ Some (work_of q)) is (work_at rows map m q here) in
      let same : first.work ≡ work_of q = (let a = first.here in cc) in
      box_pending rows m q (Some first.head) (k ∷ path) first.tree ls first.later here is
      (ap (λ (y : Work). y.head) (sym same) ∙ first.headed) first.text
      (subst (λ (y : Work). IsBoxOf (works rows) (k ∷ path) y.steps y.end first.tree) same first.shown)
      (tail, subst (λ (o : Option Work). Holds o (λ x. HasChildren (works rows) path (suc k) (children_of x.end - suc k) first.later tail)) (sym at) first.rest, after)

  -- the text from a child on
  pub child_pending : (m : ℕ) (q : Row) (path : List ℕ) (k : ℕ) (x : Work) (ls tail : List Line) → slice_get rows m ≡ Some q → q.path ≡ k ∷ path → works rows path ≡ Some x → k < children_of x.end
      → HasChildren (works rows) path k (children_of x.end - k) ls tail → After (works rows) path tail → Pending rows (Some m) ls
  child_pending m q path k x ls tail here is at lt run after =
      first_pending m q path k x ls tail here is at (first_child (works rows) path k (children_of x.end - suc k) (children_of x.end - k) ls tail (omega arith) run) after

  -- the text from the root on is the whole tree's
  pub root_pending : (t : Tree) → Shows (works rows) [] t → Pending rows (Some 0) (box_lines t)
  root_pending t shows =
      let q = there rows 0 map.some in
      let top = map.top q.0 q.1 in
      let found : works rows [] ≡ Some (work_of q.0) = subst (λ (p : List ℕ). works rows p ≡ Some (work_of q.0)) top.0 (work_at rows map 0 q.0 q.1) in
      let shown = subst (λ (o : Option Work). Holds o (λ x. IsBoxOf (works rows) [] x.steps x.end t)) found shows in
      box_pending rows 0 q.0 None [] t (box_lines t) [] q.1 top.0 top.1 (sym (append-nil (box_lines t))) shown refl

  -- the children before child number k are passed
  skip : (path : List ℕ) (k n : ℕ) (ls tail : List Line) → k ≤ n → HasChildren (works rows) path 0 n ls tail → (front : List Line) × (rest : List Line) × (ls ≡ front ++ rest) × HasChildren (works rows) path k (n - k) rest tail
  skip path zero n ls tail le h = ([], ls, refl, (let e : n - 0 ≡ n = omega arith in rw e h))
  skip path (suc k) n ls tail le h =
      let z = skip path k n ls tail (omega arith) h in
      over path k (n - suc k) ls z.0 z.1 tail z.2 (first_child (works rows) path k (n - suc k) (n - k) z.1 tail (omega arith) z.3)
    where
      over : (path : List ℕ) (k c : ℕ) (ls front rest tail : List Line) → ls ≡ front ++ rest → FirstChild (works rows) path k c rest tail → (more : List Line) × (later : List Line) × (ls ≡ more ++ later) × HasChildren (works rows) path (suc k) c later tail
      over path k c ls front rest tail e first =
          (front ++ (lines.Head first.head ∷ box_lines first.tree), first.later, passed ls front rest (lines.Head first.head ∷ box_lines first.tree) first.later e first.text, first.rest)

  -- each box stands in the text
  pub record Stands (t : Tree) (r : Row) : Type 0 where
    pub front : List Line
    pub rest : List Line
    pub text : box_lines t ≡ front ++ rest
    pub remains : Remains rows r rest

  stands_from : (t : Tree) (m : ℕ) (r : Row) (front ls : List Line) → slice_get rows m ≡ Some r → box_lines t ≡ front ++ ls → Pending rows (Some m) ls → Stands t r
  stands_from t m r front ls here e p =
      let z = subst (λ (o : Option Row). Holds o (λ r. (rest : List Line) × (ls ≡ own_lines r ++ rest) × Remains rows r rest)) here p in
      record {
        front = front ++ own_lines r;
        rest = z.0;
        text = passed (box_lines t) front ls (own_lines r) z.0 e z.1;
        remains = z.2;
      }

  -- a child is where its number says
  pub child_of_parent : (m : ℕ) (q : Row) (k : ℕ) (path : List ℕ) → slice_get rows m ≡ Some q → q.path ≡ k ∷ path
      → (n : ℕ) × (p : Row) × (f : Branch) × (first : ℕ) × (count : ℕ) × (slice_get rows n ≡ Some p) × (p.path ≡ path) × (p.standing ≡ Splits f first count) × (k < count) × (m ≡ first + k)
  child_of_parent zero q k path here is = absurd (let e = (map.top q here).0 in cc)
  child_of_parent (suc m) q k path here is =
      let a = map.above m q here in
      let b = (map.below a.parent a.row a.branch a.first a.count a.here a.split).1 a.nth a.within in
      let same : b.0 ≡ q = (let c = b.1 in let d = a.number in cc) in
      let paths : a.nth ∷ a.row.path ≡ k ∷ path = sym b.2 ∙ ap (λ (x : Row). x.path) same ∙ is in
      let number : a.nth ≡ k = cc paths in
      (a.parent, a.row, a.branch, a.first, a.count, a.here, cc paths, a.split, (let c = a.within in omega arith), (let c = a.number in omega arith))

  pub stands_in : (t : Tree) → Shows (works rows) [] t → (path : List ℕ) (m : ℕ) (r : Row) → slice_get rows m ≡ Some r → r.path ≡ path → Stands t r
  stands_in t shows [] m r here is =
      let q = there rows 0 map.some in
      let top = map.top q.0 q.1 in
      let zero : m ≡ 0 = map.distinct m 0 r q.0 here q.1 (is ∙ sym top.0) in
      stands_from t m r [] (box_lines t) here refl (subst (λ (n : ℕ). Pending rows (Some n) (box_lines t)) (sym zero) (root_pending t shows))
  stands_in t shows (k ∷ path) m r here is =
      let (n, p, f, first, count, there, at, split, lt, number) = child_of_parent m r k path here is in
      let z = stands_in t shows path n p there at in
      let (tail, run, after) = z.remains in
      let ends : children_of (end_of p.standing) ≡ count = ap (λ (s : Standing). children_of (end_of s)) split in
      let s = skip p.path k (children_of (end_of p.standing)) z.rest tail (omega arith) run in
      let pending = child_pending m r p.path k (work_of p) s.1 tail here (is ∙ ap (λ (l : List ℕ). k ∷ l) (sym at)) (work_at rows map n p there) (omega arith) s.3 after in
      stands_from t m r (z.front ++ s.0) s.1 here (passed (box_lines t) z.front z.rest s.0 s.1 z.text s.2) pending

  -- where a box has children, the first is next
  pub goes_down : (n : ℕ) (r : Row) (f : Branch) (first count : ℕ) → slice_get rows n ≡ Some r → r.standing ≡ Splits f first count → 0 < count → (rest : List Line) → Remains rows r rest → Pending rows (Some first) rest
  goes_down n r f first count here split some rest (tail, run, after) =
      let z = (map.below n r f first count here split).1 0 some in
      let e : first + 0 ≡ first = omega arith in
      let ends : children_of (end_of r.standing) ≡ count = ap (λ (s : Standing). children_of (end_of s)) split in
      let same : children_of (end_of r.standing) - 0 ≡ children_of (end_of r.standing) = omega arith in
      child_pending first z.0 r.path 0 (work_of r) rest tail (subst (λ (i : ℕ). slice_get rows i ≡ Some z.0) e z.1) z.2 (work_at rows map n r here) (omega arith)
      (subst (λ (i : ℕ). HasChildren (works rows) r.path 0 i rest tail) (sym same) run) after

  -- where it has none, what comes after it is next
  pub goes_on : (r : Row) → children_of (end_of r.standing) ≡ 0 → (rest : List Line) → Remains rows r rest → After (works rows) r.path rest
  goes_on r none rest (tail, run, after) = subst (λ (l : List Line). After (works rows) r.path l) (sym (run_done (works rows) r.path 0 (children_of (end_of r.standing)) rest tail none run)) after

  -- after a child that is the last, what comes after its parent
  pub goes_up : (path : List ℕ) (k : ℕ) (n : ℕ) (p : Row) → slice_get rows n ≡ Some p → p.path ≡ path → children_of (end_of p.standing) ≤ suc k → (rest : List Line) → After (works rows) (k ∷ path) rest → After (works rows) path rest
  goes_up path k n p there at last rest (tail, run, after) =
      let found : works rows path ≡ Some (work_of p) = subst (λ (l : List ℕ). works rows l ≡ Some (work_of p)) at (work_at rows map n p there) in
      let here = subst (λ (o : Option Work). Holds o (λ x. HasChildren (works rows) path (suc k) (children_of x.end - suc k) rest tail)) found run in
      subst (λ (l : List Line). After (works rows) path l) (sym (run_done (works rows) path (suc k) (children_of (end_of p.standing) - suc k) rest tail (omega arith) here)) after

  -- after another child, the next one
  pub goes_aside : (m : ℕ) (q : Row) (k : ℕ) (path : List ℕ) → slice_get rows m ≡ Some q → q.path ≡ k ∷ path → (n : ℕ) (p : Row) → slice_get rows n ≡ Some p → p.path ≡ path → suc k < children_of (end_of p.standing)
      → (s : Row) × (slice_get rows (m + 1) ≡ Some s) × (s.path ≡ suc k ∷ path) × ((rest : List Line) → After (works rows) (k ∷ path) rest → Pending rows (Some (m + 1)) rest)
  goes_aside m q k path here is n p there at more =
      let (n2, p2, f, first, count, there2, at2, split, lt, number) = child_of_parent m q k path here is in
      let one : n ≡ n2 = map.distinct n n2 p p2 there there2 (at ∙ sym at2) in
      let same : p2 ≡ p = cc in
      let ends : children_of (end_of p.standing) ≡ count = ap (λ (x : Row). children_of (end_of x.standing)) (sym same) ∙ ap (λ (s : Standing). children_of (end_of s)) split in
      let z = (map.below n2 p2 f first count there2 split).1 (suc k) (omega arith) in
      let e : first + suc k ≡ m + 1 = omega arith in
      let sibling : slice_get rows (m + 1) ≡ Some z.0 = subst (λ (i : ℕ). slice_get rows i ≡ Some z.0) e z.1 in
      let named = subst (λ (l : List ℕ). z.0.path ≡ suc k ∷ l) at2 z.2 in
      let found : works rows path ≡ Some (work_of p) = subst (λ (l : List ℕ). works rows l ≡ Some (work_of p)) at (work_at rows map n p there) in (
        z.0,
        sibling,
        named,
        λ rest (tail, run, after).
            child_pending (m + 1) z.0 path (suc k) (work_of p) rest tail sibling named found more
            (subst (λ (o : Option Work). Holds o (λ x. HasChildren (works rows) path (suc k) (children_of x.end - suc k) rest tail)) found run) after,
      )

  -- the number of a box's line, from the counts of all lines and of those after it
  pub line_number : (n : ℕ) (r : Row) → slice_get rows n ≡ Some r → (all below : ℕ) → ((ls : List Line) → Pending rows (Some 0) ls → all ≡ length ls) → ((rest : List Line) → Remains rows r rest → below ≡ length rest)
      → (below ≤ all) × ((t : Tree) → Shows (works rows) [] t → IsLineOf rows n (all - below + 1) t)
  line_number n r here all below counted after =
      let tree = (show_one_tree rows map).0 in
      let s = stands_in tree.0 tree.1 r.path n r here refl in
      let a = counted (box_lines tree.0) (root_pending tree.0 tree.1) in
      let b = after s.rest s.remains in
      let c = ap length s.text in
      let d = length-append s.front s.rest in (
        omega arith,
        λ t shows.
            let s2 = stands_in t shows r.path n r here refl in
            let a2 = counted (box_lines t) (root_pending t shows) in
            let b2 = after s2.rest s2.remains in
            let c2 = ap length s2.text in
            let d2 = length-append s2.front s2.rest in
            record { row = r; here = here; front = s2.front; rest = s2.rest; text = s2.text; remains = s2.remains; number = (let e : all - below + 1 ≡ suc (length s2.front) = omega arith in e) },
      )
