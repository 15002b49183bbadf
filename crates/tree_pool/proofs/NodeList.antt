-- The rows of a list of paths and a list of nodes.
use Rattle.std.proofs.Common.{◌≡◌, ℕ, zero, suc, ◌<◌, List, [], ◌∷◌, ◌++◌, length, get_or, Some, refl, sym, ap, subst, ◌∙◌, arith, length-append}
use Rattle.std.specs.Prelude.{slice_get, slice_set}
use Rattle.std.proofs.lemmas.List.{length-map}
use Rattle.std.proofs.Math.ListN.{get_or-append}
use Rattle.tree_cert.specs.declared.line.Head.{Head}
use Rattle.tree_pool.specs.declared.node.Node.{Node}
use Rattle.tree_pool.specs.Rows.{Row, Waiting, update, child_rows, after}
use Rattle.tree_pool.specs.Nodes.{row_of, rows_of}
use Rattle.tree_pool.specs.Lineages.{children_from}
use Rattle.tree_pool.specs.Calls.{fresh_node, fresh_nodes}

pub length-rows : (ps : List (List ℕ)) (ns : List Node) → length ps ≡ length ns → length (rows_of ps ns) ≡ length ns
length-rows [] [] e = refl
length-rows [] (n ∷ ns) e = absurd (omega arith)
length-rows (p ∷ ps) [] e = refl
length-rows (p ∷ ps) (n ∷ ns) e = ap suc (length-rows ps ns (omega arith))

-- the row of a node
pub row_here : (ps : List (List ℕ)) (ns : List Node) (n : ℕ) (x : Node) → length ps ≡ length ns → n < length ns → x ≡ get_or ns n x → slice_get (rows_of ps ns) n ≡ Some (row_of (get_or ps n []) x)
row_here ps [] n x e lt is = absurd (omega arith)
row_here [] (m ∷ ns) n x e lt is = absurd (omega arith)
row_here (p ∷ ps) (m ∷ ns) zero x e lt is = ap (λ k. Some (row_of p k)) (sym is)
row_here (p ∷ ps) (m ∷ ns) (suc n) x e lt is = row_here ps ns n x (omega arith) (omega arith) is

-- the node of a row
pub row_back : (ps : List (List ℕ)) (ns : List Node) (n : ℕ) (r : Row) → slice_get (rows_of ps ns) n ≡ Some r → (x : Node) × (slice_get ns n ≡ Some x) × (r ≡ row_of (get_or ps n []) x)
row_back [] ns n r h = absurd cc
row_back (p ∷ ps) [] n r h = absurd cc
row_back (p ∷ ps) (z ∷ ns) zero r h = (z, refl, (let e : row_of p z ≡ r = cc in sym e))
row_back (p ∷ ps) (z ∷ ns) (suc n) r h = row_back ps ns n r h

-- a node changes
pub rows_set : (ps : List (List ℕ)) (ns : List Node) (n : ℕ) (x y : Node) (f : Row → Row) → length ps ≡ length ns → n < length ns → x ≡ get_or ns n x
    → row_of (get_or ps n []) y ≡ f (row_of (get_or ps n []) x) → rows_of ps (slice_set ns n y) ≡ update (rows_of ps ns) n f
rows_set ps [] n x y f e lt is h = absurd (omega arith)
rows_set [] (z ∷ ns) n x y f e lt is h = absurd (omega arith)
rows_set (p ∷ ps) (z ∷ ns) zero x y f e lt is h = ap (λ (r : Row). r ∷ rows_of ps ns) (h ∙ ap (λ k. f (row_of p k)) is)
rows_set (p ∷ ps) (z ∷ ns) (suc n) x y f e lt is h = ap (λ (rs : List Row). row_of p z ∷ rs) (rows_set ps ns n x y f (omega arith) (omega arith) is h)

pub rows-append : (ps qs : List (List ℕ)) (ns ms : List Node) → length ps ≡ length ns → rows_of (ps ++ qs) (ns ++ ms) ≡ rows_of ps ns ++ rows_of qs ms
rows-append [] qs [] ms e = refl
rows-append [] qs (n ∷ ns) ms e = absurd (omega arith)
rows-append (p ∷ ps) qs [] ms e = absurd (omega arith)
rows-append (p ∷ ps) qs (n ∷ ns) ms e = ap (λ (rs : List Row). row_of p n ∷ rs) (rows-append ps qs ns ms (omega arith))

pub fresh_rows : (path : List ℕ) (k : ℕ) (heads : List Head) → rows_of (children_from path k (length heads)) (fresh_nodes heads) ≡ child_rows path k heads
fresh_rows path k [] = refl
fresh_rows path k (h ∷ heads) = ap (λ (rs : List Row). (record { path = k ∷ path; head = Some h; steps = []; standing = Waiting }) ∷ rs) (fresh_rows path (suc k) heads)

pub length-children : (path : List ℕ) (k c : ℕ) → length (children_from path k c) ≡ c
length-children path k zero = refl
length-children path k (suc c) = ap suc (length-children path (suc k) c)

update-append : {A : Type 0} (xs ys : List A) (n : ℕ) (f : A → A) → n < length xs → update (xs ++ ys) n f ≡ update xs n f ++ ys
update-append [] ys n f lt = absurd (omega arith)
update-append (x ∷ xs) ys zero f lt = refl
update-append (x ∷ xs) ys (suc n) f lt = ap (λ zs. x ∷ zs) (update-append xs ys n f (omega arith))

-- a node changes, and those of its children stand at the end
pub rows_split : (ps : List (List ℕ)) (ns : List Node) (n : ℕ) (x y : Node) (f : Row → Row) (heads : List Head) → length ps ≡ length ns → n < length ns → x ≡ get_or ns n x
    → row_of (get_or ps n []) y ≡ f (row_of (get_or ps n []) x)
    → rows_of (ps ++ children_from (get_or ps n []) 0 (length heads)) (slice_set (ns ++ fresh_nodes heads) n y) ≡ after (rows_of ps ns) n (get_or ps n []) f heads
rows_split ps ns n x y f heads sized lt is h =
    let path = get_or ps n [] in
    let kids = children_from path 0 (length heads) in
    let fresh = fresh_nodes heads in
    let lp = length-append ps kids in
    let ln = length-append ns fresh in
    let lk = length-children path 0 (length heads) in
    let lf = length-map heads fresh_node in
    let lr = length-rows ps ns sized in
    let same : get_or (ps ++ kids) n [] ≡ path = get_or-append ps kids [] n (omega arith) in
    rows_set (ps ++ kids) (ns ++ fresh) n x y f (omega arith) (omega arith) (is ∙ sym (get_or-append ns fresh x n lt))
    (subst (λ (p : List ℕ). row_of p y ≡ f (row_of p x)) (sym same) h)
    ∙ ap (λ (rs : List Row). update rs n f) (rows-append ps kids ns fresh sized)
    ∙ update-append (rows_of ps ns) (rows_of kids fresh) n f (omega arith)
    ∙ ap (λ (rs : List Row). update (rows_of ps ns) n f ++ rs) (fresh_rows path 0 heads)
