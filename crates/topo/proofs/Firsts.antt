-- Items, each only where it first stands.
use Rattle.std.proofs.Common.{◌≡◌, ℕ, ◌<◌, ◌==◌, ◌||◌, refl, inl, inr, sym, ap, ◌∙◌, arith, Bool, true, false, not, subst, List, [], ◌∷◌, ◌++◌, length, get_or, set, cond, get_or-set_same, get_or-set_other, length-set, filter}
use Rattle.std.specs.List.{list_any}
use Rattle.std.proofs.lemmas.Bool.{cases_eq}
use Rattle.std.proofs.lemmas.Bool.Decides.{nat_tests}
use Rattle.std.proofs.lemmas.List.{append-nil}
use Rattle.std.proofs.lemmas.List.Elements.{filter-append}
use Rattle.std.proofs.lemmas.List.Folds.{list_any-append}
use Rattle.topo.specs.Split.{firsts, HasFirsts}

-- one more item is listed unless it stands there
firsts-push : (xs : List ℕ) (y : ℕ) → firsts (xs ++ y ∷ []) ≡ firsts xs ++ cond (list_any (λ m. m == y) xs) [] (y ∷ [])
firsts-push [] y = refl
firsts-push (x ∷ xs) y =
    let pass : ℕ → Bool = λ z. not (z == x) in
    let rest : Bool → List ℕ = λ b. cond b [] (y ∷ []) in
    let last : (a b : Bool) → (x == y) ≡ a → list_any (λ m. m == y) xs ≡ b → filter pass (rest b) ≡ rest (a || b) = λ a b. elim a as (λ a. (x == y) ≡ a → list_any (λ m. m == y) xs ≡ b → filter pass (rest b) ≡ rest (a || b)) [
      | true ↦ λ e f. elim b as (λ b. filter pass (rest b) ≡ []) [ true ↦ refl | false ↦ let t : (y == x) ≡ true = grind (arith, nat_tests) in rw t refl ]
      | false ↦ λ e f. elim b as (λ b. filter pass (rest b) ≡ rest b) [ true ↦ refl | false ↦ let t : (y == x) ≡ false = grind (arith, nat_tests) in rw t refl ]
    ] in
    ap (λ (zs : List ℕ). x ∷ filter pass zs) (firsts-push xs y) ∙ ap (λ (zs : List ℕ). x ∷ zs) (filter-append pass (firsts xs) (rest (list_any (λ m. m == y) xs)) ∙ ap (λ (zs : List ℕ). filter pass (firsts xs) ++ zs) (last (x == y) (list_any (λ m. m == y) xs) refl refl))

any_push : (xs : List ℕ) (y n : ℕ) → list_any (λ m. m == n) (xs ++ y ∷ []) ≡ (list_any (λ m. m == n) xs || (y == n))
any_push xs y n = list_any-append (λ m. m == n) xs (y ∷ []) ∙ ap (λ (b : Bool). list_any (λ m. m == n) xs || b) (elim (y == n) as (λ b. (b || false) ≡ b) [ true ↦ refl | false ↦ refl ])

pub firsts_none : (size : ℕ) (has : List Bool) → length has ≡ size → ((n : ℕ) → n < size → get_or has n false ≡ false) → HasFirsts size [] [] has
firsts_none size has e f = record { is = refl; count = e; each = f }

-- the node is there
pub firsts_known : (size node : ℕ) (nodes listed : List ℕ) (has : List Bool) → node < size → get_or has node false ≡ true → HasFirsts size nodes listed has → HasFirsts size (nodes ++ node ∷ []) listed has
firsts_known size node nodes listed has h t s =
    let known : list_any (λ m. m == node) nodes ≡ true = sym (s.each node h) ∙ t in
    record {
      is = s.is ∙ sym (append-nil (firsts nodes)) ∙ sym (firsts-push nodes node ∙ ap (λ (b : Bool). firsts nodes ++ cond b [] (node ∷ [])) known);
      count = s.count;
      each = λ n hn. s.each n hn ∙ sym (any_push nodes node n ∙ elim (cases_eq node n) [
        | inl e ↦ let k : list_any (λ m. m == n) nodes ≡ true = subst (λ (i : ℕ). list_any (λ m. m == i) nodes ≡ true) e known in rw k refl
        | inr e ↦ let off : (node == n) ≡ false = grind (arith, nat_tests) in rw off (elim (list_any (λ m. m == n) nodes) as (λ b. (b || false) ≡ b) [ true ↦ refl | false ↦ refl ])
      ]);
    }

-- the node is new
pub firsts_new : (size node : ℕ) (nodes listed : List ℕ) (has : List Bool) → node < size → get_or has node false ≡ false → HasFirsts size nodes listed has → HasFirsts size (nodes ++ node ∷ []) (listed ++ node ∷ []) (set has node true)
firsts_new size node nodes listed has h t s =
    let new : list_any (λ m. m == node) nodes ≡ false = sym (s.each node h) ∙ t in
    let c = s.count in
    record {
      is = ap (λ (xs : List ℕ). xs ++ node ∷ []) s.is ∙ sym (firsts-push nodes node ∙ ap (λ (b : Bool). firsts nodes ++ cond b [] (node ∷ [])) new);
      count = length-set has node true ∙ s.count;
      each = λ n hn. elim (cases_eq n node) [
        | inl e ↦ ap (λ (i : ℕ). get_or (set has node true) i false) e ∙ get_or-set_same has node true false (omega arith) ∙ sym (any_push nodes node n ∙ (let same : (node == n) ≡ true = grind (arith, nat_tests) in rw same (elim (list_any (λ m. m == n) nodes) as (λ b. (b || true) ≡ true) [ true ↦ refl | false ↦ refl ])))
        | inr e ↦ get_or-set_other has node n true false e ∙ s.each n hn ∙ sym (any_push nodes node n ∙ (let off : (node == n) ≡ false = grind (arith, nat_tests) in rw off (elim (list_any (λ m. m == n) nodes) as (λ b. (b || false) ≡ b) [ true ↦ refl | false ↦ refl ])))
      ];
    }
