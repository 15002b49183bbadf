-- The sums of ends over the arcs of a node are the same where these ends are.
use Rattle.std.proofs.Common.{◌≡◌, ℕ, ◌+◌, refl, ap, arith, ℤ, pos, Bool, true, false, cond, ◌==◌, IsTrue, List, [], ◌∷◌, map}
use Rattle.integer_laws.proofs.Ring.{linear}
use Rattle.gas_model.specs.declared.rows.ArcRow.{ArcRow}
use Rattle.base_types.specs.declared.variables.Var.TheVariants.{Flow}
use Rattle.gas_model.specs.Rows.{Network}
use Rattle.gas_model.specs.Points.{sum_arcs, leaving, entering, other, sum_out, sum_in, sum_other_out, sum_other_in}
use Rattle.gas_model.specs.Boxes.{Bounds}
use Rattle.tree_rules.specs.Rules.{PartBox}
use Rattle.core_rules.specs.Reads.{Item, End, leaves, enters, but, flows_where}
use Rattle.core_rules.specs.Cores.{blank_arc, end_at, ReadsSame, Each}

-- this end of each flow
abbrev pub flow_end : Bounds → (low : Bool) → ℕ → ℤ
flow_end b low i = end_at b (Flow i) low

-- a term that a test chooses, and the same term of another problem and box
record Terms (test : ℕ → ArcRow → Bool) (x y : ℕ → ℤ) (f g : ℕ → ArcRow → ℤ) : Type 0 where
  same : (i : ℕ) (row row2 : ArcRow) → blank_arc row ≡ blank_arc row2 → (IsTrue (test i row) → x i ≡ y i) → f i row ≡ g i row2

chosen_same : (t s : Bool) (x y : ℤ) → t ≡ s → (IsTrue t → x ≡ y) → cond t x (pos 0) ≡ cond s y (pos 0)
chosen_same true true x y e h = h refl
chosen_same false false x y e h = refl
chosen_same true false x y e h = absurd cc
chosen_same false true x y e h = absurd cc

other_same : (r t s : Bool) (x y : ℤ) → t ≡ s → (IsTrue (cond r false t) → x ≡ y) → cond r (pos 0) (cond t x (pos 0)) ≡ cond r (pos 0) (cond s y (pos 0))
other_same true t s x y e h = refl
other_same false t s x y e h = chosen_same t s x y e h

leaving_terms : (n : ℕ) (x y : ℕ → ℤ) → Terms (leaves n) x y (leaving x n) (leaving y n)
leaving_terms n x y = record { same = λ i row row2 b h. chosen_same (row.from == n) (row2.from == n) (x i) (y i) (ap (λ (r : ArcRow). r.from == n) b) h }

entering_terms : (n : ℕ) (x y : ℕ → ℤ) → Terms (enters n) x y (entering x n) (entering y n)
entering_terms n x y = record { same = λ i row row2 b h. chosen_same (row.to == n) (row2.to == n) (x i) (y i) (ap (λ (r : ArcRow). r.to == n) b) h }

other_leaving_terms : (a n : ℕ) (x y : ℕ → ℤ) → Terms (but a (leaves n)) x y (other a (leaving x n)) (other a (leaving y n))
other_leaving_terms a n x y = record { same = λ i row row2 b h. other_same (i == a) (row.from == n) (row2.from == n) (x i) (y i) (ap (λ (r : ArcRow). r.from == n) b) h }

other_entering_terms : (a n : ℕ) (x y : ℕ → ℤ) → Terms (but a (enters n)) x y (other a (entering x n)) (other a (entering y n))
other_entering_terms a n x y = record { same = λ i row row2 b h. other_same (i == a) (row.to == n) (row2.to == n) (x i) (y i) (ap (λ (r : ArcRow). r.to == n) b) h }

one_read : (P : Item → Type 0) (t : Bool) (i : Item) (rest : List Item) → Each P (cond t (i ∷ rest) rest) → (IsTrue t → P i) × Each P rest
one_read P true i rest h = (λ t. h.0, h.1)
one_read P false i rest h = (λ t. absurd cc, h)

module _ (p p2 : Network) (b b2 : PartBox) where
  sum_reads : (test : ℕ → ArcRow → Bool) (low : Bool) (f g : ℕ → ArcRow → ℤ) (i : ℕ) (rows rows2 : List ArcRow) → Terms test (flow_end b.bounds low) (flow_end b2.bounds low) f g → map blank_arc rows ≡ map blank_arc rows2
      → Each (ReadsSame p p2 b b2) (flows_where test low i rows) → sum_arcs f i rows ≡ sum_arcs g i rows2
  sum_reads test low f g i [] [] s m h = refl
  sum_reads test low f g i [] (row2 ∷ rows2) s m h = absurd cc
  sum_reads test low f g i (row ∷ rows) [] s m h = absurd cc
  sum_reads test low f g i (row ∷ rows) (row2 ∷ rows2) s m h =
      let first : blank_arc row ≡ blank_arc row2 = cc in
      let later : map blank_arc rows ≡ map blank_arc rows2 = cc in
      let one = one_read (ReadsSame p p2 b b2) (test i row) (End (Flow i) low) (flows_where test low (i + 1) rows) h in
      let here = s.same i row row2 first one.0 in
      let rest = sum_reads test low f g (i + 1) rows rows2 s later one.1 in
      omega (arith, linear, here, rest)

  pub out_same : (n : ℕ) (low : Bool) (rows rows2 : List ArcRow) → map blank_arc rows ≡ map blank_arc rows2 → Each (ReadsSame p p2 b b2) (flows_where (leaves n) low 0 rows) → sum_out (flow_end b.bounds low) n rows ≡ sum_out (flow_end b2.bounds low) n rows2
  out_same n low rows rows2 m h = sum_reads (leaves n) low _ _ 0 rows rows2 (leaving_terms n (flow_end b.bounds low) (flow_end b2.bounds low)) m h

  pub in_same : (n : ℕ) (low : Bool) (rows rows2 : List ArcRow) → map blank_arc rows ≡ map blank_arc rows2 → Each (ReadsSame p p2 b b2) (flows_where (enters n) low 0 rows) → sum_in (flow_end b.bounds low) n rows ≡ sum_in (flow_end b2.bounds low) n rows2
  in_same n low rows rows2 m h = sum_reads (enters n) low _ _ 0 rows rows2 (entering_terms n (flow_end b.bounds low) (flow_end b2.bounds low)) m h

  pub other_out_same : (a n : ℕ) (low : Bool) (rows rows2 : List ArcRow) → map blank_arc rows ≡ map blank_arc rows2 → Each (ReadsSame p p2 b b2) (flows_where (but a (leaves n)) low 0 rows) → sum_other_out a (flow_end b.bounds low) n rows ≡ sum_other_out a (flow_end b2.bounds low) n rows2
  other_out_same a n low rows rows2 m h = sum_reads (but a (leaves n)) low _ _ 0 rows rows2 (other_leaving_terms a n (flow_end b.bounds low) (flow_end b2.bounds low)) m h

  pub other_in_same : (a n : ℕ) (low : Bool) (rows rows2 : List ArcRow) → map blank_arc rows ≡ map blank_arc rows2 → Each (ReadsSame p p2 b b2) (flows_where (but a (enters n)) low 0 rows) → sum_other_in a (flow_end b.bounds low) n rows ≡ sum_other_in a (flow_end b2.bounds low) n rows2
  other_in_same a n low rows rows2 m h = sum_reads (but a (enters n)) low _ _ 0 rows rows2 (other_entering_terms a n (flow_end b.bounds low) (flow_end b2.bounds low)) m h
