-- The balance of a node gives in a tighter box what it gives in a looser one.
use Rattle.std.proofs.Common.{ℕ, ◌+◌, arith, ℤ, pos, ◌≤ℤ◌, Bool, true, false, cond, ◌==◌, IsTrue, List, [], ◌∷◌}
use Rattle.integer_laws.proofs.Ring.{linear}
use Rattle.gas_model.specs.declared.rows.ArcRow.{ArcRow}
use Rattle.gas_model.specs.declared.rows.NodeRow.{NodeRow}
use Rattle.gas_model.specs.Points.{sum_arcs, leaving, entering, other, sum_out, sum_in, sum_other_out, sum_other_in}
use Rattle.tree_rules.specs.NodeRules.{leaving_step, entering_step, takes_too_much, takes_too_little, balance_closing}
use Rattle.trim_rules.proofs.ArcTighter.{one_of}

-- x is at most y at each number
pub record AtMost (x y : ℕ → ℤ) : Type 0 where
  pub at : (i : ℕ) → x i ≤ℤ y i

sum_le : (f g : ℕ → ArcRow → ℤ) (i : ℕ) (rows : List ArcRow) → ((j : ℕ) (row : ArcRow) → f j row ≤ℤ g j row) → sum_arcs f i rows ≤ℤ sum_arcs g i rows
sum_le f g i [] h = omega (arith, linear)
sum_le f g i (row ∷ rows) h = omega (arith, linear, h i row, sum_le f g (i + 1) rows h)

-- a term that is chosen by a test
chosen : (t : Bool) (x y : ℤ) → x ≤ℤ y → cond t x (pos 0) ≤ℤ cond t y (pos 0)
chosen true x y h = h
chosen false x y h = omega (arith, linear)

unchosen : (t : Bool) (x y : ℤ) → x ≤ℤ y → cond t (pos 0) x ≤ℤ cond t (pos 0) y
unchosen true x y h = omega (arith, linear)
unchosen false x y h = h

out_le : (x y : ℕ → ℤ) (n : ℕ) (arcs : List ArcRow) → AtMost x y → sum_out x n arcs ≤ℤ sum_out y n arcs
out_le x y n arcs h = sum_le (leaving x n) (leaving y n) 0 arcs (λ j row. chosen (row.from == n) (x j) (y j) (h.at j))

in_le : (x y : ℕ → ℤ) (n : ℕ) (arcs : List ArcRow) → AtMost x y → sum_in x n arcs ≤ℤ sum_in y n arcs
in_le x y n arcs h = sum_le (entering x n) (entering y n) 0 arcs (λ j row. chosen (row.to == n) (x j) (y j) (h.at j))

other_out_le : (a : ℕ) (x y : ℕ → ℤ) (n : ℕ) (arcs : List ArcRow) → AtMost x y → sum_other_out a x n arcs ≤ℤ sum_other_out a y n arcs
other_out_le a x y n arcs h = sum_le (other a (leaving x n)) (other a (leaving y n)) 0 arcs (λ j row. unchosen (j == a) (leaving x n j row) (leaving y n j row) (chosen (row.from == n) (x j) (y j) (h.at j)))

other_in_le : (a : ℕ) (x y : ℕ → ℤ) (n : ℕ) (arcs : List ArcRow) → AtMost x y → sum_other_in a x n arcs ≤ℤ sum_other_in a y n arcs
other_in_le a x y n arcs h = sum_le (other a (entering x n)) (other a (entering y n)) 0 arcs (λ j row. unchosen (j == a) (entering x n j row) (entering y n j row) (chosen (row.to == n) (x j) (y j) (h.at j)))

-- Of the arc i the ends are ql i and qh i in the looser box, and rl i and rh i in the tighter one.
module _ (node : NodeRow) (K : ℤ) (ql qh rl rh : ℕ → ℤ) (n : ℕ) (arcs : List ArcRow) (lows : AtMost ql rl) (highs : AtMost rh qh) where
  pub leaving_tighter : (a : ℕ) (low : Bool) (C : ℤ) → IsTrue (leaving_step node K ql qh n arcs a low C) → IsTrue (leaving_step node K rl rh n arcs a low C)
  leaving_tighter a true C t = omega (arith, linear, other_out_le a rh qh n arcs highs, in_le ql rl n arcs lows)
  leaving_tighter a false C t = omega (arith, linear, other_out_le a ql rl n arcs lows, in_le rh qh n arcs highs)

  pub entering_tighter : (a : ℕ) (low : Bool) (C : ℤ) → IsTrue (entering_step node K ql qh n arcs a low C) → IsTrue (entering_step node K rl rh n arcs a low C)
  entering_tighter a true C t = omega (arith, linear, out_le ql rl n arcs lows, other_in_le a rh qh n arcs highs)
  entering_tighter a false C t = omega (arith, linear, out_le rh qh n arcs highs, other_in_le a ql rl n arcs lows)

  pub balance_tighter : IsTrue (balance_closing node K ql qh n arcs) → IsTrue (balance_closing node K rl rh n arcs)
  balance_tighter t =
      one_of (takes_too_much node K ql qh n arcs) (takes_too_little node K ql qh n arcs) (takes_too_much node K rl rh n arcs) (takes_too_little node K rl rh n arcs)
      (λ s. omega (arith, linear, out_le ql rl n arcs lows, in_le rh qh n arcs highs)) (λ s. omega (arith, linear, out_le rh qh n arcs highs, in_le ql rl n arcs lows)) t
